use Rattle.std.proofs.Common.{subst, sym}
use Rattle.pg_cnf.specs.Literals.{AreLiterals}
use Rattle.pg_watch.proofs.Steps.{AreClauses-at}
use Rattle.pg_watch.proofs.attach.attach.Goals as goal

pub choose-requires : goal.choose-requires
choose-requires c =
    subst (AreLiterals c.args.trail.now.variables) (sym c.clause.ensures)
    (AreClauses-at c.args.trail.now.variables c.args.clauses.now c.args.place c.requires.index.right c.requires.place).within
