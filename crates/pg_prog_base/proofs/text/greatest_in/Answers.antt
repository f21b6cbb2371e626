use Rattle.std.proofs.Common.{rules, get_or, pos, w32, FitsSigned}
use Rattle.std.proofs.lemmas.Int.{to_z-of_z}
use Rattle.pg_prog_base.specs.Dimacs.{greatest_in}
use Rattle.pg_prog_base.proofs.Texts.{greatest_in_next}
use Rattle.pg_prog_base.proofs.text.greatest_in.Goals as goal

pub loop-literal-preserved : goal.loop-literal-preserved
loop-literal-preserved c =
    let fits : FitsSigned w32 (get_or c.args.literals.now c.loop-literal.literal-index (pos 0)) = search rules in
    rw (c.max-most.ensures, c.unsigned_abs.ensures.value)
    (greatest_in_next c.loop-literal.most (greatest_in c.args.literals.now) c.args.literals.now c.loop-literal.literal-index _ c.loop-literal-test.true (to_z-of_z w32 _ fits) c.loop-literal.invariant)
