use Rattle.std.proofs.Common.{arith}
use Rattle.pg_cnf.proofs.LiteralLemmas.{IsClause-more}
use Rattle.pg_prog_proofs.proofs.solve.formula.Draft.hold.Goals as goal

pub new-requires : goal.new-requires
new-requires c =
    IsClause-more c.args.self.now.cnf.variables 2147483647 c.args.literals.items (omega (arith, c.args.self.now.cnf.few_variables)) c.requires
