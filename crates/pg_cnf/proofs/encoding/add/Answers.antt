use Rattle.std.proofs.Common.{arith}
use Rattle.pg_cnf.specs.Encoded.{clause_of}
use Rattle.pg_cnf.proofs.LiteralLemmas.{IsClause-apart, IsClause-more}
use Rattle.pg_cnf.proofs.encoding.add.Goals as goal

pub new-requires : goal.new-requires
new-requires c =
    let m = c.args.cnf.now.variables in
    rw c.in_ok-literals.ensures
    (IsClause-more m 2147483647 (clause_of c.args.gates.now) (omega (arith, c.args.cnf.now.few_variables)) (IsClause-apart m c.args.gates.now c.requires.apart))

pub push-requires-clause-clause : goal.push-requires-clause-clause
push-requires-clause-clause c =
    rw c.new.ensures (rw c.in_ok-literals.ensures (IsClause-apart c.args.cnf.now.variables c.args.gates.now c.requires.apart))
