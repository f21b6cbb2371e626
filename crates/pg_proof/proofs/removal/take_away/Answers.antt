use Rattle.std.proofs.Common.{arith}
use Rattle.pg_proof.proofs.RemovalLemmas.{AreTaken-bounds}
use Rattle.pg_proof.proofs.removal.take_away.Goals as goal

pub take-requires-clause-least : goal.take-requires-clause-least
take-requires-clause-least c =
    let bounds = AreTaken-bounds c.args.clauses.now c.loop-number.clauses c.args.numbers.now c.loop-number.number-index c.loop-number-test.true c.loop-number.invariant in
    bounds.0

pub take-requires-clause-most : goal.take-requires-clause-most
take-requires-clause-most c =
    let bounds = AreTaken-bounds c.args.clauses.now c.loop-number.clauses c.args.numbers.now c.loop-number.number-index c.loop-number-test.true c.loop-number.invariant in
    omega (arith, bounds.0, bounds.1)
