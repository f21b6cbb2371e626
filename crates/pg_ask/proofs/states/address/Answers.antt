use Rattle.std.proofs.Common.{arith}
use Rattle.pg_ask.proofs.NumberSteps.{number_fits}
use Rattle.pg_ask.proofs.states.address.Goals as goal

pub overflow_cast-result : goal.overflow_cast-result
overflow_cast-result c =
    let fits = number_fits c.args.assignment.now c.args.bits.now c.number.result c.number.ensures c.requires in
    omega (arith, fits)
