use Rattle.std.proofs.Common.{refl}
use Rattle.pg_circuit.specs.Made.{and_made, xor_made}
use Rattle.pg_vec.specs.Gates.{or_made, carry_made}
use Rattle.pg_vec.specs.Strings.{add_made, sum_made, carry_into_made}
use Rattle.pg_vec.proofs.laws.worked_sums.Goals as goal

pub returns-clause-sum : goal.returns-clause-sum
unfolding add_made sum_made carry_into_made carry_made or_made and_made xor_made
returns-clause-sum c = refl
