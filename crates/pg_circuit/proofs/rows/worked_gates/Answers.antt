use Rattle.std.proofs.Common.{refl}
use Rattle.pg_circuit.specs.Made.{and_made, xor_made, input_made}
use Rattle.pg_circuit.proofs.rows.worked_gates.Goals as goal

pub returns : goal.returns
unfolding and_made xor_made input_made
returns c = record {
  added = refl;
  found = refl;
  other_order = refl;
  and_with_its_negation = refl;
  xor_with_its_negation = refl;
  xor_with_true = refl;
  third_input = refl;
  values = refl;
}
