use Rattle.std.proofs.Common.{refl}
use Rattle.pg_circuit.specs.Made.{and_made, xor_made}
use Rattle.pg_vec.specs.Gates.{or_made, choice_made}
use Rattle.pg_vec.specs.Strings.{each_made, mux_made, same_made}
use Rattle.pg_cells.specs.Made.{inputs_made, initial_made, hit_made, over_made, laid_made, touch_made, cells_after, alike_made, pair_made, row_made, pairs_made, consistent_made}
use Rattle.pg_cells.proofs.rows.worked_touches.Goals as goal

pub returns : goal.returns
unfolding and_made xor_made or_made choice_made each_made mux_made same_made inputs_made initial_made hit_made over_made laid_made touch_made cells_after alike_made pair_made row_made pairs_made consistent_made
returns c = record {
  first_touch = refl;
  first_cell = refl;
  touched_again = refl;
  other_gates = refl;
  other_cell = refl;
  after_write = refl;
  not_done = refl;
  write_over_write = refl;
  write_elsewhere = refl;
  two_agree = refl;
  apart_by_constants = refl;
  written_in_order = refl;
}
