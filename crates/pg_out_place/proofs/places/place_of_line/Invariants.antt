use Rattle.std.proofs.Common.{◌≡◌, ◌+◌, ◌≤◌, drop}
use Rattle.pg_out_place.specs.Places.{feeds}
use Rattle.pg_out_place.proofs.places.place_of_line.Given as goal

abbrev pub invariant-loop-at : goal.invariant-loop-at
invariant-loop-at l = record {
  more : 1 ≤ l.left;
  so_far : l.left + feeds l.text + 1 ≡ l.line + feeds (drop l.at l.text);
}
