use Rattle.std.proofs.Common.{◌≡◌, ◌+◌, ◌≤◌, drop}
use Rattle.pg_out_place.specs.Places.{chars_behind}
use Rattle.pg_out_place.proofs.chars.chars.Given as goal

abbrev pub invariant-loop-at : goal.invariant-loop-at
invariant-loop-at l = record {
  few : l.count ≤ l.at;
  so_far : l.count + chars_behind l.due (drop l.at l.text) ≡ chars_behind 0 l.text;
}
