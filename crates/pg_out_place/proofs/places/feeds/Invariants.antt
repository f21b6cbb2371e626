use Rattle.std.proofs.Common.{◌≡◌, ◌+◌, ◌≤◌, drop}
use Rattle.pg_out_place.specs.Places.{feeds}
use Rattle.pg_out_place.proofs.places.feeds.Given as goal

abbrev pub invariant-loop-byte : goal.invariant-loop-byte
invariant-loop-byte l = record {
  few : l.count ≤ l.byte-index;
  so_far : l.count + feeds (drop l.byte-index l.text) ≡ feeds l.text;
}
