use Rattle.std.proofs.Common.{◌≢◌, ℕ, ◌<◌, ◌≤◌, slice_index}
use Rattle.pg_out_place.proofs.places.line_start.Given as goal

abbrev pub invariant-loop-start : goal.invariant-loop-start
invariant-loop-start l = record {
  within : l.start ≤ l.place;
  same : (k : ℕ) → l.start ≤ k → k < l.place → slice_index l.text k ≢ 10;
}

abbrev pub decreases-loop-start : goal.decreases-loop-start
decreases-loop-start l = l.start
