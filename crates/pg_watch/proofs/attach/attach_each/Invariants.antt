use Rattle.std.proofs.Common.{◌≤◌, ◌-◌, ℕ, length, Bool}
use Rattle.pg_watch.specs.Fixes.{ArePlaces}
use Rattle.pg_watch.specs.Assigned.{IsAssigned}
use Rattle.pg_watch.specs.Watching.{IsIndex}
use Rattle.pg_watch.specs.Watched.{IsWatched}
use Rattle.pg_watch.proofs.attach.attach_each.Given as goal

abbrev pub invariant-loop-at : goal.invariant-loop-at
invariant-loop-at l = record {
  index : IsIndex l.clauses l.trail l.index.lists l.index.pairs.items;
  places : ArePlaces (length l.clauses) l.fresh.items;
  lows : (d : ℕ) → IsAssigned l.trail d → d ≤ l.low;
  watched : (q : Bool) (h : ℕ) → IsWatched l.clauses l.trail q l.initial.fresh.items l.initial.index.lists l.initial.index.pairs.items h →
      IsWatched l.clauses l.trail q l.fresh.items l.index.lists l.index.pairs.items h;
}

abbrev pub decreases-loop-at : goal.decreases-loop-at
decreases-loop-at l = length l.fresh.items - l.at
