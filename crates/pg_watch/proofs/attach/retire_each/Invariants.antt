use Rattle.std.proofs.Common.{◌-◌, ℕ, List, length, Bool}
use Rattle.pg_watch.specs.declared.lists.Watch.{Watch}
use Rattle.pg_watch.specs.declared.index.Pair.{Pair}
use Rattle.pg_watch.specs.Fixes.{ArePlaces}
use Rattle.pg_watch.specs.Watched.{IsWatched}
use Rattle.pg_watch.proofs.attach.retire_each.Given as goal

abbrev pub invariant-loop-at : goal.invariant-loop-at
invariant-loop-at l = record {
  places : ArePlaces (length l.clauses) l.fresh.items;
  watched : (q : Bool) (ls : List (List Watch)) (ps : List Pair) (h : ℕ) → IsWatched l.clauses l.trail q l.initial.fresh.items ls ps h →
      IsWatched l.clauses l.trail q l.fresh.items ls ps h;
}

abbrev pub decreases-loop-at : goal.decreases-loop-at
decreases-loop-at l = length l.fresh.items - l.at
