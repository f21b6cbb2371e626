use Rattle.std.proofs.Common.{◌≡◌, ◌-◌, length}
use Rattle.pg_watch.specs.Places.{place_of}
use Rattle.pg_watch.specs.Watching.{list_at}
use Rattle.pg_watch.proofs.WalkLemmas.{IsWalking}
use Rattle.pg_watch.proofs.walk.walk_list.Given as goal

abbrev pub invariant-loop-at : goal.invariant-loop-at
invariant-loop-at l = record {
  place : l.place ≡ place_of l.gone;
  walking : IsWalking l.clauses l.initial.trail l.trail l.initial.index.lists l.index.lists l.initial.index.pairs.items l.index.pairs.items l.gone l.at;
}

abbrev pub decreases-loop-at : goal.decreases-loop-at
decreases-loop-at l = length (list_at l.index.lists (place_of l.gone)) - l.at
