use Rattle.std.proofs.Common.{◌≡◌, ◌++◌, false, drop}
use Rattle.pg_out_guarded.specs.Places.{body_places}
use Rattle.pg_out_guarded.proofs.places.body_places.Given as goal

abbrev pub invariant-loop-tok : goal.invariant-loop-tok
invariant-loop-tok l = record {
  so_far : l.places.items ++ body_places l.behind (drop l.tok-index l.toks) ≡ body_places false l.toks;
}
