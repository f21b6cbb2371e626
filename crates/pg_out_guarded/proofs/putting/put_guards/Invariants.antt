use Rattle.std.proofs.Common.{◌≡◌, ◌++◌, drop}
use Rattle.pg_out_guarded.specs.Texts.{with_guards}
use Rattle.pg_out_guarded.proofs.putting.put_guards.Given as goal

abbrev pub invariant-loop-place : goal.invariant-loop-place
invariant-loop-place l = record {
  so_far : l.new.items ++ with_guards l.text l.at (drop l.place-index l.places) ≡ with_guards l.text 0 l.places;
}
