-- Guards, put one after another.
use Rattle.std.proofs.Common.{◌≡◌, ℕ, ◌+◌, ◌<◌, List, ◌∷◌, ◌++◌, length, drop, get_or, append_assoc, ap, sym, ◌∙◌}
use Rattle.std.proofs.lemmas.List.{drop_more}
use Rattle.std.specs.Prelude.{codes, slice_get}
use Rattle.pg_out_guarded.specs.Texts.{gap, between, guard_at, with_guards}

nested : (x a b c : List ℕ) → ((x ++ a) ++ b) ++ c ≡ x ++ ((a ++ b) ++ c)
nested x a b c = simp append_assoc

-- what is put behind a brace, in two parts
pub guard_put : (new text : List ℕ) (place : ℕ) → (new ++ codes " if mode { trap; }") ++ gap (slice_get text place) ≡ new ++ guard_at text place
unfolding guard_at
guard_put new text place = append_assoc new (codes " if mode { trap; }") (gap (slice_get text place))

-- a guard more is put
pub guards-next : (new whole text : List ℕ) (places : List ℕ) (i at place : ℕ) → i < length places → place ≡ get_or places i place →
    new ++ with_guards text at (drop i places) ≡ whole →
    ((new ++ between text at place) ++ guard_at text place) ++ with_guards text place (drop (i + 1) places) ≡ whole
unfolding with_guards
guards-next new whole text places i at place l e h =
    let split : drop i places ≡ place ∷ drop (i + 1) places = drop_more places i place l ∙ ap (λ u. u ∷ drop (i + 1) places) (sym e) in
    nested new (between text at place) (guard_at text place) (with_guards text place (drop (i + 1) places))
    ∙ ap (λ z. new ++ with_guards text at z) (sym split) ∙ h
