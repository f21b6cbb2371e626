-- Names in a table, and in a list.
use Rattle.std.proofs.Common.{◌≡◌, ℕ, ◌||◌, List, [], ◌∷◌, length, map, cond, bytes_eq, position, nat_eq, nat_lt, None, Some, refl, ap, sym, ◌∙◌}
use Rattle.std.specs.Cmp.Lexicographic.{pointwise}
use Rattle.std.specs.List.{list_any, position_or_len}
use Rattle.std.proofs.lemmas.Cmp.{nat_list_eq_equiv}
use Rattle.std.proofs.lemmas.List.{length-map}
use Rattle.pg_lang_valid.specs.Twice.{is_among}

-- a look-up finds a name where it is among the names
pub among-keys : {X : Type 0} (f : X → List ℕ) (name : List ℕ) (ks : List X) →
    list_any (λ k. pointwise nat_eq name (f k)) ks ≡ is_among (map f ks) name
among-keys f name [] = refl
among-keys f name (k ∷ ks) = rw (nat_list_eq_equiv.symm name (f k)) (ap (λ b. pointwise nat_eq (f k) name || b) (among-keys f name ks))

place-keys : {X : Type 0} (f : X → List ℕ) (name : List ℕ) (ks : List X) →
    position_or_len (λ k. pointwise nat_eq name (f k)) ks ≡ position_or_len (λ n. bytes_eq n name) (map f ks)
place-keys f name [] = refl
place-keys f name (k ∷ ks) = rw (nat_list_eq_equiv.symm name (f k), place-keys f name ks) refl

-- and gives its place there
pub position-keys : {X : Type 0} (f : X → List ℕ) (name : List ℕ) (ks : List X) →
    position (λ k. pointwise nat_eq name (f k)) ks ≡ position (λ n. bytes_eq n name) (map f ks)
position-keys f name ks =
    ap (λ p. cond (nat_lt p (length ks)) (Some p) None) (place-keys f name ks)
    ∙ ap (λ n. cond (nat_lt (position_or_len (λ m. bytes_eq m name) (map f ks)) n) (Some (position_or_len (λ m. bytes_eq m name) (map f ks))) None) (sym (length-map ks f))
