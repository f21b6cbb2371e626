-- Windows after stores differ at most where something is stored.
use Rattle.std.proofs.Common.{◌≡◌, ◌⊎◌, inl, inr, ℕ, ◌<◌, ◌==◌, if◌then◌else◌, List, [], ◌∷◌, length, slice_get, slice_index, get_or, Some, unwrap_or, refl, sym, ap, ◌∙◌, subst, arith}
use Rattle.std.specs.List.{All}
use Rattle.std.proofs.lemmas.Bool.{cases_eq, ne_eqb}
use Rattle.std.proofs.lemmas.List.{same_lists}
use Rattle.std.proofs.lemmas.List.Elements.{All-head, All-tail}
use Rattle.std.proofs.lemmas.Option.{slice_get-get_or, unwrap_or-slice_get}
use Rattle.pg_interp.specs.declared.effect.Write.{Write}
use Rattle.pg_interp.specs.Writes.{written, overlaid}
use Rattle.pg_interp.proofs.WriteLemmas.{written-length, written-some}

-- what holds at each address of stores holds at an address, or no store changes what is there
stored_or_not : (P : ℕ → Type 0) (ws : List Write) (k : ℕ) → All (λ w. P w.at) ws → P k ⊎ ((c : ℕ) → overlaid ws k c ≡ c)
unfolding overlaid
stored_or_not P [] k all = inr (λ c. refl)
stored_or_not P (x ∷ xs) k all = by (cases_eq x.at k) (stored_or_not P xs k (All-tail (λ w. P w.at) x xs all))
  where
    by : (x.at ≡ k) ⊎ (x.at ≡ k → ⊥) → P k ⊎ ((c : ℕ) → overlaid xs k c ≡ c) → P k ⊎ ((c : ℕ) → overlaid xs k (if x.at == k then x.cell else c) ≡ c)
    by (inl e) rest = inl (subst P e (All-head (λ w. P w.at) x xs all))
    by (inr n) (inl p) = inl p
    by (inr n) (inr none) = inr (λ c. ap (λ b. overlaid xs k (if b then x.cell else c)) (ne_eqb x.at k n) ∙ none c)

-- two windows after stores agree at an address of the window, where they do at each address of a store
agree : (xs ys : List Write) (cells : List ℕ) (k : ℕ) → k < length cells → All (λ w. slice_get (written xs cells) w.at ≡ slice_get (written ys cells) w.at) xs →
    All (λ w. slice_get (written xs cells) w.at ≡ slice_get (written ys cells) w.at) ys → slice_get (written xs cells) k ≡ slice_get (written ys cells) k
agree xs ys cells k l first second = by (stored_or_not (λ a. slice_get (written xs cells) a ≡ slice_get (written ys cells) a) xs k first) (stored_or_not (λ a. slice_get (written xs cells) a ≡ slice_get (written ys cells) a) ys k second)
  where
    there : slice_get cells k ≡ Some (slice_index cells k)
    there = slice_get-get_or cells k 0 l

    by : (slice_get (written xs cells) k ≡ slice_get (written ys cells) k) ⊎ ((c : ℕ) → overlaid xs k c ≡ c) →
        (slice_get (written xs cells) k ≡ slice_get (written ys cells) k) ⊎ ((c : ℕ) → overlaid ys k c ≡ c) → slice_get (written xs cells) k ≡ slice_get (written ys cells) k
    by (inl e) any = e
    by (inr m) (inl e) = e
    by (inr m) (inr n) =
        written-some xs cells k (slice_index cells k) there ∙ ap Some (m (slice_index cells k) ∙ sym (n (slice_index cells k)))
        ∙ sym (written-some ys cells k (slice_index cells k) there)

pub written-same : (xs ys : List Write) (cells : List ℕ) → All (λ w. slice_get (written xs cells) w.at ≡ slice_get (written ys cells) w.at) xs →
    All (λ w. slice_get (written xs cells) w.at ≡ slice_get (written ys cells) w.at) ys → written xs cells ≡ written ys cells
written-same xs ys cells first second =
    same_lists (written xs cells) (written ys cells) (written-length xs cells ∙ sym (written-length ys cells)) (λ k d l.
    sym (unwrap_or-slice_get (written xs cells) k d)
    ∙ ap (λ o. unwrap_or o d) (agree xs ys cells k (omega (arith, written-length xs cells)) first second)
    ∙ unwrap_or-slice_get (written ys cells) k d)

pub written-agree : (xs ys : List Write) (cells : List ℕ) (at : List Write) → written xs cells ≡ written ys cells →
    All (λ w. slice_get (written xs cells) w.at ≡ slice_get (written ys cells) w.at) at
written-agree xs ys cells at e = λ k d l. ap (λ (v : List ℕ). slice_get v (get_or at k d).at) e
