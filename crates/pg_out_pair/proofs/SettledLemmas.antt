-- Differences that are pushed one after another.
use Rattle.std.proofs.Common.{◌≡◌, ◌≢◌, ◌⊎◌, inl, inr, ℕ, zero, suc, ◌<◌, ◌≤◌, List, [], ◌∷◌, ◌++◌, length, slice_get, slice_index, Some, refl, sym, ap, ◌∙◌, arith}
use Rattle.std.proofs.lemmas.Bool.{cases_lt, cases_eq}
use Rattle.std.proofs.lemmas.List.{get_or_past}
use Rattle.std.proofs.lemmas.Option.{slice_get-get_or, slice_get_past}
use Rattle.pg_out_pair.specs.declared.differences.Difference.{Difference}
use Rattle.pg_out_pair.specs.Telling.{IsListed, IsSettled}

get-front : (ds es : List Difference) (k : ℕ) (d : Difference) → slice_get ds k ≡ Some d → slice_get (ds ++ es) k ≡ Some d
get-front [] es k d e = absurd (cc)
get-front (x ∷ ds) es zero d e = e
get-front (x ∷ ds) es (suc k) d e = get-front ds es k d e

get-last : (ds : List Difference) (d : Difference) → slice_get (ds ++ d ∷ []) (length ds) ≡ Some d
get-last [] d = refl
get-last (x ∷ ds) d = get-last ds d

pub listed-kept : (ds es : List Difference) (a : ℕ) → IsListed ds a → IsListed (ds ++ es) a
listed-kept ds es a h = record { place = h.place; difference = h.difference; there = get-front ds es h.place h.difference h.there; at = h.at }

pub settled-kept : (xs ys : List ℕ) (ds es : List Difference) (a : ℕ) → IsSettled xs ys ds a → IsSettled xs ys (ds ++ es) a
settled-kept xs ys ds es a (inl same) = inl same
settled-kept xs ys ds es a (inr h) = inr (listed-kept ds es a h)

pub settled-last : (xs ys : List ℕ) (ds : List Difference) (d : Difference) (a : ℕ) → d.at ≡ a → IsSettled xs ys (ds ++ d ∷ []) a
settled-last xs ys ds d a e = inr (record { place = length ds; difference = d; there = get-last ds d; at = e })

-- an address at which both hold zero, or which is past both, is settled
pub settled-zero : (xs ys : List ℕ) (ds : List Difference) (a : ℕ) → length xs ≡ length ys → slice_index xs a ≡ 0 → slice_index ys a ≡ 0 → IsSettled xs ys ds a
settled-zero xs ys ds a same ex ey = by (cases_lt a (length xs))
  where
    by : (a < length xs) ⊎ (length xs ≤ a) → IsSettled xs ys ds a
    by (inl l) = inl (slice_get-get_or xs a 0 l ∙ ap Some (ex ∙ sym ey) ∙ sym (slice_get-get_or ys a 0 (omega (arith, same, l))))
    by (inr past) = inl (slice_get_past xs a past ∙ sym (slice_get_past ys a (omega (arith, same, past))))

-- all addresses are settled where those are at which the first is not zero, and those at which the first is zero and the second is not
pub all-settled : (xs ys : List ℕ) (ds : List Difference) → length xs ≡ length ys →
    ((a : ℕ) → slice_index xs a ≢ 0 → IsSettled xs ys ds a) →
    ((a : ℕ) → slice_index ys a ≢ 0 → slice_get xs a ≡ Some 0 → IsSettled xs ys ds a) →
    (a : ℕ) → IsSettled xs ys ds a
all-settled xs ys ds same first second a = by (cases_eq (slice_index xs a) 0) (cases_eq (slice_index ys a) 0)
  where
    within : slice_index ys a ≢ 0 → slice_index xs a ≡ 0 → (a < length xs) ⊎ (length xs ≤ a) → slice_get xs a ≡ Some 0
    within n e (inl l) = slice_get-get_or xs a 0 l ∙ ap Some e
    within n e (inr past) = absurd (n (sym (zero-past (omega (arith, same, past)))))
      where
        zero-past : length ys ≤ a → 0 ≡ slice_index ys a
        zero-past h = sym (get_or_past ys a 0 h)

    by : (slice_index xs a ≡ 0) ⊎ (slice_index xs a ≢ 0) → (slice_index ys a ≡ 0) ⊎ (slice_index ys a ≢ 0) → IsSettled xs ys ds a
    by (inr n) any = first a n
    by (inl e) (inl f) = settled-zero xs ys ds a same e f
    by (inl e) (inr n) = second a n (within n e (cases_lt a (length xs)))
