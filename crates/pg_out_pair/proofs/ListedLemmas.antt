-- What is known of each cell that is listed is known of each address of the window that holds a word that is not zero.
use Rattle.std.proofs.Common.{◌≡◌, ◌≢◌, ◌⊎◌, inl, inr, ℕ, ◌+◌, ◌-◌, ◌<◌, ◌≤◌, List, length, slice_index, ◌∙◌, subst, arith}
use Rattle.std.proofs.lemmas.Bool.{cases_lt}
use Rattle.std.proofs.lemmas.List.{get_or_past}
use Rattle.std.proofs.lemmas.Option.{get_or_from_slice_get}
use Rattle.pg_word.specs.Sparse.{address_at, storage_of}
use Rattle.pg_word.proofs.SparseLemmas.{length-storage_of}
use Rattle.pg_word.specs.declared.psw.Psw.{Psw}
use Rattle.pg_lang_meaning.specs.States.{State, window, window_length}
use Rattle.pg_lang_valid.proofs.StepSound.{window-length}
use Rattle.pg_replay.proofs.WindowLemmas.{window-in}
use Rattle.pg_replay.proofs.SameLemmas.{nonzero-listed}

abbrev pub listing : ℕ → Psw → List (ℕ × ℕ) → State
listing size psw cells = record { cells = storage_of size cells; psw = psw }

-- a cell of a window that is not zero is usable, and is that of the storage
window-holds : (size : ℕ) (psw : Psw) (cells : List (ℕ × ℕ)) (a : ℕ) → slice_index (window (listing size psw cells)) a ≢ 0 →
    (a < window_length (listing size psw cells)) × (slice_index (window (listing size psw cells)) a ≡ slice_index (storage_of size cells) (psw.l + a))
window-holds size psw cells a n = by (cases_lt a (window_length (listing size psw cells)))
  where
    by : (a < window_length (listing size psw cells)) ⊎ (window_length (listing size psw cells) ≤ a) →
        (a < window_length (listing size psw cells)) × (slice_index (window (listing size psw cells)) a ≡ slice_index (storage_of size cells) (psw.l + a))
    by (inl l) = (l, get_or_from_slice_get (window (listing size psw cells)) a (slice_index (storage_of size cells) (psw.l + a)) 0 (window-in (listing size psw cells) a l))
    by (inr past) = absurd (n (get_or_past (window (listing size psw cells)) a 0 (omega (arith, window-length (listing size psw cells), past))))

pub at_listed : (size : ℕ) (psw : Psw) (cells : List (ℕ × ℕ)) (P : ℕ → Type 0) →
    ((k : ℕ) → k < length cells → psw.l ≤ address_at cells k → P (address_at cells k - psw.l)) →
    (a : ℕ) → slice_index (window (listing size psw cells)) a ≢ 0 → P a
at_listed size psw cells P h a n =
    let (usable, is) = window-holds size psw cells a n in
    let fits : psw.l + a < size = omega (arith, usable, length-storage_of size cells) in
    let (k, in_range, at) = nonzero-listed size cells (psw.l + a) fits (λ none. n (is ∙ none)) in
    let low : psw.l ≤ address_at cells k = omega (arith, at) in
    let place : address_at cells k - psw.l ≡ a = omega (arith, at) in
    subst P place (h k in_range low)
