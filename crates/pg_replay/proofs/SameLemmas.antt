-- Windows are the same where their cells that are not zero are.
use Rattle.std.proofs.Common.{◌≡◌, ◌≢◌, ◌⊎◌, inl, inr, ℕ, suc, ◌+◌, ◌-◌, ◌<◌, ◌≤◌, List, [], ◌∷◌, length, get_or, slice_get, slice_index, Some, refl, sym, ap, ◌∙◌, subst, arith}
use Rattle.std.specs.List.{All}
use Rattle.std.proofs.lemmas.Bool.{cases_eq, cases_lt}
use Rattle.std.proofs.lemmas.List.{same_lists, get_or-replicate, get_or-set_other, get_or_past}
use Rattle.std.proofs.lemmas.List.Elements.{All-from_get_or}
use Rattle.std.proofs.lemmas.Option.{slice_get-get_or, get_or_from_slice_get}
use Rattle.pg_word.specs.Sparse.{address_at, IsCellList, AreWithin, storage_of}
use Rattle.pg_word.proofs.SparseLemmas.{length-storage_of, listed_holds}
use Rattle.pg_word.specs.declared.psw.Psw.{Psw}
use Rattle.pg_lang_meaning.specs.States.{State, window, window_length}
use Rattle.pg_lang_valid.proofs.StepSound.{window-length}
use Rattle.pg_replay.specs.Covers.{IsCovered, StandsIn}
use Rattle.pg_replay.proofs.WindowLemmas.{window-in}

-- a word that is not zero is listed
pub nonzero-listed : (size : ℕ) (cells : List (ℕ × ℕ)) (at : ℕ) → at < size → get_or (storage_of size cells) at 0 ≢ 0 → (k : ℕ) × (k < length cells) × (address_at cells k ≡ at)
nonzero-listed size [] at l n = absurd (n (get_or-replicate size at 0 0 l))
nonzero-listed size (c ∷ cells) at l n = by (cases_eq c.0 at) (nonzero-listed size cells at l)
  where
    by : (c.0 ≡ at) ⊎ (c.0 ≢ at) → (get_or (storage_of size cells) at 0 ≢ 0 → (k : ℕ) × (k < length cells) × (address_at cells k ≡ at)) → (k : ℕ) × (k < length (c ∷ cells)) × (address_at (c ∷ cells) k ≡ at)
    by (inl e) rest = (0, omega arith, e)
    by (inr e) rest =
        let other : get_or (storage_of size (c ∷ cells)) at 0 ≡ get_or (storage_of size cells) at 0 = get_or-set_other (storage_of size cells) c.0 at c.1 0 (λ same. e (sym same)) in
        let (k, in_range, is) = rest (λ none. n (other ∙ none)) in
        (suc k, omega arith, is)

-- ---- one state's listed cells, and another's window

abbrev listing : ℕ → Psw → List (ℕ × ℕ) → State
listing size psw cells = record { cells = storage_of size cells; psw = psw }

-- a cell of a window that is not zero is usable, and listed
window-listed : (size : ℕ) (psw : Psw) (cells : List (ℕ × ℕ)) (a : ℕ) → slice_index (window (listing size psw cells)) a ≢ 0 →
    (a < window_length (listing size psw cells)) × (slice_index (window (listing size psw cells)) a ≡ slice_index (storage_of size cells) (psw.l + a))
window-listed size psw cells a n = by (cases_lt a (window_length (listing size psw cells)))
  where
    by : (a < window_length (listing size psw cells)) ⊎ (window_length (listing size psw cells) ≤ a) →
        (a < window_length (listing size psw cells)) × (slice_index (window (listing size psw cells)) a ≡ slice_index (storage_of size cells) (psw.l + a))
    by (inl l) = (l, get_or_from_slice_get (window (listing size psw cells)) a (slice_index (storage_of size cells) (psw.l + a)) 0 (window-in (listing size psw cells) a l))
    by (inr past) = absurd (n (get_or_past (window (listing size psw cells)) a 0 (omega (arith, window-length (listing size psw cells), past))))

covered : (size : ℕ) (psw : Psw) (cells : List (ℕ × ℕ)) (other : List ℕ) → IsCellList cells →
    All (λ cell. StandsIn (listing size psw cells) other cell.0 cell.1) cells → IsCovered (window (listing size psw cells)) other
covered size psw cells other listed all a n =
    let (usable, is) = window-listed size psw cells a n in
    let fits : psw.l + a < size = omega (arith, usable, length-storage_of size cells) in
    let (k, in_range, at) = nonzero-listed size cells (psw.l + a) fits (λ none. n (is ∙ none)) in
    let holds : slice_index (storage_of size cells) (psw.l + a) ≡ (get_or cells k (0, 0)).1 = listed_holds size cells (psw.l + a) k fits listed in_range at in
    let low : psw.l ≤ address_at cells k = omega (arith, at) in
    let high : address_at cells k < psw.l + window_length (listing size psw cells) = omega (arith, at, usable) in
    let stands : slice_get other (address_at cells k - psw.l) ≡ Some (get_or cells k (0, 0)).1 = all k (0, 0) in_range low high in
    let place : address_at cells k - psw.l ≡ a = omega (arith, at) in
    subst (λ x. slice_get other x ≡ Some (slice_index (window (listing size psw cells)) a)) place (stands ∙ ap Some (sym (is ∙ holds)))

standing : (size : ℕ) (psw : Psw) (cells : List (ℕ × ℕ)) (other : List ℕ) (k : ℕ) → IsCellList cells → AreWithin size cells →
    IsCovered (window (listing size psw cells)) other → k < length cells → StandsIn (listing size psw cells) other (address_at cells k) (get_or cells k (0, 0)).1
standing size psw cells other k listed within covers in_range low high =
    let at : address_at cells k < size = within k (0, 0) in_range in
    let a : ℕ = address_at cells k - psw.l in
    let usable : a < window_length (listing size psw cells) = omega arith in
    let back : psw.l + a ≡ address_at cells k = omega arith in
    let holds : slice_index (window (listing size psw cells)) a ≡ (get_or cells k (0, 0)).1 =
    get_or_from_slice_get (window (listing size psw cells)) a (slice_index (storage_of size cells) (psw.l + a)) 0 (window-in (listing size psw cells) a usable)
    ∙ ap (λ x. slice_index (storage_of size cells) x) back ∙ listed_holds size cells (address_at cells k) k at listed in_range refl in
    covers a (λ none. listed.not_zero k (0, 0) in_range (sym holds ∙ none)) ∙ ap Some holds

-- the cells of a list are those of the state
pub covered-of : (size : ℕ) (psw : Psw) (cells items : List (ℕ × ℕ)) (other : List ℕ) → items ≡ cells → IsCellList cells →
    All (λ cell. StandsIn (listing size psw cells) other cell.0 cell.1) items → IsCovered (window (listing size psw cells)) other
covered-of size psw cells items other same listed all =
    covered size psw cells other listed (subst (All (λ cell. StandsIn (listing size psw cells) other cell.0 cell.1)) same all)

pub standing-all : (size : ℕ) (psw : Psw) (cells items : List (ℕ × ℕ)) (other : List ℕ) → items ≡ cells → IsCellList cells → AreWithin size cells →
    IsCovered (window (listing size psw cells)) other → All (λ cell. StandsIn (listing size psw cells) other cell.0 cell.1) items
standing-all size psw cells items other same listed within covers =
    subst (All (λ cell. StandsIn (listing size psw cells) other cell.0 cell.1)) (sym same)
    (All-from_get_or (λ cell. StandsIn (listing size psw cells) other cell.0 cell.1) cells (0, 0) (λ k l. standing size psw cells other k listed within covers l))

-- ---- two windows

covered-get : (xs ys : List ℕ) (k : ℕ) → IsCovered xs ys → slice_index xs k ≢ 0 → slice_index ys k ≡ slice_index xs k
covered-get xs ys k h n = get_or_from_slice_get ys k (slice_index xs k) 0 (h k n)

covered-both : (xs ys : List ℕ) (k : ℕ) → IsCovered xs ys → IsCovered ys xs → slice_index xs k ≡ slice_index ys k
covered-both xs ys k h g = by (cases_eq (slice_index xs k) 0) (cases_eq (slice_index ys k) 0)
  where
    by : (slice_index xs k ≡ 0) ⊎ (slice_index xs k ≡ 0 → ⊥) → (slice_index ys k ≡ 0) ⊎ (slice_index ys k ≡ 0 → ⊥) → slice_index xs k ≡ slice_index ys k
    by (inr n) any = sym (covered-get xs ys k h n)
    by (inl e) (inr n) = covered-get ys xs k g n
    by (inl e) (inl f) = e ∙ sym f

at_default : (xs : List ℕ) (k d : ℕ) → k < length xs → get_or xs k d ≡ slice_index xs k
at_default xs k d l = get_or_from_slice_get xs k (slice_index xs k) d (slice_get-get_or xs k 0 l)

pub windows-same : (xs ys : List ℕ) → length xs ≡ length ys → IsCovered xs ys → IsCovered ys xs → xs ≡ ys
windows-same xs ys same h g = same_lists xs ys same (λ k d l. at_default xs k d l ∙ covered-both xs ys k h g ∙ sym (at_default ys k d (omega arith)))

pub covers-itself : (xs : List ℕ) → IsCovered xs xs
covers-itself xs a n = by (cases_lt a (length xs))
  where
    by : (a < length xs) ⊎ (length xs ≤ a) → slice_get xs a ≡ Some (slice_index xs a)
    by (inl l) = slice_get-get_or xs a 0 l
    by (inr past) = absurd (n (get_or_past xs a 0 past))

-- ---- storages

pub storage-size : (m n : ℕ) (xs ys : List (ℕ × ℕ)) → storage_of m xs ≡ storage_of n ys → m ≡ n
storage-size m n xs ys e = sym (length-storage_of m xs) ∙ ap length e ∙ length-storage_of n ys

pub covers-same : (xs ys : List ℕ) → xs ≡ ys → IsCovered xs ys
covers-same xs ys e = subst (IsCovered xs) e (covers-itself xs)
