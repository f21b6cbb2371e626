-- Lists of cells that are not zero, and the storages that they stand for.
use Rattle.std.proofs.Common.{take, ◌≡◌, ◌≢◌, ℕ, zero, suc, ◌+◌, ◌-◌, ◌<◌, ◌≤◌, ◌⊎◌, inl, inr, List, [], ◌∷◌, ◌++◌, length, get_or, set, refl, sym, ap, ◌∙◌, subst, arith, length-append, Result, Ok, Err, IfOk, IfErr}
use Rattle.std.specs.List.{All}
use Rattle.std.specs.List.Sorted.{IsSearchInRange, IsBinarySearchResult, IsNonDecreasingBy}
use Rattle.std.specs.Ordering.{nat_cmp, ordering_index}
use Rattle.std.proofs.Math.Nat.{eq-or-lt_of_le}
use Rattle.std.proofs.lemmas.Cmp.{ranked}
use Rattle.std.proofs.lemmas.List.Sorted.{IsNonDecreasingBy-from_default}
use Rattle.std.proofs.lemmas.List.Elements.{All-head, All-tail, All-push, All-weaker, All-from_get_or}
use Rattle.std.proofs.lemmas.List.{take_all, take_more, length-take-le, get_or-take, get_or_append_left, get_or_at, get_or-replicate, length-replicate, length-set, get_or-set_same, get_or-set_other, set-set, set-get_or}
use Rattle.std.proofs.lemmas.Bool.Decides.{nat_tests}
use Rattle.pg_word.specs.Sparse.{address_at, IsCellList, IsPastLast, AreWithin, storage_of, IsListedAt, IsNotListed}

-- ---- one more cell

left_stays : (cells : List (ℕ × ℕ)) (c : ℕ × ℕ) (i : ℕ) → i < length cells → address_at (cells ++ c ∷ []) i ≡ address_at cells i
left_stays cells c i l = ap (λ (x : ℕ × ℕ). x.0) (get_or_append_left cells (c ∷ []) (0, 0) i l)

last_is : (cells : List (ℕ × ℕ)) (c : ℕ × ℕ) (i : ℕ) → length cells ≡ i → address_at (cells ++ c ∷ []) i ≡ c.0
last_is cells c i e = ap (λ (x : ℕ × ℕ). x.0) (get_or_at cells c [] (0, 0) i e)

all_below : (cells : List (ℕ × ℕ)) (at : ℕ) → IsCellList cells → IsPastLast cells at → (i : ℕ) → i < length cells → address_at cells i < at
all_below cells at h past i l =
    let e : length cells - 1 + 1 ≡ length cells = omega arith in
    let last : address_at cells (length cells - 1) < at = past (length cells - 1) e in
    by (eq-or-lt_of_le (omega arith)) last
  where
    by : (i ≡ length cells - 1) ⊎ (i < length cells - 1) → address_at cells (length cells - 1) < at → address_at cells i < at
    by (inl same) last = subst (λ k. address_at cells k < at) (sym same) last
    by (inr b) last = let r = h.ascending i (length cells - 1) b (omega arith) in omega arith

pub pushed : (cells : List (ℕ × ℕ)) (at word : ℕ) → IsCellList cells → IsPastLast cells at → word ≢ 0 → IsCellList (cells ++ (at, word) ∷ [])
pushed cells at word h past n = record {
  ascending = λ i j lt in_range. grind (arith, length-append cells ((at, word) ∷ []), left_stays cells (at, word) i, left_stays cells (at, word) j, last_is cells (at, word) j, h.ascending i j, all_below cells at h past i);
  not_zero = All-push (λ cell. cell.1 ≢ 0) cells (at, word) h.not_zero n;
}

-- ---- search

module _ (l : List (ℕ × ℕ)) (h : IsCellList l) (k : ℕ) where
  comparisons_rise : IsNonDecreasingBy (λ cell. ordering_index (nat_cmp cell.0 k)) l
  comparisons_rise = IsNonDecreasingBy-from_default (λ cell. ordering_index (nat_cmp cell.0 k)) l (0, 0) (λ i j le in_range.
      let rise : address_at l i ≤ address_at l j = grind (arith, h.ascending i j, λ (same : i ≡ j). ap (address_at l) same) in
      grind (arith, nat_tests))

  pub searched : (r : Result ℕ ℕ) → IsSearchInRange r (length l) → IsBinarySearchResult (λ cell. nat_cmp cell.0 k) l r → record { found : IfOk r (IsListedAt l k); absent : IfErr r (IsNotListed l k) }
  searched (Ok at) in_range equal = record { found = record { in_range = in_range; has_address = ranked _ k _ (sym (equal (0, 0))) }; absent = tt }
  searched (Err at) in_range parted = record {
    found = tt;
    absent = record {
      below = λ j lt. ranked _ k _ (sym ((parted comparisons_rise).0 j (0, 0) (omega arith) lt));
      above = λ j le lt. ranked _ k _ (sym ((parted comparisons_rise).1 j (0, 0) le lt));
    };
  }

-- ---- storages

pub length-storage_of : (size : ℕ) (cells : List (ℕ × ℕ)) → length (storage_of size cells) ≡ size
length-storage_of size [] = length-replicate size 0
length-storage_of size (c ∷ cells) = length-set (storage_of size cells) c.0 c.1 ∙ length-storage_of size cells

rest_listed : (c : ℕ × ℕ) (cells : List (ℕ × ℕ)) → IsCellList (c ∷ cells) → IsCellList cells
rest_listed c cells h = record {
  ascending = λ i j lt l. h.ascending (suc i) (suc j) (omega arith) (omega arith);
  not_zero = All-tail (λ cell. cell.1 ≢ 0) c cells h.not_zero;
}

rest_above : (c : ℕ × ℕ) (cells : List (ℕ × ℕ)) → IsCellList (c ∷ cells) → All (λ d. c.0 < d.0) cells
rest_above c cells h = All-from_get_or (λ d. c.0 < d.0) cells (0, 0) (λ i l. h.ascending 0 (suc i) (omega arith) (omega arith))

-- an address that is not listed holds zero
absent_is_zero : (size : ℕ) (cells : List (ℕ × ℕ)) (at : ℕ) → at < size → All (λ cell. cell.0 ≢ at) cells → get_or (storage_of size cells) at 0 ≡ 0
absent_is_zero size [] at l none = get_or-replicate size at 0 0 l
absent_is_zero size (c ∷ cells) at l none =
    get_or-set_other (storage_of size cells) c.0 at c.1 0 (λ e. All-head (λ cell. cell.0 ≢ at) c cells none (sym e))
    ∙ absent_is_zero size cells at l (All-tail (λ cell. cell.0 ≢ at) c cells none)

-- and one that is listed holds its word
head_is_listed : (size : ℕ) (c : ℕ × ℕ) (cells : List (ℕ × ℕ)) → c.0 < size → get_or (storage_of size (c ∷ cells)) c.0 0 ≡ c.1
head_is_listed size c cells l = get_or-set_same (storage_of size cells) c.0 c.1 0 (omega (arith, length-storage_of size cells))

pub listed_holds : (size : ℕ) (cells : List (ℕ × ℕ)) (at i : ℕ) → at < size → IsCellList cells → i < length cells → address_at cells i ≡ at →
    get_or (storage_of size cells) at 0 ≡ (get_or cells i (0, 0)).1
listed_holds size [] at i l h in_range e = absurd (omega arith)
listed_holds size (c ∷ cells) at zero l h in_range e =
    subst (λ k. get_or (storage_of size (c ∷ cells)) k 0 ≡ c.1) e (head_is_listed size c cells (omega arith))
listed_holds size (c ∷ cells) at (suc i) l h in_range e =
    let lower = h.ascending 0 (suc i) (omega arith) in_range in
    get_or-set_other (storage_of size cells) c.0 at c.1 0 (λ same. omega arith)
    ∙ listed_holds size cells at i l (rest_listed c cells h) (omega arith) e

pub absent_holds : (size : ℕ) (cells : List (ℕ × ℕ)) (at i : ℕ) → at < size → IsNotListed cells at i → get_or (storage_of size cells) at 0 ≡ 0
absent_holds size cells at i l h =
    absent_is_zero size cells at l (All-from_get_or (λ cell. cell.0 ≢ at) cells (0, 0) (λ j in_range e. grind (arith, h.below j, h.above j)))

-- ---- a storage is listed in one way

above_apart : (c : ℕ × ℕ) (cells : List (ℕ × ℕ)) → All (λ d. c.0 < d.0) cells → All (λ d. d.0 ≢ c.0) cells
above_apart c cells h = All-weaker (λ d. c.0 < d.0) (λ d. d.0 ≢ c.0) (λ d l e. omega arith) cells h

before_apart : (k : ℕ) (d : ℕ × ℕ) (cells : List (ℕ × ℕ)) → k < d.0 → IsCellList (d ∷ cells) → All (λ e. e.0 ≢ k) (d ∷ cells)
before_apart k d cells l h = All-from_get_or (λ e. e.0 ≢ k) (d ∷ cells) (0, 0) (by)
  where
    by : (i : ℕ) → i < length (d ∷ cells) → (get_or (d ∷ cells) i (0, 0)).0 ≢ k
    by zero in_range e = omega arith
    by (suc i) in_range e = let u = h.ascending 0 (suc i) (omega arith) in_range in omega arith

-- the storage of the rest, from that of all
rest_storage : (size : ℕ) (c : ℕ × ℕ) (cells : List (ℕ × ℕ)) → c.0 < size → IsCellList (c ∷ cells) → storage_of size cells ≡ set (storage_of size (c ∷ cells)) c.0 0
rest_storage size c cells l h =
    let none = absent_is_zero size cells c.0 l (above_apart c cells (rest_above c cells h)) in
    sym (set-set (storage_of size cells) c.0 c.1 0 ∙ ap (λ x. set (storage_of size cells) c.0 x) (sym none) ∙ set-get_or (storage_of size cells) c.0 0)

not_first : (size : ℕ) (c : ℕ × ℕ) (cells ds : List (ℕ × ℕ)) → IsCellList (c ∷ cells) → c.0 < size → All (λ e. e.0 ≢ c.0) ds → storage_of size (c ∷ cells) ≡ storage_of size ds → ⊥
not_first size c cells ds h l apart e =
    All-head (λ cell. cell.1 ≢ 0) c cells h.not_zero (sym (head_is_listed size c cells l) ∙ ap (λ (s : List ℕ). get_or s c.0 0) e ∙ absent_is_zero size ds c.0 l apart)

pub one_list : (size : ℕ) (cs ds : List (ℕ × ℕ)) → IsCellList cs → IsCellList ds → AreWithin size cs → AreWithin size ds → storage_of size cs ≡ storage_of size ds → cs ≡ ds
one_list size [] [] h k w v e = refl
one_list size [] (d ∷ ds) h k w v e =
    absurd (not_first size d ds [] k (All-head (λ cell. cell.0 < size) d ds v) (λ i x l. absurd (omega arith)) (sym e))
one_list size (c ∷ cs) [] h k w v e =
    absurd (not_first size c cs [] h (All-head (λ cell. cell.0 < size) c cs w) (λ i x l. absurd (omega arith)) e)
one_list size (c ∷ cs) (d ∷ ds) h k w v e =
    let lc = All-head (λ cell. cell.0 < size) c cs w in
    let ld = All-head (λ cell. cell.0 < size) d ds v in
    let not_below : ¬ (c.0 < d.0) = λ l. not_first size c cs (d ∷ ds) h lc (before_apart c.0 d ds l k) e in
    let not_above : ¬ (d.0 < c.0) = λ l. not_first size d ds (c ∷ cs) k ld (before_apart d.0 c cs l h) (sym e) in
    let at : c.0 ≡ d.0 = grind (arith, not_below, not_above) in
    let word : c.1 ≡ d.1 =
    sym (head_is_listed size c cs lc) ∙ ap (λ (s : List ℕ). get_or s c.0 0) e ∙ ap (λ n. get_or (storage_of size (d ∷ ds)) n 0) at ∙ head_is_listed size d ds ld in
    let rest : storage_of size cs ≡ storage_of size ds =
    rest_storage size c cs lc h ∙ ap (λ (s : List ℕ). set s c.0 0) e ∙ ap (λ n. set (storage_of size (d ∷ ds)) n 0) at ∙ sym (rest_storage size d ds ld k) in
    let tail = one_list size cs ds (rest_listed c cs h) (rest_listed d ds k) (All-tail (λ cell. cell.0 < size) c cs w) (All-tail (λ cell. cell.0 < size) d ds v) rest in
    λ i. (at i, word i) ∷ tail i

-- ---- a list that is gone through

-- the cells so far are listed, and the least address that may follow is past the last one
pub record ListedSoFar (cells : List (ℕ × ℕ)) (i least : ℕ) : Type 0 where
  pub listed : IsCellList (take i cells)
  pub least_is : (j : ℕ) → j + 1 ≡ i → address_at cells j + 1 ≡ least
  pub begins : i ≡ 0 → least ≡ 0

pub none_so_far : (cells : List (ℕ × ℕ)) → ListedSoFar cells 0 0
none_so_far cells = record {
  listed = record { ascending = λ i j lt l. absurd (omega arith); not_zero = λ i d l. absurd (omega arith) };
  least_is = λ j e. absurd (omega arith);
  begins = λ e. refl;
}

pub one_more_listed : (cells : List (ℕ × ℕ)) (i least next : ℕ) → i < length cells → ListedSoFar cells i least → (get_or cells i (0, 0)).1 ≢ 0 → least ≤ address_at cells i → next ≡ address_at cells i + 1 → ListedSoFar cells (i + 1) next
one_more_listed cells i least next l h n le en =
    let c = get_or cells i (0, 0) in
    let long : length (take i cells) ≡ i = length-take-le i cells (omega arith) in
    let past : IsPastLast (take i cells) c.0 =
    λ j e.
    let same : address_at (take i cells) j ≡ address_at cells j = ap (λ (x : ℕ × ℕ). x.0) (get_or-take i cells j (0, 0) (omega arith)) in
    let last = h.least_is j (omega arith) in
    omega arith in
    record {
      listed = subst IsCellList (sym (take_more cells i (0, 0) l)) (pushed (take i cells) c.0 c.1 h.listed past n);
      least_is = λ j e. let same : j ≡ i = omega arith in ap (λ k. address_at cells k + 1) same ∙ sym en;
      begins = λ e. absurd (omega arith);
    }

pub all_listed : (cells : List (ℕ × ℕ)) (i least : ℕ) → length cells ≤ i → ListedSoFar cells i least → IsCellList cells
all_listed cells i least l h = subst IsCellList (take_all i cells l) h.listed

pub zero_not_listed : (cells : List (ℕ × ℕ)) (i : ℕ) → i < length cells → (get_or cells i (0, 0)).1 ≡ 0 → ¬ (IsCellList cells)
zero_not_listed cells i l e h = h.not_zero i (0, 0) l e

pub low_not_listed : (cells : List (ℕ × ℕ)) (i least : ℕ) → i < length cells → ListedSoFar cells i least → address_at cells i < least → ¬ (IsCellList cells)
low_not_listed cells zero least l h low k = let z = h.begins refl in omega arith
low_not_listed cells (suc i) least l h low k =
    let last = h.least_is i (omega arith) in
    let rise = k.ascending i (suc i) (omega arith) l in
    omega arith
