-- Words that are named, in a window and in the storage around it.
use Rattle.std.proofs.Common.{◌≡◌, ◌≢◌, ◌⊎◌, inl, inr, ℕ, zero, suc, ◌+◌, ◌-◌, ◌<◌, ◌≤◌, ◌^◌, Bool, true, false, cond, List, [], ◌∷◌, ◌++◌, length, get_or, set, take, drop, replicate, refl, sym, ap, subst, ◌∙◌, arith, length-append, length-drop, append_assoc, append-nil}
use Rattle.std.specs.Prelude.{nat_lt}
use Rattle.std.specs.List.{All, filter}
use Rattle.std.specs.List.Sorted.{IsNonDecreasingBy, IsStableByKey, ties}
use Rattle.std.specs.Ordering.{nat_cmp, is_lt}
use Rattle.std.proofs.lemmas.Bool.{cases_lt, cases_eq, cases_order, lt-ltb, le-ltb}
use Rattle.std.proofs.lemmas.Bool.Decides.{nat_tests}
use Rattle.std.proofs.lemmas.Grind.{same_number_lists}
use Rattle.std.proofs.lemmas.List.{length-replicate, length-take, get_or-replicate, get_or_append_left, get_or-append_right, get_or-take, get_or-drop, get_or-set_same, get_or-set_other, get_or_past, get_or_at, set-get_or, drop_more, drop_all}
use Rattle.std.proofs.lemmas.List.Elements.{All-nil, All-cons, All-head, All-tail, All-append, All-replicate, All-set, All-take, All-weaker, All-from_get_or}
use Rattle.std.proofs.lemmas.Nat.{pow_pos}
use Rattle.pg_word.specs.declared.psw.Psw.{Psw}
use Rattle.pg_word.specs.declared.sparse.Sparse.{Sparse}
use Rattle.pg_word.specs.Psw.{window_len_of}
use Rattle.pg_word.specs.Sparse.{address_at, IsPastLast, storage_of}
use Rattle.pg_word.proofs.SparseLemmas.{length-storage_of}
use Rattle.pg_ast.specs.declared.tree.Instr.{Instr}
use Rattle.pg_ast.specs.declared.tree.Desc.{Desc}
use Rattle.pg_lang_meaning.specs.States.{State, window}
use Rattle.pg_type.specs.declared.kind.Kind.{Kind}
use Rattle.pg_type.specs.declared.kind.Kind.TheVariants.{Privileged, Control, ModeDep, Location, Bound, UControl, ULocation, UBound}
use Rattle.pg_type.specs.Listed.{state_of}
use Rattle.pg_type.specs.Pair.{Pair, IsPair, Relates}
use Rattle.pg_type.specs.PairStates.{SharesStorage, IsOf}
use Rattle.pg_type.specs.Placing.{window_of, zeros_around, state_around, listed}

-- ---- a window with zeros around it

length-zeros : (n : ℕ) → length (replicate {A = ℕ} n 0) ≡ n
length-zeros n = length-replicate {A = ℕ} n 0

length-around : (size place : ℕ) (words : List ℕ) → length (zeros_around size place words) ≡ size
length-around size place words =
    omega (arith, length-take size (replicate place 0 ++ words ++ replicate size 0), length-append (replicate place 0 ++ words) (replicate size 0), length-zeros size)

before : (size place : ℕ) (words : List ℕ) (k : ℕ) → k < size → k < place → get_or (zeros_around size place words) k 0 ≡ 0
before size place words k l b =
    let long : length (replicate {A = ℕ} place 0) ≡ place = length-zeros place in
    get_or-take size (replicate place 0 ++ words ++ replicate size 0) k 0 l
    ∙ get_or_append_left (replicate place 0 ++ words) (replicate size 0) 0 k (omega (arith, length-append (replicate place 0) words))
    ∙ get_or_append_left (replicate place 0) words 0 k (omega arith)
    ∙ get_or-replicate place k 0 0 b

within : (size place : ℕ) (words : List ℕ) (k : ℕ) → place + k < size → k < length words → get_or (zeros_around size place words) (place + k) 0 ≡ get_or words k 0
within size place words k l b =
    let long : length (replicate {A = ℕ} place 0) ≡ place = length-zeros place in
    get_or-take size (replicate place 0 ++ words ++ replicate size 0) (place + k) 0 l
    ∙ get_or_append_left (replicate place 0 ++ words) (replicate size 0) 0 (place + k) (omega (arith, length-append (replicate place 0) words))
    ∙ get_or-append_right (replicate place 0) words place (place + k) 0 long (omega arith)
    ∙ ap (λ n. get_or words n 0) (let e : place + k - place ≡ k = omega arith in e)

zero_or_past : (n k : ℕ) → get_or (replicate {A = ℕ} n 0) k 0 ≡ 0
zero_or_past n k = by (cases_lt k n)
  where
    by : (k < n) ⊎ (n ≤ k) → get_or (replicate {A = ℕ} n 0) k 0 ≡ 0
    by (inl l) = get_or-replicate n k 0 0 l
    by (inr l) = get_or_past (replicate n 0) k 0 (omega (arith, length-zeros n))

after : (size place : ℕ) (words : List ℕ) (k : ℕ) → k < size → place + length words ≤ k → get_or (zeros_around size place words) k 0 ≡ 0
after size place words k l b =
    let long : length (replicate {A = ℕ} place 0) ≡ place = length-zeros place in
    let longer : length (replicate place 0 ++ words) ≡ place + length words = omega (arith, length-append (replicate place 0) words) in
    get_or-take size (replicate place 0 ++ words ++ replicate size 0) k 0 l
    ∙ get_or-append_right (replicate place 0 ++ words) (replicate size 0) (place + length words) k 0 longer b
    ∙ zero_or_past size (k - (place + length words))

-- the window of that state is the window
pub around-window : (size : ℕ) (psw : Psw) (words : List ℕ) → length words ≡ window_len_of psw size → window (state_around size psw words) ≡ words
around-window size psw words h =
    let z = zeros_around size psw.l words in
    let long = length-around size psw.l words in
    let v = window_len_of psw (length z) in
    let same : v ≡ length words = sym (h ∙ ap (window_len_of psw) (sym long)) in
    let e : length (take v (drop psw.l z)) ≡ length words = omega (arith, length-take v (drop psw.l z), length-drop psw.l z) in
    same_number_lists (take v (drop psw.l z)) words e (λ k l.
    get_or-take v (drop psw.l z) k 0 (omega arith)
    ∙ get_or-drop psw.l z k 0
    ∙ within size psw.l words k (omega arith) (omega arith))

pub around-words : (size place bound : ℕ) (words : List ℕ) → 0 < bound → All (λ word. word < bound) words → All (λ word. word < bound) (zeros_around size place words)
around-words size place bound words some h =
    All-take (λ word. word < bound) size (replicate place 0 ++ words ++ replicate size 0)
    (All-append (λ word. word < bound) (replicate place 0 ++ words) (replicate size 0)
    (All-append (λ word. word < bound) (replicate place 0) words (All-replicate (λ word. word < bound) place 0 some) h)
    (All-replicate (λ word. word < bound) size 0 some))

-- ---- the states of a pair

around-shared : (d : Desc) (i : Instr) (kind : Kind) (x : Pair) → Relates kind x →
    SharesStorage kind (zeros_around x.first_size x.first.l x.window) (zeros_around x.second_size x.second.l x.window)
around-shared d i kind x h = by kind h
  where
    same : (n m : ℕ) (p q : Psw) → n ≡ m → p.l ≡ q.l → zeros_around n p.l x.window ≡ zeros_around m q.l x.window
    same n m p q e l = ap (λ k. zeros_around k p.l x.window) e ∙ ap (λ k. zeros_around m k x.window) l

    by : (k : Kind) → Relates k x → SharesStorage k (zeros_around x.first_size x.first.l x.window) (zeros_around x.second_size x.second.l x.window)
    by Privileged r = same x.first_size x.second_size x.first x.second r.same_size (sym (ap (λ (p : Psw). p.l) r.same_in_user))
    by Control r = same x.first_size x.second_size x.first x.second r.same_size (sym (ap (λ (p : Psw). p.l) r.same))
    by ModeDep r = same x.first_size x.second_size x.first x.second r.same_size (sym (ap (λ (p : Psw). p.l) r.same_in_user))
    by Location r = tt
    by Bound r = tt
    by UControl r = same x.first_size x.second_size x.first x.second r.0.same_size (sym (ap (λ (p : Psw). p.l) r.0.same))
    by ULocation r = tt
    by UBound r = tt

pub states_around : (d : Desc) (i : Instr) (kind : Kind) (x : Pair) → IsPair d i x → Relates kind x →
    IsOf d kind x (state_around x.first_size x.first x.window) (state_around x.second_size x.second x.window)
states_around d i kind x h r = record {
  first = refl;
  second = refl;
  first_size = length-around x.first_size x.first.l x.window;
  second_size = length-around x.second_size x.second.l x.window;
  first_window = around-window x.first_size x.first x.window h.first_usable;
  second_window = around-window x.second_size x.second x.window h.second_usable;
  first_words = around-words x.first_size x.first.l (2 ^ d.word) x.window (pow_pos d.word) h.words;
  second_words = around-words x.second_size x.second.l (2 ^ d.word) x.window (pow_pos d.word) h.words;
  storage = around-shared d i kind x r;
}

-- ---- what is named, in an order in which equal addresses keep theirs

abbrev first_word : List (ℕ × ℕ) → ℕ
first_word [] = 0
first_word (cell ∷ cells) = cell.1

-- neither of two cells stands at a lower address
abbrev tied : ℕ × ℕ → ℕ × ℕ → Bool
tied = ties (λ x y. is_lt (nat_cmp x.0 y.0))

tied-same : (k a word : ℕ) → a ≡ k → tied (k, 0) (a, word) ≡ true
tied-same k a word e = grind (arith, nat_tests)

tied-other : (k a word : ℕ) → a ≢ k → tied (k, 0) (a, word) ≡ false
tied-other k a word n = grind (arith, nat_tests)

-- the word that counts is the first one at its address
first_counts : (usable : ℕ) (cells : List (ℕ × ℕ)) (k : ℕ) → k < usable →
    get_or (storage_of usable cells) k 0 ≡ first_word (filter (tied (k, 0)) cells)
first_counts usable [] k l = get_or-replicate usable k 0 0 l
first_counts usable (c ∷ cells) k l = by (cases_eq c.0 k) (first_counts usable cells k l)
  where
    by : (c.0 ≡ k) ⊎ (c.0 ≡ k → ⊥) → get_or (storage_of usable cells) k 0 ≡ first_word (filter (tied (k, 0)) cells) →
        get_or (storage_of usable (c ∷ cells)) k 0 ≡ first_word (cond (tied (k, 0) c) (c ∷ filter (tied (k, 0)) cells) (filter (tied (k, 0)) cells))
    by (inl e) rest =
        subst (λ n. get_or (storage_of usable (c ∷ cells)) n 0 ≡ c.1) e
        (get_or-set_same (storage_of usable cells) c.0 c.1 0 (omega (arith, length-storage_of usable cells)))
        ∙ sym (ap (λ b. first_word (cond b (c ∷ filter (tied (k, 0)) cells) (filter (tied (k, 0)) cells))) (tied-same k c.0 c.1 e))
    by (inr n) rest =
        get_or-set_other (storage_of usable cells) c.0 k c.1 0 (λ e. n (sym e))
        ∙ rest
        ∙ sym (ap (λ b. first_word (cond b (c ∷ filter (tied (k, 0)) cells) (filter (tied (k, 0)) cells))) (tied-other k c.0 c.1 n))

-- so a stable order leaves the window
pub window-stable : (usable : ℕ) (xs ys : List (ℕ × ℕ)) → IsStableByKey (λ cell. cell.0) nat_cmp xs ys → window_of ys usable ≡ window_of xs usable
window-stable usable xs ys h =
    same_number_lists (storage_of usable ys) (storage_of usable xs) (length-storage_of usable ys ∙ sym (length-storage_of usable xs)) (λ k l.
    let b : k < usable = omega (arith, length-storage_of usable ys) in
    first_counts usable ys k b ∙ ap first_word (h (k, 0)) ∙ sym (first_counts usable xs k b))

pub window-words : (usable bound : ℕ) (cells : List (ℕ × ℕ)) → 0 < bound → All (λ cell. cell.1 < bound) cells → All (λ word. word < bound) (window_of cells usable)
window-words usable bound [] some h = All-replicate (λ word. word < bound) usable 0 some
window-words usable bound (c ∷ cells) some h =
    All-set (λ word. word < bound) (storage_of usable cells) c.0 c.1 (All-head (λ cell. cell.1 < bound) c cells h)
    (window-words usable bound cells some (All-tail (λ cell. cell.1 < bound) c cells h))

-- ---- what is pushed of cells that ascend

-- what is pushed from a least address on, of a window at a place
pub kept : (place usable least : ℕ) → List (ℕ × ℕ) → List (ℕ × ℕ)
kept place usable least [] = []
kept place usable least (c ∷ cells) =
    cond (nat_lt c.0 least) (kept place usable least cells)
    (cond (nat_lt c.0 usable) (listed (place + c.0) c.1 ++ kept place usable (c.0 + 1) cells) (kept place usable least cells))

module _ (place usable : ℕ) where
  kept-none : (least : ℕ) → kept place usable least [] ≡ []
  unfolding kept
  kept-none least = refl

  kept-low : (least : ℕ) (c : ℕ × ℕ) (cells : List (ℕ × ℕ)) → c.0 < least → kept place usable least (c ∷ cells) ≡ kept place usable least cells
  unfolding kept
  kept-low least c cells l =
      ap (λ b. cond b (kept place usable least cells) (cond (nat_lt c.0 usable) (listed (place + c.0) c.1 ++ kept place usable (c.0 + 1) cells) (kept place usable least cells)))
      (lt-ltb c.0 least l)

  kept-past : (least : ℕ) (c : ℕ × ℕ) (cells : List (ℕ × ℕ)) → usable ≤ c.0 → kept place usable least (c ∷ cells) ≡ kept place usable least cells
  unfolding kept
  kept-past least c cells l = by (nat_lt c.0 least)
    where
      inner : cond (nat_lt c.0 usable) (listed (place + c.0) c.1 ++ kept place usable (c.0 + 1) cells) (kept place usable least cells) ≡ kept place usable least cells
      inner = ap (λ b. cond b (listed (place + c.0) c.1 ++ kept place usable (c.0 + 1) cells) (kept place usable least cells)) (le-ltb c.0 usable l)

      by : (b : Bool) → cond b (kept place usable least cells) (cond (nat_lt c.0 usable) (listed (place + c.0) c.1 ++ kept place usable (c.0 + 1) cells) (kept place usable least cells)) ≡ kept place usable least cells
      by true = refl
      by false = inner

  kept-new : (least : ℕ) (c : ℕ × ℕ) (cells : List (ℕ × ℕ)) → least ≤ c.0 → c.0 < usable →
      kept place usable least (c ∷ cells) ≡ listed (place + c.0) c.1 ++ kept place usable (c.0 + 1) cells
  unfolding kept
  kept-new least c cells l b =
      ap (λ t. cond t (kept place usable least cells) (cond (nat_lt c.0 usable) (listed (place + c.0) c.1 ++ kept place usable (c.0 + 1) cells) (kept place usable least cells))) (le-ltb c.0 least l)
      ∙ ap (λ t. cond t (listed (place + c.0) c.1 ++ kept place usable (c.0 + 1) cells) (kept place usable least cells)) (lt-ltb c.0 usable b)

  -- an address at which a word may be pushed
  abbrev IsBetween : ℕ → ℕ × ℕ → Type 0
  IsBetween least cell = (place + least ≤ cell.0) × (cell.0 < place + usable)

  listed-between : (least a word : ℕ) → least ≤ a → a < usable → All (IsBetween least) (listed (place + a) word)
  listed-between least a zero l b = All-nil (IsBetween least)
  listed-between least a (suc word) l b = All-cons (IsBetween least) (place + a, suc word) [] (omega arith, omega arith) (All-nil (IsBetween least))

  kept-between : (least : ℕ) (cells : List (ℕ × ℕ)) → All (IsBetween least) (kept place usable least cells)
  kept-between least [] = subst (All (IsBetween least)) (sym (kept-none least)) (All-nil (IsBetween least))
  kept-between least (c ∷ cells) = by (cases_lt c.0 least) (cases_lt c.0 usable) (kept-between least cells) (kept-between (c.0 + 1) cells)
    where
      by : (c.0 < least) ⊎ (least ≤ c.0) → (c.0 < usable) ⊎ (usable ≤ c.0) → All (IsBetween least) (kept place usable least cells) →
          All (IsBetween (c.0 + 1)) (kept place usable (c.0 + 1) cells) → All (IsBetween least) (kept place usable least (c ∷ cells))
      by (inl low) other old next = subst (All (IsBetween least)) (sym (kept-low least c cells low)) old
      by (inr high) (inr past) old next = subst (All (IsBetween least)) (sym (kept-past least c cells past)) old
      by (inr high) (inl new) old next =
          subst (All (IsBetween least)) (sym (kept-new least c cells high new))
          (All-append (IsBetween least) (listed (place + c.0) c.1) (kept place usable (c.0 + 1) cells) (listed-between least c.0 c.1 high new)
          (All-weaker (IsBetween (c.0 + 1)) (IsBetween least) (λ cell h. (omega (arith, h.0), h.1)) (kept place usable (c.0 + 1) cells) next))

-- an address that is not listed holds zero
absent : (size : ℕ) (cells : List (ℕ × ℕ)) (at : ℕ) → All (λ cell. cell.0 ≢ at) cells → get_or (storage_of size cells) at 0 ≡ 0
absent size [] at none = zero_or_past size at
absent size (c ∷ cells) at none =
    get_or-set_other (storage_of size cells) c.0 at c.1 0 (λ e. All-head (λ cell. cell.0 ≢ at) c cells none (sym e))
    ∙ absent size cells at (All-tail (λ cell. cell.0 ≢ at) c cells none)

-- a word that is zero is not listed, and stands all the same where no other is listed
listed-storage : (size at word : ℕ) (cells : List (ℕ × ℕ)) → get_or (storage_of size cells) at 0 ≡ 0 → storage_of size (listed at word ++ cells) ≡ set (storage_of size cells) at word
listed-storage size at zero cells e = sym (ap (set (storage_of size cells) at) (sym e) ∙ set-get_or (storage_of size cells) at 0)
listed-storage size at (suc word) cells e = refl

abbrev Ascends : List (ℕ × ℕ) → Type 0
Ascends = IsNonDecreasingBy (λ cell. cell.0)

rest-ascends : (c : ℕ × ℕ) (cells : List (ℕ × ℕ)) → Ascends (c ∷ cells) → Ascends cells
rest-ascends c cells h = λ i j d le lt. h (suc i) (suc j) d (omega arith) (omega arith)

rest-above : (c : ℕ × ℕ) (cells : List (ℕ × ℕ)) → Ascends (c ∷ cells) → All (λ cell. c.0 ≤ cell.0) cells
rest-above c cells h = All-from_get_or (λ cell. c.0 ≤ cell.0) cells (0, 0) (λ i l. h 0 (suc i) (0, 0) (omega arith) (omega arith))

module _ (size place usable : ℕ) (fits : (k : ℕ) → k < usable → place + k < size) where
  -- where none is pushed
  kept-apart : (least : ℕ) (cells : List (ℕ × ℕ)) (at : ℕ) → (at < place + least) ⊎ (place + usable ≤ at) → get_or (storage_of size (kept place usable least cells)) at 0 ≡ 0
  kept-apart least cells at apart =
      absent size (kept place usable least cells) at
      (All-weaker (IsBetween place usable least) (λ cell. cell.0 ≢ at) (λ cell h e. by cell h e apart) (kept place usable least cells) (kept-between place usable least cells))
    where
      by : (cell : ℕ × ℕ) → IsBetween place usable least cell → cell.0 ≡ at → (at < place + least) ⊎ (place + usable ≤ at) → ⊥
      by cell h e (inl low) = omega (arith, h.0)
      by cell h e (inr past) = omega (arith, h.1)

  -- the window stands at its place
  kept-storage : (least : ℕ) (cells : List (ℕ × ℕ)) (k : ℕ) → Ascends cells → least ≤ k → k < usable →
      get_or (storage_of size (kept place usable least cells)) (place + k) 0 ≡ get_or (storage_of usable cells) k 0
  kept-storage least [] k up l b =
      ap (λ xs. get_or (storage_of size xs) (place + k) 0) (kept-none place usable least)
      ∙ zero_or_past size (place + k) ∙ sym (zero_or_past usable k)
  kept-storage least (c ∷ cells) k up l b =
      by (cases_lt c.0 least) (cases_lt c.0 usable) (kept-storage least cells k (rest-ascends c cells up) l b)
      (λ high. kept-storage (c.0 + 1) cells k (rest-ascends c cells up) high b)
    where
      skips : c.0 ≢ k → kept place usable least (c ∷ cells) ≡ kept place usable least cells →
          get_or (storage_of size (kept place usable least cells)) (place + k) 0 ≡ get_or (storage_of usable cells) k 0 →
          get_or (storage_of size (kept place usable least (c ∷ cells))) (place + k) 0 ≡ get_or (storage_of usable (c ∷ cells)) k 0
      skips n e old =
          ap (λ xs. get_or (storage_of size xs) (place + k) 0) e
          ∙ old
          ∙ sym (get_or-set_other (storage_of usable cells) c.0 k c.1 0 (λ same. n (sym same)))

      new_at : c.0 < usable → (k ≡ c.0) ⊎ ((k < c.0) ⊎ (c.0 < k)) →
          (c.0 + 1 ≤ k → get_or (storage_of size (kept place usable (c.0 + 1) cells)) (place + k) 0 ≡ get_or (storage_of usable cells) k 0) →
          get_or (set (storage_of size (kept place usable (c.0 + 1) cells)) (place + c.0) c.1) (place + k) 0 ≡ get_or (storage_of usable (c ∷ cells)) k 0
      new_at new (inl e) next =
          let in_size = fits c.0 new in
          ap (λ n. get_or (set (storage_of size (kept place usable (c.0 + 1) cells)) (place + c.0) c.1) (place + n) 0) e
          ∙ get_or-set_same (storage_of size (kept place usable (c.0 + 1) cells)) (place + c.0) c.1 0 (omega (arith, in_size, length-storage_of size (kept place usable (c.0 + 1) cells)))
          ∙ sym (get_or-set_same (storage_of usable cells) c.0 c.1 0 (omega (arith, length-storage_of usable cells)))
          ∙ sym (ap (λ n. get_or (storage_of usable (c ∷ cells)) n 0) e)
      new_at new (inr (inl below)) next =
          get_or-set_other (storage_of size (kept place usable (c.0 + 1) cells)) (place + c.0) (place + k) c.1 0 (λ e. omega arith)
          ∙ kept-apart (c.0 + 1) cells (place + k) (inl (omega arith))
          ∙ sym (absent usable cells k (All-weaker (λ cell. c.0 ≤ cell.0) (λ cell. cell.0 ≢ k) (λ cell le e. omega arith) cells (rest-above c cells up)))
          ∙ sym (get_or-set_other (storage_of usable cells) c.0 k c.1 0 (λ e. omega arith))
      new_at new (inr (inr above)) next =
          get_or-set_other (storage_of size (kept place usable (c.0 + 1) cells)) (place + c.0) (place + k) c.1 0 (λ e. omega arith)
          ∙ next (omega arith)
          ∙ sym (get_or-set_other (storage_of usable cells) c.0 k c.1 0 (λ e. omega arith))

      by : (c.0 < least) ⊎ (least ≤ c.0) → (c.0 < usable) ⊎ (usable ≤ c.0) →
          get_or (storage_of size (kept place usable least cells)) (place + k) 0 ≡ get_or (storage_of usable cells) k 0 →
          (c.0 + 1 ≤ k → get_or (storage_of size (kept place usable (c.0 + 1) cells)) (place + k) 0 ≡ get_or (storage_of usable cells) k 0) →
          get_or (storage_of size (kept place usable least (c ∷ cells))) (place + k) 0 ≡ get_or (storage_of usable (c ∷ cells)) k 0
      by (inl low) other old next = skips (λ e. omega arith) (kept-low place usable least c cells low) old
      by (inr high) (inr past) old next = skips (λ e. omega arith) (kept-past place usable least c cells past) old
      by (inr high) (inl new) old next =
          ap (λ xs. get_or (storage_of size xs) (place + k) 0) (kept-new place usable least c cells high new)
          ∙ ap (λ xs. get_or xs (place + k) 0) (listed-storage size (place + c.0) c.1 (kept place usable (c.0 + 1) cells) (kept-apart (c.0 + 1) cells (place + c.0) (inl (omega arith))))
          ∙ new_at new (cases_order k c.0) next

  kept-around : (cells : List (ℕ × ℕ)) → Ascends cells → storage_of size (kept place usable 0 cells) ≡ zeros_around size place (window_of cells usable)
  kept-around cells up =
      same_number_lists (storage_of size (kept place usable 0 cells)) (zeros_around size place (window_of cells usable))
      (length-storage_of size (kept place usable 0 cells) ∙ sym (length-around size place (window_of cells usable)))
      (λ k l. by k (omega (arith, length-storage_of size (kept place usable 0 cells))) (cases_lt k place) (cases_lt k (place + usable)))
    where
      by : (k : ℕ) → k < size → (k < place) ⊎ (place ≤ k) → (k < place + usable) ⊎ (place + usable ≤ k) →
          get_or (storage_of size (kept place usable 0 cells)) k 0 ≡ get_or (zeros_around size place (window_of cells usable)) k 0
      by k l (inl low) other = kept-apart 0 cells k (inl (omega arith)) ∙ sym (before size place (window_of cells usable) k l low)
      by k l (inr high) (inr past) =
          kept-apart 0 cells k (inr past) ∙ sym (after size place (window_of cells usable) k l (omega (arith, length-storage_of usable cells)))
      by k l (inr high) (inl inside) =
          let e : place + (k - place) ≡ k = omega arith in
          subst (λ n. get_or (storage_of size (kept place usable 0 cells)) n 0 ≡ get_or (zeros_around size place (window_of cells usable)) n 0) e
          (kept-storage 0 cells (k - place) up (omega arith) (omega arith)
          ∙ sym (within size place (window_of cells usable) (k - place) (omega arith) (omega (arith, length-storage_of usable cells))))

-- ---- the loop

-- the cells up to i are pushed, and the next address is at least so much
pub record Pushed (place usable : ℕ) (cells : List (ℕ × ℕ)) (i least : ℕ) (pushed : List (ℕ × ℕ)) : Type 0 where
  pub rest : pushed ++ kept place usable least (drop i cells) ≡ kept place usable 0 cells
  pub past : IsPastLast pushed (place + least)

pub pushed-none : (place usable : ℕ) (cells pushed : List (ℕ × ℕ)) → pushed ≡ [] → Pushed place usable cells 0 0 pushed
pushed-none place usable cells pushed e = record {
  rest = ap (λ xs. xs ++ kept place usable 0 cells) e;
  past = λ i last. absurd (omega (arith, ap length e));
}

-- a cell that is left out
pub pushed-old : (place usable : ℕ) (cells : List (ℕ × ℕ)) (i least : ℕ) (pushed : List (ℕ × ℕ)) → i < length cells →
    Pushed place usable cells i least pushed → (address_at cells i < least) ⊎ (usable ≤ address_at cells i) → Pushed place usable cells (i + 1) least pushed
pushed-old place usable cells i least pushed l h out = record { rest = by out; past = h.past }
  where
    c : ℕ × ℕ
    c = get_or cells i (0, 0)

    with_next : kept place usable least (get_or cells i (0, 0) ∷ drop (i + 1) cells) ≡ kept place usable least (drop (i + 1) cells) →
        pushed ++ kept place usable least (drop (i + 1) cells) ≡ kept place usable 0 cells
    with_next e = sym (ap (λ xs. pushed ++ xs) (ap (kept place usable least) (drop_more cells i (0, 0) l) ∙ e)) ∙ h.rest

    by : (address_at cells i < least) ⊎ (usable ≤ address_at cells i) → pushed ++ kept place usable least (drop (i + 1) cells) ≡ kept place usable 0 cells
    by (inl low) = with_next (kept-low place usable least (get_or cells i (0, 0)) (drop (i + 1) cells) low)
    by (inr past) = with_next (kept-past place usable least (get_or cells i (0, 0)) (drop (i + 1) cells) past)

past-listed : (cells : List (ℕ × ℕ)) (least at word : ℕ) → IsPastLast cells least → least ≤ at → IsPastLast (cells ++ listed at word) (at + 1)
past-listed cells least at zero h l = λ i e.
    let same : cells ++ [] ≡ cells = append-nil cells in
    let last : i + 1 ≡ length cells = e ∙ ap length same in
    let low = h i last in
    omega (arith, ap (λ xs. address_at xs i) same)
past-listed cells least at (suc word) h l = λ i e.
    let last : length cells ≡ i = omega (arith, length-append cells ((at, suc word) ∷ [])) in
    omega (arith, ap (λ (c : ℕ × ℕ). c.0) (get_or_at cells (at, suc word) [] (0, 0) i last))

-- a cell that is pushed, unless its word is zero
pub pushed-new : (place usable : ℕ) (cells : List (ℕ × ℕ)) (i least at next : ℕ) (pushed now : List (ℕ × ℕ)) → i < length cells →
    Pushed place usable cells i least pushed → least ≤ address_at cells i → address_at cells i < usable → at ≡ place + address_at cells i → next ≡ address_at cells i + 1 →
    now ≡ pushed ++ listed at (get_or cells i (0, 0)).1 → Pushed place usable cells (i + 1) next now
pushed-new place usable cells i least at next pushed now l h high new at_is next_is e =
    subst (λ n. Pushed place usable cells (i + 1) n now) (sym next_is)
    (go (e ∙ ap (λ n. pushed ++ listed n (get_or cells i (0, 0)).1) at_is))
  where
    go : now ≡ pushed ++ listed (place + address_at cells i) (get_or cells i (0, 0)).1 → Pushed place usable cells (i + 1) (address_at cells i + 1) now
    go e = record {
      rest =
          ap (λ xs. xs ++ kept place usable (address_at cells i + 1) (drop (i + 1) cells)) e
          ∙ append_assoc pushed (listed (place + address_at cells i) (get_or cells i (0, 0)).1) (kept place usable (address_at cells i + 1) (drop (i + 1) cells))
          ∙ sym (ap (λ xs. pushed ++ xs) (ap (kept place usable least) (drop_more cells i (0, 0) l) ∙ kept-new place usable least (get_or cells i (0, 0)) (drop (i + 1) cells) high new))
          ∙ h.rest;
      past = subst (λ xs. IsPastLast xs (place + (address_at cells i + 1))) (sym e)
          (let same : place + address_at cells i + 1 ≡ place + (address_at cells i + 1) = omega arith in
          subst (IsPastLast (pushed ++ listed (place + address_at cells i) (get_or cells i (0, 0)).1)) same
          (past-listed pushed (place + least) (place + address_at cells i) (get_or cells i (0, 0)).1 h.past (omega arith)));
    }

-- all of them are
pub pushed-all : (size place usable : ℕ) (cells : List (ℕ × ℕ)) (i least : ℕ) (pushed : List (ℕ × ℕ)) → ((k : ℕ) → k < usable → place + k < size) →
    Ascends cells → length cells ≤ i → Pushed place usable cells i least pushed → storage_of size pushed ≡ zeros_around size place (window_of cells usable)
pushed-all size place usable cells i least pushed fits up l h =
    let none : kept place usable least (drop i cells) ≡ [] = ap (kept place usable least) (drop_all i cells l) ∙ kept-none place usable least in
    let all : pushed ≡ kept place usable 0 cells = sym (append-nil pushed) ∙ sym (ap (λ xs. pushed ++ xs) none) ∙ h.rest in
    ap (storage_of size) all ∙ kept-around size place usable fits cells up

-- ---- the state of an answer

pub stable-slice : (cells ordered slice : List (ℕ × ℕ)) → slice ≡ ordered → IsStableByKey (λ cell. cell.0) nat_cmp cells ordered → IsStableByKey (λ cell. cell.0) nat_cmp cells slice
stable-slice cells ordered slice e h = subst (λ xs. IsStableByKey (λ cell. cell.0) nat_cmp cells xs) (sym e) h

-- what is made of the words in order is the state of the words as they are named
module _ (cells ordered : List (ℕ × ℕ)) (usable size : ℕ) (psw : Psw) (fits : usable ≡ window_len_of psw size) (same : IsStableByKey (λ cell. cell.0) nat_cmp cells ordered) where
  pub placed-state : (s : Sparse) → storage_of s.size s.cells ≡ zeros_around size psw.l (window_of ordered usable) → s.psw ≡ psw →
      state_of s ≡ state_around size psw (window_of cells usable)
  placed-state s storage p =
      let e = storage ∙ ap (zeros_around size psw.l) (window-stable usable cells ordered same) in
      λ k. record { cells = e k; psw = p k }

  pub placed-window : (s : Sparse) → storage_of s.size s.cells ≡ zeros_around size psw.l (window_of ordered usable) → s.psw ≡ psw →
      window (state_of s) ≡ window_of cells usable
  placed-window s storage p =
      ap window (placed-state s storage p) ∙ around-window size psw (window_of cells usable) (length-storage_of usable cells ∙ fits)

  pub placed-words : (w : ℕ) → All (λ cell. cell.1 < 2 ^ w) cells → (s : Sparse) → storage_of s.size s.cells ≡ zeros_around size psw.l (window_of ordered usable) →
      s.psw ≡ psw → All (λ word. word < 2 ^ w) (storage_of s.size s.cells)
  placed-words w small s storage p =
      subst (All (λ word. word < 2 ^ w)) (sym (ap (λ (t : State). t.cells) (placed-state s storage p)))
      (around-words size psw.l (2 ^ w) (window_of cells usable) (pow_pos w) (window-words usable (2 ^ w) cells (pow_pos w) small))
