-- The rows of a storage of which few cells are not zero.
use Rattle.std.proofs.Common.{◌≡◌, ◌≢◌, ℕ, zero, suc, ◌+◌, ◌-◌, ◌*◌, ◌<◌, ◌≤◌, ◌^◌, min, ◌⊎◌, inl, inr, Bool, true, false, cond, List, [], ◌∷◌, ◌++◌, length, get_or, set, take, drop, replicate, All, refl, sym, ap, subst, ◌∙◌, arith, add-zero, add-suc, drop-cons, pow_pos}
use Rattle.std.specs.Prelude.{◌==◌, nat_lt}
use Rattle.std.specs.List.{list_all, prefix_len}
use Rattle.std.proofs.Math.Seq.{take-set-lt}
use Rattle.std.proofs.Math.Nat.{eq-or-lt_of_le}
use Rattle.std.proofs.lemmas.Bool.{ltb-true, cases_lt}
use Rattle.std.proofs.lemmas.Bool.Decides.{nat_tests}
use Rattle.std.proofs.lemmas.List.{append-nil, take-append-drop, take-replicate, drop-replicate, take-set-le, drop-set-lt, drop-set-add, length-take, length-drop, length-set, length-replicate, get_or-set_same, get_or-drop, get_or-take, drop_all, take_all}
use Rattle.std.proofs.lemmas.List.Sums.{list_all-from_AllPass, prefix_len_passes, prefix_len_stops, prefix_len-le-length}
use Rattle.std.proofs.lemmas.List.Folds.{list_all_at}
use Rattle.std.proofs.lemmas.List.Elements.{All-head, All-tail, All-from_get_or, All-weaker, All-take, All-drop, All-set, All-replicate}
use Rattle.pg_word.specs.Sparse.{address_at, IsCellList, AreWithin, storage_of}
use Rattle.pg_word.proofs.SparseLemmas.{length-storage_of}
use Rattle.pg_image.specs.Lines.{line_cells, line_words, line_count}
use Rattle.pg_cert.specs.declared.line.Line.{Line}
use Rattle.pg_cert.specs.declared.line.Line.TheVariants.{Cells}
use Rattle.pg_cert.specs.Texts.{row_lines, rows_before, rows_of, AreInRow}

-- the words of a storage from a cell on, as many as a row has
abbrev pub window : ℕ → List ℕ → List ℕ
window first cells = take line_cells (drop first cells)

-- how many they are
abbrev pub room : ℕ → ℕ → ℕ
room size first = min (size - first) line_cells

abbrev pub all_zero : List ℕ → Bool
all_zero words = list_all (λ word. word == 0) words

-- ---- one word put

window_before : (first : ℕ) (cells : List ℕ) (a v : ℕ) → a < first → window first (set cells a v) ≡ window first cells
window_before first cells a v l = ap (take line_cells) (drop-set-lt first cells a v l)

window_behind : (first : ℕ) (cells : List ℕ) (a v : ℕ) → first + line_cells ≤ a → window first (set cells a v) ≡ window first cells
window_behind first cells a v l =
    let at : a ≡ first + (a - first) = omega arith in
    ap (λ i. window first (set cells i v)) at ∙ ap (take line_cells) (drop-set-add first cells (a - first) v) ∙ take-set-le line_cells (drop first cells) (a - first) v (omega arith)

window_in : (first : ℕ) (cells : List ℕ) (a v : ℕ) → first ≤ a → a < first + line_cells → window first (set cells a v) ≡ set (window first cells) (a - first) v
window_in first cells a v l h =
    let at : a ≡ first + (a - first) = omega arith in
    ap (λ i. window first (set cells i v)) at ∙ ap (take line_cells) (drop-set-add first cells (a - first) v) ∙ take-set-lt line_cells (drop first cells) (a - first) v (omega arith)

-- ---- the words of a row, written from its last cell on

pub row_begun : (size first : ℕ) (row : List ℕ) (cells : List (ℕ × ℕ)) (i : ℕ) → row ≡ replicate line_cells 0 → length cells ≤ i → take (room size first) row ≡ window first (storage_of size (drop i cells))
row_begun size first row cells i e l =
    let lower : room size first ≤ line_cells = omega arith in
    ap (take (room size first)) e ∙ take-replicate {X = ℕ} (room size first) line_cells 0 lower
    ∙ sym (ap (λ cs. window first (storage_of size cs)) (drop_all i cells l) ∙ ap (take line_cells) (drop-replicate {X = ℕ} first size 0) ∙ taken (size - first))
  where
    by : (n : ℕ) → (n < line_cells) ⊎ (line_cells ≤ n) → take line_cells (replicate {A = ℕ} n 0) ≡ replicate (min n line_cells) 0
    by n (inl l) =
        let least : n ≡ min n line_cells = omega arith in
        take_all line_cells (replicate {A = ℕ} n 0) (omega (arith, length-replicate {A = ℕ} n 0)) ∙ ap (λ k. replicate {A = ℕ} k 0) least
    by n (inr l) =
        let least : line_cells ≡ min n line_cells = omega arith in
        take-replicate {X = ℕ} line_cells n 0 l ∙ ap (λ k. replicate {A = ℕ} k 0) least

    taken : (n : ℕ) → take line_cells (replicate {A = ℕ} n 0) ≡ replicate (min n line_cells) 0
    taken n = by n (cases_lt n line_cells)

pub row_written : (size first : ℕ) (row next : List ℕ) (cells : List (ℕ × ℕ)) (i : ℕ) (cell : ℕ × ℕ) → i < length cells → cell ≡ get_or cells i (0, 0) → AreInRow size first cells →
    next ≡ set row (cell.0 - first) cell.1 → take (room size first) row ≡ window first (storage_of size (drop (i + 1) cells)) → take (room size first) next ≡ window first (storage_of size (drop i cells))
row_written size first row next cells i cell l e in_row n h =
    let one = in_row i (0, 0) l in
    let lower : first ≤ cell.0 = subst (λ c. first ≤ c.0) (sym e) one.0 in
    let upper : cell.0 < first + line_cells = subst (λ c. c.0 < first + line_cells) (sym e) one.1 in
    let inside : cell.0 < size = subst (λ c. c.0 < size) (sym e) one.2 in
    let step : suc i ≡ i + 1 = omega arith in
    let split : drop i cells ≡ cell ∷ drop (i + 1) cells = drop-cons cells i (0, 0) l ∙ ap (λ (c : ℕ × ℕ). c ∷ drop (suc i) cells) (sym e) ∙ ap (λ k. cell ∷ drop k cells) step in
    let rest : List ℕ = storage_of size (drop (i + 1) cells) in
    ap (take (room size first)) n ∙ take-set-lt (room size first) row (cell.0 - first) cell.1 (omega arith)
    ∙ ap (λ ws. set ws (cell.0 - first) cell.1) h ∙ sym (window_in first rest cell.0 cell.1 lower upper)
    ∙ sym (ap (λ cs. window first (storage_of size cs)) split)

-- ---- storages of which some cells are known

-- whether a cell is in a row
abbrev IsElsewhere : ℕ → (ℕ × ℕ) → Type 0
IsElsewhere first cell = (cell.0 < first) ⊎ (first + line_cells ≤ cell.0)

abbrev IsHere : ℕ → (ℕ × ℕ) → Type 0
IsHere first cell = (first ≤ cell.0) × (cell.0 < first + line_cells)

module _ (size first : ℕ) where
  window_elsewhere : (cells rest : List (ℕ × ℕ)) → All (IsElsewhere first) cells → window first (storage_of size (cells ++ rest)) ≡ window first (storage_of size rest)
  window_elsewhere [] rest h = refl
  window_elsewhere (c ∷ cs) rest h =
      by (All-head (IsElsewhere first) c cs h) ∙ window_elsewhere cs rest (All-tail (IsElsewhere first) c cs h)
    where
      by : IsElsewhere first c → window first (set (storage_of size (cs ++ rest)) c.0 c.1) ≡ window first (storage_of size (cs ++ rest))
      by (inl l) = window_before first (storage_of size (cs ++ rest)) c.0 c.1 l
      by (inr l) = window_behind first (storage_of size (cs ++ rest)) c.0 c.1 l

  window_here : (cells rest : List (ℕ × ℕ)) → All (IsHere first) cells → All (IsElsewhere first) rest → window first (storage_of size (cells ++ rest)) ≡ window first (storage_of size cells)
  window_here [] rest h e = ap (λ cs. window first (storage_of size cs)) (sym (append-nil rest)) ∙ window_elsewhere rest [] e
  window_here (c ∷ cs) rest h e =
      let one = All-head (IsHere first) c cs h in
      window_in first (storage_of size (cs ++ rest)) c.0 c.1 one.0 one.1
      ∙ ap (λ ws. set ws (c.0 - first) c.1) (window_here cs rest (All-tail (IsHere first) c cs h) e)
      ∙ sym (window_in first (storage_of size cs) c.0 c.1 one.0 one.1)

  zero_window : (cells : List (ℕ × ℕ)) → All (IsElsewhere first) cells → all_zero (window first (storage_of size cells)) ≡ true
  zero_window cells h =
      ap (λ cs. all_zero (window first (storage_of size cs))) (sym (append-nil cells)) ∙ ap all_zero (window_elsewhere cells [] h)
      ∙ list_all-from_AllPass (λ word. word == 0) (window first (replicate size 0)) (All-take (λ (x : ℕ). (x == 0) ≡ true) line_cells (drop first (replicate size 0)) (All-drop (λ (x : ℕ). (x == 0) ≡ true) first (replicate size 0) (All-replicate (λ (x : ℕ). (x == 0) ≡ true) size 0 refl)))

  some_window : (c : ℕ × ℕ) (cs : List (ℕ × ℕ)) → IsHere first c → c.0 < size → c.1 ≢ 0 → all_zero (window first (storage_of size (c ∷ cs))) ≡ false
  some_window c cs here l n =
      let ws : List ℕ = window first (storage_of size cs) in
      let len : length ws ≡ min line_cells (size - first) = length-take line_cells (drop first (storage_of size cs)) ∙ ap (min line_cells) (length-drop first (storage_of size cs) ∙ ap (λ k. k - first) (length-storage_of size cs)) in
      let in_range : c.0 - first < length ws = omega arith in
      let set_len : length (set ws (c.0 - first) c.1) ≡ length ws = length-set ws (c.0 - first) c.1 in
      let word : get_or (set ws (c.0 - first) c.1) (c.0 - first) 0 ≡ c.1 = get_or-set_same ws (c.0 - first) c.1 0 in_range in
      ap all_zero (window_in first (storage_of size cs) c.0 c.1 here.0 here.1)
      ∙ list_all_at (λ word. word == 0) (set ws (c.0 - first) c.1) (c.0 - first) 0 (omega arith) (ap (λ x. x == 0) word ∙ other c.1 n)
    where
      other : (x : ℕ) → x ≢ 0 → (x == 0) ≡ false
      other x h = grind (arith, nat_tests)

-- ---- rows that are shown

rows_none : (k : ℕ) (cells : List ℕ) → ((m : ℕ) → m < k → all_zero (line_words m cells) ≡ true) → rows_before k cells ≡ []
unfolding rows_before
rows_none zero cells h = refl
rows_none (suc k) cells h =
    ap (λ ls. ls ++ row_lines (line_cells * k) (line_words k cells)) (rows_none k cells (λ m l. h m (omega arith)))
    ∙ ap (λ b. cond b [] (Cells (line_cells * k) (line_words k cells) ∷ [])) (h k (omega arith))

module _ (k : ℕ) (cells rest : List ℕ) (none : (m : ℕ) → m < k → all_zero (line_words m cells) ≡ true) (none_left : (m : ℕ) → m < suc k → all_zero (line_words m rest) ≡ true)
    (some : all_zero (line_words k cells) ≡ false) (same : (m : ℕ) → k < m → line_words m cells ≡ line_words m rest) where
  rows_first : (j : ℕ) → rows_before (suc (k + j)) cells ≡ Cells (line_cells * k) (line_words k cells) ∷ rows_before (suc (k + j)) rest
  unfolding rows_before
  rows_first zero =
      let row : Line = Cells (line_cells * k) (line_words k cells) in
      ap (λ n. rows_before (suc n) cells) (add-zero k)
      ∙ ap (λ ls. ls ++ row_lines (line_cells * k) (line_words k cells)) (rows_none k cells none)
      ∙ ap (λ b. cond b [] (row ∷ [])) some
      ∙ ap (λ ls. row ∷ ls) (sym (ap (λ n. rows_before (suc n) rest) (add-zero k) ∙ rows_none (suc k) rest none_left))
  rows_first (suc j) =
      let n : ℕ = suc (k + j) in
      let row : Line = Cells (line_cells * k) (line_words k cells) in
      ap (λ n. rows_before (suc n) cells) (add-suc k j)
      ∙ ap (λ ls. ls ++ row_lines (line_cells * n) (line_words n cells)) (rows_first j)
      ∙ ap (λ ws. (row ∷ rows_before n rest) ++ row_lines (line_cells * n) ws) (same n (omega arith))
      ∙ ap (λ n. row ∷ rows_before (suc n) rest) (sym (add-suc k j))

-- ---- the first row of listed cells

abbrev is_before : ℕ → (ℕ × ℕ) → Bool
is_before end cell = nat_lt cell.0 end

not_before : (a b : ℕ) → nat_lt a b ≡ false → b ≤ a
not_before a b h = grind (arith, nat_tests)

before : (a b : ℕ) → a < b → nat_lt a b ≡ true
before a b h = grind (arith, nat_tests)

pub some_before : (end : ℕ) (cells : List (ℕ × ℕ)) → 1 ≤ length cells → address_at cells 0 < end → 1 ≤ prefix_len (λ cell. nat_lt cell.0 end) cells
some_before end [] l h = absurd (omega arith)
some_before end (c ∷ cs) l h =
    let rest : ℕ = prefix_len (λ cell. nat_lt cell.0 end) cs in
    let is : prefix_len (λ cell. nat_lt cell.0 end) (c ∷ cs) ≡ 1 + rest = ap (λ b. cond b (1 + rest) 0) (before c.0 end h) in
    omega (arith, is)

some_row : (size first : ℕ) (cells : List (ℕ × ℕ)) → 1 ≤ length cells → first ≤ address_at cells 0 → address_at cells 0 < first + line_cells → AreWithin size cells → All (λ cell. cell.1 ≢ 0) cells →
    all_zero (window first (storage_of size cells)) ≡ false
some_row size first [] l lower upper within words = absurd (omega arith)
some_row size first (c ∷ cs) l lower upper within words = some_window size first c cs (lower, upper) (All-head (λ cell. cell.0 < size) c cs within) (All-head (λ cell. cell.1 ≢ 0) c cs words)

module _ (size : ℕ) (cells : List (ℕ × ℕ)) (listed : IsCellList cells) (within : AreWithin size cells) (some : 1 ≤ length cells)
    (first count : ℕ) (lower : first ≤ address_at cells 0) (upper : address_at cells 0 < first + line_cells) (count_is : count ≡ prefix_len (λ cell. nat_lt cell.0 (first + line_cells)) cells) where
  end : ℕ
  end = first + line_cells

  rises : (i j : ℕ) → i ≤ j → j < length cells → address_at cells i ≤ address_at cells j
  rises i j l h = by (eq-or-lt_of_le l)
    where
      by : (i ≡ j) ⊎ (i < j) → address_at cells i ≤ address_at cells j
      by (inl same) = let e = ap (address_at cells) same in omega (arith, e)
      by (inr below) = let h = listed.ascending i j below h in omega arith

  all_from : All (λ cell. first ≤ cell.0) cells
  all_from = All-from_get_or (λ cell. first ≤ cell.0) cells (0, 0) (λ i l. let h = rises 0 i (omega arith) l in omega arith)

  few : count ≤ length cells
  few = let l = prefix_len-le-length (λ cell. nat_lt cell.0 (first + line_cells)) cells in omega (arith, l)

  pub cells_here : All (IsHere first) (take count cells)
  cells_here = All-from_get_or (IsHere first) (take count cells) (0, 0) (λ i l.
      let short : i < count = omega (arith, length-take count cells) in
      let left : i < length cells = omega (arith, length-take count cells) in
      let at : get_or (take count cells) i (0, 0) ≡ get_or cells i (0, 0) = get_or-take count cells i (0, 0) short in
      let inside : i < prefix_len (λ cell. nat_lt cell.0 (first + line_cells)) cells = omega arith in
      let passes : address_at cells i < first + line_cells = ltb-true (address_at cells i) (first + line_cells) (prefix_len_passes (λ cell. nat_lt cell.0 (first + line_cells)) cells i (0, 0) inside) in
      let from = rises 0 i (omega arith) left in
      subst (IsHere first) (sym at) (omega arith, passes))

  cells_behind : All (λ cell. first + line_cells ≤ cell.0) (drop count cells)
  cells_behind = All-from_get_or (λ cell. first + line_cells ≤ cell.0) (drop count cells) (0, 0) (λ i l.
      let left : count + i < length cells = omega (arith, length-drop count cells) in
      let at : get_or (drop count cells) i (0, 0) ≡ get_or cells (count + i) (0, 0) = get_or-drop count cells i (0, 0) in
      let stop : prefix_len (λ cell. nat_lt cell.0 (first + line_cells)) cells < length cells = omega arith in
      let stops = prefix_len_stops (λ cell. nat_lt cell.0 (first + line_cells)) cells (0, 0) stop in
      let there : first + line_cells ≤ address_at cells count = not_before (address_at cells count) (first + line_cells) (ap (λ n. nat_lt (address_at cells n) (first + line_cells)) count_is ∙ stops) in
      let above = rises count (count + i) (omega arith) left in
      let goal : first + line_cells ≤ address_at cells (count + i) = omega arith in
      subst (λ cell. first + line_cells ≤ cell.0) (sym at) goal)

  pub cells_in_row : AreInRow size first (take count cells)
  cells_in_row = λ i d l. let here = cells_here i d l in (here.0, here.1, All-take (λ cell. cell.0 < size) count cells within i d l)

  split_window : (at : ℕ) → window at (storage_of size cells) ≡ window at (storage_of size (take count cells ++ drop count cells))
  split_window at = ap (λ cs. window at (storage_of size cs)) (sym (take-append-drop count cells))

  module _ (k : ℕ) (whole : first ≡ line_cells * k) where
    none_before : (m : ℕ) → m < k → all_zero (line_words m (storage_of size cells)) ≡ true
    none_before m l = zero_window size (line_cells * m) cells (All-weaker (λ cell. first ≤ cell.0) (IsElsewhere (line_cells * m)) (λ cell h. inr (omega arith)) cells all_from)

    none_left : (m : ℕ) → m < suc k → all_zero (line_words m (storage_of size (drop count cells))) ≡ true
    none_left m l = zero_window size (line_cells * m) (drop count cells) (All-weaker (λ cell. first + line_cells ≤ cell.0) (IsElsewhere (line_cells * m)) (λ cell h. inr (omega arith)) (drop count cells) cells_behind)

    same_behind : (m : ℕ) → k < m → line_words m (storage_of size cells) ≡ line_words m (storage_of size (drop count cells))
    same_behind m l =
        split_window (line_cells * m)
        ∙ window_elsewhere size (line_cells * m) (take count cells) (drop count cells) (All-weaker (IsHere first) (IsElsewhere (line_cells * m)) (λ cell h. let upper = h.1 in inl (omega arith)) (take count cells) cells_here)

    row_words : window first (storage_of size cells) ≡ window first (storage_of size (take count cells))
    row_words =
        split_window first
        ∙ window_here size first (take count cells) (drop count cells) cells_here (All-weaker (λ cell. first + line_cells ≤ cell.0) (IsElsewhere first) (λ cell h. inr h) (drop count cells) cells_behind)

    pub first_shown : (words : List ℕ) → words ≡ window first (storage_of size (take count cells)) → rows_of size cells ≡ Cells first words ∷ rows_of size (drop count cells)
    first_shown words e =
        let inside : address_at cells 0 < size = within 0 (0, 0) (omega arith) in
        let j : ℕ = line_count size - suc k in
        let total : line_count size ≡ suc (k + j) = omega arith in
        let all : List ℕ = storage_of size cells in
        let left : List ℕ = storage_of size (drop count cells) in
        let shown : all_zero (line_words k all) ≡ false = ap (λ n. all_zero (window n all)) (sym whole) ∙ some_row size first cells some lower upper within listed.not_zero in
        let row : line_words k all ≡ words = ap (λ n. window n all) (sym whole) ∙ row_words ∙ sym e in
        ap (λ n. rows_before n all) total
        ∙ rows_first k all left none_before none_left shown same_behind j
        ∙ ap (λ ws. Cells (line_cells * k) ws ∷ rows_before (suc (k + j)) left) row
        ∙ ap (λ n. Cells n words ∷ rows_before (suc (k + j)) left) (sym whole)
        ∙ ap (λ n. Cells first words ∷ rows_before n left) (sym total)

-- ---- words that fit

storage_fits : (most size : ℕ) (cells : List (ℕ × ℕ)) → 0 < most → All (λ cell. cell.1 < most) cells → All (λ word. word < most) (storage_of size cells)
storage_fits most size [] l h = All-replicate (λ word. word < most) size 0 l
storage_fits most size (c ∷ cs) l h =
    All-set (λ word. word < most) (storage_of size cs) c.0 c.1 (All-head (λ cell. cell.1 < most) c cs h) (storage_fits most size cs l (All-tail (λ cell. cell.1 < most) c cs h))

pub row_fits : (size first count : ℕ) (cells : List (ℕ × ℕ)) (words : List ℕ) → words ≡ window first (storage_of size (take count cells)) →
    (w : ℕ) → All (λ cell. cell.1 < 2 ^ w) cells → All (λ word. word < 2 ^ w) words
row_fits size first count cells words e w h =
    let P : ℕ → Type 0 = λ word. word < 2 ^ w in
    subst (All P) (sym e) (All-take P line_cells (drop first (storage_of size (take count cells))) (All-drop P first (storage_of size (take count cells))
    (storage_fits (2 ^ w) size (take count cells) (pow_pos w) (All-take (λ cell. cell.1 < 2 ^ w) count cells h))))

pub row_length : (size first : ℕ) (cells : List (ℕ × ℕ)) (words : List ℕ) → words ≡ window first (storage_of size cells) → length words ≡ min line_cells (size - first)
row_length size first cells words e =
    ap length e ∙ length-take line_cells (drop first (storage_of size cells)) ∙ ap (min line_cells) (length-drop first (storage_of size cells) ∙ ap (λ k. k - first) (length-storage_of size cells))

pub no_rows : (size : ℕ) → rows_of size [] ≡ []
no_rows size = rows_none (line_count size) (replicate size 0) (λ m l. zero_window size (line_cells * m) [] (λ i d short. absurd (omega arith)))
