-- The lines of a state are those of one state alone.
use Rattle.std.proofs.Common.{◌≡◌, ℕ, zero, suc, ◌+◌, ◌*◌, ◌<◌, ◌≤◌, ◌⊎◌, inl, inr, Bool, true, false, cond, ◌||◌, List, [], ◌∷◌, ◌++◌, length, take, drop, refl, sym, ap, ◌∙◌, subst, arith, eq-eqb, length-take, length-drop}
use Rattle.std.specs.Prelude.{◌==◌}
use Rattle.std.specs.List.{list_any, filter}
use Rattle.std.proofs.Math.Seq.{take-add}
use Rattle.std.proofs.Math.Nat.{eq-or-lt_of_le}
use Rattle.std.proofs.lemmas.Bool.{and_parts, eqb-true, ne_eqb}
use Rattle.std.proofs.lemmas.List.{append-nil, take_all}
use Rattle.std.proofs.lemmas.List.Elements.{filter-append}
use Rattle.std.proofs.lemmas.List.Folds.{list_any-append}
use mathlib.Core.HLevel.{is_prop→PathP}
use Rattle.pg_word.specs.declared.sparse.Sparse.{Sparse}
use Rattle.pg_word.specs.Sparse.{IsCellList, AreWithin, AreWithin-prop, storage_of}
use Rattle.pg_word.proofs.SparseLemmas.{length-storage_of, one_list}
use Rattle.pg_image.specs.Lines.{line_cells, line_words, line_count}
use Rattle.pg_cert.specs.declared.line.Line.{Line}
use Rattle.pg_cert.specs.declared.line.Line.TheVariants.{First, Header, Step, Remove, Size, Psw, Cells, End}
use Rattle.pg_cert.specs.Texts.{row_lines, rows_before, rows_of, state_lines}
use Rattle.pg_cert.proofs.Parted.{parted}
use Rattle.pg_cert.proofs.RowLemmas.{all_zero}

-- ---- the row at a place

abbrev is_row : ℕ → Line → Bool
is_row first (First heading) = false
is_row first (Header name kind found) = false
is_row first (Step step) = false
is_row first (Remove numbers) = false
is_row first (Size n) = false
is_row first (Psw psw) = false
is_row first (Cells at words) = at == first
is_row first End = false

row_here : (first : ℕ) (words : List ℕ) → filter (is_row first) (row_lines first words) ≡ row_lines first words
row_here first words = by (all_zero words)
  where
    by : (zero : Bool) →
        filter (is_row first) (cond zero [] (Cells first words ∷ [])) ≡ cond zero [] (Cells first words ∷ [])
    by true = refl
    by false = ap (λ b. cond b (Cells first words ∷ []) []) (eq-eqb first first refl)

row_elsewhere : (first at : ℕ) (words : List ℕ) → (at ≡ first → ⊥) → filter (is_row first) (row_lines at words) ≡ []
row_elsewhere first at words other = by (all_zero words)
  where
    by : (zero : Bool) → filter (is_row first) (cond zero [] (Cells at words ∷ [])) ≡ []
    by true = refl
    by false = ap (λ b. cond b (Cells at words ∷ []) []) (ne_eqb at first other)

module _ (cells : List ℕ) (m : ℕ) where
  abbrev here : Line → Bool
  here line = is_row (line_cells * m) line

  abbrev row_at : ℕ → List Line
  row_at k = row_lines (line_cells * k) (line_words k cells)

  row_later : (k : ℕ) → k ≤ m → filter here (rows_before k cells) ≡ []
  unfolding rows_before
  row_later zero l = refl
  row_later (suc k) l =
      filter-append here (rows_before k cells) (row_at k)
      ∙ ap (λ ls. ls ++ filter here (row_at k)) (row_later k (omega arith))
      ∙ row_elsewhere (line_cells * m) (line_cells * k) (line_words k cells) (λ same. omega arith)

  row_found : (k : ℕ) → m < k → filter here (rows_before k cells) ≡ row_at m
  unfolding rows_before
  row_found zero l = absurd (omega arith)
  row_found (suc k) l = by (eq-or-lt_of_le (omega arith)) (λ below. row_found k below)
    where
      by : (m ≡ k) ⊎ (m < k) → (m < k → filter here (rows_before k cells) ≡ row_at m) →
          filter here (rows_before k cells ++ row_at k) ≡ row_at m
      by (inl same) found =
          filter-append here (rows_before k cells) (row_at k)
          ∙ ap (λ ls. ls ++ filter here (row_at k)) (row_later k (omega arith))
          ∙ ap (λ n. filter here (row_at n)) (sym same)
          ∙ row_here (line_cells * m) (line_words m cells)
      by (inr below) found =
          filter-append here (rows_before k cells) (row_at k)
          ∙ ap (λ ls. filter here (rows_before k cells) ++ ls)
          (row_elsewhere (line_cells * m) (line_cells * k) (line_words k cells) (λ same. omega arith))
          ∙ append-nil (filter here (rows_before k cells)) ∙ found below

-- ---- the words of rows

zeros_once : (xs ys : List ℕ) → all_zero xs ≡ true → all_zero ys ≡ true → length xs ≡ length ys → xs ≡ ys
zeros_once [] [] hx hy e = refl
zeros_once [] (y ∷ ys) hx hy e = absurd (omega arith)
zeros_once (x ∷ xs) [] hx hy e = absurd (omega arith)
zeros_once (x ∷ xs) (y ∷ ys) hx hy e =
    let fx = and_parts (x == 0) (all_zero xs) hx in
    let fy = and_parts (y == 0) (all_zero ys) hy in
    let zx : x ≡ 0 = eqb-true x 0 fx.0 in
    let zy : y ≡ 0 = eqb-true y 0 fy.0 in
    let tail : xs ≡ ys = zeros_once xs ys fx.1 fy.1 (omega arith) in
    cc

row_once : (first : ℕ) (xs ys : List ℕ) → length xs ≡ length ys → row_lines first xs ≡ row_lines first ys → xs ≡ ys
row_once first xs ys len = by (all_zero xs) (all_zero ys) refl refl
  where
    by : (zx zy : Bool) → all_zero xs ≡ zx → all_zero ys ≡ zy →
        cond zx [] (Cells first xs ∷ []) ≡ cond zy [] (Cells first ys ∷ []) → xs ≡ ys
    by true true hx hy e = zeros_once xs ys hx hy len
    by true false hx hy e = absurd cc
    by false true hx hy e = absurd cc
    by false false hx hy e = cc

-- ---- storages

module _ (xs ys : List ℕ) (len : length xs ≡ length ys) where
  words_once : (k m : ℕ) → m < k → rows_before k xs ≡ rows_before k ys → line_words m xs ≡ line_words m ys
  words_once k m l e =
      let first : ℕ = line_cells * m in
      let long : length (line_words m xs) ≡ length (line_words m ys) =
      omega (
        arith,
        length-take line_cells (drop first xs),
        length-take line_cells (drop first ys),
        length-drop first xs,
        length-drop first ys,
      ) in
      row_once first (line_words m xs) (line_words m ys) long
      (sym (row_found xs m k l) ∙ ap (filter (is_row first)) e ∙ row_found ys m k l)

  front_once : (k : ℕ) → ((m : ℕ) → m < k → line_words m xs ≡ line_words m ys) →
      take (line_cells * k) xs ≡ take (line_cells * k) ys
  front_once zero h =
      let none : line_cells * zero ≡ 0 = omega arith in
      ap (λ n. take n xs) none ∙ sym (ap (λ n. take n ys) none)
  front_once (suc k) h =
      let more : line_cells * suc k ≡ line_cells * k + line_cells = omega arith in
      let before : take (line_cells * k) xs ≡ take (line_cells * k) ys = front_once k (λ m l. h m (omega arith)) in
      ap (λ n. take n xs) more ∙ take-add (line_cells * k) line_cells xs
      ∙ ap (λ t. t ++ line_words k xs) before ∙ ap (λ t. take (line_cells * k) ys ++ t) (h k (omega arith))
      ∙ sym (ap (λ n. take n ys) more ∙ take-add (line_cells * k) line_cells ys)

  storage_once : (size : ℕ) → length xs ≡ size →
      rows_before (line_count size) xs ≡ rows_before (line_count size) ys → xs ≡ ys
  storage_once size n e =
      let k : ℕ = line_count size in
      sym (take_all (line_cells * k) xs (omega arith)) ∙ front_once k (λ m l. words_once k m l e)
      ∙ take_all (line_cells * k) ys (omega arith)

-- ---- states

-- a storage is listed in one way
same_state : (s t : Sparse) → IsCellList s.cells → IsCellList t.cells → s.size ≡ t.size → s.psw ≡ t.psw →
    storage_of s.size s.cells ≡ storage_of t.size t.cells → s ≡ t
same_state s t ls lt size psw storage =
    let cells : s.cells ≡ t.cells =
    one_list s.size s.cells t.cells ls lt s.within (subst (λ n. AreWithin n t.cells) (sym size) t.within)
    (storage ∙ ap (λ n. storage_of n t.cells) (sym size)) in
    λ i. record {
      size = size i;
      psw = psw i;
      cells = cells i;
      within =
          is_prop→PathP (λ j. AreWithin (size j) (cells j)) (λ j. AreWithin-prop (size j) (cells j))
          s.within t.within i;
    }

state_once : (s t : Sparse) → IsCellList s.cells → IsCellList t.cells → state_lines s ≡ state_lines t → s ≡ t
state_once s t ls lt e =
    let size : s.size ≡ t.size = cc in
    let psw : s.psw ≡ t.psw = cc in
    let rows : rows_of s.size s.cells ≡ rows_of t.size t.cells = cc in
    let one : List ℕ = storage_of s.size s.cells in
    let two : List ℕ = storage_of t.size t.cells in
    let long : length one ≡ length two =
    length-storage_of s.size s.cells ∙ size ∙ sym (length-storage_of t.size t.cells) in
    same_state s t ls lt size psw
    (storage_once one two long s.size (length-storage_of s.size s.cells)
    (rows ∙ ap (λ n. rows_before (line_count n) two) (sym size)))

-- ---- pairs of states

abbrev is_size : Line → Bool
is_size (First heading) = false
is_size (Header name kind found) = false
is_size (Step step) = false
is_size (Remove numbers) = false
is_size (Size n) = true
is_size (Psw psw) = false
is_size (Cells at words) = false
is_size End = false

no_size_row : (first : ℕ) (words : List ℕ) → list_any is_size (row_lines first words) ≡ false
no_size_row first words = by (all_zero words)
  where
    by : (zero : Bool) → list_any is_size (cond zero [] (Cells first words ∷ [])) ≡ false
    by true = refl
    by false = refl

no_size : (k : ℕ) (cells : List ℕ) → list_any is_size (rows_before k cells) ≡ false
unfolding rows_before
no_size zero cells = refl
no_size (suc k) cells =
    list_any-append is_size (rows_before k cells) (row_lines (line_cells * k) (line_words k cells))
    ∙ ap (λ b. b || list_any is_size (row_lines (line_cells * k) (line_words k cells))) (no_size k cells)
    ∙ no_size_row (line_cells * k) (line_words k cells)

pub pair_once : (s t u v : Sparse) → IsCellList s.cells → IsCellList t.cells → IsCellList u.cells → IsCellList v.cells →
    state_lines s ++ state_lines t ≡ state_lines u ++ state_lines v → (s ≡ u) × (t ≡ v)
pair_once s t u v ls lt lu lv e =
    let size : s.size ≡ u.size = cc in
    let psw : s.psw ≡ u.psw = cc in
    let left : rows_of s.size s.cells ++ state_lines t ≡ rows_of u.size u.cells ++ state_lines v = cc in
    let both = parted is_size (rows_of s.size s.cells) (rows_of u.size u.cells) (state_lines t) (state_lines v)
    (no_size (line_count s.size) (storage_of s.size s.cells)) (no_size (line_count u.size) (storage_of u.size u.cells))
    refl refl left in
    let rows : rows_of s.size s.cells ≡ rows_of u.size u.cells = both.0 in
    let first : state_lines s ≡ state_lines u = cc in
    (state_once s u ls lu first, state_once t v lt lv both.1)
