-- The rows of a state, drawn one after another, give it back.
use Rattle.std.proofs.Common.{◌≡◌, ◌≢◌, ◌⊎◌, inl, inr, ℕ, zero, suc, ◌+◌, ◌-◌, ◌*◌, ◌<◌, ◌≤◌, min, Bool, true, if◌then◌else◌, List, [], ◌∷◌, ◌++◌, length, get_or, None, Some, All, refl, sym, ap, subst, ◌∙◌, arith, append-nil}
use Rattle.std.specs.Prelude.{◌==◌, nat_lt}
use Rattle.std.specs.List.{list_all}
use Rattle.std.proofs.lemmas.Bool.{cases_lt, and_from, and_parts, eq-eqb, lt-ltb}
use Rattle.std.proofs.lemmas.Grind.{same_number_lists}
use Rattle.std.proofs.lemmas.List.Elements.{All-nil, All-append, All-weaker}
use Rattle.std.proofs.lemmas.List.Sums.{list_all-from_AllPass}
use Rattle.pg_word.specs.declared.psw.Psw.{Psw}
use Rattle.pg_word.specs.Sparse.{IsCellList, AreWithin, storage_of}
use Rattle.pg_word.proofs.SparseLemmas.{length-storage_of, one_list}
use Rattle.pg_image.specs.Lines.{line_cells, line_words, line_count}
use Rattle.pg_cert_drawn.specs.Drawn.{Drawn, listed, row_fits, with_row}
use Rattle.pg_cert_drawn.proofs.RowLemmas.{listed_from, listed_until, listed_more, within_more, other_kept, more_kept, apart_above, apart_below, row_holds, words_at, length-words}

-- ---- the cells of the first rows

unfoldable pub cells_before : ℕ → List ℕ → List (ℕ × ℕ)
cells_before zero storage = []
cells_before (suc k) storage = cells_before k storage ++ listed (8 * k) (line_words k storage)

zeros_listed : (at : ℕ) (words : List ℕ) → list_all (λ w. w == 0) words ≡ true → listed at words ≡ []
zeros_listed at [] h = refl
zeros_listed at (w ∷ ws) h =
    let both = and_parts (w == 0) (list_all (λ w. w == 0) ws) h in
    ap (λ (b : Bool). if b then listed (suc at) ws else (at, w) ∷ listed (suc at) ws) both.0
    ∙ zeros_listed (suc at) ws both.1

module _ (size : ℕ) (storage : List ℕ) (len : length storage ≡ size) where
  cells_below : (k : ℕ) → All (λ c. c.0 < 8 * k) (cells_before k storage)
  unfolding cells_before
  cells_below zero = All-nil (λ (c : ℕ × ℕ). c.0 < 0)
  cells_below (suc k) =
      let most = length-words storage k in
      All-append (λ c. c.0 < 8 * suc k) (cells_before k storage) (listed (8 * k) (line_words k storage))
      (All-weaker (λ c. c.0 < 8 * k) (λ c. c.0 < 8 * suc k) (λ c l. omega arith) (cells_before k storage)
      (cells_below k))
      (listed_until (8 * k) (8 * suc k) (line_words k storage) (omega arith))

  cells_listed : (k : ℕ) → IsCellList (cells_before k storage)
  unfolding cells_before
  cells_listed zero = record {
    ascending = λ i j l m. absurd (omega arith);
    not_zero =
        All-nil (λ (c : ℕ × ℕ). c.1 ≢ 0);
  }
  cells_listed (suc k) = listed_more (8 * k) (line_words k storage) (cells_before k storage) (cells_listed k)
      (cells_below k)

  cells_within : (k : ℕ) → AreWithin size (cells_before k storage)
  unfolding cells_before
  cells_within zero = All-nil (λ (c : ℕ × ℕ). c.0 < size)
  cells_within (suc k) = by (cases_lt (8 * k) size) (cells_within k)
    where
      none : size ≤ 8 * k → line_words k storage ≡ []
      none l = let n = length-words storage k in same_number_lists (line_words k storage) [] (omega arith)
          (λ i m. absurd (omega arith))

      by : (8 * k < size) ⊎ (size ≤ 8 * k) → AreWithin size (cells_before k storage) →
          AreWithin size (cells_before k storage ++ listed (8 * k) (line_words k storage))
      by (inl l) h = let n = length-words storage k in within_more size (8 * k) (line_words k storage)
          (cells_before k storage) h (omega arith)
      by (inr l) h = subst (λ ws. AreWithin size (cells_before k storage ++ listed (8 * k) ws)) (sym (none l))
          (subst (λ cs. AreWithin size cs) (sym (append-nil (cells_before k storage))) h)

  -- they give the storage back
  cells_hold : (k j : ℕ) → j < 8 * k → j < size →
      get_or (storage_of size (cells_before k storage)) j 0 ≡ get_or storage j 0
  unfolding cells_before
  cells_hold zero j l m = absurd (omega arith)
  cells_hold (suc k) j l m = by (cases_lt j (8 * k)) (λ n. cells_hold k j n m)
    where
      by : (j < 8 * k) ⊎ (8 * k ≤ j) →
          (j < 8 * k → get_or (storage_of size (cells_before k storage)) j 0 ≡ get_or storage j 0) →
          get_or (storage_of size (cells_before k storage ++ listed (8 * k) (line_words k storage))) j 0 ≡ get_or
          storage j 0
      by (inl n) rest = more_kept size (cells_before k storage) (listed (8 * k) (line_words k storage)) j
          (apart_above (8 * k) j (listed (8 * k) (line_words k storage)) n (listed_from (8 * k) (line_words k storage)))
          ∙ rest n
      by (inr n) rest =
          let at : j ≡ 8 * k + (j - 8 * k) = omega arith in
          let small : j - 8 * k < 8 = omega arith in
          other_kept size (cells_before k storage) (listed (8 * k) (line_words k storage)) j
          (apart_below (8 * k) j (cells_before k storage) n (cells_below k))
          ∙ row_holds size (8 * k) (line_words k storage) (j - 8 * k) j at m
          ∙ words_at storage k (j - 8 * k) small
          ∙ ap (λ i. get_or storage i 0) (sym at)

  cells_all : storage_of size (cells_before (line_count size) storage) ≡ storage
  cells_all =
      let n = length-storage_of size (cells_before (line_count size) storage) in
      same_number_lists (storage_of size (cells_before (line_count size) storage)) storage (n ∙ sym len)
      (λ j l. cells_hold (line_count size) j (omega arith) (omega arith))

pub cells_again : (size : ℕ) (cells : List (ℕ × ℕ)) → IsCellList cells → AreWithin size cells →
    cells_before (line_count size) (storage_of size cells) ≡ cells
cells_again size cells h w =
    let storage : List ℕ = storage_of size cells in
    let len : length storage ≡ size = length-storage_of size cells in
    one_list size (cells_before (line_count size) storage) cells (cells_listed size storage len (line_count size)) h
    (cells_within size storage len (line_count size)) w (cells_all size storage len)

-- a row of zeros, which no line gives, lists no cell
pub zeros_passed : (k : ℕ) (storage : List ℕ) → list_all (λ w. w == 0) (line_words k storage) ≡ true →
    cells_before k storage ≡ cells_before (suc k) storage
unfolding cells_before
zeros_passed k storage z =
    sym (ap (λ cs. cells_before k storage ++ cs) (zeros_listed (8 * k) (line_words k storage) z)
    ∙ append-nil (cells_before k storage))

-- ---- rows

module _ (size : ℕ) (psw : Psw) (storage : List ℕ) where
  -- a state behind its first rows
  abbrev pub rows_drawn : ℕ → Drawn
  rows_drawn k = record { size = size; psw = psw; cells = cells_before k storage }

  pub row_drawn : length storage ≡ size → (k : ℕ) →
      with_row (8 * k) (line_words k storage) (rows_drawn k) ≡ Some (rows_drawn (suc k))
  unfolding cells_before
  row_drawn len k =
      let below : list_all (λ (c : ℕ × ℕ). nat_lt c.0 (8 * k)) (cells_before k storage) ≡ true =
      list_all-from_AllPass (λ (c : ℕ × ℕ). nat_lt c.0 (8 * k)) (cells_before k storage)
      (All-weaker (λ c. c.0 < 8 * k) (λ c. nat_lt c.0 (8 * k) ≡ true) (λ c l. lt-ltb c.0 (8 * k) l)
      (cells_before k storage) (cells_below size storage len k)) in
      let long : length (line_words k storage) ≡ min line_cells (size - 8 * k) = length-words storage k
      ∙ ap (λ n. min 8 (n - 8 * k)) len in
      let test : row_fits (rows_drawn k) (8 * k) (line_words k storage) ≡ true =
      and_from (list_all (λ (c : ℕ × ℕ). nat_lt c.0 (8 * k)) (cells_before k storage))
      (length (line_words k storage) == min line_cells (size - 8 * k)) below
      (eq-eqb (length (line_words k storage)) (min line_cells (size - 8 * k)) long) in
      ap (λ (b : Bool). if b then Some
      (record (rows_drawn k) { cells = cells_before k storage ++ listed (8 * k) (line_words k storage) })
      else None) test
