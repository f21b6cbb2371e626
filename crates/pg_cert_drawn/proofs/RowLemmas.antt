-- Rows of cells that are added to a state: its storage, and its lines.
use Rattle.std.proofs.Common.{◌≡◌, ◌≢◌, ◌⊎◌, inl, inr, ℕ, zero, suc, ◌+◌, ◌-◌, ◌*◌, ◌<◌, ◌≤◌, min, Bool, true, false, if◌then◌else◌, List, [], ◌∷◌, ◌++◌, length, get_or, set, drop, replicate, refl, sym, ap, subst, ◌∙◌, arith, length-drop, append_assoc, append-nil}
use Rattle.std.specs.Prelude.{◌==◌}
use Rattle.std.specs.List.{All, list_all}
use Rattle.std.proofs.Math.Nat.{eq-or-lt_of_le}
use Rattle.std.proofs.lemmas.Bool.{cases_lt, cases_eq, and_from, eq-eqb, eqb-true}
use Rattle.std.proofs.lemmas.Grind.{same_number_lists}
use Rattle.std.proofs.lemmas.List.{length-replicate, length-take, get_or-replicate, get_or-take, get_or-drop, get_or-set_same, get_or-set_other, get_or_past, set_past}
use Rattle.std.proofs.lemmas.List.Elements.{All-nil, All-cons, All-head, All-tail, All-append, All-weaker}
use Rattle.pg_word.specs.Sparse.{IsCellList, IsPastLast, AreWithin, storage_of}
use Rattle.pg_word.proofs.SparseLemmas.{length-storage_of, pushed}
use Rattle.pg_image.specs.Lines.{line_words, line_count}
use Rattle.pg_cert.specs.declared.line.Line.TheVariants.{Cells}
use Rattle.pg_cert.specs.Texts.{row_lines, rows_before}
use Rattle.pg_cert_drawn.specs.Drawn.{listed}

-- ---- what a row lists

pub listed_from : (at : ℕ) (words : List ℕ) → All (λ c. at ≤ c.0) (listed at words)
listed_from at [] = All-nil (λ (c : ℕ × ℕ). at ≤ c.0)
listed_from at (w ∷ ws) = by (w == 0)
    (All-weaker (λ c. suc at ≤ c.0) (λ c. at ≤ c.0) (λ c l. omega arith) (listed (suc at) ws) (listed_from (suc at) ws))
  where
    by : (b : Bool) → All (λ c. at ≤ c.0) (listed (suc at) ws) →
        All (λ c. at ≤ c.0) (if b then listed (suc at) ws else (at, w) ∷ listed (suc at) ws)
    by true later = later
    by false later = All-cons (λ (c : ℕ × ℕ). at ≤ c.0) (at, w) (listed (suc at) ws) (omega arith) later

pub listed_until : (at end : ℕ) (words : List ℕ) → at + length words ≤ end → All (λ c. c.0 < end) (listed at words)
listed_until at end [] h = All-nil (λ (c : ℕ × ℕ). c.0 < end)
listed_until at end (w ∷ ws) h = by (w == 0) (listed_until (suc at) end ws (omega arith))
  where
    by : (b : Bool) → All (λ c. c.0 < end) (listed (suc at) ws) →
        All (λ c. c.0 < end) (if b then listed (suc at) ws else (at, w) ∷ listed (suc at) ws)
    by true later = later
    by false later = All-cons (λ (c : ℕ × ℕ). c.0 < end) (at, w) (listed (suc at) ws) (omega arith) later

past_last : (cells : List (ℕ × ℕ)) (at : ℕ) → All (λ c. c.0 < at) cells → IsPastLast cells at
past_last cells at h = λ i e. h i (0, 0) (omega arith)

pub listed_more : (at : ℕ) (words : List ℕ) (cells : List (ℕ × ℕ)) → IsCellList cells → All (λ c. c.0 < at) cells →
    IsCellList (cells ++ listed at words)
listed_more at [] cells h below = subst IsCellList (sym (append-nil cells)) h
listed_more at (w ∷ ws) cells h below = by (w == 0) refl (λ cs k b. listed_more (suc at) ws cs k b)
  where
    wider : All (λ c. c.0 < suc at) cells
    wider = All-weaker (λ c. c.0 < at) (λ c. c.0 < suc at) (λ c l. omega arith) cells below

    one : w ≢ 0 → IsCellList (cells ++ (at, w) ∷ [])
    one n = pushed cells at w h (past_last cells at below) n

    all : All (λ c. c.0 < suc at) (cells ++ (at, w) ∷ [])
    all = All-append (λ c. c.0 < suc at) cells ((at, w) ∷ []) wider
        (All-cons (λ (c : ℕ × ℕ). c.0 < suc at) (at, w) [] (omega arith) (All-nil (λ (c : ℕ × ℕ). c.0 < suc at)))

    by : (b : Bool) → (w == 0) ≡ b →
        ((cs : List (ℕ × ℕ)) → IsCellList cs → All (λ c. c.0 < suc at) cs → IsCellList (cs ++ listed (suc at) ws)) →
        IsCellList (cells ++ (if b then listed (suc at) ws else (at, w) ∷ listed (suc at) ws))
    by true e rest = rest cells h wider
    by false e rest =
        subst IsCellList (append_assoc cells ((at, w) ∷ []) (listed (suc at) ws))
        (rest (cells ++ (at, w) ∷ []) (one (λ z. let t : (w == 0) ≡ true = eq-eqb w 0 z in cc)) all)

pub within_more : (size at : ℕ) (words : List ℕ) (cells : List (ℕ × ℕ)) → AreWithin size cells →
    at + length words ≤ size → AreWithin size (cells ++ listed at words)
within_more size at words cells h l =
    All-append (λ c. c.0 < size) cells (listed at words) h (listed_until at size words l)

-- ---- storages

set_both : (xs ys : List ℕ) (i a k : ℕ) → length xs ≡ length ys → get_or xs k 0 ≡ get_or ys k 0 →
    get_or (set xs i a) k 0 ≡ get_or (set ys i a) k 0
set_both xs ys i a k len e = by (cases_eq k i)
  where
    inside : k ≡ i → (i < length xs) ⊎ (length xs ≤ i) → get_or (set xs i a) k 0 ≡ get_or (set ys i a) k 0
    inside s (inl l) = rw s (get_or-set_same xs i a 0 l ∙ sym (get_or-set_same ys i a 0 (omega arith)))
    inside s (inr l) = ap (λ zs. get_or zs k 0) (set_past xs i a l) ∙ e
        ∙ ap (λ zs. get_or zs k 0) (sym (set_past ys i a (omega arith)))

    by : (k ≡ i) ⊎ (k ≡ i → ⊥) → get_or (set xs i a) k 0 ≡ get_or (set ys i a) k 0
    by (inl s) = inside s (cases_lt i (length xs))
    by (inr n) = get_or-set_other xs i k a 0 n ∙ e ∙ sym (get_or-set_other ys i k a 0 n)

pub other_kept : (size : ℕ) (cells more : List (ℕ × ℕ)) (k : ℕ) → All (λ c. c.0 ≢ k) cells →
    get_or (storage_of size (cells ++ more)) k 0 ≡ get_or (storage_of size more) k 0
other_kept size [] more k h = refl
other_kept size (c ∷ cells) more k h =
    get_or-set_other (storage_of size (cells ++ more)) c.0 k c.1 0 (λ e. All-head (λ d. d.0 ≢ k) c cells h (sym e))
    ∙ other_kept size cells more k (All-tail (λ d. d.0 ≢ k) c cells h)

nothing_kept : (size : ℕ) (more : List (ℕ × ℕ)) (k : ℕ) → All (λ c. c.0 ≢ k) more →
    get_or (storage_of size more) k 0 ≡ get_or (replicate {A = ℕ} size 0) k 0
nothing_kept size more k h = ap (λ cs. get_or (storage_of size cs) k 0) (sym (append-nil more))
    ∙ other_kept size more [] k h

pub more_kept : (size : ℕ) (cells more : List (ℕ × ℕ)) (k : ℕ) → All (λ c. c.0 ≢ k) more →
    get_or (storage_of size (cells ++ more)) k 0 ≡ get_or (storage_of size cells) k 0
more_kept size [] more k h = nothing_kept size more k h
more_kept size (c ∷ cells) more k h =
    set_both (storage_of size (cells ++ more)) (storage_of size cells) c.0 c.1 k
    (length-storage_of size (cells ++ more) ∙ sym (length-storage_of size cells)) (more_kept size cells more k h)

pub zero_or_past : (n k : ℕ) → get_or (replicate {A = ℕ} n 0) k 0 ≡ 0
zero_or_past n k = by (cases_lt k n)
  where
    by : (k < n) ⊎ (n ≤ k) → get_or (replicate {A = ℕ} n 0) k 0 ≡ 0
    by (inl l) = get_or-replicate n k 0 0 l
    by (inr l) = get_or_past (replicate n 0) k 0 (omega (arith, length-replicate {A = ℕ} n 0))

pub apart_above : (at k : ℕ) (cells : List (ℕ × ℕ)) → k < at → All (λ c. at ≤ c.0) cells → All (λ c. c.0 ≢ k) cells
apart_above at k cells l h = All-weaker (λ c. at ≤ c.0) (λ c. c.0 ≢ k) (λ c le e. omega arith) cells h

pub apart_below : (at k : ℕ) (cells : List (ℕ × ℕ)) → at ≤ k → All (λ c. c.0 < at) cells → All (λ c. c.0 ≢ k) cells
apart_below at k cells l h = All-weaker (λ c. c.0 < at) (λ c. c.0 ≢ k) (λ c le e. omega arith) cells h

pub row_holds : (size at : ℕ) (words : List ℕ) (j k : ℕ) → k ≡ at + j → k < size →
    get_or (storage_of size (listed at words)) k 0 ≡ get_or words j 0
row_holds size at [] j k e l = get_or-replicate size k 0 0 l
row_holds size at (w ∷ ws) zero k e l = by (w == 0) refl
  where
    same : k ≡ at
    same = omega arith

    gone : get_or (storage_of size (listed (suc at) ws)) k 0 ≡ 0
    gone = nothing_kept size (listed (suc at) ws) k
        (apart_above (suc at) k (listed (suc at) ws) (omega arith) (listed_from (suc at) ws)) ∙ zero_or_past size k

    by : (b : Bool) → (w == 0) ≡ b →
        get_or (storage_of size (if b then listed (suc at) ws else (at, w) ∷ listed (suc at) ws)) k 0 ≡ w
    by true t = gone ∙ sym (eqb-true w 0 t)
    by false t = rw same (get_or-set_same (storage_of size (listed (suc at) ws)) at w 0
        (omega (arith, length-storage_of size (listed (suc at) ws))))
row_holds size at (w ∷ ws) (suc j) k e l = by (w == 0) (row_holds size (suc at) ws j k (omega arith) l)
  where
    by : (b : Bool) → get_or (storage_of size (listed (suc at) ws)) k 0 ≡ get_or ws j 0 →
        get_or (storage_of size (if b then listed (suc at) ws else (at, w) ∷ listed (suc at) ws)) k 0 ≡ get_or ws j 0
    by true later = later
    by false later = get_or-set_other (storage_of size (listed (suc at) ws)) at k w 0 (omega arith) ∙ later

-- ---- rows

pub words_at : (cells : List ℕ) (k i : ℕ) → i < 8 → get_or (line_words k cells) i 0 ≡ get_or cells (8 * k + i) 0
words_at cells k i l = get_or-take 8 (drop (8 * k) cells) i 0 l ∙ get_or-drop (8 * k) cells i 0

pub length-words : (cells : List ℕ) (k : ℕ) → length (line_words k cells) ≡ min 8 (length cells - 8 * k)
length-words cells k = length-take 8 (drop (8 * k) cells) ∙ ap (λ n. min 8 n) (length-drop (8 * k) cells)

same_words : (xs ys : List ℕ) (k : ℕ) → length xs ≡ length ys →
    ((i : ℕ) → i < 8 → get_or xs (8 * k + i) 0 ≡ get_or ys (8 * k + i) 0) → line_words k xs ≡ line_words k ys
same_words xs ys k len h =
    let first = length-words xs k in
    same_number_lists (line_words k xs) (line_words k ys)
    (length-words xs k ∙ ap (λ n. min 8 (n - 8 * k)) len ∙ sym (length-words ys k))
    (λ i l. let small : i < 8 = omega arith in words_at xs k i small ∙ h i small ∙ sym (words_at ys k i small))

all_zero : (ws : List ℕ) → ((i : ℕ) → get_or ws i 0 ≡ 0) → list_all (λ w. w == 0) ws ≡ true
all_zero [] h = refl
all_zero (w ∷ ws) h = and_from (w == 0) (list_all (λ w. w == 0) ws) (eq-eqb w 0 (h 0)) (all_zero ws (λ i. h (suc i)))

no_row : (first : ℕ) (cells : List ℕ) (k : ℕ) → ((i : ℕ) → i < 8 → get_or cells (8 * k + i) 0 ≡ 0) →
    row_lines first (line_words k cells) ≡ []
no_row first cells k h =
    let zeros : list_all (λ w. w == 0) (line_words k cells) ≡ true =
    all_zero (line_words k cells) (λ i. by i (cases_lt i 8)) in
    ap (λ (b : Bool). if b then [] else Cells first (line_words k cells) ∷ []) zeros
  where
    by : (i : ℕ) → (i < 8) ⊎ (8 ≤ i) → get_or (line_words k cells) i 0 ≡ 0
    by i (inl l) = words_at cells k i l ∙ h i l
    by i (inr l) = let len = length-words cells k in get_or_past (line_words k cells) i 0 (omega arith)

rows_same : (k : ℕ) (xs ys : List ℕ) → ((j : ℕ) → j < k → line_words j xs ≡ line_words j ys) →
    rows_before k xs ≡ rows_before k ys
unfolding rows_before
rows_same zero xs ys h = refl
rows_same (suc k) xs ys h =
    ap (λ ls. ls ++ row_lines (8 * k) (line_words k xs)) (rows_same k xs ys (λ j l. h j (omega arith)))
    ∙ ap (λ ws. rows_before k ys ++ row_lines (8 * k) ws) (h k (omega arith))

rows_past : (m n : ℕ) (cells : List ℕ) → m ≤ n → ((j : ℕ) → m ≤ j → row_lines (8 * j) (line_words j cells) ≡ []) →
    rows_before n cells ≡ rows_before m cells
unfolding rows_before
rows_past m zero cells le h = let e : m ≡ 0 = omega arith in rw e refl
rows_past m (suc n) cells le h = by (eq-or-lt_of_le le) (λ l. rows_past m n cells l h)
  where
    by : (m ≡ suc n) ⊎ (m < suc n) → (m ≤ n → rows_before n cells ≡ rows_before m cells) →
        rows_before n cells ++ row_lines (8 * n) (line_words n cells) ≡ rows_before m cells
    by (inl e) rest = ap (λ k. rows_before k cells) (sym e)
    by (inr l) rest = ap (λ ls. rows_before n cells ++ ls) (h n (omega arith)) ∙ append-nil (rows_before n cells)
        ∙ rest (omega arith)

rows_next : (m : ℕ) (cells : List ℕ) →
    rows_before (suc m) cells ≡ rows_before m cells ++ row_lines (8 * m) (line_words m cells)
unfolding rows_before
rows_next m cells = refl

module _ (size m : ℕ) (cells : List (ℕ × ℕ)) (words : List ℕ) (below : All (λ c. c.0 < 8 * m) cells)
    (len : length words ≡ min 8 (size - 8 * m)) (some : 1 ≤ length words) where
  abbrev Before : List ℕ
  Before = storage_of size cells

  abbrev Now : List ℕ
  Now = storage_of size (cells ++ listed (8 * m) words)

  length-before : length Before ≡ size
  length-before = length-storage_of size cells

  length-now : length Now ≡ size
  length-now = length-storage_of size (cells ++ listed (8 * m) words)

  low : (k : ℕ) → k < 8 * m → get_or Now k 0 ≡ get_or Before k 0
  low k l = more_kept size cells (listed (8 * m) words) k
      (apart_above (8 * m) k (listed (8 * m) words) l (listed_from (8 * m) words))

  high : (k : ℕ) → 8 * m ≤ k → get_or Before k 0 ≡ 0
  high k l = nothing_kept size cells k (apart_below (8 * m) k cells l below) ∙ zero_or_past size k

  new : (j k : ℕ) → k ≡ 8 * m + j → k < size → get_or Now k 0 ≡ get_or words j 0
  new j k e l = other_kept size cells (listed (8 * m) words) k (apart_below (8 * m) k cells (omega arith) below)
      ∙ row_holds size (8 * m) words j k e l

  later : (j i : ℕ) → suc m ≤ j → get_or Now (8 * j + i) 0 ≡ 0
  later j i l = by (cases_lt (8 * j + i) size)
    where
      by : (8 * j + i < size) ⊎ (size ≤ 8 * j + i) → get_or Now (8 * j + i) 0 ≡ 0
      by (inl s) = new (8 * j + i - 8 * m) (8 * j + i) (omega arith) s
          ∙ get_or_past words (8 * j + i - 8 * m) 0 (omega arith)
      by (inr p) = let n = length-now in get_or_past Now (8 * j + i) 0 (omega arith)

  row_is : line_words m Now ≡ words
  row_is =
      let n = length-now in
      same_number_lists (line_words m Now) words (length-words Now m ∙ ap (λ n. min 8 (n - 8 * m)) length-now ∙ sym len)
      (λ i l. let most = length-words Now m in words_at Now m i (omega arith) ∙ new i (8 * m + i) refl (omega arith))

  -- a row more is a line more
  pub row_added : list_all (λ w. w == 0) words ≡ false →
      rows_before (line_count size) Now ≡ rows_before (line_count size) Before ++ Cells (8 * m) words ∷ []
  row_added not_zero =
      let in_range : suc m ≤ line_count size = omega arith in
      rows_past (suc m) (line_count size) Now in_range (λ j l. no_row (8 * j) Now j (λ i s. later j i l))
      ∙ rows_next m Now
      ∙ ap (λ ls. ls ++ row_lines (8 * m) (line_words m Now))
      (rows_same m Now Before (λ j l. same_words Now Before j (length-now ∙ sym length-before)
      (λ i s. low (8 * j + i) (omega arith))))
      ∙ ap (λ ws. rows_before m Before ++ row_lines (8 * m) ws) row_is
      ∙ ap (λ (b : Bool). rows_before m Before ++ (if b then [] else Cells (8 * m) words ∷ [])) not_zero
      ∙ ap (λ ls. ls ++ Cells (8 * m) words ∷ [])
      (sym (rows_past m (line_count size) Before (omega arith)
      (λ j l. no_row (8 * j) Before j (λ i s. high (8 * j + i) (omega arith)))))

-- a state without cells has no row
pub no_rows : (size n : ℕ) → rows_before n (storage_of size []) ≡ []
unfolding rows_before
no_rows size n = rows_past 0 n (storage_of size []) (omega arith)
    (λ j l. no_row (8 * j) (storage_of size []) j (λ i s. zero_or_past size (8 * j + i)))
