-- A list of cells with one of them changed is that of the storage with it changed.
use Rattle.std.proofs.Common.{◌≡◌, ◌≢◌, ◌⊎◌, inl, inr, ℕ, ◌+◌, ◌<◌, ◌≤◌, ◌^◌, ◌==◌, Bool, true, false, not, if◌then◌else◌, List, [], ◌∷◌, ◌++◌, length, take, get_or, set, slice_index, slice_set, refl, sym, ap, ◌∙◌, subst, arith}
use Rattle.std.specs.Prelude.{nat_lt, nat_le, filter}
use Rattle.std.specs.List.{All}
use Rattle.std.proofs.lemmas.Bool.{cases_order, cases_eq, eq-eqb, ne_eqb, lt-ltb, le-ltb, le-leb, lt-leb, leb-true, ltb-true, eqb-true, not-false, and_from, and_left, and_right, and_parts}
use Rattle.std.proofs.lemmas.List.{same_lists, get_or-replicate, get_or-set_same, get_or-set_other, get_or-take, length-set, length-take-le}
use Rattle.std.proofs.lemmas.List.Elements.{All-nil, All-cons, All-append, All-weaker, All-filter, All-from_get_or, filter_passes}
use Rattle.std.proofs.lemmas.Option.{slice_get-get_or, get_or_from_slice_get}
use Rattle.pg_word.specs.Sparse.{address_at, IsCellList, IsPastLast, storage_of}
use Rattle.pg_word.proofs.SparseLemmas.{length-storage_of}
use Rattle.pg_replay.specs.Storing.{is_between}

-- ---- what a list says of an address

-- the word of the first cell with the address, and d where there is none
looked : List (ℕ × ℕ) → ℕ → ℕ → ℕ
looked [] k d = d
looked (c ∷ cs) k d = (if c.0 == k then c.1 else looked cs k d)

stored_looked : (size : ℕ) (cells : List (ℕ × ℕ)) (k : ℕ) → k < size → get_or (storage_of size cells) k 0 ≡ looked cells k 0
unfolding looked
stored_looked size [] k l = get_or-replicate size k 0 0 l
stored_looked size (c ∷ cs) k l = by (cases_eq c.0 k) (stored_looked size cs k l)
  where
    by : (c.0 ≡ k) ⊎ (c.0 ≡ k → ⊥) → get_or (storage_of size cs) k 0 ≡ looked cs k 0 → get_or (storage_of size (c ∷ cs)) k 0 ≡ (if c.0 == k then c.1 else looked cs k 0)
    by (inl e) rest =
        ap (λ n. get_or (storage_of size (c ∷ cs)) n 0) (sym e)
        ∙ get_or-set_same (storage_of size cs) c.0 c.1 0 (omega (arith, length-storage_of size cs))
        ∙ sym (ap (λ b. if b then c.1 else looked cs k 0) (eq-eqb c.0 k e))
    by (inr n) rest =
        get_or-set_other (storage_of size cs) c.0 k c.1 0 (λ e. n (sym e)) ∙ rest
        ∙ sym (ap (λ b. if b then c.1 else looked cs k 0) (ne_eqb c.0 k n))

looked_append : (xs ys : List (ℕ × ℕ)) (k d : ℕ) → looked (xs ++ ys) k d ≡ looked xs k (looked ys k d)
unfolding looked
looked_append [] ys k d = refl
looked_append (c ∷ cs) ys k d = ap (λ n. if c.0 == k then c.1 else n) (looked_append cs ys k d)

looked_filter : (p : ℕ → Bool) (cells : List (ℕ × ℕ)) (k d : ℕ) → looked (filter (λ c. p c.0) cells) k d ≡ (if p k then looked cells k d else d)
unfolding looked
looked_filter p [] k d = by (p k)
  where
    by : (b : Bool) → d ≡ (if b then d else d)
    by true = refl
    by false = refl
looked_filter p (c ∷ cs) k d = by (cases_eq c.0 k) (p c.0) refl (looked_filter p cs k d)
  where
    by : (c.0 ≡ k) ⊎ (c.0 ≡ k → ⊥) → (b : Bool) → p c.0 ≡ b → looked (filter (λ x. p x.0) cs) k d ≡ (if p k then looked cs k d else d) →
        looked (if b then c ∷ filter (λ x. p x.0) cs else filter (λ x. p x.0) cs) k d ≡ (if p k then (if c.0 == k then c.1 else looked cs k d) else d)
    by (inl e) true is rest =
        ap (λ t. if t then c.1 else looked (filter (λ x. p x.0) cs) k d) (eq-eqb c.0 k e)
        ∙ sym (ap (λ t. if t then (if c.0 == k then c.1 else looked cs k d) else d) (ap p (sym e) ∙ is) ∙ ap (λ t. if t then c.1 else looked cs k d) (eq-eqb c.0 k e))
    by (inl e) false is rest =
        rest ∙ ap (λ t. if t then looked cs k d else d) (ap p (sym e) ∙ is)
        ∙ sym (ap (λ t. if t then (if c.0 == k then c.1 else looked cs k d) else d) (ap p (sym e) ∙ is))
    by (inr n) true is rest =
        ap (λ t. if t then c.1 else looked (filter (λ x. p x.0) cs) k d) (ne_eqb c.0 k n) ∙ rest
        ∙ sym (ap (λ t. if p k then (if t then c.1 else looked cs k d) else d) (ne_eqb c.0 k n))
    by (inr n) false is rest = rest ∙ sym (ap (λ t. if p k then (if t then c.1 else looked cs k d) else d) (ne_eqb c.0 k n))

-- ---- one cell changed

-- the cells below an address, a cell there, and those above
abbrev changed : List (ℕ × ℕ) → List (ℕ × ℕ) → ℕ → ℕ → List (ℕ × ℕ)
changed cells mid at top = (filter (λ c. is_between 0 at c.0) cells ++ mid) ++ filter (λ c. is_between (at + 1) top c.0) cells

looked_changed : (cells mid : List (ℕ × ℕ)) (at top k : ℕ) → looked (changed cells mid at top) k 0 ≡
    (if is_between 0 at k then looked cells k (looked mid k (if is_between (at + 1) top k then looked cells k 0 else 0)) else looked mid k (if is_between (at + 1) top k then looked cells k 0 else 0))
looked_changed cells mid at top k =
    looked_append (filter (λ c. is_between 0 at c.0) cells ++ mid) (filter (λ c. is_between (at + 1) top c.0) cells) k 0
    ∙ looked_append (filter (λ c. is_between 0 at c.0) cells) mid k (looked (filter (λ c. is_between (at + 1) top c.0) cells) k 0)
    ∙ looked_filter (is_between 0 at) cells k (looked mid k (looked (filter (λ c. is_between (at + 1) top c.0) cells) k 0))
    ∙ ap (λ n. if is_between 0 at k then looked cells k (looked mid k n) else looked mid k n) (looked_filter (is_between (at + 1) top) cells k 0)

looked_one : (at word k d : ℕ) → at ≢ k → looked ((at, word) ∷ []) k d ≡ d
unfolding looked
looked_one at word k d n = ap (λ t. if t then word else d) (ne_eqb at k n)

looked_here : (at word d : ℕ) → looked ((at, word) ∷ []) at d ≡ word
unfolding looked
looked_here at word d = ap (λ t. if t then word else d) (eq-eqb at at refl)

looked_none : (k d : ℕ) → looked [] k d ≡ d
unfolding looked
looked_none k d = refl

between_true : (from to k : ℕ) → from ≤ k → k < to → is_between from to k ≡ true
between_true from to k l m = and_from (nat_le from k) (nat_lt k to) (le-leb from k l) (lt-ltb k to m)

between_low : (from to k : ℕ) → k < from → is_between from to k ≡ false
between_low from to k l = and_left (nat_le from k) (nat_lt k to) (lt-leb from k l)

between_high : (from to k : ℕ) → to ≤ k → is_between from to k ≡ false
between_high from to k l = and_right (nat_le from k) (nat_lt k to) (le-ltb k to l)

-- whether a word is there is told by the cell alone
abbrev one : Bool → ℕ → ℕ → List (ℕ × ℕ)
one kept at word = (if kept then (at, word) ∷ [] else [])

one_elsewhere : (kept : Bool) (at word k d : ℕ) → at ≢ k → looked (one kept at word) k d ≡ d
one_elsewhere true at word k d n = looked_one at word k d n
one_elsewhere false at word k d n = looked_none k d

one_here : (kept : Bool) (at word : ℕ) → (kept ≡ false → word ≡ 0) → looked (one kept at word) at 0 ≡ word
one_here true at word none = looked_here at word 0
one_here false at word none = looked_none at 0 ∙ sym (none refl)

-- what the changed list says of an address
changed_here : (cells : List (ℕ × ℕ)) (kept : Bool) (at word top : ℕ) → (kept ≡ false → word ≡ 0) → looked (changed cells (one kept at word) at top) at 0 ≡ word
changed_here cells kept at word top none =
    looked_changed cells (one kept at word) at top at
    ∙ ap (λ t. if t then looked cells at (looked (one kept at word) at (if is_between (at + 1) top at then looked cells at 0 else 0)) else looked (one kept at word) at (if is_between (at + 1) top at then looked cells at 0 else 0)) (between_high 0 at at (omega arith))
    ∙ ap (λ t. looked (one kept at word) at (if t then looked cells at 0 else 0)) (between_low (at + 1) top at (omega arith))
    ∙ one_here kept at word none

changed_below : (cells : List (ℕ × ℕ)) (kept : Bool) (at word top k : ℕ) → k < at → looked (changed cells (one kept at word) at top) k 0 ≡ looked cells k 0
changed_below cells kept at word top k l =
    looked_changed cells (one kept at word) at top k
    ∙ ap (λ t. if t then looked cells k (looked (one kept at word) k (if is_between (at + 1) top k then looked cells k 0 else 0)) else looked (one kept at word) k (if is_between (at + 1) top k then looked cells k 0 else 0)) (between_true 0 at k (omega arith) l)
    ∙ ap (λ t. looked cells k (looked (one kept at word) k (if t then looked cells k 0 else 0))) (between_low (at + 1) top k (omega arith))
    ∙ ap (looked cells k) (one_elsewhere kept at word k 0 (λ e. omega arith))

changed_above : (cells : List (ℕ × ℕ)) (kept : Bool) (at word top k : ℕ) → at < k → k < top → looked (changed cells (one kept at word) at top) k 0 ≡ looked cells k 0
changed_above cells kept at word top k l m =
    looked_changed cells (one kept at word) at top k
    ∙ ap (λ t. if t then looked cells k (looked (one kept at word) k (if is_between (at + 1) top k then looked cells k 0 else 0)) else looked (one kept at word) k (if is_between (at + 1) top k then looked cells k 0 else 0)) (between_high 0 at k (omega arith))
    ∙ ap (λ t. looked (one kept at word) k (if t then looked cells k 0 else 0)) (between_true (at + 1) top k (omega arith) m)
    ∙ one_elsewhere kept at word k (looked cells k 0) (λ e. omega arith)

changed_at : (size : ℕ) (cells : List (ℕ × ℕ)) (kept : Bool) (at word top k : ℕ) → at < size → size ≤ top → (kept ≡ false → word ≡ 0) → k < size →
    get_or (storage_of size (changed cells (one kept at word) at top)) k 0 ≡ get_or (set (storage_of size cells) at word) k 0
changed_at size cells kept at word top k within far none l = stored_looked size (changed cells (one kept at word) at top) k l ∙ by (cases_order at k)
  where
    by : (at ≡ k) ⊎ ((at < k) ⊎ (k < at)) → looked (changed cells (one kept at word) at top) k 0 ≡ get_or (set (storage_of size cells) at word) k 0
    by (inl e) =
        subst (λ n. looked (changed cells (one kept at word) at top) n 0 ≡ get_or (set (storage_of size cells) at word) n 0) e
        (changed_here cells kept at word top none ∙ sym (get_or-set_same (storage_of size cells) at word 0 (omega (arith, length-storage_of size cells))))
    by (inr (inl above)) =
        changed_above cells kept at word top k above (omega arith) ∙ sym (stored_looked size cells k l)
        ∙ sym (get_or-set_other (storage_of size cells) at k word 0 (λ e. omega arith))
    by (inr (inr below)) =
        changed_below cells kept at word top k below ∙ sym (stored_looked size cells k l)
        ∙ sym (get_or-set_other (storage_of size cells) at k word 0 (λ e. omega arith))

at_default : (xs : List ℕ) (k d : ℕ) → k < length xs → get_or xs k d ≡ slice_index xs k
at_default xs k d l = get_or_from_slice_get xs k (slice_index xs k) d (slice_get-get_or xs k 0 l)

-- the storage with the cell changed
pub storage-changed : (size : ℕ) (cells : List (ℕ × ℕ)) (kept : Bool) (at word top : ℕ) → at < size → size ≤ top → (kept ≡ false → word ≡ 0) →
    storage_of size ((filter (λ c. is_between 0 at c.0) cells ++ (if kept then (at, word) ∷ [] else [])) ++ filter (λ c. is_between (at + 1) top c.0) cells) ≡ slice_set (storage_of size cells) at word
storage-changed size cells kept at word top within far none =
    let long : length (storage_of size (changed cells (one kept at word) at top)) ≡ length (set (storage_of size cells) at word) =
    length-storage_of size (changed cells (one kept at word) at top) ∙ sym (length-set (storage_of size cells) at word ∙ length-storage_of size cells) in
    same_lists (storage_of size (changed cells (one kept at word) at top)) (set (storage_of size cells) at word) long (λ k d l.
    let fits : k < size = omega (arith, length-storage_of size (changed cells (one kept at word) at top)) in
    at_default (storage_of size (changed cells (one kept at word) at top)) k d l
    ∙ changed_at size cells kept at word top k within far none fits
    ∙ sym (at_default (set (storage_of size cells) at word) k d (omega arith)))

-- ---- lists that are made in order

pub past_all : (xs : List (ℕ × ℕ)) (at : ℕ) → All (λ c. c.0 < at) xs → IsPastLast xs at
past_all xs at all i e = all i (0, 0) (omega arith)

-- what was taken of a list is below its next cell
pub taken_below : (cells : List (ℕ × ℕ)) (i : ℕ) → IsCellList cells → i < length cells → All (λ c. c.0 < address_at cells i) (take i cells)
taken_below cells i h l = All-from_get_or (λ c. c.0 < address_at cells i) (take i cells) (0, 0) (λ j m.
    let short : j < i = omega (arith, length-take-le i cells (omega arith)) in
    subst (λ (x : ℕ × ℕ). x.0 < address_at cells i) (sym (get_or-take i cells j (0, 0) short)) (h.ascending j i short l))

pub next_past : (old cells : List (ℕ × ℕ)) (from to i : ℕ) → IsCellList cells → i < length cells → All (λ c. c.0 < from) old → is_between from to (address_at cells i) ≡ true →
    IsPastLast (old ++ filter (λ c. is_between from to c.0) (take i cells)) (address_at cells i)
next_past old cells from to i h l below kept =
    let low : from ≤ address_at cells i = leb-true from (address_at cells i) ((and_parts (nat_le from (address_at cells i)) (nat_lt (address_at cells i) to) kept).0) in
    past_all (old ++ filter (λ c. is_between from to c.0) (take i cells)) (address_at cells i)
    (All-append (λ c. c.0 < address_at cells i) old (filter (λ c. is_between from to c.0) (take i cells))
    (All-weaker (λ c. c.0 < from) (λ c. c.0 < address_at cells i) (λ c m. omega arith) old below)
    (All-filter (λ c. is_between from to c.0) (λ c. c.0 < address_at cells i) (take i cells) (taken_below cells i h l)))

-- cells below an address, and the cell there, are below the next
pub below_next : (cells : List (ℕ × ℕ)) (kept : Bool) (at word : ℕ) → All (λ c. c.0 < at + 1) (filter (λ c. is_between 0 at c.0) cells ++ (if kept then (at, word) ∷ [] else []))
below_next cells kept at word =
    All-append (λ c. c.0 < at + 1) (filter (λ c. is_between 0 at c.0) cells) (one kept at word) (All-weaker (λ c. is_between 0 at c.0 ≡ true) (λ c. c.0 < at + 1) low (filter (λ c. is_between 0 at c.0) cells) (filter_passes (λ c. is_between 0 at c.0) cells)) (by kept)
  where
    low : (c : ℕ × ℕ) → is_between 0 at c.0 ≡ true → c.0 < at + 1
    low c e = let l : c.0 < at = ltb-true c.0 at ((and_parts (nat_le 0 c.0) (nat_lt c.0 at) e).1) in omega arith

    by : (b : Bool) → All (λ c. c.0 < at + 1) (one b at word)
    by true = All-cons (λ c. c.0 < at + 1) (at, word) [] (omega arith) (All-nil (λ c. c.0 < at + 1))
    by false = All-nil (λ c. c.0 < at + 1)

pub past_below : (cells : List (ℕ × ℕ)) (at : ℕ) → IsPastLast (filter (λ c. is_between 0 at c.0) cells) at
past_below cells at =
    past_all (filter (λ c. is_between 0 at c.0) cells) at
    (All-weaker (λ c. is_between 0 at c.0 ≡ true) (λ c. c.0 < at) low (filter (λ c. is_between 0 at c.0) cells) (filter_passes (λ c. is_between 0 at c.0) cells))
  where
    low : (c : ℕ × ℕ) → is_between 0 at c.0 ≡ true → c.0 < at
    low c e = ltb-true c.0 at ((and_parts (nat_le 0 c.0) (nat_lt c.0 at) e).1)

-- ---- the three parts, as they are made

first_part : (cells items none first : List (ℕ × ℕ)) (at to : ℕ) → items ≡ cells → none ≡ [] → to ≡ at → first ≡ none ++ filter (λ c. is_between 0 to c.0) items →
    first ≡ filter (λ c. is_between 0 at c.0) cells
first_part cells items none first at to same empty there made =
    made ∙ ap (λ xs. xs ++ filter (λ c. is_between 0 to c.0) items) empty ∙ ap (λ n. filter (λ c. is_between 0 n c.0) items) there ∙ ap (filter (λ c. is_between 0 at c.0)) same

pub past_first : (cells items none first : List (ℕ × ℕ)) (at to : ℕ) → items ≡ cells → none ≡ [] → to ≡ at → first ≡ none ++ filter (λ c. is_between 0 to c.0) items →
    IsPastLast first at
past_first cells items none first at to same empty there made =
    subst (λ xs. IsPastLast xs at) (sym (first_part cells items none first at to same empty there made)) (past_below cells at)

second_part : (cells items none first second : List (ℕ × ℕ)) (at word to : ℕ) → items ≡ cells → none ≡ [] → to ≡ at → first ≡ none ++ filter (λ c. is_between 0 to c.0) items →
    second ≡ first ++ (if not (word == 0) then (at, word) ∷ [] else []) → second ≡ filter (λ c. is_between 0 at c.0) cells ++ (if not (word == 0) then (at, word) ∷ [] else [])
second_part cells items none first second at word to same empty there made more =
    more ∙ ap (λ xs. xs ++ (if not (word == 0) then (at, word) ∷ [] else [])) (first_part cells items none first at to same empty there made)

pub below_second : (cells items none first second : List (ℕ × ℕ)) (at word to from : ℕ) → items ≡ cells → none ≡ [] → to ≡ at → first ≡ none ++ filter (λ c. is_between 0 to c.0) items →
    second ≡ first ++ (if not (word == 0) then (at, word) ∷ [] else []) → from ≡ at → All (λ c. c.0 < from + 1) second
below_second cells items none first second at word to from same empty there made more here =
    subst (λ n. All (λ c. c.0 < n + 1) second) (sym here)
    (subst (All (λ c. c.0 < at + 1)) (sym (second_part cells items none first second at word to same empty there made more)) (below_next cells (not (word == 0)) at word))

zero_of_not : (word : ℕ) → not (word == 0) ≡ false → word ≡ 0
zero_of_not word e = eqb-true word 0 (not-false (word == 0) e)

pub whole_list : (size same_size : ℕ) (cells items others none first second third : List (ℕ × ℕ)) (at word to from : ℕ) → same_size ≡ size → at < size → size ≤ 2 ^ 32 →
    items ≡ cells → others ≡ cells → none ≡ [] → to ≡ at → first ≡ none ++ filter (λ c. is_between 0 to c.0) items →
    second ≡ first ++ (if not (word == 0) then (at, word) ∷ [] else []) → from ≡ at → third ≡ second ++ filter (λ c. is_between (from + 1) (2 ^ 32) c.0) others →
    storage_of same_size third ≡ slice_set (storage_of size cells) at word
whole_list size same_size cells items others none first second third at word to from sizes within far same also empty there made more here last =
    ap (λ n. storage_of n third) sizes
    ∙ ap (storage_of size) (last ∙ ap (λ n. second ++ filter (λ c. is_between (n + 1) (2 ^ 32) c.0) others) here ∙ ap (λ xs. second ++ filter (λ c. is_between (at + 1) (2 ^ 32) c.0) xs) also
    ∙ ap (λ xs. xs ++ filter (λ c. is_between (at + 1) (2 ^ 32) c.0) cells) (second_part cells items none first second at word to same empty there made more))
    ∙ storage-changed size cells (not (word == 0)) at word (2 ^ 32) within far (zero_of_not word)
