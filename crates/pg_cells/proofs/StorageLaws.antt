-- Laws of storages, of writes and of cells that are known, over plain values.
use Rattle.std.proofs.Common.{◌≡◌, ◌↔◌, ℕ, ◌^◌, ◌<◌, Bool, true, false, not, ◌&&◌, cond, nat_eq, List, [], ◌∷◌, length, replicate, get_or, set, refl, sym, ap, ◌∙◌, subst, arith}
use Rattle.std.specs.Prelude.{if◌then◌else◌}
use Rattle.std.specs.List.{All}
use Rattle.std.proofs.lemmas.Bool.{eqb-true, eqb-false, false≢true}
use Rattle.std.proofs.lemmas.Nat.{pow_pos}
use Rattle.std.proofs.lemmas.List.{length-replicate, length-set, get_or-set_same, get_or-set_other}
use Rattle.std.proofs.lemmas.List.Elements.{All-nil, All-cons, All-head, All-tail, All-set, All-replicate}
use Rattle.pg_cells.specs.Storage.{IsStorage, Put, after_put, written, Known, Agrees, AreConsistent, HasStorage}

-- ---- writes

-- what writes make of the word at one address
unfoldable pub laid_word : ℕ → List Put → ℕ → ℕ
laid_word at [] word = word
laid_word at (x ∷ xs) word = laid_word at xs (cond (x.guard && nat_eq at x.address) x.word word)

put_by : (guard same : Bool) (storage : List ℕ) (at address word : ℕ) → nat_eq at address ≡ same → at < length storage →
    get_or (if guard then set storage address word else storage) at 0 ≡ cond (guard && same) word (get_or storage at 0)
put_by false same storage at address word e l = refl
put_by true true storage at address word e l =
    let h : at ≡ address = eqb-true at address e in
    subst (λ k. get_or (set storage k word) at 0 ≡ word) h (get_or-set_same storage at word 0 l)
put_by true false storage at address word e l = get_or-set_other storage address at word 0 (eqb-false at address e)

length-put : (guard : Bool) (storage : List ℕ) (address word : ℕ) → length (if guard then set storage address word else storage) ≡ length storage
length-put true storage address word = length-set storage address word
length-put false storage address word = refl

pub written-at : (xs : List Put) (storage : List ℕ) (at : ℕ) → at < length storage → get_or (written storage xs) at 0 ≡ laid_word at xs (get_or storage at 0)
unfolding laid_word
written-at [] storage at l = refl
written-at (x ∷ xs) storage at l =
    let same = length-put x.guard storage x.address x.word in
    written-at xs (after_put storage x) at (omega (arith, same))
    ∙ ap (laid_word at xs) (put_by x.guard (nat_eq at x.address) storage at x.address x.word refl l)

-- ---- a storage that agrees with cells

-- a storage with the words of cells at their addresses
unfoldable pub placed : List ℕ → List Known → List ℕ
placed storage [] = storage
placed storage (c ∷ cells) = set (placed storage cells) c.address c.word

-- a cell within a machine
pub record IsWithin (w a : ℕ) (c : Known) : Type 0 where
  pub address : c.address < 2 ^ a
  pub word : c.word < 2 ^ w

placed-is_storage : (w a : ℕ) (cells : List Known) → All (IsWithin w a) cells → IsStorage w a (placed (replicate (2 ^ a) 0) cells)
unfolding placed
placed-is_storage w a [] h = record { size = length-replicate (2 ^ a) 0; words = All-replicate (λ word. word < 2 ^ w) (2 ^ a) 0 (pow_pos w) }
placed-is_storage w a (c ∷ cells) h =
    let rest = placed-is_storage w a cells (All-tail (IsWithin w a) c cells h) in
    let here = All-head (IsWithin w a) c cells h in
    record {
      size = length-set (placed (replicate (2 ^ a) 0) cells) c.address c.word ∙ rest.size;
      words = All-set (λ word. word < 2 ^ w) (placed (replicate (2 ^ a) 0) cells) c.address c.word here.word rest.words;
    }

-- a word that is put again at an address where it may stand changes nothing that is known
set_known : (storage : List ℕ) (c d : Known) (same : Bool) → nat_eq d.address c.address ≡ same → c.address < length storage → (c.address ≡ d.address → c.word ≡ d.word) →
    get_or storage d.address 0 ≡ d.word → get_or (set storage c.address c.word) d.address 0 ≡ d.word
set_known storage c d true e l h k =
    let at : d.address ≡ c.address = eqb-true d.address c.address e in
    ap (λ n. get_or (set storage c.address c.word) n 0) at ∙ get_or-set_same storage c.address c.word 0 l ∙ h (sym at)
set_known storage c d false e l h k = get_or-set_other storage c.address d.address c.word 0 (eqb-false d.address c.address e) ∙ k

rest_consistent : (c : Known) (cells : List Known) → AreConsistent (c ∷ cells) → AreConsistent cells
rest_consistent c cells h =
    λ k x l. All-tail (λ d. (get_or cells k x).address ≡ d.address → (get_or cells k x).word ≡ d.word) c cells
    (All-tail (λ y. All (λ d. y.address ≡ d.address → y.word ≡ d.word) (c ∷ cells)) c cells h k x l)

first_consistent : (c : Known) (cells : List Known) → AreConsistent (c ∷ cells) → All (λ d. c.address ≡ d.address → c.word ≡ d.word) cells
first_consistent c cells h =
    All-tail (λ d. c.address ≡ d.address → c.word ≡ d.word) c cells
    (All-head (λ y. All (λ d. y.address ≡ d.address → y.word ≡ d.word) (c ∷ cells)) c cells h)

placed-agrees : (w a : ℕ) (cells : List Known) → All (IsWithin w a) cells → AreConsistent cells → Agrees (placed (replicate (2 ^ a) 0) cells) cells
unfolding placed
placed-agrees w a [] h k = All-nil (λ (cell : Known). get_or (replicate (2 ^ a) 0) cell.address 0 ≡ cell.word)
placed-agrees w a (c ∷ cells) h k =
    let storage = placed (replicate (2 ^ a) 0) cells in
    let size = (placed-is_storage w a cells (All-tail (IsWithin w a) c cells h)).size in
    let here = (All-head (IsWithin w a) c cells h).address in
    let l : c.address < length storage = omega (arith, size, here) in
    let rest = placed-agrees w a cells (All-tail (IsWithin w a) c cells h) (rest_consistent c cells k) in
    All-cons (λ cell. get_or (set storage c.address c.word) cell.address 0 ≡ cell.word) c cells
    (get_or-set_same storage c.address c.word 0 l)
    (λ i x li. let d = get_or cells i x in set_known storage c d (nat_eq d.address c.address) refl l (first_consistent c cells k i x li) (rest i x li))

pub has_storage : (w a : ℕ) (cells : List Known) → All (IsWithin w a) cells → AreConsistent cells → HasStorage w a cells
has_storage w a cells h k = record { storage = placed (replicate (2 ^ a) 0) cells; is_storage = placed-is_storage w a cells h; agrees = placed-agrees w a cells h k }

-- cells of one storage are consistent
pub agreeing_consistent : (storage : List ℕ) (cells : List Known) → Agrees storage cells → AreConsistent cells
agreeing_consistent storage cells h = λ k x lk j y lj e. sym (h k x lk) ∙ ap (λ n. get_or storage n 0) e ∙ h j y lj

-- ---- consistency by a test of each two

unfoldable pub is_pair : Known → Known → Bool
is_pair c d = not (nat_eq c.address d.address && not (nat_eq c.word d.word))

unfoldable pub is_row : Known → List Known → Bool
is_row c [] = true
is_row c (d ∷ cells) = is_pair c d && is_row c cells

unfoldable pub are_pairs : List Known → Bool
are_pairs [] = true
are_pairs (c ∷ cells) = is_row c cells && are_pairs cells

both_left : (a b : Bool) → a && b ≡ true → a ≡ true
both_left true b h = refl
both_left false b h = h

both_right : (a b : Bool) → a && b ≡ true → b ≡ true
both_right true b h = h
both_right false b h = absurd (false≢true h)

both : (a b : Bool) → a ≡ true → b ≡ true → a && b ≡ true
both true b h k = k
both false b h k = absurd (false≢true h)

nat_eq-same : (m n : ℕ) (b : Bool) → nat_eq m n ≡ b → m ≡ n → b ≡ true
nat_eq-same m n true h e = refl
nat_eq-same m n false h e = absurd (eqb-false m n h e)

pair_by : (m n x y : ℕ) (a b : Bool) → nat_eq m n ≡ a → nat_eq x y ≡ b → not (a && not b) ≡ true → m ≡ n → x ≡ y
pair_by m n x y a true ha hb h e = eqb-true x y hb
pair_by m n x y true false ha hb h e = absurd (false≢true h)
pair_by m n x y false false ha hb h e = absurd (eqb-false m n ha e)

by_pair : (m n x y : ℕ) (a b : Bool) → nat_eq m n ≡ a → nat_eq x y ≡ b → (m ≡ n → x ≡ y) → not (a && not b) ≡ true
by_pair m n x y false b ha hb h = refl
by_pair m n x y true true ha hb h = refl
by_pair m n x y true false ha hb h = absurd (eqb-false x y hb (h (eqb-true m n ha)))

row_true : (c : Known) (cells : List Known) → is_row c cells ≡ true → All (λ d. c.address ≡ d.address → c.word ≡ d.word) cells
unfolding is_row is_pair
row_true c [] h = All-nil (λ d. c.address ≡ d.address → c.word ≡ d.word)
row_true c (d ∷ cells) h =
    All-cons (λ d. c.address ≡ d.address → c.word ≡ d.word) d cells
    (pair_by c.address d.address c.word d.word (nat_eq c.address d.address) (nat_eq c.word d.word) refl refl (both_left _ _ h))
    (row_true c cells (both_right (is_pair c d) _ h))

true_row : (c : Known) (cells : List Known) → All (λ d. c.address ≡ d.address → c.word ≡ d.word) cells → is_row c cells ≡ true
unfolding is_row is_pair
true_row c [] h = refl
true_row c (d ∷ cells) h =
    both _ _ (by_pair c.address d.address c.word d.word (nat_eq c.address d.address) (nat_eq c.word d.word) refl refl (All-head (λ d. c.address ≡ d.address → c.word ≡ d.word) d cells h))
    (true_row c cells (All-tail (λ d. c.address ≡ d.address → c.word ≡ d.word) d cells h))

more_consistent : (c : Known) (cells : List Known) → All (λ d. c.address ≡ d.address → c.word ≡ d.word) cells → AreConsistent cells → AreConsistent (c ∷ cells)
more_consistent c cells row h =
    All-cons (λ y. All (λ d. y.address ≡ d.address → y.word ≡ d.word) (c ∷ cells)) c cells
    (All-cons (λ d. c.address ≡ d.address → c.word ≡ d.word) c cells (λ e. refl) row)
    (λ k x l. let y = get_or cells k x in All-cons (λ d. y.address ≡ d.address → y.word ≡ d.word) c cells (λ e. sym (row k x l (sym e))) (h k x l))

pairs_true : (cells : List Known) → are_pairs cells ≡ true → AreConsistent cells
unfolding are_pairs
pairs_true [] h = All-nil (λ (y : Known). All (λ (d : Known). y.address ≡ d.address → y.word ≡ d.word) [])
pairs_true (c ∷ cells) h = more_consistent c cells (row_true c cells (both_left _ _ h)) (pairs_true cells (both_right (is_row c cells) _ h))

true_pairs : (cells : List Known) → AreConsistent cells → are_pairs cells ≡ true
unfolding are_pairs
true_pairs [] h = refl
true_pairs (c ∷ cells) h = both _ _ (true_row c cells (first_consistent c cells h)) (true_pairs cells (rest_consistent c cells h))

pub pairs-decide : (cells : List Known) → (are_pairs cells ≡ true) ↔ AreConsistent cells
pairs-decide cells = (pairs_true cells, true_pairs cells)
