-- The words of the touched cells, with zeros in all other cells, make a pair that shows the kind.
use Rattle.std.proofs.Common.{◌≡◌, ℕ, zero, suc, ◌^◌, ◌<◌, ◌≤◌, nat_eq, Bool, true, false, List, [], ◌∷◌, length, take, replicate, set, get_or, refl, sym, ap, ◌∙◌, subst, arith}
use Rattle.std.specs.List.{All}
use Rattle.std.proofs.lemmas.Bool.{eqb-true, eqb-false}
use Rattle.std.proofs.lemmas.Nat.{pow_pos}
use Rattle.std.proofs.lemmas.List.{length-take, get_or-take, get_or-set_same, get_or-set_other}
use Rattle.std.proofs.lemmas.List.Elements.{All-nil, All-cons, All-head, All-tail, All-set, All-replicate}
use Rattle.std.proofs.lemmas.Grind.{same_number_lists}
use Rattle.pg_word.specs.Sparse.{storage_of}
use Rattle.pg_word.proofs.SparseLemmas.{length-storage_of}
use Rattle.pg_vec.specs.Number.{number}
use Rattle.pg_vec.proofs.EachLaws.{number-below}
use Rattle.pg_cells.specs.declared.cell.Cell.{Cell}
use Rattle.pg_cells.specs.Storage.{IsStorage, Known, Agrees, AreConsistent}
use Rattle.pg_cells.specs.Cells.{known_of, known_cells}
use Rattle.pg_cells.specs.Over.{IsWhole}
use Rattle.pg_cells.proofs.ConsistentLaws.{cells-whole}
use Rattle.pg_ast.specs.declared.tree.Instr.{Instr}
use Rattle.pg_ast.specs.declared.tree.Desc.{Desc}
use Rattle.pg_type.specs.declared.kind.Kind.{Kind}
use Rattle.pg_symex.specs.Runs.{AllRunRight}
use Rattle.pg_type.specs.Pair.{Pair, PairShows}
use Rattle.pg_ask.specs.Question.{Question, question_made}
use Rattle.pg_ask.specs.Means.{IsQuestion, pair_of, StandFor, named_cells, named_pair, AnswersName}
use Rattle.pg_ask.proofs.QuestionLaws.{question-means}
use Rattle.pg_ask.proofs.AssignmentsLaw.{bits-below}
use Rattle.pg_ask.proofs.AnswersLaw.{answers-show}

-- ---- a front of such a storage

take-storage : (v size : ℕ) (cells : List (ℕ × ℕ)) → v ≤ size → take v (storage_of size cells) ≡ storage_of v cells
take-storage v size cells l =
    same_number_lists (take v (storage_of size cells)) (storage_of v cells) (omega (arith, length-take v (storage_of size cells), length-storage_of size cells, length-storage_of v cells))
    (λ k b.
    let inside : k < v = omega (arith, b, length-take v (storage_of size cells)) in
    get_or-take v (storage_of size cells) k 0 inside ∙ same-word cells k inside)
  where
    none : (n k : ℕ) → (let z : ℕ = 0 in get_or (replicate n z) k z ≡ z)
    none zero k = refl
    none (suc n) zero = refl
    none (suc n) (suc k) = none n k

    by : (c : ℕ × ℕ) (cs : List (ℕ × ℕ)) (k : ℕ) (b : Bool) → nat_eq k c.0 ≡ b → k < v → get_or (storage_of size cs) k 0 ≡ get_or (storage_of v cs) k 0 → get_or (storage_of size (c ∷ cs)) k 0 ≡ get_or (storage_of v (c ∷ cs)) k 0
    by c cs k true e inside rest =
        let same = eqb-true k c.0 e in
        let first : k < length (storage_of size cs) = omega (arith, length-storage_of size cs, l) in
        let second : k < length (storage_of v cs) = omega (arith, length-storage_of v cs) in
        ap (λ n. get_or (set (storage_of size cs) n c.1) k 0) (sym same) ∙ get_or-set_same (storage_of size cs) k c.1 0 first
        ∙ sym (ap (λ n. get_or (set (storage_of v cs) n c.1) k 0) (sym same) ∙ get_or-set_same (storage_of v cs) k c.1 0 second)
    by c cs k false e inside rest =
        let other = eqb-false k c.0 e in
        get_or-set_other (storage_of size cs) c.0 k c.1 0 other ∙ rest ∙ sym (get_or-set_other (storage_of v cs) c.0 k c.1 0 other)

    same-word : (cs : List (ℕ × ℕ)) (k : ℕ) → k < v → get_or (storage_of size cs) k 0 ≡ get_or (storage_of v cs) k 0
    same-word [] k inside = none size k ∙ sym (none v k)
    same-word (c ∷ cs) k inside = by c cs k (nat_eq k c.0) refl inside (same-word cs k inside)

-- ---- a storage that agrees with consistent cells

rest-consistent : (c : Known) (cells : List Known) → AreConsistent (c ∷ cells) → AreConsistent cells
rest-consistent c cells h = λ k x lk j y lj. h (suc k) x (omega arith) (suc j) y (omega arith)

first-consistent : (c : Known) (cells : List Known) → AreConsistent (c ∷ cells) → All (λ d. c.address ≡ d.address → c.word ≡ d.word) cells
first-consistent c cells h = λ j y lj. h 0 c (omega arith) (suc j) y (omega arith)

named-storage : (values : List Bool) (places w a : ℕ) (cells : List Cell) → All (IsWhole places w a) cells → IsStorage w a (storage_of (2 ^ a) (named_cells values cells))
named-storage values places w a [] h = record { size = length-storage_of (2 ^ a) []; words = All-replicate (λ word. word < 2 ^ w) (2 ^ a) 0 (pow_pos w) }
named-storage values places w a (c ∷ cells) h =
    let here = All-head (IsWhole places w a) c cells h in
    let rest = named-storage values places w a cells (All-tail (IsWhole places w a) c cells h) in
    let e : 2 ^ length c.word ≡ 2 ^ w = ap (λ k. 2 ^ k) here.word_wide in
    let below : number values c.word < 2 ^ w = (let b = number-below values c.word in omega (arith, b, e)) in
    record {
      size = length-storage_of (2 ^ a) (named_cells values (c ∷ cells));
      words = All-set (λ word. word < 2 ^ w) (storage_of (2 ^ a) (named_cells values cells)) (number values c.address) (number values c.word) below rest.words;
    }

named-agrees : (values : List Bool) (places w a : ℕ) (cells : List Cell) → All (IsWhole places w a) cells → AreConsistent (known_cells values cells) → Agrees (storage_of (2 ^ a) (named_cells values cells)) (known_cells values cells)
named-agrees values places w a [] h k = All-nil (λ (c : Known). get_or (replicate (2 ^ a) 0) c.address 0 ≡ c.word)
named-agrees values places w a (c ∷ cells) h k =
    let here = All-head (IsWhole places w a) c cells h in
    let e : 2 ^ length c.address ≡ 2 ^ a = ap (λ n. 2 ^ n) here.address_wide in
    let storage = storage_of (2 ^ a) (named_cells values cells) in
    let at = number values c.address in
    let word = number values c.word in
    let inside : at < length storage = (let b = number-below values c.address in omega (arith, b, e, length-storage_of (2 ^ a) (named_cells values cells))) in
    let rest = named-agrees values places w a cells (All-tail (IsWhole places w a) c cells h) (rest-consistent (known_of values c) (known_cells values cells) k) in
    let first = first-consistent (known_of values c) (known_cells values cells) k in
    All-cons (λ d. get_or (set storage at word) d.address 0 ≡ d.word) (known_of values c) (known_cells values cells)
    (get_or-set_same storage at word 0 inside)
    (λ i x li. let d = get_or (known_cells values cells) i x in by storage at word inside d (nat_eq d.address at) refl (first i x li) (rest i x li))
  where
    by : (storage : List ℕ) (at word : ℕ) → at < length storage → (d : Known) (b : Bool) → nat_eq d.address at ≡ b → (at ≡ d.address → word ≡ d.word) → get_or storage d.address 0 ≡ d.word → get_or (set storage at word) d.address 0 ≡ d.word
    by storage at word inside d true e same rest =
        let at_is : d.address ≡ at = eqb-true d.address at e in
        ap (λ n. get_or (set storage at word) n 0) at_is ∙ get_or-set_same storage at word 0 inside ∙ same (sym at_is)
    by storage at word inside d false e same rest = get_or-set_other storage at d.address word 0 (eqb-false d.address at e) ∙ rest

-- ---- the law

named-shows : (d : Desc) (i : Instr) (kind : Kind) (values : List Bool) (q : Question) → IsQuestion d q → StandFor d i kind values q → PairShows d i kind (named_pair values q)
named-shows d i kind values q is h =
    let a = d.address in
    let whole = cells-whole q.nodes d.word a 0 q.cells is.over.cells in
    let storage = storage_of (2 ^ a) (named_cells values q.cells) in
    let v = number values q.usable in
    let room : v ≤ 2 ^ a = (let b = bits-below values (length q.nodes) a q.usable is.usable in omega arith) in
    let front = take-storage v (2 ^ a) (named_cells values q.cells) room in
    let pair : pair_of values storage q ≡ named_pair values q = ap (λ window. let x : Pair = record (named_pair values q) { window = window } in x) front in
    subst (PairShows d i kind) pair (h.shows storage (named-storage values (length q.nodes) d.word a q.cells whole) (named-agrees values (length q.nodes) d.word a q.cells whole h.consistent))

pub answers-name : (d : Desc) → AllRunRight d → AnswersName d
answers-name d right k i kind a valid here holds =
    let q = question_made d i kind in
    named-shows d i kind a q ((question-means d k i kind right valid here).is) (answers-show d right k i kind a valid here holds)
