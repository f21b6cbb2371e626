-- The states of a question that was asked, as its fields have it.
use Rattle.std.proofs.Common.{◌≡◌, ℕ, ◌+◌, ◌<◌, ◌≤◌, Bool, true, ℤ, List, [], ◌∷◌, ◌++◌, length, drop, get_or, slice_get, Some, sym, ap, ◌∙◌, subst, arith, append_assoc}
use Rattle.std.proofs.lemmas.List.{append-nil, drop_more, drop_all}
use Rattle.std.specs.List.{All}
use Rattle.std.proofs.lemmas.List.Elements.{All-weaker}
use Rattle.pg_circuit.specs.declared.node.Gate.{Gate}
use Rattle.pg_word.specs.declared.psw.Psw.{Psw}
use Rattle.pg_word.specs.declared.sparse.Sparse.{Sparse}
use Rattle.pg_word.specs.Psw.{window_len_of}
use Rattle.pg_vec.specs.Number.{number}
use Rattle.pg_cells.specs.declared.cell.Cell.{Cell}
use Rattle.pg_cells.specs.Over.{IsWhole}
use Rattle.pg_cells.proofs.ConsistentLaws.{cells-whole}
use Rattle.pg_cnf.specs.Truth.{clauses_true}
use Rattle.pg_ast.specs.declared.tree.Instr.{Instr}
use Rattle.pg_ast.specs.declared.tree.Desc.{Desc}
use Rattle.pg_lang_valid.specs.Valid.{IsValid}
use Rattle.pg_lang_valid.proofs.ValidFacts.{IsShape-of_valid}
use Rattle.pg_type.specs.declared.kind.Kind.{Kind}
use Rattle.pg_type.specs.Kinds.{Shows}
use Rattle.pg_type.specs.Listed.{state_of}
use Rattle.pg_symex.proofs.RunLaw.{all_run_right}
use Rattle.pg_type.specs.Placing.{window_of, state_around}
use Rattle.pg_type.proofs.PairLemmas.{pairs_show}
use Rattle.pg_type.proofs.PlacingLemmas.{states_around}
use Rattle.pg_ask.specs.declared.unknowns.Unknowns.{Unknowns}
use Rattle.pg_ask.specs.Question.{question_made, question}
use Rattle.pg_ask.specs.Asked.{IsQuestionOf, IsAsked}
use Rattle.pg_ask.specs.Means.{psw_of, named_cells, named_pair}
use Rattle.pg_ask.proofs.QuestionLaws.{questions-are}
use Rattle.pg_ask.proofs.AnswersLaw.{answers-show}
use Rattle.pg_ask.proofs.NamesLaw.{answers-name}
use Rattle.pg_ask.proofs.RunSteps.{some_at}

-- widths of an address
pub record Narrow (u : Unknowns) (usable : List Gate) (cells : List Cell) : Type 0 where
  pub p : length u.p ≤ 32
  pub first_l : length u.first_l ≤ 32
  pub second_l : length u.second_l ≤ 32
  pub first_b : length u.first_b ≤ 32
  pub second_b : length u.second_b ≤ 32
  pub first_size : length u.first_size ≤ 32
  pub second_size : length u.second_size ≤ 32
  pub usable_narrow : length usable ≤ 32
  pub cells_narrow : All (λ c. length c.address ≤ 32) cells

abbrev pub FirstUsable : List Bool → Unknowns → List Gate → Type 0
FirstUsable a u usable = number a usable ≡ window_len_of (psw_of a u.first_mode u.p u.first_l u.first_b) (number a u.first_size)

abbrev pub SecondUsable : List Bool → Unknowns → List Gate → Type 0
SecondUsable a u usable = number a usable ≡ window_len_of (psw_of a u.second_mode u.p u.second_l u.second_b) (number a u.second_size)

abbrev pub PlacedShow : Desc → Instr → Kind → List Bool → Unknowns → List Gate → List Cell → Type 0
PlacedShow d i kind a u usable cells =
    Shows d i kind (state_around (number a u.first_size) (psw_of a u.first_mode u.p u.first_l u.first_b) (window_of (named_cells a cells) (number a usable)))
    (state_around (number a u.second_size) (psw_of a u.second_mode u.p u.second_l u.second_b) (window_of (named_cells a cells) (number a usable)))

-- all of it
pub record Stands (d : Desc) (k : ℕ) (kind : Kind) (a : List Bool) (u : Unknowns) (usable : List Gate) (cells : List Cell) : Type 0 where
  pub narrow : Narrow u usable cells
  pub first_usable : FirstUsable a u usable
  pub second_usable : SecondUsable a u usable
  pub shows : (i : Instr) → slice_get d.instrs k ≡ Some i → PlacedShow d i kind a u usable cells

narrow-made : (d : Desc) (k : ℕ) (i : Instr) (kind : Kind) → IsValid d → slice_get d.instrs k ≡ Some i → (let q = question_made d i kind in Narrow q.unknowns q.usable q.cells)
narrow-made d k i kind valid here =
    let q = question_made d i kind in
    let is = questions-are d (all_run_right d) k i kind valid here in
    let most = (IsShape-of_valid d valid).address_most in
    let un = is.unknowns in
    let whole = cells-whole q.nodes d.word d.address 0 q.cells is.over.cells in
    let fits : (xs : List Gate) → length xs ≡ d.address → length xs ≤ 32 = λ xs e. omega arith in
    record {
      p = fits q.unknowns.p un.p.wide;
      first_l = fits q.unknowns.first_l un.first_l.wide;
      second_l = fits q.unknowns.second_l un.second_l.wide;
      first_b = fits q.unknowns.first_b un.first_b.wide;
      second_b = fits q.unknowns.second_b un.second_b.wide;
      first_size = fits q.unknowns.first_size un.first_size.wide;
      second_size = fits q.unknowns.second_size un.second_size.wide;
      usable_narrow = fits q.usable is.usable.wide;
      cells_narrow = All-weaker (IsWhole (length q.nodes) d.word d.address) (λ c. length c.address ≤ 32) (λ c h. fits c.address h.address_wide) q.cells whole;
    }

shows-made : (d : Desc) (k : ℕ) (i : Instr) (kind : Kind) (a : List Bool) → IsValid d → slice_get d.instrs k ≡ Some i → clauses_true a (question d i kind) ≡ true → (let q = question_made d i kind in PlacedShow d i kind a q.unknowns q.usable q.cells)
shows-made d k i kind a valid here all =
    let x = named_pair a (question_made d i kind) in
    let h = answers-name d (all_run_right d) k i kind a valid here all in
    pairs_show d i kind x (state_around x.first_size x.first x.window) (state_around x.second_size x.second x.window) (states_around d i kind x h.pair h.relates) h

-- a fact of the question's fields, of those that were kept
along : (d : Desc) (i : Instr) (kind : Kind) (clauses : List (List ℤ)) (u : Unknowns) (usable : List Gate) (cells : List Cell) (P : Unknowns → List Gate → List Cell → Type 0) → IsQuestionOf d i kind clauses u usable cells →
    (let q = question_made d i kind in P q.unknowns q.usable q.cells) → P u usable cells
along d i kind clauses u usable cells P m h =
    let q = question_made d i kind in
    let h1 : P u q.usable q.cells = subst (λ x. P x q.usable q.cells) (sym m.unknowns) h in
    let h2 : P u usable q.cells = subst (λ x. P u x q.cells) (sym m.usable_are) h1 in
    subst (λ x. P u usable x) (sym m.cells_are) h2

pub stands : (d : Desc) (k : ℕ) (kind : Kind) (clauses : List (List ℤ)) (u : Unknowns) (usable : List Gate) (cells : List Cell) (a : List Bool) → IsAsked d k kind clauses u usable cells → clauses_true a clauses ≡ true → Stands d k kind a u usable cells
stands d k kind clauses u usable cells a h all =
    let some = some_at d.instrs k h.in_range in
    let i = some.0 in
    let here = some.1 in
    let m = h.of i here in
    let holds : clauses_true a (question d i kind) ≡ true = ap (clauses_true a) (sym m.clauses_are) ∙ all in
    let st = answers-show d (all_run_right d) k i kind a h.valid here holds in
    record {
      narrow = along d i kind clauses u usable cells Narrow m (narrow-made d k i kind h.valid here);
      first_usable = along d i kind clauses u usable cells (λ x y z. FirstUsable a x y) m st.first_usable;
      second_usable = along d i kind clauses u usable cells (λ x y z. SecondUsable a x y) m st.second_usable;
      shows = λ j there.
          let n = h.of j there in
          along d j kind clauses u usable cells (λ x y z. PlacedShow d j kind a x y z) n (shows-made d k j kind a h.valid there (ap (clauses_true a) (sym n.clauses_are) ∙ all));
    }

-- two states that were placed
pub placed_show : (d : Desc) (i : Instr) (kind : Kind) (a : List Bool) (u : Unknowns) (usable : List Gate) (cells : List Cell) (words : List (ℕ × ℕ)) (v m n : ℕ) (p q : Psw) (s t : Sparse) → PlacedShow d i kind a u usable cells → words ≡ named_cells a cells → v ≡ number a usable → m ≡ number a u.first_size → n ≡ number a u.second_size →
    p ≡ psw_of a u.first_mode u.p u.first_l u.first_b → q ≡ psw_of a u.second_mode u.p u.second_l u.second_b → state_of s ≡ state_around m p (window_of words v) → state_of t ≡ state_around n q (window_of words v) → Shows d i kind (state_of s) (state_of t)
placed_show d i kind a u usable cells words v m n p q s t h ew ev em en ep eq es et =
    let first : state_of s ≡ state_around (number a u.first_size) (psw_of a u.first_mode u.p u.first_l u.first_b) (window_of (named_cells a cells) (number a usable)) = es ∙ (λ j. state_around (em j) (ep j) (window_of (ew j) (ev j))) in
    let second : state_of t ≡ state_around (number a u.second_size) (psw_of a u.second_mode u.p u.second_l u.second_b) (window_of (named_cells a cells) (number a usable)) = et ∙ (λ j. state_around (en j) (eq j) (window_of (ew j) (ev j))) in
    subst (λ x. Shows d i kind (state_of s) x) (sym second) (subst (λ x. Shows d i kind x (state_around (number a u.second_size) (psw_of a u.second_mode u.p u.second_l u.second_b) (window_of (named_cells a cells) (number a usable)))) (sym first) h)

pub stands_as : (d : Desc) (k : ℕ) (kind : Kind) (clauses : List (List ℤ)) (u x : Unknowns) (usable y : List Gate) (cells z : List Cell) (a : List Bool) → IsAsked d k kind clauses u usable cells → clauses_true a clauses ≡ true → x ≡ u → y ≡ usable → z ≡ cells → Stands d k kind a x y z
stands_as d k kind clauses u x usable y cells z a h all eu ey ez =
    let s = stands d k kind clauses u usable cells a h all in
    let s1 : Stands d k kind a x usable cells = subst (λ w. Stands d k kind a w usable cells) (sym eu) s in
    let s2 : Stands d k kind a x y cells = subst (λ w. Stands d k kind a x w cells) (sym ey) s1 in
    subst (λ w. Stands d k kind a x y w) (sym ez) s2

pub room_as : (v w n m : ℕ) (p q : Psw) → v ≡ w → n ≡ m → p ≡ q → w ≡ window_len_of q m → v ≡ window_len_of p n
room_as v w n m p q ev en ep h = ev ∙ h ∙ sym (λ j. window_len_of (ep j) (en j))

-- the words of touched cells, cell by cell
pub named_more : (values : List Bool) (cells : List Cell) (i : ℕ) (done all : List (ℕ × ℕ)) (at word : ℕ) (c : Cell) → i < length cells → c ≡ get_or cells i c → at ≡ number values c.address → word ≡ number values c.word →
    all ≡ done ++ (at, word) ∷ [] → done ++ named_cells values (drop i cells) ≡ named_cells values cells → all ++ named_cells values (drop (i + 1) cells) ≡ named_cells values cells
named_more values cells i done all at word c lt ec ea ew e h =
    let rest : List (ℕ × ℕ) = named_cells values (drop (i + 1) cells) in
    let here : drop i cells ≡ c ∷ drop (i + 1) cells = drop_more cells i c lt ∙ ap (λ z. z ∷ drop (i + 1) cells) (sym ec) in
    ap (λ z. z ++ rest) e ∙ append_assoc done ((at, word) ∷ []) rest
    ∙ ap (λ a. done ++ (a, word) ∷ rest) ea ∙ ap (λ w. done ++ (number values c.address, w) ∷ rest) ew
    ∙ ap (λ zs. done ++ named_cells values zs) (sym here) ∙ h

pub named_over : (values : List Bool) (cells : List Cell) (i : ℕ) (done : List (ℕ × ℕ)) → length cells ≤ i → done ++ named_cells values (drop i cells) ≡ named_cells values cells → done ≡ named_cells values cells
named_over values cells i done le h = sym (append-nil done) ∙ ap (λ zs. done ++ named_cells values zs) (sym (drop_all i cells le)) ∙ h
