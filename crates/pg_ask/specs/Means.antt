-- What a question means: the pairs of states that values of its nodes stand for, and which pairs have values.
use Rattle.std.specs.Prelude.{◌≡◌, ℕ, ◌^◌, ◌<◌, Bool, true, List, [], length, map, take, slice_get, Some, All}
use Rattle.pg_circuit.specs.Nodes.{input_count, IsCircuit}
use Rattle.pg_circuit.specs.Values.{gate_value, values_of, IsThere}
use Rattle.pg_vec.specs.Number.{number}
use Rattle.pg_cells.specs.declared.cell.Cell.{Cell}
use Rattle.pg_cells.specs.Storage.{IsStorage, Agrees, AreConsistent}
use Rattle.pg_cells.specs.Cells.{known_cells}
use Rattle.pg_cells.specs.Over.{IsOver}
use Rattle.pg_cnf.specs.Truth.{clauses_true}
use Rattle.pg_circuit.specs.declared.node.Gate.{Gate}
use Rattle.pg_word.specs.declared.psw.Psw.{Psw}
use Rattle.pg_word.specs.Psw.{mode_of, window_len_of}
use Rattle.pg_ast.specs.declared.tree.Instr.{Instr}
use Rattle.pg_ast.specs.declared.tree.Desc.{Desc}
use Rattle.pg_lang_valid.specs.Valid.{IsValid}
use Rattle.pg_type.specs.declared.kind.Kind.{Kind}
use Rattle.pg_symex.specs.Numbers.{entry_psw}
use Rattle.pg_symex.specs.There.{AreBits}
use Rattle.pg_type.specs.Pair.{Pair, PairShows}
use Rattle.pg_type.specs.Placing.{window_of}
use Rattle.pg_ask.specs.Unknowns.{first_regs, second_regs}
use Rattle.pg_ask.specs.There.{AreUnknowns}
use Rattle.pg_ask.specs.Ends.{view_for}
use Rattle.pg_ask.specs.Question.{Question, question_made, question}
use Rattle.pg_ask.specs.Asked.{Decides}

-- ---- what there is

-- a question is of a circuit: its root, the unknowns and the number of usable cells are there, of their widths, and the cells are
-- over it, under no write
pub record IsQuestion (d : Desc) (q : Question) : Type 0 where
  pub circuit : IsCircuit q.nodes
  pub root : IsThere (length q.nodes) q.root
  pub unknowns : AreUnknowns (length q.nodes) d.address q.unknowns
  pub usable : AreBits (length q.nodes) d.address q.usable
  pub over : IsOver q.nodes (view_for d q.cells [])

abbrev pub QuestionsAre : Desc → Type 0
QuestionsAre d = (k : ℕ) (i : Instr) (kind : Kind) → IsValid d → slice_get d.instrs k ≡ Some i → IsQuestion d (question_made d i kind)

-- ---- from values to pairs

-- the pair of states that values of the nodes stand for, where the storage has these words: the window is its first usable cells
abbrev pub pair_of : List Bool → List ℕ → Question → Pair
pair_of values storage q = record {
  window = take (number values q.usable) storage;
  first = entry_psw values (first_regs q.unknowns q.usable);
  second = entry_psw values (second_regs q.unknowns q.usable);
  first_size = number values q.unknowns.first_size;
  second_size = number values q.unknowns.second_size;
}

-- Values stand for pairs that show a kind: no two cells contradict each other, and each is a word of the machine; both states have
-- as many usable cells as is said; and with every storage that has the words of the cells the pair shows the kind.
pub record StandFor (d : Desc) (i : Instr) (kind : Kind) (values : List Bool) (q : Question) : Type 0 where
  pub consistent : AreConsistent (known_cells values q.cells)
  pub words : All (λ c. c.word < 2 ^ d.word) (known_cells values q.cells)
  pub first_usable : number values q.usable ≡ window_len_of (entry_psw values (first_regs q.unknowns q.usable)) (number values q.unknowns.first_size)
  pub second_usable : number values q.usable ≡ window_len_of (entry_psw values (second_regs q.unknowns q.usable)) (number values q.unknowns.second_size)
  pub shows : (storage : List ℕ) → IsStorage d.word d.address storage → Agrees storage (known_cells values q.cells) → PairShows d i kind (pair_of values storage q)

-- whatever the inputs are, where the root is true
abbrev pub AssignmentsShow : Desc → Type 0
AssignmentsShow d = (k : ℕ) (i : Instr) (kind : Kind) (inputs : List Bool) → IsValid d → slice_get d.instrs k ≡ Some i →
    (let q = question_made d i kind in gate_value (values_of inputs q.nodes) q.root) ≡ true →
    (let q = question_made d i kind in StandFor d i kind (values_of inputs q.nodes) q)

-- the same of whatever makes all clauses true: a value for each node in order, false past its end
abbrev pub AnswersShow : Desc → Type 0
AnswersShow d = (k : ℕ) (i : Instr) (kind : Kind) (assignment : List Bool) → IsValid d → slice_get d.instrs k ≡ Some i →
    clauses_true assignment (question d i kind) ≡ true → StandFor d i kind assignment (question_made d i kind)

-- the program status word of registers that are gates
abbrev pub psw_of : List Bool → (mode p l b : List Gate) → Psw
psw_of values mode p l b = record { mode = mode_of (number values mode); p = number values p; l = number values l; b = number values b }

-- the words of touched cells, each with its address, in the order of the touches
abbrev pub named_cells : List Bool → List Cell → List (ℕ × ℕ)
named_cells values cells = map (λ c. (number values c.address, number values c.word)) cells

-- the pair of states that values stand for whose window has the words of the touched cells, and zeros elsewhere
abbrev pub named_pair : List Bool → Question → Pair
named_pair values q = record {
  window = window_of (named_cells values q.cells) (number values q.usable);
  first = entry_psw values (first_regs q.unknowns q.usable);
  second = entry_psw values (second_regs q.unknowns q.usable);
  first_size = number values q.unknowns.first_size;
  second_size = number values q.unknowns.second_size;
}

abbrev pub AnswersName : Desc → Type 0
AnswersName d = (k : ℕ) (i : Instr) (kind : Kind) (assignment : List Bool) → IsValid d → slice_get d.instrs k ≡ Some i →
    clauses_true assignment (question d i kind) ≡ true → PairShows d i kind (named_pair assignment (question_made d i kind))

-- ---- from pairs to values

-- there are inputs under which the root is true
pub record HasAssignment (q : Question) : Type 0 where
  pub inputs : List Bool
  pub as_many : length inputs ≡ input_count q.nodes
  pub holds : gate_value (values_of inputs q.nodes) q.root ≡ true

abbrev pub PairsHaveAssignments : Desc → Type 0
PairsHaveAssignments d = (k : ℕ) (i : Instr) (kind : Kind) (x : Pair) → IsValid d → slice_get d.instrs k ≡ Some i → PairShows d i kind x → HasAssignment (question_made d i kind)

-- ---- both

-- the question does not depend on whether traps tell their causes
abbrev pub CausesKeepQuestions : Desc → Type 0
CausesKeepQuestions d = (i : Instr) (kind : Kind) (causes : Bool) → question (record d { causes = causes }) i kind ≡ question d i kind

-- *questions-exact*: the clauses of a question have an assignment exactly where two states show the kind
abbrev pub QuestionsExact : Desc → Type 0
QuestionsExact d = (k : ℕ) (i : Instr) (kind : Kind) → IsValid d → slice_get d.instrs k ≡ Some i →
    Decides d i kind (question d i kind)
