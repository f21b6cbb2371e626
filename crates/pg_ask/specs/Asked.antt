-- What is kept of a question that was asked.
use Rattle.std.specs.Prelude.{◌≡◌, ◌↔◌, ℕ, ◌<◌, Bool, true, ℤ, List, length, slice_get, Some}
use Rattle.pg_circuit.specs.declared.node.Gate.{Gate}
use Rattle.pg_cells.specs.declared.cell.Cell.{Cell}
use Rattle.pg_ast.specs.declared.tree.Instr.{Instr}
use Rattle.pg_ast.specs.declared.tree.Desc.{Desc}
use Rattle.pg_lang_valid.specs.Valid.{IsValid}
use Rattle.pg_type.specs.declared.kind.Kind.{Kind}
use Rattle.pg_type.specs.Kinds.{Shows}
use Rattle.pg_cnf.specs.Truth.{clauses_true}
use Rattle.pg_lang_meaning.specs.States.{State}
use Rattle.pg_ask.specs.declared.unknowns.Unknowns.{Unknowns}
use Rattle.pg_ask.specs.Question.{question_made, question}

-- clauses have an assignment that makes all of them true exactly where two states show the kind
abbrev pub Decides : Desc → Instr → Kind → List (List ℤ) → Type 0
Decides d i kind clauses = ((assignment : List Bool) × (clauses_true assignment clauses ≡ true)) ↔ ((s : State) × (t : State) × Shows d i kind s t)

-- the clauses of a question, its unknowns, the number of usable cells, and the touched cells
pub record IsQuestionOf (d : Desc) (i : Instr) (kind : Kind) (clauses : List (List ℤ)) (u : Unknowns) (usable : List Gate) (cells : List Cell) : Type 0 where
  pub clauses_are : clauses ≡ question d i kind
  pub unknowns : u ≡ (question_made d i kind).unknowns
  pub usable_are : usable ≡ (question_made d i kind).usable
  pub cells_are : cells ≡ (question_made d i kind).cells

-- the same of the instruction with a number, of a valid description
pub record IsAsked (d : Desc) (instr : ℕ) (kind : Kind) (clauses : List (List ℤ)) (u : Unknowns) (usable : List Gate) (cells : List Cell) : Type 0 where
  pub valid : IsValid d
  pub in_range : instr < length d.instrs
  pub of : (i : Instr) → slice_get d.instrs instr ≡ Some i → IsQuestionOf d i kind clauses u usable cells
