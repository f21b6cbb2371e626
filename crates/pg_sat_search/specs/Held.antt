-- What is held of a log while its clauses are forgotten.
use Rattle.std.specs.Prelude.{◌≡◌, ℕ, zero, suc, ◌+◌, ◌-◌, ◌*◌, ◌≤◌, ℤ, List, [], ◌∷◌, ◌++◌, length, map, Some, slice_index_or}
use Rattle.pg_cnf.specs.Literals.{AreClauses}
use Rattle.pg_proof.specs.declared.step.Step.{Step}
use Rattle.pg_proof.specs.declared.step.Act.TheVariants.{Add}
use Rattle.pg_proof.specs.State.{clause_at, variables_of, AreHeldWithin}
use Rattle.pg_proof.specs.Numbering.{AreValid}
use Rattle.pg_watch.specs.State.{State}
use Rattle.pg_sat_guide.specs.Over.{IsOver}
use Rattle.pg_sat.specs.Solving.{clauses_of, AreQuietBefore}

-- the number in the log of the clause that is held under a number
abbrev pub number_in : List ℕ → ℕ → ℕ
number_in numbers h = slice_index_or numbers (h - 1) 0

-- a step that names clauses by the numbers that they have in the log
abbrev pub renumbered : List ℕ → Step → Step
renumbered numbers step = record { lits = step.lits; hints = map (number_in numbers) step.hints }

-- the numbers from 1 to a last one
abbrev pub first_numbers : ℕ → List ℕ
first_numbers zero = []
first_numbers (suc n) = first_numbers n ++ suc n ∷ []

-- each clause that is held stands in the log under its number
abbrev pub AreNumbered : List (List ℤ) → List (List ℤ) → List ℕ → Type 0
AreNumbered log clauses numbers =
    (h : ℕ) (c : List ℤ) → clause_at (map Some clauses) h ≡ Some c → clause_at (map Some log) (number_in numbers h) ≡ Some c

-- the clauses of a question, and some that steps learned, no more than there are steps
pub record IsHeld (question : List (List ℤ)) (variables : ℕ) (steps : List Step) (clauses : List (List ℤ)) (numbers : List ℕ) : Type 0 where
  pub learned : List (List ℤ)
  pub same : clauses ≡ question ++ learned
  pub right : AreClauses variables clauses
  pub places : AreHeldWithin (2 * variables_of question + 2) (map Some clauses)
  pub as_many : length numbers ≡ length clauses
  pub numbered : AreNumbered (question ++ clauses_of steps) clauses numbers
  pub few : length clauses ≤ length question + length steps

-- what is kept while a question is searched: each step is valid over the question and the steps before it
pub record IsForgetting (question : List (List ℤ)) (variables : ℕ) (state : State) (numbers : List ℕ) (steps : List Step) : Type 0 where
  pub over : IsOver variables state.clauses state.trail
  pub greatest : variables_of question ≤ variables
  pub held : IsHeld question variables steps state.clauses numbers
  pub valid : AreValid (variables_of question) (map Some question) (map Add steps)
  pub levels : AreQuietBefore state.clauses state.trail
