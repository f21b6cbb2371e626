-- What a search that forgets finds.
use Rattle.std.specs.Prelude.{◌≡◌, ℕ, ℤ, List, length, map, Some}
use Rattle.pg_proof.specs.declared.step.Step.{Step}
use Rattle.pg_proof.specs.declared.step.Act.TheVariants.{Add}
use Rattle.pg_proof.specs.State.{variables_of}
use Rattle.pg_proof.specs.Numbering.{AreValid}
use Rattle.pg_sat.specs.Answers.{IsModel, IsRefuted}
use Rattle.pg_sat_search.specs.declared.found.Found.{Found}
use Rattle.pg_sat_search.specs.declared.found.Found.TheVariants.{Model, Refuted, Open}
use Rattle.pg_sat_search.specs.declared.search.Ended.{Ended}
use Rattle.pg_sat_search.specs.declared.search.Ended.TheVariants.{Satisfied, Closed, Exhausted}

-- so many steps were learned, each valid over the question and those before it
pub record IsOpen (question : List (List ℤ)) (budget : ℕ) (steps : List Step) : Type 0 where
  pub exactly : length steps ≡ budget
  pub valid : AreValid (variables_of question) (map Some question) (map Add steps)

abbrev pub IsFinding : List (List ℤ) → ℕ → ℕ → Found → Type 0
IsFinding question variables budget (Model assignment) = IsModel question variables assignment
IsFinding question variables budget (Refuted steps) = IsRefuted question budget steps
IsFinding question variables budget (Open steps) = IsOpen question budget steps

-- the end of a search after these steps
abbrev pub IsEnded : List (List ℤ) → ℕ → ℕ → List Step → Ended → Type 0
IsEnded question variables budget steps (Satisfied assignment) = IsModel question variables assignment
IsEnded question variables budget steps Closed = IsRefuted question budget steps
IsEnded question variables budget steps Exhausted = IsOpen question budget steps
