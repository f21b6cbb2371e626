-- What the solver answers.
use Rattle.std.specs.Prelude.{◌≡◌, ℕ, ◌≤◌, Bool, true, false, ℤ, neg_ℤ, List, [], ◌∷◌, ◌++◌, length, map}
use Rattle.pg_cnf.specs.Truth.{clauses_true}
use Rattle.pg_proof.specs.declared.step.Step.{Step}
use Rattle.pg_proof.specs.declared.step.Act.TheVariants.{Add}
use Rattle.pg_proof.specs.Places.{has}
use Rattle.pg_proof.specs.New.{AreQuiet}
use Rattle.pg_proof.specs.Log.{IsClosedLog}
use Rattle.pg_sat.specs.declared.answer.Answer.{Answer}
use Rattle.pg_sat.specs.declared.answer.Answer.TheVariants.{Sat, Unsat, Spent}
use Rattle.pg_sat.specs.declared.solver.Ended.{Ended}
use Rattle.pg_sat.specs.declared.solver.Ended.TheVariants.{Satisfied, Refuted, Exhausted}
use Rattle.pg_sat.specs.Solving.{clauses_of, IsLog}

-- an assignment of all variables that makes all clauses true
pub record IsModel (question : List (List ℤ)) (variables : ℕ) (assignment : List Bool) : Type 0 where
  pub long : length assignment ≡ variables
  pub holds : clauses_true assignment question ≡ true

-- a closed log, whose last step is the empty clause, after at most so many steps
pub record IsRefuted (question : List (List ℤ)) (budget : ℕ) (steps : List Step) : Type 0 where
  pub before : List Step
  pub last : Step
  pub whole : steps ≡ before ++ last ∷ []
  pub empty : last.lits ≡ []
  pub few : length before ≤ budget
  pub closed : IsClosedLog question (map Add steps)

-- unit propagation alone does not refute these clauses: some literals can be set true, no variable both ways, while none of
-- the clauses is unit or falsified
pub record IsUnrefuted (clauses : List (List ℤ)) : Type 0 where
  pub trail : List ℤ
  pub consistent : (z : ℤ) → has trail z ≡ true → has trail (neg_ℤ z) ≡ false
  pub quiet : AreQuiet trail clauses

-- so many steps, each worth its place and new, and the empty clause is not the next
pub record IsExhausted (question : List (List ℤ)) (budget : ℕ) (steps : List Step) : Type 0 where
  pub exactly : length steps ≡ budget
  pub log : IsLog question steps
  pub unrefuted : IsUnrefuted (question ++ clauses_of steps)

abbrev pub IsAnswer : List (List ℤ) → ℕ → ℕ → Answer → Type 0
IsAnswer question variables budget (Sat assignment) = IsModel question variables assignment
IsAnswer question variables budget (Unsat steps) = IsRefuted question budget steps
IsAnswer question variables budget (Spent steps) = IsExhausted question budget steps

-- the end of a search after these steps
abbrev pub IsEnded : List (List ℤ) → ℕ → ℕ → List Step → Ended → Type 0
IsEnded question variables budget steps (Satisfied assignment) = IsModel question variables assignment
IsEnded question variables budget steps Refuted = IsRefuted question budget steps
IsEnded question variables budget steps Exhausted = IsExhausted question budget steps
