-- What is kept while a question is solved.
use Rattle.std.specs.Prelude.{◌≡◌, ℕ, ◌+◌, ◌*◌, ◌≤◌, ⊤, ℤ, List, [], ◌∷◌, ◌++◌, length, map, take, Some}
use Rattle.pg_proof.specs.declared.step.Step.{Step}
use Rattle.pg_proof.specs.declared.step.Act.TheVariants.{Add}
use Rattle.pg_proof.specs.State.{variables_of, AreHeldWithin, begun}
use Rattle.pg_proof.specs.Log.{IsSpentFrom}
use Rattle.pg_proof.specs.New.{IsNew}
use Rattle.pg_watch.specs.Trail.{Trail, IsQuiet}
use Rattle.pg_watch.specs.Assigned.{IsAssigned}
use Rattle.pg_sat_guide.specs.Over.{IsOver}

-- the clauses of steps
abbrev pub clauses_of : List Step → List (List ℤ)
clauses_of [] = []
clauses_of (s ∷ ss) = s.lits ∷ clauses_of ss

-- each step is new over some clauses and those of the earlier steps
abbrev pub AreNew : List (List ℤ) → List Step → Type 0
AreNew clauses [] = ⊤
AreNew clauses (s ∷ ss) = IsNew clauses s.lits × AreNew (clauses ++ s.lits ∷ []) ss

-- steps over a question: each worth its place, and new
pub record IsLog (question : List (List ℤ)) (steps : List Step) : Type 0 where
  pub spent : IsSpentFrom (begun question) (length steps) (map Add steps)
  pub fresh : AreNew question steps

-- before each literal that was assigned nothing was left to propagate
abbrev pub AreQuietBefore : List (List ℤ) → Trail → Type 0
AreQuietBefore clauses trail = (d : ℕ) → IsAssigned trail d → IsQuiet clauses (take d trail.literals)

pub record IsSolving (question : List (List ℤ)) (variables : ℕ) (clauses : List (List ℤ)) (trail : Trail) (steps : List Step) : Type 0 where
  pub over : IsOver variables clauses trail
  pub same : clauses ≡ question ++ clauses_of steps
  pub greatest : variables_of question ≤ variables
  pub places : AreHeldWithin (2 * variables_of question + 2) (map Some clauses)
  pub log : IsLog question steps
  pub levels : AreQuietBefore clauses trail
