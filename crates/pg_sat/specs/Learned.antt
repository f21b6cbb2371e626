-- What a conflict teaches.
use Rattle.std.specs.Prelude.{◌≡◌, ◌≢◌, ℕ, ◌+◌, ◌*◌, ◌<◌, ◌≤◌, true, false, ℤ, pos, neg_ℤ, List, [], ◌∷◌, ◌++◌, length, map, take, Some, None, slice_index_or}
use Rattle.pg_proof.specs.declared.step.Step.{Step}
use Rattle.pg_proof.specs.State.{AreHeldWithin}
use Rattle.pg_proof.specs.Refutation.{fault_of}
use Rattle.pg_proof.specs.Tight.{is_tight}
use Rattle.pg_proof.specs.Places.{has}
use Rattle.pg_proof.specs.New.{IsNew}
use Rattle.pg_proof.specs.Covered.{is_covered}
use Rattle.pg_watch.specs.Trail.{Trail, value_of}
use Rattle.pg_sat.specs.Cut.{IsCut}
use Rattle.pg_sat.specs.Jump.{IsJump}

-- a step over clauses that is valid and tight, and whose literals are all false: a cut
pub record IsLearned (variables : ℕ) (clauses : List (List ℤ)) (set : List ℤ) (step : Step) : Type 0 where
  pub valid : fault_of variables (map Some clauses) step ≡ None
  pub tight : is_tight variables (map Some clauses) step ≡ true
  pub cut : IsCut (map Some clauses) set (has step.lits) step.hints

-- whatever the greatest variable of the clauses is
abbrev pub IsLearnedWithin : ℕ → List (List ℤ) → List ℤ → Step → Type 0
IsLearnedWithin variables clauses set step =
    (n : ℕ) → n ≤ variables → AreHeldWithin (2 * n + 2) (map Some clauses) → IsLearned n clauses set step

-- all literals but the negation of one are false, and that one is unset
pub record IsAsserting (set : List ℤ) (z : ℤ) (lits : List ℤ) : Type 0 where
  pub there : has lits (neg_ℤ z) ≡ true
  pub unset : value_of set (neg_ℤ z) ≡ None
  pub others : (y : ℤ) → has lits y ≡ true → neg_ℤ z ≢ y → value_of set y ≡ Some false

-- of a conflict behind a place where nothing was left to propagate: a step, new to unit propagation, that sets the negation
-- of the literal at a later place
pub record IsTaught (variables : ℕ) (clauses : List (List ℤ)) (literals : List ℤ) (last place : ℕ) (step : Step) : Type 0 where
  pub from : last ≤ place
  pub there : place < length literals
  pub set : List ℤ
  pub learned : IsLearnedWithin variables clauses set step
  pub asserting : IsAsserting (take last literals) (slice_index_or literals place (pos 0)) step.lits
  pub fresh : IsNew clauses step.lits
  pub uncovered : is_covered (map Some clauses) step.lits ≡ false

-- a step that a conflict teaches, put at the end of the others, with its clause, and where the trail is cut for it
pub record IsLesson (variables : ℕ) (clauses : List (List ℤ)) (trail : Trail) (last : ℕ) (before after : List Step) (clause : List ℤ) (jump : ℕ) : Type 0 where
  pub place : ℕ
  pub step : Step
  pub taught : IsTaught variables clauses trail.literals last place step
  pub logged : after ≡ before ++ step ∷ []
  pub held : clause ≡ step.lits
  pub cut : IsJump trail step.lits jump
