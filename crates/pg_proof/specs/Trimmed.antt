-- Logs that show the same with fewer steps.
use Rattle.std.specs.Prelude.{◌≡◌, ⊤, ◌⊎◌, ◌++◌, map, ℤ, List, [], ◌∷◌, Option, Some, ℕ, suc, ◌+◌, ◌<◌, ◌≤◌, Bool, true, false, ◌||◌, nat_eq, length}
use Rattle.std.specs.List.{list_any}
use Rattle.pg_proof.specs.declared.step.Act.{Act}
use Rattle.pg_proof.specs.declared.step.Act.TheVariants.{Add, Remove}
use Rattle.pg_proof.specs.Tight.{hint_clauses}
use Rattle.pg_proof.specs.Log.{IsClosedLog}
use Rattle.pg_proof.specs.State.{State, clause_at, begun, with_clause}
use Rattle.pg_proof.specs.Removal.{after_removal}

-- all clauses that have a number after acts, also those that were taken away
abbrev pub full : List (Option (List ℤ)) → List Act → List (Option (List ℤ))
full numbered [] = numbered
full numbered (Add step ∷ acts) = full (numbered ++ Some step.lits ∷ []) acts
full numbered (Remove numbers ∷ acts) = full numbered acts

-- what each step shows, and of what: its clause, and the clauses that its hints name
abbrev pub shown : List (Option (List ℤ)) → List Act → List (List ℤ × List (List ℤ))
shown numbered [] = []
shown numbered (Add step ∷ acts) = (step.lits, hint_clauses numbered step.hints) ∷ shown (numbered ++ Some step.lits ∷ []) acts
shown numbered (Remove numbers ∷ acts) = shown numbered acts

-- one list is what is left of another, in its order
abbrev pub IsPart : {A : Type 0} → List A → List A → Type 0
IsPart [] ys = ⊤
IsPart (x ∷ xs) [] = ⊥
IsPart (x ∷ xs) (y ∷ ys) = ((x ≡ y) × IsPart xs ys) ⊎ IsPart (x ∷ xs) ys

-- how many steps there are among acts
abbrev pub step_count : List Act → ℕ
step_count [] = 0
step_count (Add step ∷ acts) = suc (step_count acts)
step_count (Remove numbers ∷ acts) = step_count acts

abbrev pub has_hint : List ℕ → ℕ → Bool
has_hint hints n = list_any (λ h. nat_eq h n) hints

-- whether a clause is a hint of a step
abbrev pub is_named : ℕ → List Act → Bool
is_named n [] = false
is_named n (Add step ∷ acts) = has_hint step.hints n || is_named n acts
is_named n (Remove numbers ∷ acts) = is_named n acts

abbrev pub AddsEmpty : Act → Type 0
AddsEmpty (Add step) = step.lits ≡ []
AddsEmpty (Remove numbers) = ⊥

-- the last act adds the empty clause
abbrev pub EndsEmpty : List Act → Type 0
EndsEmpty [] = ⊥
EndsEmpty (act ∷ []) = AddsEmpty act
EndsEmpty (act ∷ next ∷ acts) = EndsEmpty (next ∷ acts)

-- each clause of a step that is held is a hint of one of some acts
abbrev pub AreServing : ℕ → List (Option (List ℤ)) → List Act → Type 0
AreServing question held acts = (h : ℕ) (c : List ℤ) → question < h → clause_at held h ≡ Some c → is_named h acts ≡ true

-- numbers ascend from a least one on
abbrev pub AreAscending : ℕ → List ℕ → Type 0
AreAscending least [] = ⊤
AreAscending least (n ∷ ns) = (least ≤ n) × AreAscending n ns

-- where a step is added, each clause of a step that is held is a hint of it or of a later one. What is taken away is one
-- clause at least, ascends, and the question's clauses stay
abbrev pub IsTidyFrom : ℕ → State → List Act → Type 0
IsTidyFrom question state [] = ⊤
IsTidyFrom question state (Add step ∷ acts) = AreServing question state.held (Add step ∷ acts) × IsTidyFrom question (with_clause state step.lits) acts
IsTidyFrom question state (Remove numbers ∷ acts) =
    (0 < length numbers) × AreAscending (question + 1) numbers × ((after : State) → after_removal state numbers ≡ Some after → IsTidyFrom question after acts)

abbrev pub IsTidy : List (List ℤ) → List Act → Type 0
IsTidy question acts = IsTidyFrom (length question) (begun question) acts

-- a log of the question, closed as the given one is. What its steps show, and of what, is part of what those of the given one
-- do, its last act adds the empty clause, and each other step is a hint of another: a later one, since hints are earlier numbers.
-- A step's clause is taken away once no later step has it as a hint
pub record IsTrimmed (question : List (List ℤ)) (given log : List Act) : Type 0 where
  pub closed : IsClosedLog question log
  pub part : IsPart (shown (map Some question) log) (shown (map Some question) given)
  pub last : EndsEmpty log
  pub named : (p : ℕ) → suc p < step_count log → is_named (length question + p + 1) log ≡ true
  pub tidy : IsTidy question log
