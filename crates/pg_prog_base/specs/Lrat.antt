-- Logs as text, in the format LRAT, with lines that end in LF and numbers in decimal digits.
use Rattle.std.specs.Prelude.{◌≡◌, ℕ, suc, ℤ, List, [], ◌∷◌, ◌++◌, length}
use Rattle.std.specs.Fmt.{decimal}
use Rattle.pg_proof.specs.declared.step.Act.{Act}
use Rattle.pg_proof.specs.declared.step.Act.TheVariants.{Add, Remove}
use Rattle.pg_proof.specs.Log.{IsClosedLog}
use Rattle.pg_prog_base.specs.Dimacs.{literals_text}

-- numbers, with a space behind each
unfoldable pub numbers_text : List ℕ → List ℕ
numbers_text [] = []
numbers_text (n ∷ ns) = decimal n ++ 32 ∷ numbers_text ns

-- a step, under its number: its literals, 0, its hints, and 0
unfoldable pub step_text : ℕ → List ℤ → List ℕ → List ℕ
step_text n lits hints = decimal n ++ 32 ∷ literals_text lits ++ 48 ∷ 32 ∷ numbers_text hints ++ 48 ∷ 10 ∷ []

-- a removal, under the number of the last clause: a d, the numbers, and 0
unfoldable pub removal_text : ℕ → List ℕ → List ℕ
removal_text n numbers = decimal n ++ 32 ∷ 100 ∷ 32 ∷ numbers_text numbers ++ 48 ∷ 10 ∷ []

-- a line for each act, behind the clause with a number. A step's clause gets the next number
unfoldable pub acts_text : ℕ → List Act → List ℕ
acts_text n [] = []
acts_text n (Add step ∷ acts) = step_text (suc n) step.lits step.hints ++ acts_text (suc n) acts
acts_text n (Remove numbers ∷ acts) = removal_text n numbers ++ acts_text n acts

-- the clauses of the question have the numbers from 1 on
abbrev pub lrat_text : List (List ℤ) → List Act → List ℕ
lrat_text clauses acts = acts_text (length clauses) acts

-- the text of a log that refutes these clauses
pub record IsLratText (clauses : List (List ℤ)) (text : List ℕ) : Type 0 where
  pub acts : List Act
  pub closed : IsClosedLog clauses acts
  pub whole : text ≡ lrat_text clauses acts
