-- Clauses as text, in the format DIMACS CNF, with lines that end in LF and numbers in decimal digits.
use Rattle.std.specs.Prelude.{◌≡◌, ◌≢◌, ℕ, max, ℤ, nat_abs, List, [], ◌∷◌, ◌++◌, length, codes, All}
use Rattle.std.specs.Fmt.{decimal, signed_decimal}

-- literals, with a space behind each
unfoldable pub literals_text : List ℤ → List ℕ
literals_text [] = []
literals_text (z ∷ zs) = signed_decimal z ++ 32 ∷ literals_text zs

-- a line for each clause: its literals, and 0
unfoldable pub clauses_text : List (List ℤ) → List ℕ
clauses_text [] = []
clauses_text (c ∷ cs) = literals_text c ++ 48 ∷ 10 ∷ clauses_text cs

-- the greatest variable of some literals; 0 where there are none
unfoldable pub greatest_in : List ℤ → ℕ
greatest_in [] = 0
greatest_in (z ∷ zs) = max (nat_abs z) (greatest_in zs)

-- the greatest variable that stands in a clause; 0 where none does
unfoldable pub greatest_variable : List (List ℤ) → ℕ
greatest_variable [] = 0
greatest_variable (c ∷ cs) = max (greatest_in c) (greatest_variable cs)

-- the head: how many variables and clauses there are
unfoldable pub head_text : ℕ → ℕ → List ℕ
head_text variables clauses = codes "p cnf " ++ decimal variables ++ 32 ∷ decimal clauses ++ 10 ∷ []

-- the head, and the clauses in their order
unfoldable pub dimacs_text : List (List ℤ) → List ℕ
dimacs_text clauses = head_text (greatest_variable clauses) (length clauses) ++ clauses_text clauses

-- ---- lines of comment

-- bytes of one line: none of them is LF
pub record IsOneLine (bytes : List ℕ) : Type 0 where
  pub each : All (λ byte. byte ≢ 10) bytes

-- a line for each: `c`, what it says, and LF
unfoldable pub comment_lines : List (List ℕ) → List ℕ
comment_lines [] = []
comment_lines (said ∷ more) = 99 ∷ said ++ 10 ∷ comment_lines more

-- lines of comment and nothing else
pub record AreComments (text : List ℕ) : Type 0 where
  pub said : List (List ℕ)
  pub each : All IsOneLine said
  pub whole : text ≡ comment_lines said

-- a text that goes on within a line
pub record GoesOn (old new : List ℕ) : Type 0 where
  pub more : List ℕ
  pub one : IsOneLine more
  pub whole : new ≡ old ++ more

-- ---- a question

-- lines of comment, and then the text of these clauses
pub record IsQuestionText (clauses : List (List ℤ)) (text : List ℕ) : Type 0 where
  pub comments : List ℕ
  pub skipped : AreComments comments
  pub whole : text ≡ comments ++ dimacs_text clauses
