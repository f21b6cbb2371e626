-- What is told of a state at which an instruction stands, and where two windows hold different words.
use Rattle.std.specs.Prelude.{◌≡◌, ◌≢◌, ◌⊎◌, ℕ, List, Some, slice_get}
use Rattle.std.specs.List.{All}
use Rattle.pg_word.specs.declared.psw.Psw.{Psw}
use Rattle.pg_lang_meaning.specs.States.{State}
use Rattle.pg_out_pair.specs.declared.differences.Difference.{Difference}

-- the storage of a state, under another PSW
abbrev pub seen : Psw → State → State
seen psw s = record { cells = s.cells; psw = psw }

-- at an address of two windows there are these two words, which are different
pub record IsDifference (xs ys : List ℕ) (d : Difference) : Type 0 where
  pub first : slice_get xs d.at ≡ Some d.first
  pub second : slice_get ys d.at ≡ Some d.second
  pub differ : d.first ≢ d.second

-- a difference at an address is one of a list
pub record IsListed (ds : List Difference) (a : ℕ) : Type 0 where
  pub place : ℕ
  pub difference : Difference
  pub there : slice_get ds place ≡ Some difference
  pub at : difference.at ≡ a

-- an address of two windows at which they are the same, or else a difference is listed
abbrev pub IsSettled : (xs ys : List ℕ) → List Difference → ℕ → Type 0
IsSettled xs ys ds a = (slice_get xs a ≡ slice_get ys a) ⊎ IsListed ds a

-- the differences of two windows: each of these is one, and each is among these
pub record AreDifferences (xs ys : List ℕ) (ds : List Difference) : Type 0 where
  pub each : All (IsDifference xs ys) ds
  pub whole : (a : ℕ) → IsSettled xs ys ds a
