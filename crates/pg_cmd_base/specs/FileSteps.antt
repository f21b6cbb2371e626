-- A step that loads a file and reads it, whatever it is read as.
use Rattle.std.specs.Prelude.{◌≡◌, ◌⊎◌, ℕ, ◌≤◌, List, length, Option, Result, Ok, Err}
use Rattle.pg_edge.specs.Shelf.{Files, HoldsFile, LacksFile, HoldsLonger}
use Rattle.pg_cmd_base.specs.Steps.{Step, Came, Refused, Misread}

-- why nothing came of a file: it is not there, or it is faulty in a way of its kind
pub data FileFault (E : Type 0) : Type 0 where
  Absent : FileFault E
  Faulty : E → FileFault E

-- a file of this name holds these bytes, which are no more than the limit
pub record HoldsWithin (told : Option Files) (name : List ℕ) (limit : ℕ) (bytes : List ℕ) : Type 0 where
  pub holds : HoldsFile told name bytes
  pub within : length bytes ≤ limit

-- a file of at most so many bytes is loaded, and what it holds is read; a longer one is faulty in the way named. Where the
-- step is reached, the read may fail.
abbrev pub FromFile : {E X : Type 0} → Option Files → List ℕ → ℕ → E → (List ℕ → Result X E → Type 0) → Step (FileFault E) X
FromFile told name limit long reads (Came x) = (bytes : List ℕ) × HoldsWithin told name limit bytes × reads bytes (Ok x)
FromFile told name limit long reads (Refused Absent) = LacksFile told name
FromFile told name limit long reads (Refused (Faulty e)) =
    (HoldsLonger told name limit × (e ≡ long)) ⊎ ((bytes : List ℕ) × HoldsWithin told name limit bytes × reads bytes (Err e))
FromFile told name limit long reads Misread = Unit {0}
