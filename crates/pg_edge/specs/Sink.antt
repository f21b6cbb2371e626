-- What the calls of a sink leave.
use Rattle.std.specs.Prelude.{◌≡◌, ℕ, ◌≤◌, List, ◌++◌, take, Option, Result, OnOk, OnErr}
use Rattle.pg_edge.specs.Count.{Rose}
use Rattle.pg_edge.specs.Told.{BothTold}

-- the bytes so far have grown by this piece
abbrev pub Adds : List ℕ → List ℕ → List ℕ → Type 0
Adds piece was now = now ≡ was ++ piece

-- they have grown by a front of it, all or nothing of it among them
abbrev pub AddsFront : List ℕ → List ℕ → List ℕ → Type 0
AddsFront piece was now = (n : ℕ) × (now ≡ was ++ take n piece)

-- what a call that puts this piece does to the bytes so far and to the count of faults
pub record Puts {T E : Type 0} (was now : Option (List ℕ)) (before after : ℕ) (piece : List ℕ) (result : Result T E) : Type 0 where
  pub whole : OnOk result (BothTold was now (Adds piece))
  pub front : OnErr result (BothTold was now (AddsFront piece))
  pub later : before ≤ after
  pub quiet : OnOk result (after ≡ before)
  pub cause : OnErr result (Rose before after)
