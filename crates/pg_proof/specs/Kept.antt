-- What a checker keeps of its fields.
use Rattle.std.specs.Prelude.{◌≡◌, ℕ, ◌+◌, ◌*◌, ◌^◌, ◌<◌, ◌≤◌, Bool, ℤ, List, length, Option}
use Rattle.pg_proof.specs.Covered.{IsHung}
use Rattle.pg_proof.specs.State.{State, AreHeldWithin}

abbrev pub state_of : ℕ → List (Option (List ℤ)) → Bool → State
state_of variables held closed = record { variables = variables; held = held; closed = closed }

-- two flags a variable, and two more, twice, and as many lists; a flag a clause at least; all that is held is over these variables
pub record IsKept (variables : ℕ) (held : List (Option (List ℤ))) (literals standing numbers : List Bool) (heads links : List ℕ) (made : Bool) : Type 0 where
  pub places : length literals ≡ 2 * variables + 2
  pub standing_places : length standing ≡ 2 * variables + 2
  pub lists : length heads ≡ 2 * variables + 2
  pub hangs : IsHung heads links made held
  pub few : length held < 2 ^ 32
  pub numbered : length held ≤ length numbers
  pub within : AreHeldWithin (2 * variables + 2) held
