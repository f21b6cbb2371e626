-- Flags by stamps: a flag is up where the place has the current stamp.
use Rattle.std.specs.Prelude.{ℕ, ◌<◌, ◌≤◌, ⊤, Bool, List, [], ◌∷◌, map, nat_eq}

abbrev pub flags_of : ℕ → List ℕ → List Bool
flags_of stamp stamps = map (λ s. nat_eq s stamp) stamps

abbrev pub AreAtMost : ℕ → List ℕ → Type 0
AreAtMost stamp [] = ⊤
AreAtMost stamp (s ∷ ss) = (s ≤ stamp) × AreAtMost stamp ss

-- no place has a stamp that is still to come
pub record IsStamped (stamp : ℕ) (stamps : List ℕ) : Type 0 where
  pub begun : 0 < stamp
  pub passed : AreAtMost stamp stamps
