-- Turns by slices: guests run in rounds, in each of which every guest has a slice of turns, in the order of their numbers.
use Rattle.std.specs.Prelude.{ℕ, zero, suc, ◌+◌, ◌/◌, ◌%◌, List, [], ◌∷◌, ◌++◌}
use Rattle.pg_ast.specs.declared.tree.Desc.{Desc}
use Rattle.pg_lang_meaning.specs.States.{State}
use Rattle.pg_mon_control.specs.declared.guest.Guest.{Guest}
use Rattle.pg_mon_control.specs.Direct.{direct_among}
use Rattle.pg_mon_control.specs.Plans.{Count}

-- one round: each of `count` guests, from number k on, has so many turns
abbrev pub round_of : ℕ → ℕ → ℕ → List (ℕ × ℕ)
round_of k zero turns = []
round_of k (suc count) turns = (k, turns) ∷ round_of (suc k) count turns

-- so many rounds of `count` guests, each of whole slices
abbrev pub rounds_of : ℕ → ℕ → ℕ → List (ℕ × ℕ)
rounds_of count slice zero = []
rounds_of count slice (suc rounds) = round_of 0 count slice ++ rounds_of count slice rounds

-- the schedule of n turns for each of `count` guests: rounds of whole slices, and a last one of what is left
abbrev pub schedule : ℕ → ℕ → ℕ → List (ℕ × ℕ)
schedule count slice n = rounds_of count slice (n / slice) ++ round_of 0 count (n % slice)

-- the count among n turns of each guest: its own, whatever the others do
abbrev pub each_count : Count → List Guest → ℕ → List State → ℕ
each_count f [] n ss = 0
each_count f (g ∷ gs) n [] = 0
each_count f (g ∷ gs) n (s ∷ ss) = f g.base n s + each_count f gs n ss

-- the direct steps among n turns of each guest
abbrev pub each_direct : Desc → List Guest → ℕ → List State → ℕ
each_direct d gs n ss = each_count (direct_among d) gs n ss
