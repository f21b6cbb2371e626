-- Cells of a list, by their addresses; and how a step ends.
use Rattle.std.specs.Prelude.{ℕ, Bool, ◌&&◌, nat_lt, nat_le, Option, None, Some}
use Rattle.pg_word.specs.declared.cause.Cause.{Cause}
use Rattle.pg_word.specs.declared.cause.Cause.TheVariants.{Memory, Trap, NoPattern}
use Rattle.pg_lang_meaning.specs.Steps.{Ending, ByMemTrap, ByTrap, ByNoPattern, Done}

-- an address from the first on, and below the second
abbrev pub is_between : ℕ → ℕ → ℕ → Bool
is_between from to at = nat_le from at && nat_lt at to

-- why a step traps; none where it is done
abbrev pub cause_of : Ending → Option Cause
cause_of ByMemTrap = Some Memory
cause_of ByTrap = Some Trap
cause_of ByNoPattern = Some NoPattern
cause_of (Done after) = None
