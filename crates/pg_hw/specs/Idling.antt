-- The steps of a machine without instructions.
use Rattle.std.specs.Prelude.{ℕ, nat_lt, if◌then◌else◌}
use Rattle.pg_word.specs.declared.cause.Cause.{Cause}
use Rattle.pg_word.specs.declared.cause.Cause.TheVariants.{Memory, NoPattern}

-- why such a step traps: a word at P that no pattern matches, or no word there
abbrev pub cause_where : ℕ → ℕ → Cause
cause_where p usable = (if nat_lt p usable then NoPattern else Memory)
