-- Literals that were assigned, and do not follow from others.
use Rattle.std.specs.Prelude.{◌≡◌, ℕ, None, Some, slice_get}
use Rattle.pg_watch.specs.Trail.{Trail}

-- a literal was assigned at the place
abbrev pub IsAssigned : Trail → ℕ → Type 0
IsAssigned trail d = (slice_get trail.reasons d ≡ Some None)
