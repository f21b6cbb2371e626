-- Addresses that were poked, of which the least and the greatest are kept.
use Rattle.std.specs.Prelude.{ℕ, min, max, Option, None, Some}
use Rattle.pg_rig.specs.declared.spy.Extent.{Extent}

-- with one address more, where there may be none yet
abbrev pub extended : ℕ → Option Extent → Option Extent
extended at None = Some (record { least = at; greatest = at })
extended at (Some x) = Some (record { least = min x.least at; greatest = max x.greatest at })
