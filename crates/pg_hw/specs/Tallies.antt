-- Counts that never fall and stop at 2^64 - 1.
use Rattle.std.specs.Prelude.{ℕ, ◌+◌, ◌-◌, ◌^◌, ◌≤◌, min, max}
use Rattle.pg_hw.specs.declared.counts.Counts.{Counts}

-- a count that rises by n; at 2^64 - 1 it stands still
abbrev pub raised_by : ℕ → ℕ → ℕ
raised_by n count = max count (min (count + n) (2 ^ 64 - 1))

-- the counts of a hardware on which nothing was done
abbrev pub no_counts : Counts
no_counts = record { steps = 0; untrapped = 0; pokes = 0; loads = 0 }

-- two counts of the hardware that does the work in the end, which a machine under a monitor has no other of
pub record Bottom : Type 0 where
  -- its steps
  pub steps : ℕ
  -- its steps that began in user mode and did not trap
  pub untrapped : ℕ

-- a count that rises by a number from least to most
pub record RisesWithin (least most old new : ℕ) : Type 0 where
  pub at_least : raised_by least old ≤ new
  pub at_most : new ≤ raised_by most old

-- the counts after steps, of which so many began in user mode and did not trap
abbrev pub after_steps : Counts → ℕ → ℕ → Counts
after_steps c done untrapped = record c { steps = raised_by done c.steps; untrapped = raised_by untrapped c.untrapped }

-- the counts after one poke
abbrev pub after_poke : Counts → Counts
after_poke c = record c { pokes = raised_by 1 c.pokes }

-- the counts after one load of a PSW
abbrev pub after_load : Counts → Counts
after_load c = record c { loads = raised_by 1 c.loads }
