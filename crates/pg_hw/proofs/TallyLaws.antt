-- Counts: they never fall, and rises add up.
use Rattle.std.proofs.Common.{◌≡◌, ℕ, ◌+◌, ◌-◌, ◌^◌, ◌≤◌, arith}
use Rattle.pg_hw.specs.declared.counts.Counts.{Counts}
use Rattle.pg_hw.specs.Tallies.{raised_by, RisesWithin, after_steps}

pub raised_by-zero : (c : ℕ) → raised_by 0 c ≡ c
raised_by-zero c = omega arith

pub raised_by-add : (m n c : ℕ) → raised_by n (raised_by m c) ≡ raised_by (m + n) c
raised_by-add m n c = omega arith

-- a count never falls
pub raised_by-later : (n c : ℕ) → c ≤ raised_by n c
raised_by-later n c = omega arith

-- a count stops at 2^64 - 1
pub raised_by-most : (n c : ℕ) → c ≤ 2 ^ 64 - 1 → raised_by n c ≤ 2 ^ 64 - 1
raised_by-most n c h = omega arith

-- a count that has room rises by just so many
pub raised_by-exact : (n c : ℕ) → c + n ≤ 2 ^ 64 - 1 → raised_by n c ≡ c + n
raised_by-exact n c h = omega arith

pub after_steps-none : (c : Counts) → after_steps c 0 0 ≡ c
after_steps-none c = rw (raised_by-zero c.steps, raised_by-zero c.untrapped)

pub after_steps-add : (c : Counts) (m n u v : ℕ) → after_steps (after_steps c m u) n v ≡ after_steps c (m + n) (u + v)
after_steps-add c m n u v = rw (raised_by-add m n c.steps, raised_by-add u v c.untrapped)

pub RisesWithin-none : (c : ℕ) → RisesWithin 0 0 c c
RisesWithin-none c = record { at_least = omega arith; at_most = omega arith }

pub RisesWithin-then : (l m l' m' old mid new : ℕ) → RisesWithin l m old mid → RisesWithin l' m' mid new → RisesWithin (l + l') (m + m') old new
RisesWithin-then l m l' m' old mid new a b = record { at_least = omega (arith, a.at_least, b.at_least); at_most = omega (arith, a.at_most, b.at_most) }
