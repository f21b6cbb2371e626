-- Counts of a hardware that have room for a run, and those at the bottom after one.
use Rattle.std.specs.Prelude.{◌≡◌, ℕ, ◌<◌, ◌^◌}
use Rattle.pg_hw.specs.declared.counts.Counts.{Counts}
use Rattle.pg_hw.specs.Tallies.{Bottom, raised_by}

-- counts that have room for the turns, the pokes and the loads of any run
pub record CanCount (c : Counts) : Type 0 where
  pub steps : c.steps < 2 ^ 62
  pub untrapped : c.untrapped < 2 ^ 62
  pub pokes : c.pokes < 2 ^ 62
  pub loads : c.loads < 2 ^ 62

-- the counts of the hardware at the bottom, after turns that the hardware stepped, so many of them direct
pub record BottomTurns (turns direct : ℕ) (old new : Bottom) : Type 0 where
  pub steps : new.steps ≡ raised_by turns old.steps
  pub untrapped : new.untrapped ≡ raised_by direct old.untrapped
