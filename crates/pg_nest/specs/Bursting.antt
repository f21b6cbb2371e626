-- A burst of a guest's own machine, made of bursts of the hardware below.
use Rattle.std.specs.Prelude.{◌≡◌, ℕ, ◌+◌, ◌-◌, ◌≤◌, true, false}
use Rattle.pg_word.specs.declared.psw.Mode.{Mode}
use Rattle.pg_word.specs.declared.psw.Mode.TheVariants.{S, U}
use Rattle.pg_ast.specs.declared.tree.Desc.{Desc}
use Rattle.pg_lang_meaning.specs.States.{State}
use Rattle.pg_lang_meaning.specs.Steps.{steps}
use Rattle.pg_hw.specs.Bursts.{one_if, untrapped_among, burst_length}
use Rattle.pg_hw.specs.Machinery.{Machinery}
use Rattle.pg_hw.specs.Running.{Ran}
use Rattle.pg_monitor.specs.declared.turning.BurstTold.{BurstTold}
use Rattle.pg_nest.specs.declared.bursting.Segment.{Segment}

-- how many turns that one burst below made count as untrapped: in user mode each but one whose own step trapped, and in
-- supervisor mode none
abbrev pub untrapped_told : Mode → BurstTold → ℕ
untrapped_told S told = 0
untrapped_told U told = told.turns - one_if told.trapped

-- the front of a burst of at most so many steps: all of it, where the last of these steps trapped
pub record IsSegment (d : Desc) (most : ℕ) (s : State) (x : Segment) : Type 0 where
  pub some : 1 ≤ x.done
  pub within : x.done ≤ most
  pub untrapped : x.untrapped ≡ untrapped_among d x.done s
  pub goes_on : x.ends ≡ false → burst_length d most s ≡ x.done + burst_length d (most - x.done) (steps d x.done s)
  pub ends : x.ends ≡ true → burst_length d most s ≡ x.done

-- a burst of at most k steps that was done, beside which nothing changed
pub record Burst (d : Desc) (k done : ℕ) (old new : Machinery) : Type 0 where
  pub count : done ≡ burst_length d k old.state
  pub ran : Ran d done old new
