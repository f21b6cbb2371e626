-- Guests behind their last turn, as the code has them.
use Rattle.std.specs.Prelude.{◌≡◌, ℕ}
use Rattle.pg_hw.specs.Machinery.{Machinery}
use Rattle.pg_mon_control.specs.Guests.{grants_of, virtuals}
use Rattle.pg_mon_control.specs.Plans.{turns_of}
use Rattle.pg_mon_control.specs.Standing.{Stands}
use Rattle.pg_monitor.specs.Monitors.{desc_of}
use Rattle.pg_monitor.specs.Plans.{direct_of}
use Rattle.pg_run_guests.specs.Runs.{GuestRun, guests_of}
use Rattle.pg_run_still.specs.declared.running.Rested.{Rested}
use Rattle.pg_run_still.specs.Running.{RanStill, plan_until, rested}

-- guests that ran: what the run left of the hardware, in so many rounds, and how their turns were counted
pub record HaveRested (r : GuestRun) (ran : Rested) (old new : Machinery) : Type 0 where
  pub rounds : ℕ
  pub ran_still : RanStill r ran.rests.items rounds old new
  pub machine : desc_of ran.monitor ≡ r.desc
  pub grants : grants_of ran.monitor.guests ≡ grants_of (guests_of r)
  pub stands : Stands r.desc new.state ran.monitor.guests ran.monitor.current
  pub states : virtuals new.state.cells ran.monitor.guests ≡ rested r.desc r.states ran.rests.items
  pub turns : ran.turns ≡ turns_of (plan_until r ran.rests.items rounds)
  pub direct : ran.direct ≡ direct_of r.desc (guests_of r) (plan_until r ran.rests.items rounds) r.states
