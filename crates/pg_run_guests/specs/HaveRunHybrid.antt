-- Guests behind their last turn.
use Rattle.std.specs.Prelude.{◌≡◌}
use Rattle.pg_hw.specs.Machinery.{Machinery}
use Rattle.pg_mon_control.specs.Guests.{virtuals}
use Rattle.pg_mon_control.specs.Standing.{Stands}
use Rattle.pg_hybrid.specs.Hybrids.{desc_of}
use Rattle.pg_run_guests.specs.Runs.{GuestRun, reached_by, turns_in}
use Rattle.pg_run_guests.specs.UnderHybrid.{hybrid_direct_of, left_in}
use Rattle.pg_run_guests.specs.declared.hybrid_running.HybridRan.{HybridRan}

-- guests that ran: the hardware and their hybrid monitor stand for the states that are reached, and the turns are counted
pub record HaveRunHybrid (r : GuestRun) (ran : HybridRan) (h : Machinery) : Type 0 where
  pub machine : desc_of ran.hybrid ≡ r.desc
  pub stands : Stands r.desc h.state ran.hybrid.guests ran.hybrid.current
  pub states : virtuals h.state.cells ran.hybrid.guests ≡ reached_by r
  pub current : ran.hybrid.current ≡ (left_in r).current
  pub turns : ran.turns ≡ turns_in r
  pub direct : ran.direct ≡ hybrid_direct_of r
