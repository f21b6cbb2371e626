-- Cells that are held before a guest; and guests behind their last turn.
use Rattle.std.specs.Prelude.{◌≡◌, ℕ, zero, suc, List, [], ◌∷◌}
use Rattle.pg_alloc.specs.Fit.{kept_cells}
use Rattle.pg_hw.specs.Machinery.{Machinery}
use Rattle.pg_mon_control.specs.Guests.{virtuals}
use Rattle.pg_mon_control.specs.Standing.{Stands}
use Rattle.pg_monitor.specs.Monitors.{desc_of}
use Rattle.pg_run_guests.specs.Runs.{GuestRun, reached_by, direct_turns_of, turns_in}
use Rattle.pg_run_guests.specs.declared.running.Ran.{Ran}

-- the grants of a monitor that holds so many cells, behind those that it keeps: one of them all, if there are any
abbrev pub holding : ℕ → List (ℕ × ℕ)
holding zero = []
holding (suc n) = (kept_cells, suc n) ∷ []

-- guests that ran: the hardware and their monitor stand for the states that are reached, and the turns are counted
pub record HaveRun (r : GuestRun) (ran : Ran) (h : Machinery) : Type 0 where
  pub machine : desc_of ran.monitor ≡ r.desc
  pub stands : Stands r.desc h.state ran.monitor.guests ran.monitor.current
  pub states : virtuals h.state.cells ran.monitor.guests ≡ reached_by r
  pub turns : ran.turns ≡ turns_in r
  pub direct : ran.direct ≡ direct_turns_of r
