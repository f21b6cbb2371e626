-- A level: the guest of a monitor as a hardware, and the hardware below it.
use Rattle.std.specs.Prelude.{◌≡◌, ℕ, [], length, Option, None, Some, slice_get}
use Rattle.pg_word.specs.declared.psw.Psw.{Psw}
use Rattle.pg_word.specs.Psw.{new_psw_cell, packed, power_on_psw}
use Rattle.pg_ast.specs.declared.tree.Desc.{Desc}
use Rattle.pg_lang_meaning.specs.States.{State}
use Rattle.pg_hw.specs.declared.counts.Counts.{Counts}
use Rattle.pg_hw.specs.Machinery.{Machinery, at_psw}
use Rattle.pg_alloc.specs.Fit.{kept_cells}
use Rattle.pg_routine.specs.Granting.{guest_at}
use Rattle.pg_monitor.specs.declared.monitor.Monitor.{Monitor}
use Rattle.pg_nest.specs.Presenting.{first_state}

-- the state that is presented over one of the hardware below: that of the guest; before there is a monitor, no cell and an idle PSW
abbrev pub presented : State → Option Monitor → Psw → State
presented real None idle = at_psw [] idle
presented real (Some m) idle = first_state real.cells m.guests

-- a level as its users see it: the counts are its own, and those at the bottom are those at the bottom of the hardware below
abbrev pub level_of : Machinery → Option Monitor → Psw → Counts → Machinery
level_of h m idle counts = record { state = presented h.state m idle; tally = counts; bottom = h.bottom }

-- a storage in which a monitor presents another one, of so many cells, as that of a machine: it keeps its PSW in cell 1,
-- and the storage that it presents is what lies behind the cells that it keeps
pub record Carries (d : Desc) (upper real : State) : Type 0 where
  pub size : length real.cells ≡ d.size
  pub control : slice_get real.cells new_psw_cell ≡ Some (packed d.address (power_on_psw d.size))
  pub guest : upper ≡ guest_at real.cells kept_cells (length upper.cells) upper.psw
