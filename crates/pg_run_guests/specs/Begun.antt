-- Guests before their first turn, as a control program keeps them.
use Rattle.std.specs.Prelude.{◌≡◌, ℕ, List, take, None}
use Rattle.pg_lang_meaning.specs.States.{State}
use Rattle.pg_hw.specs.Machinery.{Machinery}
use Rattle.pg_alloc.specs.Fit.{kept_cells}
use Rattle.pg_mon_control.specs.Admitting.{Kept}
use Rattle.pg_mon_control.specs.Guests.{virtuals, grants_of}
use Rattle.pg_mon_control.specs.Standing.{Stands}
use Rattle.pg_run_guests.specs.Runs.{guests_from}
use Rattle.pg_run_guests.specs.Setting.{loaded_from}

-- a control program whose guests begin in these states, in grants from a base on, none of them current, on a hardware
pub record IsBegun (first : ℕ) (ss : List State) (k : Kept) (h : Machinery) : Type 0 where
  pub guests : k.guests ≡ guests_from first ss
  pub current : k.current ≡ None
  pub stands : Stands k.machine.desc h.state k.guests k.current
  pub states : virtuals h.state.cells k.guests ≡ ss

-- one that made no grants but those of its guests
pub record HoldsNoMore (k : Kept) : Type 0 where
  pub granted : k.granted.grants ≡ grants_of k.guests

-- a hardware into which the first of these states were loaded, behind the cells that a control program keeps
pub record LoadedSome (states : List State) (old new : Machinery) : Type 0 where
  pub some : ℕ
  pub loaded : new ≡ loaded_from kept_cells (take some states) old
