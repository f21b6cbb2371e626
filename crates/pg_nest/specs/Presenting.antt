-- A monitor that presents its only guest as a machine of its own.
use Rattle.std.specs.Prelude.{◌≡◌, ℕ, List, [], ◌∷◌, Option, None, Some, slice_get}
use Rattle.std.proofs.Props.{props}
use Rattle.pg_word.specs.declared.psw.Psw.{Psw}
use Rattle.pg_word.specs.Psw.{power_on_psw}
use Rattle.pg_ast.specs.declared.tree.Desc.{Desc}
use Rattle.pg_lang_meaning.specs.States.{State}
use Rattle.pg_alloc.specs.Fit.{kept_cells}
use Rattle.pg_mon_control.specs.declared.guest.Guest.{Guest}
use Rattle.pg_mon_control.specs.Guests.{virtual, guest_in}
use Rattle.pg_mon_control.specs.Current.{Holds}
use Rattle.pg_mon_control.specs.Standing.{IsUnder}
use Rattle.pg_monitor.specs.declared.monitor.Monitor.{Monitor}
use Rattle.pg_monitor.specs.Monitors.{desc_of}

-- the first of guests; of none, one of no cell
abbrev pub first_guest : List Guest → Guest
first_guest [] = guest_in 0 0 (power_on_psw 0)
first_guest (g ∷ gs) = g

-- the state that it is at
abbrev pub first_state : List ℕ → List Guest → State
first_state cells gs = virtual cells (first_guest gs)

-- a hardware and a monitor of one guest, which lies right behind the cells that a monitor keeps, stand for the guest's state
pub record Presents (d : Desc) (real : State) (gs : List Guest) (current : Option ℕ) : Type 0 where
  pub alone : gs ≡ first_guest gs ∷ []
  pub base : (first_guest gs).base ≡ kept_cells
  pub holds : Holds d real (first_guest gs)
  pub under : IsUnder real gs current

-- before there is a monitor nothing is asked
abbrev pub PresentsAny : State → Option Monitor → Type 0
PresentsAny real None = Unit {0}
PresentsAny real (Some m) = Presents (desc_of m) real m.guests m.current

-- the monitor, where there is one, runs guests of this machine
abbrev pub IsMonitorOf : Desc → Option Monitor → Type 0
IsMonitorOf d None = Unit {0}
IsMonitorOf d (Some m) = ∥ desc_of m ≡ d ∥₁

-- ---- each of these has one proof at most

pub IsUnder-prop : (real : State) (gs : List Guest) (current : Option ℕ) → IsProp (IsUnder real gs current)
IsUnder-prop real gs None = hlevel props
IsUnder-prop real gs (Some k) = hlevel props

pub Presents-prop : (d : Desc) (real : State) (gs : List Guest) (current : Option ℕ) → IsProp (Presents d real gs current)
Presents-prop d real gs current = hlevel (props, IsUnder-prop)

pub PresentsAny-prop : (real : State) (m : Option Monitor) → IsProp (PresentsAny real m)
PresentsAny-prop real None = hlevel props
PresentsAny-prop real (Some m) = hlevel (props, Presents-prop)

pub IsMonitorOf-prop : (d : Desc) (m : Option Monitor) → IsProp (IsMonitorOf d m)
IsMonitorOf-prop d None = hlevel props
IsMonitorOf-prop d (Some m) = hlevel props
