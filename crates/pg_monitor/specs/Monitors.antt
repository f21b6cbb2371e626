-- What contracts see of a monitor.
use Rattle.std.specs.Prelude.{◌≡◌, ℕ, ◌+◌, ◌≤◌, [], ◌∷◌, Option, None}
use Rattle.pg_word.specs.Psw.{power_on_psw}
use Rattle.pg_ast.specs.declared.tree.Desc.{Desc}
use Rattle.pg_lang_meaning.specs.States.{State}
use Rattle.pg_hw.specs.Machinery.{Machinery}
use Rattle.pg_alloc.specs.Fit.{kept_cells}
use Rattle.pg_mon_control.specs.Admitting.{Kept, place_for, GrantMade, StateTaken}
use Rattle.pg_mon_control.specs.Guests.{guest_in}
use Rattle.pg_monitor.specs.declared.monitor.Monitor.{Monitor}

-- the machine that a monitor's hardware is, and each of its guests believes to have
abbrev pub desc_of : Monitor → Desc
desc_of m = m.accepted.machine.now.desc

-- what a monitor keeps, as any control program does
abbrev pub kept_by : Monitor → Kept
kept_by m = record { machine = m.accepted.machine.now; granted = m.granted; guests = m.guests; current = m.current }

-- where a monitor places a grant of so many cells: at the least base that is free beside those of its guests, and those that it holds
-- for none
abbrev pub base_for : Monitor → ℕ → Option ℕ
base_for m size = place_for (kept_by m) size

-- the same monitor but for what a call names
pub record SameMonitor (before after : Monitor) : Type 0 where
  pub machine : after.accepted.machine.now ≡ before.accepted.machine.now
  pub granted : after.granted ≡ before.granted
  pub guests : after.guests ≡ before.guests
  pub current : after.current ≡ before.current

-- a grant that a monitor made, at the least base that is free
abbrev pub GrantsOne : ℕ → ℕ → Monitor → Monitor → Type 0
GrantsOne size base before after = GrantMade size base (kept_by before) (kept_by after)

-- a state that a monitor took as a new guest's: in a grant of its own size its cells were poked, and nothing else has changed
abbrev pub Admits : State → Monitor → Monitor → Machinery → Machinery → Type 0
Admits s before after old new = StateTaken s (kept_by before) (kept_by after) old new

-- a monitor that was made ready for one guest of so many cells, with no hardware yet
pub record IsReady (size : ℕ) (m : Monitor) : Type 0 where
  pub least : 2 ≤ size
  pub within : kept_cells + size ≤ (desc_of m).size
  pub granted : m.granted.grants ≡ (kept_cells, size) ∷ []
  pub guests : m.guests ≡ guest_in kept_cells size (power_on_psw size) ∷ []
  pub current : m.current ≡ None
