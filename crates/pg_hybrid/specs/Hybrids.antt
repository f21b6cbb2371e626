-- What contracts see of a hybrid monitor.
use Rattle.std.specs.Prelude.{◌≡◌, ℕ, Option}
use Rattle.pg_ast.specs.declared.tree.Desc.{Desc}
use Rattle.pg_lang_meaning.specs.States.{State}
use Rattle.pg_hw.specs.Machinery.{Machinery}
use Rattle.pg_mon_control.specs.Admitting.{Kept, place_for, StateTaken}
use Rattle.pg_hybrid.specs.declared.hybrid.Hybrid.{Hybrid}

-- the machine that its hardware is, and each of its guests believes to have
abbrev pub desc_of : Hybrid → Desc
desc_of m = m.accepted.machine.now.desc

-- what it keeps, as any control program does
abbrev pub kept_by : Hybrid → Kept
kept_by m = record { machine = m.accepted.machine.now; granted = m.granted; guests = m.guests; current = m.current }

-- where it places a grant of so many cells: at the least base that is free beside those of its guests
abbrev pub base_for : Hybrid → ℕ → Option ℕ
base_for m size = place_for (kept_by m) size

-- the same monitor but for what a call names
pub record SameHybrid (before after : Hybrid) : Type 0 where
  pub machine : after.accepted.machine.now ≡ before.accepted.machine.now
  pub granted : after.granted ≡ before.granted
  pub guests : after.guests ≡ before.guests
  pub current : after.current ≡ before.current

-- a state that it took as a new guest's: in a grant of its own size its cells were poked, and nothing else has changed
abbrev pub Admits : State → Hybrid → Hybrid → Machinery → Machinery → Type 0
Admits s before after old new = StateTaken s (kept_by before) (kept_by after) old new
