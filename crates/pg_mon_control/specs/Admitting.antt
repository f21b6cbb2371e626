-- How a control program takes guests: what it keeps, the grants that it makes, and the states that it takes.
use Rattle.std.specs.Prelude.{◌≡◌, ℕ, [], ◌∷◌, ◌++◌, List, length, Option, Some}
use Rattle.pg_mach_ready.specs.declared.machine.Machine.{Machine}
use Rattle.pg_lang_meaning.specs.States.{State}
use Rattle.pg_hw.specs.Machinery.{Machinery}
use Rattle.pg_alloc.specs.Fit.{free_base}
use Rattle.pg_alloc.specs.Grants.{Granted, and_grant}
use Rattle.pg_mon_control.specs.declared.guest.Guest.{Guest}
use Rattle.pg_mon_control.specs.Guests.{virtuals, guest_in}
use Rattle.pg_mon_control.specs.Loading.{with_words}

-- what a control program keeps: its machine, the grants that it made, its guests, and the current one of them
pub record Kept : Type 0 where
  pub machine : Machine
  pub granted : Granted
  pub guests : List Guest
  pub current : Option ℕ

-- a control program of a machine that keeps these
abbrev pub keeping : Machine → Granted → List Guest → Option ℕ → Kept
keeping m granted guests current = record { machine = m; granted = granted; guests = guests; current = current }

-- where it places a grant of so many cells: at the least base that is free beside the grants that it made
abbrev pub place_for : Kept → ℕ → Option ℕ
place_for k size = free_base k.machine.desc.size k.granted.grants size

-- a grant that it made, at the least base that is free
pub record GrantMade (size base : ℕ) (before after : Kept) : Type 0 where
  pub first : place_for before size ≡ Some base
  pub granted : after.granted ≡ record before.granted { grants = and_grant (base, size) before.granted.grants }
  pub machine : after.machine ≡ before.machine
  pub current : after.current ≡ before.current

-- a state that it took as a new guest's: in a grant of its own size its cells were poked, and nothing else has changed
pub record StateTaken (s : State) (before after : Kept) (old new : Machinery) : Type 0 where
  pub base : ℕ
  pub placed : GrantMade (length s.cells) base before after
  pub guests : after.guests ≡ before.guests ++ guest_in base (length s.cells) s.psw ∷ []
  pub states : virtuals new.state.cells after.guests ≡ virtuals old.state.cells before.guests ++ s ∷ []
  pub poked : new ≡ with_words base s.cells old
