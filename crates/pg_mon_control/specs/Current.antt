-- The current guest: the one that the hardware runs.
use Rattle.std.specs.Prelude.{◌≡◌, ℕ, Bool, false, if◌then◌else◌, length, Option, None, Some, ◌==◌, slice_get}
use Rattle.pg_word.specs.declared.psw.Psw.{Psw}
use Rattle.pg_word.specs.Psw.{new_psw_cell, packed, power_on_psw}
use Rattle.pg_ast.specs.declared.tree.Desc.{Desc}
use Rattle.pg_lang_meaning.specs.States.{State, IsState}
use Rattle.pg_routine.specs.Composing.{composed}
use Rattle.pg_mon_control.specs.declared.guest.Guest.{Guest}
use Rattle.pg_mon_control.specs.Guests.{virtual, IsGrant}

-- a hardware that has a guest's cells in the guest's grant
pub record Holds (d : Desc) (real : State) (g : Guest) : Type 0 where
  pub size : length real.cells ≡ d.size
  pub grant : IsGrant d.size g
  pub control : slice_get real.cells new_psw_cell ≡ Some (packed d.address (power_on_psw d.size))
  pub real_state : IsState d real
  pub virtual_state : IsState d (virtual real.cells g)

-- one that runs the guest
pub record Runs (d : Desc) (real : State) (g : Guest) : Type 0 where
  pub holds : Holds d real g
  pub under : real.psw ≡ composed g.psw g.base g.size

-- whether the current guest is the one of a number
abbrev pub is_current : ℕ → Option ℕ → Bool
is_current k None = false
is_current k (Some j) = j == k

-- 1 where guest k is not the current one, and has to be loaded
abbrev pub change_to : ℕ → Option ℕ → ℕ
change_to k None = 1
change_to k (Some j) = (if j == k then 0 else 1)

-- the same guest with another program status word
abbrev pub with_psw : Guest → Psw → Guest
with_psw g psw = record g { psw = psw }
