-- What a hardware under a monitor stands for.
use Rattle.std.specs.Prelude.{◌≡◌, ℕ, List, length, All, Option, None, Some, IsSomeAnd, slice_get}
use Rattle.pg_word.specs.Psw.{new_psw_cell, packed, power_on_psw}
use Rattle.pg_ast.specs.declared.tree.Desc.{Desc}
use Rattle.pg_lang_meaning.specs.States.{State, IsState}
use Rattle.pg_routine.specs.Composing.{composed}
use Rattle.pg_mon_control.specs.declared.guest.Guest.{Guest}
use Rattle.pg_mon_control.specs.Guests.{virtuals, IsGrant, AreDisjoint}

-- where a guest is current, the hardware has the PSW composed of the guest's virtual one
abbrev pub IsUnder : State → List Guest → Option ℕ → Type 0
IsUnder real gs None = Unit {0}
IsUnder real gs (Some k) = IsSomeAnd (slice_get gs k) (λ g. real.psw ≡ composed g.psw g.base g.size)

-- *StandsFor*: a storage of q cells, guests, and a current guest or none, stand for these states. A trap enters the control program
-- at the PSW in cell 1, that of a machine which is switched on. Nothing is said of cell 0.
pub record StandsFor (d : Desc) (real : State) (gs : List Guest) (current : Option ℕ) (states : List State) : Type 0 where
  pub size : length real.cells ≡ d.size
  pub grants : All (IsGrant d.size) gs
  pub disjoint : AreDisjoint gs
  pub guests : virtuals real.cells gs ≡ states
  pub control : slice_get real.cells new_psw_cell ≡ Some (packed d.address (power_on_psw d.size))
  pub under : IsUnder real gs current

-- they stand for the states that the guests believe in, and all of these, and the hardware's own, are states of the machine
pub record Stands (d : Desc) (real : State) (gs : List Guest) (current : Option ℕ) : Type 0 where
  pub stands : StandsFor d real gs current (virtuals real.cells gs)
  pub real_state : IsState d real
  pub virtual_states : All (IsState d) (virtuals real.cells gs)
