-- Turns of one guest, as they show in the storage.
use Rattle.std.specs.Prelude.{◌≡◌, ℕ, ◌+◌, ◌<◌, ◌≤◌, ◌⊎◌, slice_get}
use Rattle.pg_ast.specs.declared.tree.Desc.{Desc}
use Rattle.pg_lang_meaning.specs.States.{State}
use Rattle.pg_lang_meaning.specs.Steps.{steps}
use Rattle.pg_mon_control.specs.declared.guest.Guest.{Guest}
use Rattle.pg_mon_control.specs.Guests.{virtual}
use Rattle.pg_mon_control.specs.Current.{Holds, with_psw}

-- a guest whose state is n steps on: no cell outside its grant and cell 0 has changed
pub record Advanced (d : Desc) (n : ℕ) (old now : State) (g h : Guest) : Type 0 where
  pub holds : Holds d now h
  pub guest : h ≡ with_psw g (steps d n (virtual old.cells g)).psw
  pub state : virtual now.cells h ≡ steps d n (virtual old.cells g)
  pub outside : (at : ℕ) → 1 ≤ at → (at < g.base) ⊎ (g.base + g.size ≤ at) → slice_get now.cells at ≡ slice_get old.cells at
