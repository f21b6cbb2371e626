-- Guests whose cells can be told.
use Rattle.std.specs.Prelude.{◌+◌, ◌≤◌, List, All, length}
use Rattle.pg_lang_meaning.specs.States.{State}
use Rattle.pg_mon_control.specs.declared.guest.Guest.{Guest}

-- guests whose grants lie within a storage
abbrev pub AreWithin : State → List Guest → Type 0
AreWithin real gs = All (λ g. g.base + g.size ≤ length real.cells) gs
