-- The hardware of a run before the first turn, and runs that there can be.
use Rattle.std.specs.Prelude.{◌≡◌, ℕ, ◌+◌, ◌<◌, ◌≤◌, ◌^◌, List, [], ◌∷◌, All, length, take}
use Rattle.pg_ast.specs.declared.tree.Desc.{Desc}
use Rattle.pg_word.specs.Psw.{new_psw_cell, packed, power_on_psw}
use Rattle.pg_lang_meaning.specs.States.{State, IsState}
use Rattle.pg_hw.specs.Machinery.{Machinery, poked_at}
use Rattle.pg_hw.specs.Serving.{blank}
use Rattle.pg_alloc.specs.Fit.{kept_cells}
use Rattle.pg_mon_control.specs.Loading.{with_words}
use Rattle.pg_run_guests.specs.Runs.{GuestRun, cells_in, turns_in}

-- ---- runs that there can be

-- states of a machine that find room in its storage from a base on, which lies behind the cells that a control program keeps
pub record HaveRoom (d : Desc) (first : ℕ) (states : List State) : Type 0 where
  pub each : All (IsState d) states
  pub above : kept_cells ≤ first
  pub room : first + cells_in states ≤ d.size

-- such states, a slice of a turn or more, and turns that can be counted
pub record CanRun (r : GuestRun) : Type 0 where
  pub states : HaveRoom r.desc r.first r.states
  pub some : 1 ≤ r.slice
  pub counted : turns_in r ≤ 2 ^ 32

-- an image of two cells or more, of words of w bits
pub record IsImage (w : ℕ) (image : List ℕ) : Type 0 where
  pub least : 2 ≤ length image
  pub words : All (λ word. word < 2 ^ w) image

-- how many cells images have, all together
abbrev pub image_cells : List (List ℕ) → ℕ
image_cells [] = 0
image_cells (image ∷ images) = length image + image_cells images

-- ---- the hardware before the first turn

-- installed for a machine, with all of its cells
abbrev pub installed_for : Desc → Machinery → Machinery
installed_for d h = record h { state = blank d.size }

-- the same, of which a control program took the storage: cell 1 has its PSW
abbrev pub taken_for : Desc → Machinery → Machinery
taken_for d h = poked_at new_psw_cell (packed d.address (power_on_psw d.size)) (installed_for d h)

-- the cells of states poked into the cells from a base on, one behind the other
abbrev pub loaded_from : ℕ → List State → Machinery → Machinery
loaded_from base [] h = h
loaded_from base (s ∷ ss) h = loaded_from (base + length s.cells) ss (with_words base s.cells h)

-- the same, with states loaded as guests from a base on
abbrev pub loaded_for : Desc → ℕ → List State → Machinery → Machinery
loaded_for d first states h = loaded_from first states (taken_for d h)

-- a hardware that was being set up for guests, and on which no step was done: it is as it was, or installed, or a control program
-- took its storage and loaded some of the states, the first ones
pub data SetUp (r : GuestRun) (old new : Machinery) : Type 0 where
  Untouched : new ≡ old → SetUp r old new
  Installed : new ≡ installed_for r.desc old → SetUp r old new
  Loaded : (some : ℕ) → new ≡ loaded_for r.desc r.first (take some r.states) old → SetUp r old new
