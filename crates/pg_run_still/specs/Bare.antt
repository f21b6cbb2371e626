-- Runs of a bare machine that end, and what is told of them.
use Rattle.std.specs.Prelude.{◌≡◌, ℕ, ◌-◌, ◌<◌, ◌≤◌, ◌^◌, List, ◌++◌, All, length, Option}
use Rattle.pg_ast.specs.declared.tree.Desc.{Desc}
use Rattle.pg_lang_meaning.specs.States.{State}
use Rattle.pg_lang_meaning.specs.Steps.{bare, power_on, steps}
use Rattle.pg_hw.specs.Stillness.{IsStill}
use Rattle.pg_monitor.specs.Settling.{NoneStill, TellsFirst}
use Rattle.pg_run_still.specs.declared.bare.Met.{Met}
use Rattle.pg_run_still.specs.declared.bare.Met.TheVariants.{First, About}
use Rattle.pg_run_still.specs.declared.view.View.{View}
use Rattle.pg_run_still.specs.Running.{rest_said, steps_of_rest}
use Rattle.pg_run_still.specs.Views.{guest_text}

-- ---- what a run comes to

-- a machine that can be switched on with an image: it has room for so many cells, and the image fills them
pub record CanStand (d : Desc) (grant : ℕ) (image : List ℕ) : Type 0 where
  pub least : 2 ≤ grant
  pub most : grant ≤ d.size
  pub whole : length image ≡ grant
  pub words : All (λ word. word < 2 ^ d.word) image

-- a bare machine that ran so many steps at most: behind how many it is first still, if it is before the last of them; it is at the state
-- behind these, or behind all
pub record Stood (d : Desc) (grant most : ℕ) (image : List ℕ) (still : Option ℕ) (now : State) : Type 0 where
  pub first : TellsFirst d most (power_on image grant) still
  pub reached : now ≡ bare d image grant (steps_of_rest most still)

-- ---- on the way

-- the state behind n steps, one or more, is still; maybe the one before is, and none before that
pub record StillAbout (d : Desc) (n : ℕ) (s : State) : Type 0 where
  pub some : 1 ≤ n
  pub still : IsStill d (steps d n s)
  pub none : NoneStill d (n - 1) s

pub record FirstMet (d : Desc) (most : ℕ) (s : State) (still : Option ℕ) (now : State) : Type 0 where
  pub first : TellsFirst d most s still
  pub reached : now ≡ steps d (steps_of_rest most still) s

pub record AboutMet (d : Desc) (most : ℕ) (s : State) (n : ℕ) (now : State) : Type 0 where
  pub before : n < most
  pub about : StillAbout d n s
  pub reached : now ≡ steps d n s

-- what a run of so many steps at most from a state met, and where it is
abbrev pub IsMet : Desc → ℕ → State → Met → State → Type 0
IsMet d most s (First still) now = FirstMet d most s still now
IsMet d most s (About n) now = AboutMet d most s n now

-- ---- what is told

-- behind how many steps it is still, or how many it did, and then what the views show of its state, or all of that
unfoldable pub stood_text : ℕ → List View → ℕ → Option ℕ → State → List ℕ
stood_text w views most still state = rest_said most still ++ guest_text w views state
