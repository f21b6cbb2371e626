-- What the program does, whatever its words are.
use Rattle.std.specs.Prelude.{◌≡◌, ◌⊎◌, ℕ, List, [], ◌∷◌, ◌++◌, codes}
use Rattle.pg_cmd_base.specs.declared.status.Status.{Status}
use Rattle.pg_cmd_base.specs.Codes.{code_of}
use Rattle.pg_cmd_base.specs.Commands.{Carries}
use Rattle.pg_cmd_base.specs.Usage.{Untaken, WordsStarve}
use Rattle.pg_cmd_base.specs.World.{World}
use Rattle.pg_prog_go.specs.declared.request.BareGoWords.{BareGoWords}
use Rattle.pg_prog_go.specs.declared.request.GoWords.{GoWords}
use Rattle.pg_prog_go.specs.Bare.{bare_go_command}
use Rattle.pg_prog_go.specs.Going.{go_command}

-- how the program is called
unfoldable pub usage_lines : List ℕ
usage_lines = codes "usage: pg_go DESC CERT IMAGE.. --grant G [--steps N] [--slice K] [--show A..B].. [--text A..B[:BITS]].." ++ 10 ∷ []
    ++ codes "       pg_go --bare DESC IMAGE --grant G [--steps N] [--show A..B].. [--text A..B[:BITS]].." ++ 10 ∷ []

-- the words ask for a run, and it was carried out
pub record Taken (old new : World) (given : Status) : Type 0 where
  pub words : GoWords
  pub carries : Carries (go_command words) old new given

-- of a bare machine
pub record TakenBare (old new : World) (given : Status) : Type 0 where
  pub words : BareGoWords
  pub carries : Carries (bare_go_command words) old new given

-- what the program made of the world
abbrev pub Goes : World → World → Status → Type 0
Goes old new given = Untaken usage_lines old new given ⊎ (WordsStarve old new given ⊎ (Taken old new given ⊎ TakenBare old new given))

-- the same, by the number of the status
pub record GoesBy (old new : World) (code : ℕ) : Type 0 where
  pub given : Status
  pub is : code ≡ code_of given
  pub goes : Goes old new given
