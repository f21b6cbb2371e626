-- `pg_go --bare`: an image on a bare machine, until it is still.
use Rattle.std.specs.Prelude.{◌≡◌, ℕ, ◌≤◌, List, Option, None, Some}
use Rattle.pg_cli_table.specs.declared.bare.BareWords.{BareWords}
use Rattle.pg_lang_meaning.specs.Steps.{bare, power_on}
use Rattle.pg_monitor.specs.Settling.{TellsFirst}
use Rattle.pg_cmd_base.specs.declared.status.Status.{Status}
use Rattle.pg_cmd_base.specs.declared.status.Status.TheVariants as status
use Rattle.pg_cmd_base.specs.Commands.{Command}
use Rattle.pg_cmd_base.specs.World.{World}
use Rattle.pg_cmd_plain.specs.Bare.{BareDue, BareRun}
use Rattle.pg_run_still.specs.declared.view.View.{View}
use Rattle.pg_run_still.specs.Bare.{stood_text}
use Rattle.pg_run_still.specs.Running.{steps_of_rest}
use Rattle.pg_prog_go.specs.declared.request.BareGoWords.{BareGoWords}

-- the words of `bare` for the same files and as many steps
abbrev pub bare_words : BareGoWords → BareWords
bare_words w = record { desc = w.desc; image = w.image; grant = w.grant; steps = w.steps.count }

-- a machine that is still behind n steps is at that state behind all more
abbrev pub StaysStill : BareRun → Option ℕ → Type 0
StaysStill r still = (n k : ℕ) → still ≡ Some n → n ≤ k → bare r.desc r.image r.grant k ≡ bare r.desc r.image r.grant n

-- it ran until it was first still, or did all its steps: the text tells which, and what the views show of the state that it reached, or
-- all of that where there is no view; no file was saved
pub record StoodEnd (views : List View) (r : BareRun) (old new : World) (given : Status) (text : List ℕ) : Type 0 where
  pub status : given ≡ status.Done
  pub still : Option ℕ
  pub first : TellsFirst r.desc r.steps (power_on r.image r.grant) still
  pub stay : StaysStill r still
  pub wording : text ≡ stood_text r.desc.word views r.steps still (bare r.desc r.image r.grant (steps_of_rest r.steps still))
  pub reached : new.hw.state ≡ bare r.desc r.image r.grant (steps_of_rest r.steps still)
  pub files : new.files ≡ old.files
  pub saves : new.save_faults ≡ old.save_faults

-- memory is refused before its first step, and then nothing was done
abbrev pub bare_go_command : BareGoWords → Command
bare_go_command w = record {
  Work = BareRun;
  due = BareDue (bare_words w);
  saved = None;
  ends = StoodEnd w.views.items;
  unsaved = λ r old new. ⊥;
  starved = λ r old new. ⊥;
}
