-- `pg_go`: images as guests of one monitor, each until it is still, where a certificate says that a monitor may run the machine.
use Rattle.std.specs.Prelude.{◌≡◌, ℕ, ◌≤◌, List, [], ◌∷◌, All, length, Option, None, Some, slice_get}
use Rattle.pg_alloc.specs.Fit.{kept_cells}
use Rattle.pg_ast.specs.declared.tree.Desc.{Desc}
use Rattle.pg_cert.specs.declared.cert.Family.TheVariants.{Plain}
use Rattle.pg_edge.specs.Shelf.{Files}
use Rattle.pg_type.specs.Accepting.{IsAccepted}
use Rattle.pg_lang_meaning.specs.States.{State}
use Rattle.pg_lang_meaning.specs.Steps.{bare}
use Rattle.pg_cmd_base.specs.declared.status.Status.{Status}
use Rattle.pg_cmd_base.specs.declared.status.Status.TheVariants as status
use Rattle.pg_cmd_base.specs.declared.refusal.Refusal.{Refusal}
use Rattle.pg_cmd_base.specs.Commands.{Command}
use Rattle.pg_cmd_base.specs.Steps.{Step, Then, Gives}
use Rattle.pg_cmd_base.specs.World.{World}
use Rattle.pg_cmd_certs.specs.Judged.{verdict_on}
use Rattle.pg_cmd_certs.specs.Telling.{EndsBy}
use Rattle.pg_cmd_run.specs.Loading.{GuestFiles, Loaded, GuestsDue}
use Rattle.pg_cmd_run.specs.Run.{JudgedRun, RunStarves, guests_in, judged_by}
use Rattle.pg_run_still.specs.declared.rounds.Rest.{Rest}
use Rattle.pg_run_still.specs.declared.view.View.{View}
use Rattle.pg_run_still.specs.Running.{RanStill, rested, steps_told, text_of_rest}
use Rattle.pg_prog_go.specs.declared.request.GoWords.{GoWords}

-- the files that the words name
abbrev pub files_of : GoWords → GuestFiles
files_of w = record { desc = w.desc; images = w.images; cert = w.cert; grant = w.grant; kept = kept_cells }

-- the run of what they hold
abbrev pub judged_go_of : GoWords → Loaded → JudgedRun
judged_go_of w l = record { desc = l.desc; images = l.images; slice = w.slice; steps = w.steps.count; grant = w.grant; report = l.report }

-- description, room, images and certificate, and then the run
unfoldable pub GoDue : GoWords → Option Files → Step Refusal JudgedRun
GoDue w told = Then (GuestsDue Plain (files_of w) told) (λ l. Gives (judged_go_of w l))

-- the states that bare machines of these images reach, each in the steps that are told of it
abbrev pub bare_each : Desc → List (List ℕ) → List Rest → List State
bare_each d [] rests = []
bare_each d (image ∷ images) [] = []
bare_each d (image ∷ images) (rest ∷ rests) = bare d image (length image) (steps_told rest) ∷ bare_each d images rests

-- where a guest is told still, every later state of the bare machine is that one
abbrev pub StayStill : Desc → List (List ℕ) → List Rest → Type 0
StayStill d images rests = (j n k : ℕ) (image : List ℕ) (rest : Rest) → slice_get images j ≡ Some image → slice_get rests j ≡ Some rest →
    rest.still ≡ Some n → n ≤ k → bare d image (length image) k ≡ bare d image (length image) n

-- the guests ran: every sensitive instruction of the machine is privileged, each image has the granted size, and the text is what the
-- views show of the states that bare machines reach in the steps told, or all of them where there is no view, and the counts of turns;
-- no file was saved
pub record GoneEnd (views : List View) (j : JudgedRun) (old new : World) (given : Status) (text : List ℕ) : Type 0 where
  pub status : given ≡ status.Done
  pub accepted : IsAccepted j.desc
  pub granted : All (λ image. length image ≡ j.grant) j.images
  pub rests : List Rest
  pub rounds : ℕ
  pub reached : rested j.desc (guests_in j).states rests ≡ bare_each j.desc j.images rests
  pub stay : StayStill j.desc j.images rests
  pub wording : text ≡ text_of_rest (guests_in j) views rests rounds
  pub ran : RanStill (guests_in j) rests rounds old.hw new.hw
  pub files : new.files ≡ old.files
  pub saves : new.save_faults ≡ old.save_faults

-- by the verdict of the certificate: the guests ran where it accepts the machine; else it is told, as `verify` tells it, and
-- nothing ran
pub record GoEnds (views : List View) (j : JudgedRun) (old new : World) (given : Status) (text : List ℕ) : Type 0 where
  pub by_verdict : EndsBy (verdict_on (judged_by j)) (GoneEnd views j) Plain (judged_by j) old new given text

-- without memory the same is left as of `run`
abbrev pub go_command : GoWords → Command
go_command w = record {
  Work = JudgedRun;
  due = GoDue w;
  saved = None;
  ends = GoEnds w.views.items;
  unsaved = λ j old new. ⊥;
  starved = RunStarves;
}
