-- `bare`: a run of a bare machine.
use Rattle.std.specs.Prelude.{◌≡◌, ℕ, ◌+◌, List, Option, None}
use Rattle.pg_ast.specs.declared.tree.Desc.{Desc}
use Rattle.pg_cli_table.specs.declared.bare.BareWords.{BareWords}
use Rattle.pg_edge.specs.Shelf.{Files}
use Rattle.pg_hw.specs.Bursts.{untrapped_among, BottomRises}
use Rattle.pg_image.specs.Lines.{state_text}
use Rattle.pg_lang_meaning.specs.States.{State}
use Rattle.pg_lang_meaning.specs.Steps.{power_on, bare}
use Rattle.pg_cmd_base.specs.declared.status.Status.{Status}
use Rattle.pg_cmd_base.specs.declared.status.Status.TheVariants as status
use Rattle.pg_cmd_base.specs.declared.refusal.Refusal.{Refusal}
use Rattle.pg_cmd_base.specs.Commands.{Command}
use Rattle.pg_cmd_base.specs.Descriptions.{DescDue}
use Rattle.pg_cmd_base.specs.Images.{ImageDue}
use Rattle.pg_cmd_base.specs.Rooms.{RoomDue}
use Rattle.pg_cmd_base.specs.Steps.{Step, Then, Gives}
use Rattle.pg_hw.specs.Machinery.{Machinery}
use Rattle.pg_cmd_base.specs.World.{World}

-- a bare machine of so many cells that is switched on with an image and runs so many steps
pub record BareRun : Type 0 where
  pub desc : Desc
  pub image : List ℕ
  pub grant : ℕ
  pub steps : ℕ

-- the state that it reaches
abbrev pub reached : BareRun → State
reached r = bare r.desc r.image r.grant r.steps

-- the description, the room, the image, and then the run
unfoldable pub BareDue : BareWords → Option Files → Step Refusal BareRun
BareDue b told =
    Then (DescDue told b.desc) (λ d. Then (RoomDue b.grant d.size) (λ cells. Then (ImageDue told 0 b.image d.word cells) (λ image.
    Gives (record { desc = d; image = image; grant = b.grant; steps = b.steps }))))

-- a hardware on which it ran: it holds the state that was reached, and the steps, the pokes and the load are counted
pub record RanBare (r : BareRun) (old new : Machinery) : Type 0 where
  pub state : new.state ≡ reached r
  pub steps : new.tally.steps ≡ old.tally.steps + r.steps
  pub untrapped : new.tally.untrapped ≡ old.tally.untrapped + untrapped_among r.desc r.steps (power_on r.image r.grant)
  pub pokes : new.tally.pokes ≡ old.tally.pokes + r.grant
  pub loads : new.tally.loads ≡ old.tally.loads + 1
  pub bottom : BottomRises r.desc r.steps (power_on r.image r.grant) old.bottom new.bottom

-- it ran, and its text is that of the state that it reached; no file was saved
pub record BareEnds (r : BareRun) (old new : World) (given : Status) (text : List ℕ) : Type 0 where
  pub status : given ≡ status.Done
  pub wording : text ≡ state_text r.desc.word (reached r).cells (reached r).psw
  pub ran : RanBare r old.hw new.hw
  pub files : new.files ≡ old.files
  pub saves : new.save_faults ≡ old.save_faults

-- memory is refused before its first step, and then nothing was done
abbrev pub bare_command : BareWords → Command
bare_command b = record {
  Work = BareRun;
  due = BareDue b;
  saved = None;
  ends = BareEnds;
  unsaved = λ r old new. ⊥;
  starved = λ r old new. ⊥;
}
