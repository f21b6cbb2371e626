-- What `pg_explain` leaves, status by status.
use Rattle.std.specs.Prelude.{◌≡◌, ◌⊎◌, ℕ, List, Option, None, Some, IsSomeAnd, option_copied, Result, Ok, Err}
use Rattle.pg_ast.specs.declared.tree.Desc.{Desc}
use Rattle.pg_edge.specs.Count.{Rose}
use Rattle.pg_edge.specs.Shelf.{Files, SameBut}
use Rattle.pg_edge.specs.Sink.{Adds}
use Rattle.pg_edge.specs.Told.{BothTold}
use Rattle.pg_edge.specs.declared.shelf.Shelf as shelf
use Rattle.pg_edge.specs.declared.sink.Sink as sink
use Rattle.pg_hw.specs.Machinery.{Machinery}
use Rattle.pg_cmd_base.specs.Descriptions.{DescDue}
use Rattle.pg_cmd_certs.specs.Judged.{Judged, verdict_on, verdict_status}
use Rattle.pg_cmd_certs.specs.Meaning.{VerdictMeans}
use Rattle.pg_cmd_base.specs.Answering.{Comes, Stops}
use Rattle.pg_cmd_base.specs.Classes.{Class, Ended, Unwritten, Unread, OutOfMemory, class_of}
use Rattle.pg_cmd_base.specs.Commands.{Command}
use Rattle.pg_cmd_base.specs.Steps.{Step, Came, Then, Gives}
use Rattle.pg_cmd_base.specs.World.{World, Output, output, Breaks, IsUntouched, SavesOnly}
use Rattle.pg_cmd_base.specs.declared.refusal.Refusal.{Refusal}
use Rattle.pg_cmd_base.specs.declared.status.Status.{Status}
use Rattle.pg_cmd_base.specs.declared.status.Status.TheVariants as status
use Rattle.pg_verify.specs.Taking.{instr_named}
use Rattle.pg_prog_explain.specs.Mended.{HoldsMended}
use Rattle.pg_prog_base.specs.Either.{EitherDue}
use Rattle.pg_prog_explain.specs.declared.found.Halt.{Halt}
use Rattle.pg_prog_explain.specs.declared.found.Halt.TheVariants as halt
use Rattle.pg_prog_explain.specs.declared.mend.MendFault.{MendFault}
use Rattle.pg_prog_explain.specs.declared.mend.MendFault.TheVariants as fault
use Rattle.pg_prog_explain.specs.declared.request.Request.{Request}

-- ---- what is asked and what is due

-- the names of the files that are read, of an instruction where one is asked for, and of the file that is saved where one is
pub record ExplainWords : Type 0 where
  pub desc : List ℕ
  pub cert : List ℕ
  pub instr : Option (List ℕ)
  pub mend : Option (List ℕ)

abbrev pub explain_words : Request → ExplainWords
explain_words r = record { desc = r.desc.now; cert = r.cert.now; instr = option_copied r.instr; mend = option_copied r.options.mend }

-- the description, and then the certificate of it, of either family
unfoldable pub EitherJudgedDue : (desc cert : List ℕ) → Option Files → Step Refusal Judged
EitherJudgedDue desc cert told = Then (DescDue told desc) (λ d. Then (EitherDue d told cert) (λ report. Gives (record { desc = d; report = report })))

abbrev pub ExplainDue : ExplainWords → Option Files → Step Refusal Judged
ExplainDue w told = EitherJudgedDue w.desc w.cert told

-- an instruction is asked for that the description lacks
abbrev pub LacksNamed : ExplainWords → Desc → Type 0
LacksNamed w d = IsSomeAnd w.instr (λ name. instr_named d name ≡ None)

-- ---- what is saved

-- whatever the words are: no file differs, or but for one none does
abbrev pub SavesAtMostOne : (was now : Option Files) → Type 0
SavesAtMostOne was now = (saved : Option (List ℕ)) × SavesOnly saved was now

-- nothing, or the description with guards under the name that is given; no other file differs
abbrev pub MendsOnly : Option (List ℕ) → Judged → Option Files → Option Files → Type 0
MendsOnly None j was now = now ≡ was
MendsOnly (Some name) j was now = (now ≡ was) ⊎ BothTold was now (λ old new. HoldsMended j.desc j.report name new × SameBut name old new)

-- by why it is not saved: nothing is touched for lack of memory; else the save is counted, and may have left something under its name
abbrev pub UnsavedAt : Option (List ℕ) → (was now : Option Files) → (saves after : ℕ) → MendFault → Type 0
UnsavedAt mend was now saves after fault.Memory = (now ≡ was) × (after ≡ saves)
UnsavedAt mend was now saves after fault.Unsaved = (name : List ℕ) × (mend ≡ Some name) × BothTold was now (SameBut name) × Rose saves after

-- ---- the program

-- the verdict was told: the status is its own, and it means what it says
pub record VerdictExplained (w : ExplainWords) (j : Judged) (old new : World) (given : Status) : Type 0 where
  pub status : given ≡ verdict_status (verdict_on j)
  pub means : VerdictMeans j.desc j.report
  pub mends : MendsOnly w.mend j old.files new.files

-- a line was told of words that name no instruction, and nothing else is touched
pub record LackingTold (w : ExplainWords) (j : Judged) (old new : World) (given : Status) : Type 0 where
  pub lacks : LacksNamed w j.desc
  pub status : given ≡ status.Words
  pub untouched : IsUntouched old new

-- the command that it is; memory is refused before its work
abbrev pub explain_command : ExplainWords → Command
explain_command w = record {
  Work = Judged;
  due = ExplainDue w;
  saved = w.mend;
  ends = λ j old new given text. VerdictExplained w j old new given ⊎ LackingTold w j old new given;
  unsaved = λ j old new. SavesOnly w.mend old.files new.files;
  starved = λ j old new. ⊥;
}

-- a shelf and a sink beside any hardware, which it is not lent
abbrev pub beside : {T U : Type 0} → shelf.Ghosts T → sink.Ghosts U → Machinery → T → U → World
beside F S hw shelf out = record { files = F.files shelf; read_faults = F.reads shelf; save_faults = F.saves shelf; out = output S out; hw = hw }

-- ---- why it halts before it tells anything

-- by why it does, on a shelf with these files and counts: what is due stops it, an instruction is lacking, or a save failed
abbrev pub HaltsAt : ExplainWords → (was now : Option Files) → (reads later saves after : ℕ) → Halt → Type 0
HaltsAt w was now reads later saves after (halt.Stopped why) =
    Comes {T = Judged} (λ j. j) (ExplainDue w was) reads later (Err why) × (now ≡ was) × (after ≡ saves)
HaltsAt w was now reads later saves after halt.Lacking =
    (j : Judged) × ExplainDue w was (Came j) × LacksNamed w j.desc × (now ≡ was) × (after ≡ saves)
HaltsAt w was now reads later saves after halt.Unsaved =
    (j : Judged) × ExplainDue w was (Came j) × (name : List ℕ) × (w.mend ≡ Some name) × BothTold was now (SameBut name) × Rose saves after

-- a text was put, and the status is the one that is due then; or a put failed
abbrev pub PutAs : List ℕ → Status → Output → Output → Status → Class → Type 0
PutAs text due old new given Ended = (given ≡ due) × BothTold old.written new.written (Adds text)
PutAs text due old new given Unwritten = Breaks text old new
PutAs text due old new given Unread = ⊥
PutAs text due old new given OutOfMemory = ⊥

-- what is put of that: a line, or none
abbrev pub HaltTold : Halt → Output → Output → Status → Type 0
HaltTold (halt.Stopped why) old new given = Stops why old new given
HaltTold halt.Lacking old new given = (text : List ℕ) × PutAs text status.Words old new given (class_of given)
HaltTold halt.Unsaved old new given = (given ≡ status.WriteFault) × (new ≡ old)

-- the status of a text that is put
abbrev pub stated_as : {E : Type 0} → Result (Unit {0}) E → Status → Status
stated_as (Ok done) due = due
stated_as (Err fault) due = status.WriteFault
