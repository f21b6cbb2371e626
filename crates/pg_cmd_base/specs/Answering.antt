-- What the functions of a command answer: a step of it, and what stops it.
use Rattle.std.specs.Prelude.{◌≡◌, ℕ, ◌≤◌, Result, Ok, Err}
use Rattle.pg_edge.specs.Count.{Rose}
use Rattle.pg_edge.specs.declared.shelf.Shelf as shelf
use Rattle.pg_edge.specs.declared.shelf.LoadFault.{LoadFault}
use Rattle.pg_edge.specs.declared.shelf.LoadFault.TheVariants as load
use Rattle.pg_report.specs.declared.line.RefusalLine.{RefusalLine}
use Rattle.pg_cmd_base.specs.declared.refusal.Refusal.{Refusal}
use Rattle.pg_cmd_base.specs.declared.refusal.Refusal.TheVariants as refusal
use Rattle.pg_cmd_base.specs.declared.refusal.Stop.{Stop}
use Rattle.pg_cmd_base.specs.declared.refusal.Stop.TheVariants as stop
use Rattle.pg_cmd_base.specs.declared.status.Status.{Status}
use Rattle.pg_cmd_base.specs.declared.status.Status.TheVariants as status
use Rattle.pg_cmd_base.specs.Classes.{Class, Ended, Unwritten, Unread, OutOfMemory, class_of}
use Rattle.pg_cmd_base.specs.Refusals.{refusal_status, refusal_said}
use Rattle.pg_cmd_base.specs.Steps.{Step, Came, Refused, Misread}
use Rattle.pg_cmd_base.specs.World.{Output, Says, SaysFront}

-- why a command goes no further whose file was not loaded: a file that is too long is told in this line
abbrev pub stop_as : LoadFault → RefusalLine → Stop
stop_as load.Missing long = stop.Refused refusal.Missing
stop_as load.Long long = stop.Refused (refusal.Line long)
stop_as load.Failed long = stop.ReadFault
stop_as load.Memory long = stop.Memory

-- an answer is one of the outcomes of the step, or memory ran out; and a read that failed was counted
abbrev pub Comes : {T X : Type 0} → (T → X) → Step Refusal X → (before after : ℕ) → Result T Stop → Type 0
Comes view step before after (Ok x) = step (Came (view x))
Comes view step before after (Err (stop.Refused why)) = step (Refused why)
Comes view step before after (Err stop.ReadFault) = step Misread × Rose before after
Comes view step before after (Err stop.Memory) = Unit {0}

-- a shelf from which was read at most
pub record OnlyReads {T : Type 0} (F : shelf.Ghosts T) (old new : T) : Type 0 where
  pub same_files : F.files new ≡ F.files old
  pub same_saves : F.saves new ≡ F.saves old
  pub later : F.reads old ≤ F.reads new

-- a refusal whose text was put whole
pub record SaidWhole (why : Refusal) (old new : Output) (given : Status) : Type 0 where
  pub status : given ≡ refusal_status why
  pub said : Says (refusal_said why) old new

-- what is put of a refusal, by the class of the status
abbrev pub SaysRefusal : Refusal → Output → Output → Status → Class → Type 0
SaysRefusal why old new given Ended = SaidWhole why old new given
SaysRefusal why old new given Unwritten = SaysFront (refusal_said why) old new
SaysRefusal why old new given Unread = ⊥
SaysRefusal why old new given OutOfMemory = ⊥

-- how a command stops before its work, by why it does
abbrev pub Stops : Stop → Output → Output → Status → Type 0
Stops (stop.Refused why) old new given = SaysRefusal why old new given (class_of given)
Stops stop.ReadFault old new given = (given ≡ status.ReadFault) × (new ≡ old)
Stops stop.Memory old new given = (given ≡ status.Memory) × (new ≡ old)
