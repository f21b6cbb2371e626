-- Commands: what is due for one, what its work may leave, and how it is carried out, whatever it does.
use Rattle.std.specs.Prelude.{◌≡◌, ◌⊎◌, ℕ, List, Option, Some}
use Rattle.pg_edge.specs.Count.{Rose}
use Rattle.pg_edge.specs.Shelf.{Files}
use Rattle.pg_edge.specs.Sink.{Adds}
use Rattle.pg_edge.specs.Told.{BothTold}
use Rattle.pg_cmd_base.specs.declared.status.Status.{Status}
use Rattle.pg_cmd_base.specs.declared.refusal.Refusal.{Refusal}
use Rattle.pg_cmd_base.specs.Classes.{Class, Ended, Unwritten, Unread, OutOfMemory, class_of}
use Rattle.pg_cmd_base.specs.Refusals.{refusal_status, refusal_said}
use Rattle.pg_cmd_base.specs.Steps.{Step, Came, Refused, Misread}
use Rattle.pg_cmd_base.specs.World.{World, IsUntouched, Says, Breaks, SaysFront}

-- a command, after its words
pub record Command : Type 1 where
  -- what there is to do where nothing refuses it
  pub Work : Type 0
  -- what its steps come to, by the told files: work, a refusal, or a read that may fail
  pub due : Option Files → Step Refusal Work
  -- the name under which it saves, if it does
  pub saved : Option (List ℕ)
  -- its work may end with this status and this text, and leave this of the files and the hardware; the sink is not its say
  pub ends : Work → World → World → Status → List ℕ → Type 0
  -- what is left where its save failed
  pub unsaved : Work → World → World → Type 0
  -- what is left where memory was refused for its work
  pub starved : Work → World → World → Type 0

-- ---- to its end

-- told of this refusal, and nothing else touched
pub record RefusalCame (why : Refusal) (old new : World) (given : Status) : Type 0 where
  pub status : given ≡ refusal_status why
  pub said : Says (refusal_said why) old.out new.out
  pub untouched : IsUntouched old new

-- this work done, and its text put whole
pub record WorkCame (c : Command) (work : c.Work) (old new : World) (given : Status) : Type 0 where
  pub text : List ℕ
  pub ends : c.ends work old new given text
  pub written : BothTold old.out.written new.out.written (Adds text)

-- refused by a step
pub record EndsRefused (c : Command) (old new : World) (given : Status) : Type 0 where
  pub why : Refusal
  pub is_due : c.due old.files (Refused why)
  pub came : RefusalCame why old new given

-- refused by none
pub record EndsDone (c : Command) (old new : World) (given : Status) : Type 0 where
  pub work : c.Work
  pub is_due : c.due old.files (Came work)
  pub came : WorkCame c work old new given

-- ---- not written

-- a put failed in the text of a refusal
pub record BreaksRefused (c : Command) (old new : World) : Type 0 where
  pub why : Refusal
  pub is_due : c.due old.files (Refused why)
  pub front : SaysFront (refusal_said why) old.out new.out
  pub untouched : IsUntouched old new

-- a put failed in the text of its work: a front of it is there, and the rest is as with that text whole
pub record BreaksDone (c : Command) (old new : World) : Type 0 where
  pub work : c.Work
  pub is_due : c.due old.files (Came work)
  pub given : Status
  pub text : List ℕ
  pub ends : c.ends work old new given text
  pub front : Breaks text old.out new.out

-- its save failed, where it has one: nothing was put
pub record BreaksSaving (c : Command) (old new : World) : Type 0 where
  pub work : c.Work
  pub is_due : c.due old.files (Came work)
  pub name : List ℕ
  pub saves : c.saved ≡ Some name
  pub cause : Rose old.save_faults new.save_faults
  pub silent : new.out ≡ old.out
  pub left : c.unsaved work old new

-- ---- not read, and no memory

-- a read failed, where a file was due to be read: nothing was put, and nothing is touched
pub record Misreads (c : Command) (old new : World) : Type 0 where
  pub is_due : c.due old.files Misread
  pub cause : Rose old.read_faults new.read_faults
  pub silent : new.out ≡ old.out
  pub untouched : IsUntouched old new

-- memory was refused before its work: nothing was put, and nothing is touched
pub record StarvesBefore (old new : World) : Type 0 where
  pub silent : new.out ≡ old.out
  pub untouched : IsUntouched old new

-- memory was refused for its work
pub record StarvesAt (c : Command) (old new : World) : Type 0 where
  pub work : c.Work
  pub is_due : c.due old.files (Came work)
  pub left : c.starved work old new

-- ---- carried out

abbrev pub CarriesAs : Command → World → World → Status → Class → Type 0
CarriesAs c old new given Ended = EndsRefused c old new given ⊎ EndsDone c old new given
CarriesAs c old new given Unwritten = BreaksRefused c old new ⊎ (BreaksDone c old new ⊎ BreaksSaving c old new)
CarriesAs c old new given Unread = Misreads c old new
CarriesAs c old new given OutOfMemory = StarvesBefore old new ⊎ StarvesAt c old new

-- what a command that ended with this status made of the world, by the class of the status
pub record Carries (c : Command) (old new : World) (given : Status) : Type 0 where
  pub by_class : CarriesAs c old new given (class_of given)

-- ---- what is due comes

-- where the command came to its end: the refusal that is due came, and where work is due it was done, and no refusal came
pub record Exactly (c : Command) (old new : World) (given : Status) : Type 0 where
  pub refusal : (why : Refusal) → c.due old.files (Refused why) → class_of given ≡ Ended → RefusalCame why old new given
  pub work : (work : c.Work) → c.due old.files (Came work) → class_of given ≡ Ended → WorkCame c work old new given
