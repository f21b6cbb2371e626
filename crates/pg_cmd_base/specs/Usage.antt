-- How a program beside `pgv` answers words that it does not take.
use Rattle.std.specs.Prelude.{◌≡◌, ℕ, List, Some}
use Rattle.pg_cmd_base.specs.declared.status.Status.{Status}
use Rattle.pg_cmd_base.specs.declared.status.Status.TheVariants as status
use Rattle.pg_cmd_base.specs.Classes.{Class, Ended, Unwritten, Unread, OutOfMemory, class_of}
use Rattle.pg_cmd_base.specs.Commands.{StarvesBefore}
use Rattle.pg_cmd_base.specs.World.{World, Output, IsUntouched, Says, Breaks}

-- how it is called was put, and nothing else
pub record UsageWhole (usage : List ℕ) (old new : Output) (given : Status) : Type 0 where
  pub status : given ≡ status.Words
  pub said : Says (Some usage) old new

-- by the class of the status: a front of that was put where a put failed
abbrev pub UsageAs : List ℕ → Output → Output → Status → Class → Type 0
UsageAs usage old new given Ended = UsageWhole usage old new given
UsageAs usage old new given Unwritten = Breaks usage old new
UsageAs usage old new given Unread = ⊥
UsageAs usage old new given OutOfMemory = ⊥

-- it says how it is called; no file is saved, and the hardware is as it was
pub record Untaken (usage : List ℕ) (old new : World) (given : Status) : Type 0 where
  pub told : UsageAs usage old.out new.out given (class_of given)
  pub untouched : IsUntouched old new

-- memory was refused for the words: nothing was put, and nothing is touched
pub record WordsStarve (old new : World) (given : Status) : Type 0 where
  pub status : given ≡ status.Memory
  pub before : StarvesBefore old new
