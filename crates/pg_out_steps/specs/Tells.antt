-- What a record tells of a step.
use Rattle.std.specs.Prelude.{◌≡◌, List, slice_get, Option, None, Some, IfSome}
use Rattle.pg_word.specs.declared.cause.Cause.{Cause}
use Rattle.pg_word.specs.declared.cause.Cause.TheVariants.{Memory, Trap, NoPattern}
use Rattle.pg_word.specs.Psw.{cause_number}
use Rattle.pg_ast.specs.declared.tree.Desc.{Desc}
use Rattle.pg_lang_meaning.specs.States.{State, window, put_back}
use Rattle.pg_lang_meaning.specs.Steps.{Ending, ByMemTrap, ByTrap, ByNoPattern, Done, ending, step, trapped}
use Rattle.pg_interp.specs.declared.effect.Write.{Write}
use Rattle.pg_interp.specs.declared.effect.Ended.{Ended}
use Rattle.pg_interp.specs.declared.effect.Ended.TheVariants as ended
use Rattle.pg_interp.specs.Outcomes.{number_at}
use Rattle.pg_interp.specs.Writes.{written}
use Rattle.pg_out_steps.specs.declared.stepped.Stepped.{Stepped}

-- why a step traps; none where it is done
abbrev pub cause_of : Ending → Option Cause
cause_of ByMemTrap = Some Memory
cause_of ByTrap = Some Trap
cause_of ByNoPattern = Some NoPattern
cause_of (Done after) = None

-- the same, as the code has it
abbrev pub cause_as : Ended → Option Cause
cause_as ended.MemTrap = Some Memory
cause_as ended.Trap = Some Trap
cause_as ended.NoPattern = Some NoPattern
cause_as ended.Done = None

-- a record, and stores beside it, of the step from a state
pub record Tells (d : Desc) (s : State) (stores : List Write) (r : Stepped) : Type 0 where
  pub psw : r.psw ≡ s.psw
  pub word : r.word ≡ slice_get (window s) s.psw.p
  pub instr : r.instr ≡ number_at d (window s) s.psw
  pub cause : r.cause ≡ cause_of (ending d (window s) s.psw)
  -- where it is done the storage is the one before it after the stores, made in order
  pub done : r.cause ≡ None → (step d s).cells ≡ put_back s (written stores (window s))
  pub trapped : IfSome r.cause (λ cause. step d s ≡ trapped d s (cause_number cause))
  pub next : r.next ≡ (step d s).psw
  pub kept : slice_get (step d s).cells 0 ≡ Some r.kept
