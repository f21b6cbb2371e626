-- What the hardware's traps leave in cell 0 while a guest runs.
use Rattle.std.specs.Prelude.{ℕ, zero, suc, if◌then◌else◌, length}
use Rattle.pg_word.specs.Psw.{packed_trap}
use Rattle.pg_ast.specs.declared.tree.Desc.{Desc}
use Rattle.pg_lang_meaning.specs.States.{State, shape_of}
use Rattle.pg_lang_meaning.specs.Steps.{Ending, ByMemTrap, ByTrap, ByNoPattern, Done, memory_cause, trap_cause, no_pattern_cause, steps}
use Rattle.pg_routine.specs.Composing.{composed}
use Rattle.pg_mon_control.specs.Direct.{ending_at, is_direct}

-- the cause of a trap
abbrev pub cause_of : Ending → ℕ
cause_of ByMemTrap = memory_cause
cause_of ByTrap = trap_cause
cause_of ByNoPattern = no_pattern_cause
cause_of (Done after) = 0

-- what a step that is not direct leaves in cell 0: the composed PSW at its entry, and the hardware's own cause
abbrev pub trap_word : Desc → ℕ → State → ℕ
trap_word d base s = packed_trap (shape_of d) (composed s.psw base (length s.cells)) (cause_of (ending_at d base s))

-- what cell 0 holds after n turns of a guest from a state: what the last step left there that was not direct, or else what it held
unfoldable pub trap_cell : Desc → ℕ → ℕ → State → ℕ → ℕ
trap_cell d base zero s held = held
trap_cell d base (suc n) s held =
    (if is_direct d base (steps d n s) then trap_cell d base n s held else trap_word d base (steps d n s))
