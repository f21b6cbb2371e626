-- Direct steps: those that the hardware executes for a guest without a trap.
use Rattle.std.specs.Prelude.{ℕ, zero, suc, ◌+◌, Bool, not, length}
use Rattle.pg_ast.specs.declared.tree.Desc.{Desc}
use Rattle.pg_lang_meaning.specs.States.{State, window}
use Rattle.pg_lang_meaning.specs.Steps.{Ending, ending, steps, ends_in_trap}
use Rattle.pg_hw.specs.Bursts.{one_if}
use Rattle.pg_routine.specs.Composing.{composed}

-- how the step of a state's own window ends under the PSW that is composed of its own for a grant at this base
abbrev pub ending_at : Desc → ℕ → State → Ending
ending_at d base s = ending d (window s) (composed s.psw base (length s.cells))

-- *Direct*: it neither traps nor memory traps
unfoldable pub is_direct : Desc → ℕ → State → Bool
is_direct d base s = not (ends_in_trap (ending_at d base s))

-- how many of the first n steps from a state are direct at this base
unfoldable pub direct_among : Desc → ℕ → ℕ → State → ℕ
direct_among d base zero s = 0
direct_among d base (suc n) s = direct_among d base n s + one_if (is_direct d base (steps d n s))
