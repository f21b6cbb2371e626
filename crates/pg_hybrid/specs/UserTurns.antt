-- Turns by the mode in which they begin: one from user mode is a step of the hardware, one from supervisor mode is interpreted.
use Rattle.std.specs.Prelude.{ℕ, zero, suc, ◌+◌, ◌&&◌}
use Rattle.pg_ast.specs.declared.tree.Desc.{Desc}
use Rattle.pg_lang_meaning.specs.States.{State}
use Rattle.pg_lang_meaning.specs.Steps.{steps}
use Rattle.pg_hw.specs.Bursts.{is_user, one_if}
use Rattle.pg_mon_control.specs.Direct.{is_direct}

-- how many of the first n steps from a state begin in user mode
unfoldable pub user_among : Desc → ℕ → State → ℕ
user_among d zero s = 0
user_among d (suc n) s = user_among d n s + one_if (is_user (steps d n s).psw.mode)

-- how many of these are direct at this base
unfoldable pub hybrid_among : Desc → ℕ → ℕ → State → ℕ
hybrid_among d base zero s = 0
hybrid_among d base (suc n) s = hybrid_among d base n s + one_if (is_user (steps d n s).psw.mode && is_direct d base (steps d n s))
