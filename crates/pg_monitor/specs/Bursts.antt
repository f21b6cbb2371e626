-- Turns of a guest that one burst of the hardware makes.
use Rattle.std.specs.Prelude.{◌≡◌, ℕ, zero, suc, ◌+◌, ◌<◌, ◌≤◌, Bool, false, if◌then◌else◌}
use Rattle.pg_ast.specs.declared.tree.Desc.{Desc}
use Rattle.pg_lang_meaning.specs.States.{State}
use Rattle.pg_lang_meaning.specs.Steps.{step, steps}
use Rattle.pg_hw.specs.Bursts.{traps}
use Rattle.pg_mon_control.specs.Direct.{is_direct}
use Rattle.pg_monitor.specs.declared.turning.BurstTold.{BurstTold}

-- how many turns a burst makes: until k were made, or one was not direct, which is then the last
unfoldable pub burst_turns : Desc → ℕ → ℕ → State → ℕ
burst_turns d base zero s = 0
burst_turns d base (suc k) s = (if is_direct d base s then 1 + burst_turns d base k (step d s) else 1)

-- whether the guest's own step traps at the last of n turns
abbrev pub last_traps : Desc → ℕ → State → Bool
last_traps d zero s = false
last_traps d (suc n) s = traps d (steps d n s)

-- what is told of a burst for a guest at a state
pub record TellsBurst (d : Desc) (base most : ℕ) (s : State) (told : BurstTold) : Type 0 where
  pub turns : told.turns ≡ burst_turns d base most s
  pub some : 1 ≤ most → 1 ≤ told.turns
  pub within : told.turns ≤ most
  -- no step of the guest's own but the last one traps
  pub goes_on : (j : ℕ) → j + 1 < told.turns → traps d (steps d j s) ≡ false
  pub trapped : told.trapped ≡ last_traps d told.turns s
  -- each step begins in the mode in which the first one does
  pub mode : (j : ℕ) → j < told.turns → (steps d j s).psw.mode ≡ s.psw.mode
