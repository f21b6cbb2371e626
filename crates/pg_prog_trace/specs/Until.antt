-- Runs that end behind the first number of steps at which a condition holds.
use Rattle.std.specs.Prelude.{◌≡◌, ℕ, ◌<◌, ◌≤◌, zero, suc, true, Option, None, Some}
use Rattle.pg_ast.specs.declared.tree.Desc.{Desc}
use Rattle.pg_hw.specs.Bursts.{traps}
use Rattle.pg_hw.specs.Stillness.{IsStill}
use Rattle.pg_lang_meaning.specs.States.{State}
use Rattle.pg_lang_meaning.specs.Steps.{power_on, steps}
use Rattle.pg_cmd_plain.specs.Bare.{BareRun}
use Rattle.pg_prog_trace.specs.declared.request.Until.{Until}
use Rattle.pg_prog_trace.specs.declared.request.Until.TheVariants.{Still, Trap, At}

-- the last of n steps from a state traps: there is one
abbrev pub EndsInTrap : Desc → State → ℕ → Type 0
EndsInTrap d s zero = ⊥
EndsInTrap d s (suc n) = traps d (steps d n s) ≡ true

-- the condition holds behind n steps from a state: the next step leaves it as it is, the last one trapped, or P is there
abbrev pub HoldsAt : Desc → Until → State → ℕ → Type 0
HoldsAt d Still s n = IsStill d (steps d n s)
HoldsAt d Trap s n = EndsInTrap d s n
HoldsAt d (At p) s n = (steps d n s).psw.p ≡ p

-- n steps are done, of so many at most: the condition holds behind them, unless they are all, and behind no fewer
pub record IsUntil (d : Desc) (until : Until) (most : ℕ) (s : State) (n : ℕ) : Type 0 where
  pub within : n ≤ most
  pub first : (k : ℕ) → k < n → HoldsAt d until s k → ⊥
  pub holds : n < most → HoldsAt d until s n

-- where no condition is named all steps are done
abbrev pub EndsAt : Desc → Option Until → (most : ℕ) → State → (n : ℕ) → Type 0
EndsAt d None most s n = n ≡ most
EndsAt d (Some until) most s n = IsUntil d until most s n

-- the part of a run that is done
pub record IsPart (until : Option Until) (whole part : BareRun) : Type 0 where
  pub ends : EndsAt whole.desc until whole.steps (power_on whole.image whole.grant) part.steps
  pub same : part ≡ record whole { steps = part.steps }
