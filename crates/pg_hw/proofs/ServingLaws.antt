-- Serving: words and status words of a machine that may be run.
use Rattle.std.proofs.Common.{◌≡◌, ℕ, ◌-◌, ◌<◌, ◌≤◌, ◌^◌, [], replicate, ap, arith}
use Rattle.pg_word.specs.declared.psw.Psw.{Psw}
use Rattle.pg_word.specs.Psw.{IsPsw, power_on_psw}
use Rattle.pg_ast.specs.declared.tree.Desc.{Desc}
use Rattle.pg_lang_meaning.specs.States.{State, IsState}
use Rattle.pg_lang_meaning.specs.Steps.{power_on}
use Rattle.pg_lang_valid.specs.Valid.{IsValid}
use Rattle.pg_lang_valid.proofs.StepSound.{power_on-state}
use Rattle.pg_hw.specs.Serving.{IsServed, IsServedWord, IsServedPsw, blank}

pub IsServedWord-of : (serves : Desc → Type 0) (d : Desc) (word : ℕ) → IsServed serves d → word < 2 ^ d.word → IsServedWord serves word
IsServedWord-of serves d word served fits = record { machine = d; served = served; fits = fits }

pub IsServedPsw-of : (serves : Desc → Type 0) (d : Desc) (psw : Psw) → IsServed serves d → IsPsw d.address psw → IsServedPsw serves psw
IsServedPsw-of serves d psw served fits = record { machine = d; served = served; fits = fits }

-- the state that a hardware begins with is the power-on state of no image
pub blank-power_on : (n : ℕ) → blank n ≡ power_on [] n
unfolding blank power_on
blank-power_on n = let whole : n ≡ n - 0 = omega arith in ap (λ (k : ℕ). let s : State = record { cells = replicate k 0; psw = power_on_psw n } in s) whole

-- and a state of the machine, where the size is one of its
pub blank-state : (d : Desc) (n : ℕ) → IsValid d → 2 ≤ n → n ≤ d.size → IsState d (blank n)
blank-state d n v least most = rw (blank-power_on n) (power_on-state d [] n v least most (omega arith) (λ k x h. absurd (omega arith)))
