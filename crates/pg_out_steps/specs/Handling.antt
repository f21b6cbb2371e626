-- How a monitor handles the steps of a machine that is its guest, in a grant that begins at a cell `base`.
use Rattle.std.specs.Prelude.{◌≡◌, ℕ, ◌+◌, ◌&&◌, Bool, true, false, Option, None, Some}
use Rattle.pg_word.specs.declared.psw.Mode.{Mode}
use Rattle.pg_ast.specs.declared.tree.Desc.{Desc}
use Rattle.pg_lang_meaning.specs.States.{State}
use Rattle.pg_hw.specs.Bursts.{is_user, one_if}
use Rattle.pg_interp.specs.declared.effect.Ended.{Ended}
use Rattle.pg_interp.specs.declared.effect.Ended.TheVariants as ended
use Rattle.pg_mon_control.specs.Direct.{is_direct, direct_among}
use Rattle.pg_hybrid.specs.UserTurns.{hybrid_among}
use Rattle.pg_out_steps.specs.declared.handling.Monitor.{Monitor}
use Rattle.pg_out_steps.specs.declared.handling.Monitor.TheVariants.{Plain, Hybrid}
use Rattle.pg_out_steps.specs.declared.handling.Handling.{Handling}
use Rattle.pg_out_steps.specs.declared.handling.Handling.TheVariants.{Direct, Emulated}
use Rattle.pg_out_steps.specs.declared.shares.Shares.{Shares}

-- whether the hardware is asked to do a step from a mode
abbrev pub asks : Monitor → Mode → Bool
asks Plain mode = true
asks Hybrid mode = is_user mode

-- whether the hardware does the step from a state
abbrev pub goes_direct : Monitor → Desc → ℕ → State → Bool
goes_direct monitor d base s = asks monitor s.psw.mode && is_direct d base s

-- how many of the first n steps from a state the hardware does
abbrev pub direct_steps : Monitor → Desc → ℕ → ℕ → State → ℕ
direct_steps Plain d base n s = direct_among d base n s
direct_steps Hybrid d base n s = hybrid_among d base n s

abbrev pub handled : Bool → Handling
handled true = Direct
handled false = Emulated

-- the same, by how the step ended that the hardware was asked to do
abbrev pub handled_as : Ended → Handling
handled_as ended.MemTrap = Emulated
handled_as ended.Trap = Emulated
handled_as ended.NoPattern = Emulated
handled_as ended.Done = Direct

-- what is told of the step from a state; nothing where there is no monitor. The grant is told as one that begins at cell 0
abbrev pub handling_under : Option Monitor → Desc → State → Option Handling
handling_under None d s = None
handling_under (Some monitor) d s = Some (handled (goes_direct monitor d 0 s))

-- ---- counts

abbrev pub is_direct_told : Option Handling → Bool
is_direct_told None = false
is_direct_told (Some Direct) = true
is_direct_told (Some Emulated) = false

abbrev pub is_emulated_told : Option Handling → Bool
is_emulated_told None = false
is_emulated_told (Some Direct) = false
is_emulated_told (Some Emulated) = true

-- the shares of the first n steps from a state: all other steps are emulated
pub record AreSharesOf (monitor : Monitor) (d : Desc) (n : ℕ) (s : State) (t : Shares) : Type 0 where
  pub direct : t.direct ≡ direct_steps monitor d 0 n s
  pub all : t.direct + t.emulated ≡ n

pub record AreNoShares (t : Shares) : Type 0 where
  pub direct : t.direct ≡ 0
  pub emulated : t.emulated ≡ 0

-- the shares of these steps; without a monitor there are none
abbrev pub AreShares : Option Monitor → Desc → ℕ → State → Shares → Type 0
AreShares None d n s t = AreNoShares t
AreShares (Some monitor) d n s t = AreSharesOf monitor d n s t

-- shares with a step more that is handled so
pub record SharesCounted (old : Shares) (handling : Option Handling) (new : Shares) : Type 0 where
  pub direct : new.direct ≡ old.direct + one_if (is_direct_told handling)
  pub emulated : new.emulated ≡ old.emulated + one_if (is_emulated_told handling)
