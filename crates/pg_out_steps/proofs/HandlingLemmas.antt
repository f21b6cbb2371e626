-- How a monitor handles steps, and the counts of them, step by step.
use Rattle.std.proofs.Common.{◌≡◌, ℕ, suc, ◌+◌, ◌≤◌, ◌&&◌, not, Bool, true, false, List, length, Option, None, Some, refl, sym, ◌∙◌, ap, arith}
use Rattle.pg_word.specs.declared.psw.Psw.{Psw}
use Rattle.pg_ast.specs.declared.tree.Desc.{Desc}
use Rattle.pg_lang_meaning.specs.States.{State, window}
use Rattle.pg_lang_meaning.specs.Steps.{ending, ends_in_trap, steps}
use Rattle.pg_hw.specs.Bursts.{one_if}
use Rattle.pg_interp.specs.declared.effect.Ended.{Ended}
use Rattle.pg_interp.specs.declared.effect.Ended.TheVariants as ended
use Rattle.pg_interp.specs.declared.frame.Frame.{Frame}
use Rattle.pg_interp.specs.Outcomes.{IsOutcome, ending_as, outcome_in}
use Rattle.pg_routine.specs.Composing.{composed}
use Rattle.pg_mon_control.specs.Direct.{is_direct, direct_among}
use Rattle.pg_hybrid.specs.UserTurns.{hybrid_among}
use Rattle.pg_out_steps.specs.Handling.{asks, goes_direct, direct_steps, handled, handled_as, handling_under, is_direct_told, is_emulated_told, AreShares, SharesCounted}
use Rattle.pg_out_steps.specs.declared.handling.Monitor.{Monitor}
use Rattle.pg_out_steps.specs.declared.handling.Monitor.TheVariants.{Plain, Hybrid}
use Rattle.pg_out_steps.specs.declared.handling.Handling.{Handling}
use Rattle.pg_out_steps.specs.declared.handling.Handling.TheVariants.{Direct, Emulated}
use Rattle.pg_out_steps.specs.declared.shares.Shares.{Shares}

-- ---- one step

handled-shown : (w : List ℕ) (f : Frame) (e : Ended) → handled_as e ≡ handled (not (ends_in_trap (ending_as w (outcome_in f e))))
handled-shown w f ended.MemTrap = refl
handled-shown w f ended.Trap = refl
handled-shown w f ended.NoPattern = refl
handled-shown w f ended.Done = refl

-- the hardware was asked
pub handled-asked : (d : Desc) (s : State) (psw : Psw) (f : Frame) (e : Ended) → psw ≡ composed s.psw 0 (length s.cells) →
    IsOutcome d.word (window s) (ending d (window s) psw) (outcome_in f e) → handled_as e ≡ handled (is_direct d 0 s)
unfolding is_direct
handled-asked d s psw f e under h =
    handled-shown (window s) f e ∙ ap (λ x. handled (not (ends_in_trap x))) (h.ends ∙ ap (ending d (window s)) under)

-- a monitor that asks it, or does not
pub handled-by : (monitor : Monitor) (d : Desc) (s : State) (psw : Psw) (r : Handling) → psw ≡ s.psw → asks monitor psw.mode ≡ true → r ≡ handled (is_direct d 0 s) →
    r ≡ handled (goes_direct monitor d 0 s)
handled-by monitor d s psw r same asked is =
    is ∙ ap (λ b. handled (b && is_direct d 0 s)) (sym asked ∙ ap (λ (x : Psw). asks monitor x.mode) same)

pub handled-unasked : (monitor : Monitor) (d : Desc) (s : State) (psw : Psw) → psw ≡ s.psw → asks monitor psw.mode ≡ false → Emulated ≡ handled (goes_direct monitor d 0 s)
handled-unasked monitor d s psw same unasked = ap (λ b. handled (b && is_direct d 0 s)) (sym unasked ∙ ap (λ (x : Psw). asks monitor x.mode) same)

-- ---- counts

pub direct_steps-none : (monitor : Monitor) (d : Desc) (base : ℕ) (s : State) → direct_steps monitor d base 0 s ≡ 0
unfolding direct_among hybrid_among
direct_steps-none Plain d base s = refl
direct_steps-none Hybrid d base s = refl

pub direct_steps-next : (monitor : Monitor) (d : Desc) (base n : ℕ) (s : State) →
    direct_steps monitor d base (suc n) s ≡ direct_steps monitor d base n s + one_if (goes_direct monitor d base (steps d n s))
unfolding direct_among hybrid_among
direct_steps-next Plain d base n s = refl
direct_steps-next Hybrid d base n s = refl

pub shares-none : (monitor : Option Monitor) (d : Desc) (s : State) (t : Shares) → t.direct ≡ 0 → t.emulated ≡ 0 → AreShares monitor d 0 s t
shares-none None d s t direct emulated = record { direct = direct; emulated = emulated }
shares-none (Some monitor) d s t direct emulated = record { direct = direct ∙ sym (direct_steps-none monitor d 0 s); all = omega (arith, direct, emulated) }

told-direct : (b : Bool) → is_direct_told (Some (handled b)) ≡ b
told-direct true = refl
told-direct false = refl

told-one : (b : Bool) → one_if (is_direct_told (Some (handled b))) + one_if (is_emulated_told (Some (handled b))) ≡ 1
told-one true = refl
told-one false = refl

-- a step is in one share at most
pub one-share : (handling : Option Handling) → one_if (is_direct_told handling) + one_if (is_emulated_told handling) ≤ 1
one-share None = omega arith
one-share (Some Direct) = omega arith
one-share (Some Emulated) = omega arith

-- the shares of one step more
pub shares-next : (monitor : Option Monitor) (d : Desc) (n : ℕ) (s : State) (old new : Shares) (handling : Option Handling) → AreShares monitor d n s old →
    handling ≡ handling_under monitor d (steps d n s) → SharesCounted old handling new → AreShares monitor d (n + 1) s new
shares-next None d n s old new handling h is c =
    let direct : one_if (is_direct_told handling) ≡ 0 = ap (λ x. one_if (is_direct_told x)) is in
    let emulated : one_if (is_emulated_told handling) ≡ 0 = ap (λ x. one_if (is_emulated_told x)) is in
    record { direct = omega (arith, c.direct, h.direct, direct); emulated = omega (arith, c.emulated, h.emulated, emulated) }
shares-next (Some monitor) d n s old new handling h is c =
    let b = goes_direct monitor d 0 (steps d n s) in
    let e : suc n ≡ n + 1 = omega arith in
    let one : one_if (is_direct_told handling) + one_if (is_emulated_told handling) ≡ 1 =
    ap (λ x. one_if (is_direct_told x) + one_if (is_emulated_told x)) is ∙ told-one b in
    record {
      direct = c.direct ∙ ap (λ k. k + one_if (is_direct_told handling)) h.direct
          ∙ ap (λ x. direct_steps monitor d 0 n s + one_if x) (ap is_direct_told is ∙ told-direct b)
          ∙ sym (direct_steps-next monitor d 0 n s) ∙ ap (λ k. direct_steps monitor d 0 k s) e;
      all = omega (arith, c.direct, c.emulated, h.all, one);
    }
