-- Where a guest's grant lies makes no difference to how a monitor handles its steps.
use Rattle.std.proofs.Common.{◌≡◌, ℕ, zero, suc, ◌+◌, ◌≤◌, ◌&&◌, length, sym, ◌∙◌, ap, arith}
use Rattle.pg_ast.specs.declared.tree.Desc.{Desc}
use Rattle.pg_lang_meaning.specs.States.{State, IsState}
use Rattle.pg_lang_meaning.specs.Steps.{steps}
use Rattle.pg_lang_valid.specs.Valid.{IsValid}
use Rattle.pg_lang_valid.proofs.StepSound.{steps-state, steps-length}
use Rattle.pg_type.specs.Accepting.{IsHybridAccepted}
use Rattle.pg_hw.specs.Bursts.{one_if}
use Rattle.pg_mon_control.proofs.BaseLemmas.{direct-anywhere}
use Rattle.pg_out_steps.specs.Handling.{asks, goes_direct, direct_steps}
use Rattle.pg_out_steps.specs.declared.handling.Monitor.{Monitor}
use Rattle.pg_out_steps.proofs.HandlingLemmas.{direct_steps-none, direct_steps-next}

-- one step
pub goes-anywhere : (monitor : Monitor) (d : Desc) (base : ℕ) (s : State) → ∥ IsHybridAccepted d ∥₁ → IsValid d → IsState d s → base + length s.cells ≤ d.size →
    goes_direct monitor d base s ≡ goes_direct monitor d 0 s
goes-anywhere monitor d base s accepted valid h within =
    ap (λ b. asks monitor s.psw.mode && b) (direct-anywhere d s base 0 accepted valid h within (omega (arith, h.size_most)))

-- a step after n others
pub step-anywhere : (monitor : Monitor) (d : Desc) (base n : ℕ) (s : State) → ∥ IsHybridAccepted d ∥₁ → IsValid d → IsState d s → base + length s.cells ≤ d.size →
    goes_direct monitor d base (steps d n s) ≡ goes_direct monitor d 0 (steps d n s)
step-anywhere monitor d base n s accepted valid h within =
    goes-anywhere monitor d base (steps d n s) accepted valid (steps-state d n s valid h) (omega (arith, steps-length d n s valid h, within))

-- the count of n steps
pub count-anywhere : (monitor : Monitor) (d : Desc) (base n : ℕ) (s : State) → ∥ IsHybridAccepted d ∥₁ → IsValid d → IsState d s → base + length s.cells ≤ d.size →
    direct_steps monitor d base n s ≡ direct_steps monitor d 0 n s
count-anywhere monitor d base zero s accepted valid h within = direct_steps-none monitor d base s ∙ sym (direct_steps-none monitor d 0 s)
count-anywhere monitor d base (suc n) s accepted valid h within =
    direct_steps-next monitor d base n s
    ∙ ap (λ k. k + one_if (goes_direct monitor d base (steps d n s))) (count-anywhere monitor d base n s accepted valid h within)
    ∙ ap (λ b. direct_steps monitor d 0 n s + one_if b) (step-anywhere monitor d base n s accepted valid h within)
    ∙ sym (direct_steps-next monitor d 0 n s)
