-- Direct steps and traps of turns after turns.
use Rattle.std.proofs.Common.{◌≡◌, ℕ, zero, suc, ◌+◌, ◌≤◌, refl, sym, arith, add-zero, add-suc}
use Rattle.pg_ast.specs.declared.tree.Desc.{Desc}
use Rattle.pg_lang_meaning.specs.States.{State}
use Rattle.pg_lang_meaning.specs.Steps.{steps}
use Rattle.pg_lang_meaning.proofs.StepLaws.{steps-add}
use Rattle.pg_hw.specs.Tallies.{Bottom}
use Rattle.pg_hw.proofs.BurstLaws.{one_if-most}
use Rattle.pg_hw.proofs.TallyLaws.{raised_by-zero}
use Rattle.pg_mon_control.specs.Counting.{BottomTurns}
use Rattle.pg_mon_control.specs.Direct.{is_direct, direct_among}
use Rattle.pg_mon_control.specs.Traps.{trap_cell}
use Rattle.pg_mon_control.proofs.PlanLemmas.{AddsUp}

pub direct_among-most : (d : Desc) (base n : ℕ) (s : State) → direct_among d base n s ≤ n
unfolding direct_among
direct_among-most d base zero s = omega arith
direct_among-most d base (suc n) s = omega (arith, direct_among-most d base n s, one_if-most (is_direct d base (steps d n s)))

pub direct_among-add : (d : Desc) (base m n : ℕ) (s : State) → direct_among d base (m + n) s ≡ direct_among d base m s + direct_among d base n (steps d m s)
unfolding direct_among
direct_among-add d base m zero s = rw (add-zero, add-zero) refl
direct_among-add d base m (suc n) s = rw (add-suc, direct_among-add d base m n s, steps-add d m n s) (omega arith)

pub trap_cell-add : (d : Desc) (base m n : ℕ) (s : State) (held : ℕ) → trap_cell d base (m + n) s held ≡ trap_cell d base n (steps d m s) (trap_cell d base m s held)
unfolding trap_cell
trap_cell-add d base m zero s held = rw add-zero refl
trap_cell-add d base m (suc n) s held = rw (add-suc, trap_cell-add d base m n s held, steps-add d m n s) refl

pub direct-adds : (d : Desc) → AddsUp d (direct_among d)
unfolding direct_among
direct-adds d = record { none = λ base s. refl; more = λ base m n s. direct_among-add d base m n s }

-- ---- counts at the bottom

pub BottomTurns-none : (b : Bottom) → BottomTurns 0 0 b b
BottomTurns-none b = record { steps = sym (raised_by-zero b.steps); untrapped = sym (raised_by-zero b.untrapped) }

pub BottomTurns-add : (m n x y : ℕ) (b b' b'' : Bottom) → BottomTurns m x b b' → BottomTurns n y b' b'' → BottomTurns (m + n) (x + y) b b''
BottomTurns-add m n x y b b' b'' one two = record { steps = omega (arith, one.steps, two.steps); untrapped = omega (arith, one.untrapped, two.untrapped) }
