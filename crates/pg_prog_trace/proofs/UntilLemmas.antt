-- The first number of steps at which a condition holds.
use Rattle.std.proofs.Common.{◌≡◌, ℕ, zero, suc, ◌+◌, ◌<◌, inl, inr, refl, sym, ◌∙◌, subst, arith, true≢false}
use Rattle.std.proofs.lemmas.Bool.{cases_lt}
use Rattle.pg_ast.specs.declared.tree.Desc.{Desc}
use Rattle.pg_lang_meaning.specs.States.{State}
use Rattle.pg_lang_meaning.specs.Steps.{step, steps}
use Rattle.pg_hw.specs.Bursts.{burst_length}
use Rattle.pg_hw.proofs.BurstLaws.{burst_length-most, burst_length-goes_on, burst_length-ends, burst_length-some}
use Rattle.pg_prog_trace.specs.Until.{HoldsAt, EndsInTrap, IsUntil}
use Rattle.pg_prog_trace.specs.declared.request.Until.{Until}
use Rattle.pg_prog_trace.specs.declared.request.Until.TheVariants.{Trap}

-- behind fewer than n steps it does not hold
abbrev pub NoneBefore : Desc → Until → State → ℕ → Type 0
NoneBefore d until s n = (k : ℕ) → k < n → HoldsAt d until s k → ⊥

pub none-first : (d : Desc) (until : Until) (s : State) → NoneBefore d until s 0
none-first d until s k before holds = absurd (omega (arith, before))

-- one step more
pub none-next : (d : Desc) (until : Until) (s : State) (n : ℕ) → NoneBefore d until s n → (HoldsAt d until s n → ⊥) → NoneBefore d until s (n + 1)
none-next d until s n none fails k before holds = elim (cases_lt k n) [
  | inl less ↦ none k less holds
  | inr more ↦ let e : k ≡ n = omega (arith, before, more) in fails (subst (HoldsAt d until s) e holds)
]

-- it holds now, as never before
pub until-here : (d : Desc) (until : Until) (most n : ℕ) (s : State) → n < most → NoneBefore d until s n → HoldsAt d until s n → IsUntil d until most s n
until-here d until most n s some none holds = record { within = omega (arith, some); first = none; holds = λ less. holds }

-- it did not hold before the last step
pub until-end : (d : Desc) (until : Until) (most n : ℕ) (s : State) → n ≡ most → NoneBefore d until s n → IsUntil d until most s most
until-end d until most n s all none = record { within = omega arith; first = subst (NoneBefore d until s) all none; holds = λ less. absurd (omega (arith, less)) }

-- no step
pub steps-none : (d : Desc) (s : State) → s ≡ steps d 0 s
unfolding steps
steps-none d s = refl

-- one step more
pub steps-next : (d : Desc) (n : ℕ) (s : State) → step d (steps d n s) ≡ steps d (n + 1) s
unfolding steps
steps-next d n s = let e : suc n ≡ n + 1 = omega arith in subst (λ m. step d (steps d n s) ≡ steps d m s) e refl

-- ---- a trap

untrapped : (d : Desc) (most : ℕ) (s : State) (k : ℕ) → k < burst_length d most s → EndsInTrap d s k → ⊥
untrapped d most s zero before ends = ends
untrapped d most s (suc k) before ends = true≢false (sym ends ∙ burst_length-goes_on d most k s (omega (arith, before)))

ended : (d : Desc) (most n : ℕ) (s : State) → n ≡ burst_length d most s → n < most → EndsInTrap d s n
ended d most zero s is less = absurd (let some = burst_length-some d most s (omega (arith, less)) in omega (arith, is, some))
ended d most (suc n) s is less = burst_length-ends d most n s (sym is) less

-- a burst ends with the first step that traps
pub until-burst : (d : Desc) (most n : ℕ) (s : State) → n ≡ burst_length d most s → IsUntil d Trap most s n
until-burst d most n s is = record {
  within = (let all = burst_length-most d most s in omega (arith, is, all));
  first = λ k before. untrapped d most s k (omega (arith, is, before));
  holds = ended d most n s is;
}
