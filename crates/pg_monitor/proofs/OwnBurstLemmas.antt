-- Turns that one burst of the hardware made, as a front of a burst of the guest's own machine.
use Rattle.std.proofs.Common.{◌≡◌, ℕ, zero, suc, ◌+◌, ◌-◌, ◌<◌, ◌≤◌, ◌⊎◌, inl, inr, Bool, true, false, refl, sym, ◌∙◌, ap, arith}
use Rattle.std.proofs.lemmas.Bool.{cases_lt}
use Rattle.pg_word.specs.declared.psw.Mode.TheVariants.{S, U}
use Rattle.pg_ast.specs.declared.tree.Desc.{Desc}
use Rattle.pg_lang_meaning.specs.States.{State}
use Rattle.pg_lang_meaning.specs.Steps.{step, steps}
use Rattle.pg_hw.specs.Bursts.{traps, one_if, untrapped_at, untrapped_among, burst_length}
use Rattle.pg_hw.proofs.BurstLaws.{burst_length-by, burst_length-trap, untrapped_at-trap}
use Rattle.pg_mon_control.proofs.RunLemmas.{untrapped_at-calm}
use Rattle.pg_monitor.specs.declared.turning.BurstTold.{BurstTold}
use Rattle.pg_monitor.specs.Bursts.{last_traps, TellsBurst}

-- steps of a burst none of which traps, and the burst of those that are left
calm-length : (d : Desc) (k n : ℕ) (s : State) → n ≤ k → ((j : ℕ) → j < n → traps d (steps d j s) ≡ false) → burst_length d k s ≡ n + burst_length d (k - n) (steps d n s)
unfolding steps
calm-length d k zero s within calm = let all : k - 0 ≡ k = omega arith in sym (ap (λ m. burst_length d m s) all) ∙ omega arith
calm-length d k (suc n) s within calm =
    let before = calm-length d k n s (omega arith) (λ j below. calm j (omega arith)) in
    let one = burst_length-by d (k - n) (steps d n s) false (calm n (omega arith)) (omega arith) in
    let left : k - n - 1 ≡ k - suc n = omega arith in
    let rest = ap (λ m. burst_length d m (step d (steps d n s))) left in
    omega (arith, before, one, rest)

calm-untrapped : (d : Desc) (n : ℕ) (s : State) → ((j : ℕ) → j < n → traps d (steps d j s) ≡ false) → ((j : ℕ) → j < n → (steps d j s).psw.mode ≡ U) → untrapped_among d n s ≡ n
unfolding untrapped_among
calm-untrapped d zero s calm user = refl
calm-untrapped d (suc n) s calm user =
    let before = calm-untrapped d n s (λ j below. calm j (omega arith)) (λ j below. user j (omega arith)) in
    let one = untrapped_at-calm d (steps d n s) (user n (omega arith)) (calm n (omega arith)) in
    omega (arith, before, one)

supervisor-untrapped : (d : Desc) (n : ℕ) (s : State) → ((j : ℕ) → j < n → (steps d j s).psw.mode ≡ S) → untrapped_among d n s ≡ 0
unfolding untrapped_among
supervisor-untrapped d zero s control = refl
supervisor-untrapped d (suc n) s control =
    let before = supervisor-untrapped d n s (λ j below. control j (omega arith)) in
    let one : untrapped_at d (steps d n s) ≡ 0 = uncounted (steps d n s) (control n (omega arith)) in
    omega (arith, before, one)
  where
    uncounted : (t : State) → t.psw.mode ≡ S → untrapped_at d t ≡ 0
    uncounted t is = cc

-- ---- what is told

-- all steps of a burst that did not end with a trap are calm
told-calm : (d : Desc) (n : ℕ) (s : State) → ((j : ℕ) → j + 1 < n → traps d (steps d j s) ≡ false) → last_traps d n s ≡ false → (j : ℕ) → j < n → traps d (steps d j s) ≡ false
told-calm d zero s before last j below = absurd (omega (arith, below))
told-calm d (suc m) s before last j below = by_place (cases_lt j m)
  where
    by_place : (j < m) ⊎ (m ≤ j) → traps d (steps d j s) ≡ false
    by_place (inl earlier) = before j (omega (arith, earlier))
    by_place (inr at) = let same : j ≡ m = omega (arith, at, below) in ap (λ i. traps d (steps d i s)) same ∙ last

pub told-goes_on : (d : Desc) (base k : ℕ) (s : State) (told : BurstTold) → TellsBurst d base k s told → told.trapped ≡ false →
    burst_length d k s ≡ told.turns + burst_length d (k - told.turns) (steps d told.turns s)
told-goes_on d base k s told tells calm =
    calm-length d k told.turns s tells.within (told-calm d told.turns s tells.goes_on (sym tells.trapped ∙ calm))

trapped-length : (d : Desc) (k n : ℕ) (s : State) → n ≤ k → ((j : ℕ) → j + 1 < n → traps d (steps d j s) ≡ false) → last_traps d n s ≡ true → burst_length d k s ≡ n
trapped-length d k zero s within before last = absurd (let wrong : ⊥ = cc in wrong)
trapped-length d k (suc m) s within before last =
    let front = calm-length d k m s (omega arith) (λ j below. before j (omega (arith, below))) in
    let end = burst_length-trap d (k - m) (steps d m s) last (omega arith) in
    omega (arith, front, end)

pub told-ends : (d : Desc) (base k : ℕ) (s : State) (told : BurstTold) → TellsBurst d base k s told → told.trapped ≡ true → burst_length d k s ≡ told.turns
told-ends d base k s told tells stops = trapped-length d k told.turns s tells.within tells.goes_on (sym tells.trapped ∙ stops)

user-counted : (d : Desc) (n : ℕ) (s : State) (b : Bool) → ((j : ℕ) → j + 1 < n → traps d (steps d j s) ≡ false) → ((j : ℕ) → j < n → (steps d j s).psw.mode ≡ U) → last_traps d n s ≡ b →
    untrapped_among d n s + one_if b ≡ n
unfolding untrapped_among
user-counted d zero s true before user last = absurd (let wrong : ⊥ = cc in wrong)
user-counted d zero s false before user last = refl
user-counted d (suc m) s true before user last =
    let front = calm-untrapped d m s (λ j below. before j (omega (arith, below))) (λ j below. user j (omega arith)) in
    let end = untrapped_at-trap d (steps d m s) last in
    omega (arith, front, end)
user-counted d (suc m) s false before user last =
    let front = calm-untrapped d m s (λ j below. before j (omega (arith, below))) (λ j below. user j (omega arith)) in
    let end = untrapped_at-calm d (steps d m s) (user m (omega arith)) last in
    omega (arith, front, end)

pub told-user : (d : Desc) (base k : ℕ) (s : State) (told : BurstTold) → TellsBurst d base k s told → s.psw.mode ≡ U → untrapped_among d told.turns s + one_if told.trapped ≡ told.turns
told-user d base k s told tells user = user-counted d told.turns s told.trapped tells.goes_on (λ j below. tells.mode j below ∙ user) (sym tells.trapped)

pub told-supervisor : (d : Desc) (base k : ℕ) (s : State) (told : BurstTold) → TellsBurst d base k s told → s.psw.mode ≡ S → untrapped_among d told.turns s ≡ 0
told-supervisor d base k s told tells control = supervisor-untrapped d told.turns s (λ j below. tells.mode j below ∙ control)
