-- Bursts of machines that agree.
use Rattle.std.proofs.Common.{◌≡◌, ℕ, zero, suc, ◌+◌, ◌<◌, ◌^◌, Bool, not, ◌&&◌, if◌then◌else◌, refl, sym, ◌∙◌, ap, subst, arith}
use Rattle.std.proofs.Props.{props}
use Rattle.std.proofs.Math.Logic.{∥∥₁_elim, ∥∥₁_map}
use Rattle.pg_word.specs.declared.psw.Psw.{Psw}
use Rattle.pg_word.specs.Psw.{IsPsw}
use Rattle.pg_ast.specs.declared.tree.Desc.{Desc}
use Rattle.pg_lang_meaning.specs.States.{State, window}
use Rattle.pg_lang_meaning.specs.Steps.{step, steps, ends_in_trap}
use Rattle.pg_type.specs.Agreeing.{Agree}
use Rattle.pg_type.proofs.AgreeLemmas.{agree-ending, agree-step, agree-steps}
use Rattle.pg_hw.specs.declared.counts.Counts.{Counts}
use Rattle.pg_hw.specs.Tallies.{RisesWithin, after_steps}
use Rattle.pg_hw.specs.Bursts.{traps, is_user, one_if, untrapped_at, untrapped_among, supervisor_at, supervisor_among, burst_length, BottomRises}
use Rattle.pg_hw.specs.Machinery.{Machinery}
use Rattle.pg_hw.specs.Serving.{IsServed, IsServedWord, IsServedPsw}
use Rattle.pg_nest.specs.Bursting.{Burst}

-- ---- steps end alike, and are counted alike

pub traps-agree : (d e : Desc) → Agree d e → (s : State) → traps e s ≡ traps d s
unfolding traps
traps-agree d e agrees s = ap ends_in_trap (agree-ending d e agrees (window s) s.psw)

untrapped_at-agree : (d e : Desc) → Agree d e → (s : State) → untrapped_at e s ≡ untrapped_at d s
untrapped_at-agree d e agrees s = ap (λ b. one_if (is_user s.psw.mode && not b)) (traps-agree d e agrees s)

untrapped_among-agree : (d e : Desc) → Agree d e → (n : ℕ) (s : State) → untrapped_among e n s ≡ untrapped_among d n s
unfolding untrapped_among
untrapped_among-agree d e agrees zero s = refl
untrapped_among-agree d e agrees (suc n) s =
    ap (λ k. k + untrapped_at e (steps e n s)) (untrapped_among-agree d e agrees n s)
    ∙ ap (λ t. untrapped_among d n s + untrapped_at e t) (agree-steps d e agrees n s)
    ∙ ap (λ k. untrapped_among d n s + k) (untrapped_at-agree d e agrees (steps d n s))

supervisor_among-agree : (d e : Desc) → Agree d e → (n : ℕ) (s : State) → supervisor_among e n s ≡ supervisor_among d n s
unfolding supervisor_among
supervisor_among-agree d e agrees zero s = refl
supervisor_among-agree d e agrees (suc n) s =
    ap (λ k. k + supervisor_at (steps e n s)) (supervisor_among-agree d e agrees n s)
    ∙ ap (λ t. supervisor_among d n s + supervisor_at t) (agree-steps d e agrees n s)

burst_length-agree : (d e : Desc) → Agree d e → (k : ℕ) (s : State) → burst_length e k s ≡ burst_length d k s
unfolding burst_length
burst_length-agree d e agrees zero s = refl
burst_length-agree d e agrees (suc k) s =
    ap (λ b. if b then 1 else 1 + burst_length e k (step e s)) (traps-agree d e agrees s)
    ∙ ap (λ n. if traps d s then 1 else 1 + n) (ap (burst_length e k) (agree-step d e agrees s) ∙ burst_length-agree d e agrees k (step d s))

-- ---- a burst

burst-agree : (d e : Desc) (k n : ℕ) (old new : Machinery) → Agree d e → Burst d k n old new → Burst e k n old new
burst-agree d e k n old new agrees b =
    let same = untrapped_among-agree d e agrees n old.state in
    let control = supervisor_among-agree d e agrees n old.state in
    record {
      count = b.count ∙ sym (burst_length-agree d e agrees k old.state);
      ran = record {
        state = b.ran.state ∙ sym (agree-steps d e agrees n old.state);
        tally = b.ran.tally ∙ ap (after_steps old.tally n) (sym same);
        bottom = record {
          steps = b.ran.bottom.steps;
          untrapped = subst (λ x. RisesWithin x (x + supervisor_among e n old.state) old.bottom.untrapped new.bottom.untrapped) (sym same)
              (subst (λ x. RisesWithin (untrapped_among d n old.state) (untrapped_among d n old.state + x) old.bottom.untrapped new.bottom.untrapped) (sym control) b.ran.bottom.untrapped);
        };
      };
    }

Burst-prop : (d : Desc) (k n : ℕ) (old new : Machinery) → IsProp (Burst d k n old new)
Burst-prop d k n old new = hlevel props

pub burst-agreed : (d e : Desc) (k n : ℕ) (old new : Machinery) → ∥ Agree d e ∥₁ → Burst d k n old new → Burst e k n old new
burst-agreed d e k n old new agrees b = ∥∥₁_elim {P = Burst e k n old new} agrees (Burst-prop e k n old new) (λ a. burst-agree d e k n old new a b)

-- ---- machines that are the same, or agree

pub served-same : (serves : Desc → Type 0) (d e : Desc) → ∥ e ≡ d ∥₁ → IsServed serves d → IsServed serves e
served-same serves d e same served = ∥∥₁_elim {P = IsServed serves e} same (hlevel) (λ is. ∥∥₁_map served (λ x. subst serves (sym is) x))

pub agree-same : (c d e : Desc) → ∥ c ≡ d ∥₁ → ∥ Agree d e ∥₁ → ∥ Agree c e ∥₁
agree-same c d e same agrees = ∥∥₁_elim {P = ∥ Agree c e ∥₁} same (hlevel) (λ is. ∥∥₁_map agrees (λ a. subst (λ x. Agree x e) (sym is) a))

pub word-fits : (d : Desc) (word : ℕ) → IsServedWord (Agree d) word → word < 2 ^ d.word
word-fits d word w = ∥∥₁_elim {P = word < 2 ^ d.word} w.served (hlevel props) (λ agrees. subst (λ (x : Desc). word < 2 ^ x.word) agrees w.fits)

pub word-fits-same : (c d : Desc) (word : ℕ) → ∥ c ≡ d ∥₁ → IsServedWord (Agree d) word → word < 2 ^ c.word
word-fits-same c d word same w = ∥∥₁_elim {P = word < 2 ^ c.word} same (hlevel props) (λ is. subst (λ (x : Desc). word < 2 ^ x.word) (sym is) (word-fits d word w))

psw-fits : (d : Desc) (psw : Psw) → IsServedPsw (Agree d) psw → IsPsw d.address psw
psw-fits d psw w = ∥∥₁_elim {P = IsPsw d.address psw} w.served (hlevel props) (λ agrees. subst (λ (x : Desc). IsPsw x.address psw) agrees w.fits)

pub psw-fits-same : (c d : Desc) (psw : Psw) → ∥ c ≡ d ∥₁ → IsServedPsw (Agree d) psw → IsPsw c.address psw
psw-fits-same c d psw same w = ∥∥₁_elim {P = IsPsw c.address psw} same (hlevel props) (λ is. subst (λ (x : Desc). IsPsw x.address psw) (sym is) (psw-fits d psw w))
