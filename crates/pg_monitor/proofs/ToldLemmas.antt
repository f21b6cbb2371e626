-- What is told of turns that one burst of the hardware makes.
use Rattle.std.proofs.Common.{◌≡◌, ℕ, zero, suc, ◌+◌, ◌<◌, Bool, true, false, not, if◌then◌else◌, List, Some, slice_get, refl, sym, ◌∙◌, ap, subst, arith}
use Rattle.std.proofs.lemmas.Option.{same_Some}
use Rattle.pg_word.specs.declared.psw.Psw.{Psw}
use Rattle.pg_word.specs.declared.psw.Mode.TheVariants.{U}
use Rattle.pg_ast.specs.declared.tree.Desc.{Desc}
use Rattle.pg_lang_meaning.specs.States.{State}
use Rattle.pg_lang_meaning.specs.Steps.{step, steps}
use Rattle.pg_lang_valid.specs.Valid.{IsValid}
use Rattle.pg_hw.specs.Bursts.{traps, burst_length}
use Rattle.pg_hw.proofs.BurstLaws.{burst_length-goes_on, burst_length-most, burst_length-some}
use Rattle.pg_mon_control.specs.declared.guest.Guest.{Guest}
use Rattle.pg_mon_control.specs.Current.{Runs, with_psw}
use Rattle.pg_mon_control.specs.Direct.{is_direct}
use Rattle.pg_mon_control.specs.Guests.{virtual}
use Rattle.pg_mon_control.proofs.BurstLemmas.{Stopped, Halted, Runs-calm}
use Rattle.pg_mon_control.proofs.DirectLemmas.{IsAlikeIn, Runs-direct, DirectStep-of}
use Rattle.pg_mon_control.proofs.RunLemmas.{Directly, Directly-none, Directly-next, Directly-all}
use Rattle.pg_monitor.specs.declared.turning.BurstTold.{BurstTold}
use Rattle.pg_monitor.specs.Bursts.{burst_turns, last_traps, TellsBurst}

-- ---- one step after so many direct ones

mode-at : (d : Desc) (n : ℕ) (real : State) (g : Guest) → Directly d n real g → (steps d n (virtual real.cells g)).psw.mode ≡ g.psw.mode
mode-at d n real g run = ap (λ (x : Psw). x.mode) run.kept

-- what does not trap on the hardware does not trap in the guest
calm-at : (d : Desc) (n : ℕ) (real : State) (g : Guest) → IsAlikeIn d g.psw.mode → IsValid d → Directly d n real g → traps d (steps d n real) ≡ false →
    traps d (steps d n (virtual real.cells g)) ≡ false
calm-at d n real g alike valid run calm =
    let h = with_psw g (steps d n (virtual real.cells g)).psw in
    ap (traps d) (sym run.state) ∙ (DirectStep-of d (steps d n real) h (alike.goes (steps d n real) h (mode-at d n real g run) run.runs) valid run.runs calm).calm

-- ---- the steps of a burst

-- the burst for the guest is as long as the hardware's
pub burst-same : (d : Desc) (k : ℕ) (real : State) (g : Guest) → IsAlikeIn d g.psw.mode → IsValid d → Runs d real g →
    burst_length d k real ≡ burst_turns d g.base k (virtual real.cells g)
unfolding burst_length burst_turns steps
burst-same d zero real g alike valid r = refl
burst-same d (suc k) real g alike valid r =
    by_test (traps d real) refl (λ calm. burst-same d k (step d real) (with_psw g (step d (virtual real.cells g)).psw) (alike-then calm) valid (one calm).runs ∙ ap (burst_turns d g.base k) (one calm).state)
  where
    v : State
    v = virtual real.cells g

    one : traps d real ≡ false → Directly d 1 real g
    one calm = Directly-next d 0 real g alike valid (Directly-none d real g r) calm

    alike-then : traps d real ≡ false → IsAlikeIn d (step d v).psw.mode
    alike-then calm = subst (IsAlikeIn d) (sym (mode-at d 1 real g (one calm))) alike

    by_test : (b : Bool) → traps d real ≡ b → (traps d real ≡ false → burst_length d k (step d real) ≡ burst_turns d g.base k (step d v)) →
        (if traps d real then 1 else 1 + burst_length d k (step d real)) ≡ (if is_direct d g.base v then 1 + burst_turns d g.base k (step d v) else 1)
    by_test true e later =
        ap (λ b. if b then 1 else 1 + burst_length d k (step d real)) e
        ∙ sym (ap (λ b. if b then 1 + burst_turns d g.base k (step d v) else 1) (Runs-direct d real g r ∙ ap not e))
    by_test false e later =
        ap (λ b. if b then 1 else 1 + burst_length d k (step d real)) e
        ∙ ap (λ n. 1 + n) (later e)
        ∙ sym (ap (λ b. if b then 1 + burst_turns d g.base k (step d v) else 1) (Runs-direct d real g r ∙ ap not e))

-- so many steps of a burst but the last are direct
pub direct-before : (d : Desc) (k n j : ℕ) (real : State) (g : Guest) → IsAlikeIn d g.psw.mode → IsValid d → Runs d real g → n ≡ burst_length d k real → j < n → Directly d j real g
direct-before d k n j real g alike valid r done below =
    Directly-all d j real g alike valid r (λ i before. burst_length-goes_on d k i real (omega (arith, done, below, before)))

pub TellsBurst-of : (d : Desc) (k n : ℕ) (real : State) (g : Guest) (b : Bool) → IsAlikeIn d g.psw.mode → IsValid d → Runs d real g → 0 < k → n ≡ burst_length d k real →
    b ≡ last_traps d n (virtual real.cells g) → TellsBurst d g.base k (virtual real.cells g) (record { turns = n; trapped = b })
TellsBurst-of d k n real g b alike valid r some done told = record {
  turns = done ∙ burst-same d k real g alike valid r;
  some = λ asked. omega (arith, burst_length-some d k real some, done);
  within = omega (arith, burst_length-most d k real, done);
  goes_on = λ j below. calm-at d j real g alike valid (direct-before d k n j real g alike valid r done (omega (arith, below))) (burst_length-goes_on d k j real (omega (arith, done, below)));
  trapped = told;
  mode = λ j below. mode-at d j real g (direct-before d k n j real g alike valid r done below);
}

-- ---- the last step

-- after a burst that left the hardware in user mode
pub calm-last : (d : Desc) (k n : ℕ) (real : State) (g : Guest) → IsAlikeIn d g.psw.mode → IsValid d → Runs d real g → 0 < k → n ≡ burst_length d k real →
    (steps d n real).psw.mode ≡ U → false ≡ last_traps d n (virtual real.cells g)
unfolding steps
calm-last d k zero real g alike valid r some done user = refl
calm-last d k (suc m) real g alike valid r some done user =
    let before = direct-before d k (suc m) m real g alike valid r done (omega arith) in
    sym (calm-at d m real g alike valid before (Runs-calm d (steps d m real) (with_psw g (steps d m (virtual real.cells g)).psw) valid before.runs user))

-- after one whose last step trapped and was interpreted
pub stopped-last : (d : Desc) (n : ℕ) (real mid : State) (g h : Guest) (b : Bool) (stopped : Stopped d n real g) → Halted d stopped.before real mid g h →
    b ≡ traps d (virtual mid.cells h) → b ≡ last_traps d n (virtual real.cells g)
stopped-last d n real mid g h b stopped halted told =
    told ∙ ap (traps d) halted.state ∙ ap (λ k. last_traps d k (virtual real.cells g)) (sym stopped.done)

-- ---- a guest in a list

-- no turns
pub TellsBurst-none : (d : Desc) (base most : ℕ) (s : State) → most ≡ 0 → TellsBurst d base most s (record { turns = 0; trapped = false })
unfolding burst_turns
TellsBurst-none d base most s none = record {
  turns = sym (ap (λ k. burst_turns d base k s) none);
  some = λ asked. absurd (omega (arith, asked, none));
  within = omega arith;
  goes_on = λ j below. absurd (omega (arith, below));
  trapped = refl;
  mode = λ j below. absurd (omega (arith, below));
}

-- the guest that was selected is the one of the number
pub TellsBurst-guest : (d e : Desc) (most : ℕ) (cells mid : List ℕ) (gs : List Guest) (k : ℕ) (g h : Guest) (told : BurstTold) → e ≡ d → mid ≡ cells → slice_get gs k ≡ Some g → slice_get gs k ≡ Some h →
    TellsBurst e g.base most (virtual mid g) told → TellsBurst d h.base most (virtual cells h) told
TellsBurst-guest d e most cells mid gs k g h told machine same is is' tells =
    subst (λ (x : Guest). TellsBurst d x.base most (virtual cells x) told) (same_Some g h (sym is ∙ is'))
    (subst (λ xs. TellsBurst d g.base most (virtual xs g) told) same
    (subst (λ x. TellsBurst x g.base most (virtual mid g) told) machine tells))
