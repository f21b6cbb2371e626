-- Bursts of the hardware below, as the fronts of a burst of the guest's own machine.
use Rattle.std.proofs.Common.{◌≡◌, ℕ, zero, suc, ◌+◌, ◌-◌, ◌<◌, ◌≤◌, Bool, true, false, refl, sym, ◌∙◌, ap, subst, arith}
use Rattle.pg_word.specs.declared.psw.Mode.{Mode}
use Rattle.pg_word.specs.declared.psw.Mode.TheVariants.{S, U}
use Rattle.pg_ast.specs.declared.tree.Desc.{Desc}
use Rattle.pg_lang_meaning.specs.States.{State}
use Rattle.pg_lang_meaning.specs.Steps.{steps}
use Rattle.pg_lang_meaning.proofs.StepLaws.{steps-add}
use Rattle.pg_hw.specs.Bursts.{one_if, untrapped_among, burst_length}
use Rattle.pg_hw.specs.Running.{InBurst}
use Rattle.pg_hw.proofs.BurstLaws.{untrapped_among-add}
use Rattle.pg_monitor.specs.declared.turning.BurstTold.{BurstTold}
use Rattle.pg_monitor.specs.Bursts.{TellsBurst}
use Rattle.pg_monitor.proofs.OwnBurstLemmas.{told-goes_on, told-ends, told-user, told-supervisor}
use Rattle.pg_nest.specs.declared.bursting.Segment.{Segment}
use Rattle.pg_nest.specs.Bursting.{untrapped_told, IsSegment}

counted : (d : Desc) (base most : ℕ) (s : State) (told : BurstTold) (m : Mode) → TellsBurst d base most s told → s.psw.mode ≡ m → untrapped_told m told ≡ untrapped_among d told.turns s
counted d base most s told U tells is = omega (arith, told-user d base most s told tells is)
counted d base most s told S tells is = sym (told-supervisor d base most s told tells is)

-- what is told of a burst below is a front
pub segment-told : (d : Desc) (base most : ℕ) (s : State) (told : BurstTold) (m : Mode) (x : Segment) → TellsBurst d base most s told → 1 ≤ most → m ≡ s.psw.mode →
    x.done ≡ told.turns → x.untrapped ≡ untrapped_told m told → x.ends ≡ told.trapped → IsSegment d most s x
segment-told d base most s told m x tells some mode done untrapped ends =
    let turns = tells.some some in
    record {
      some = omega (arith, turns, done);
      within = omega (arith, tells.within, done);
      untrapped = untrapped ∙ counted d base most s told m tells (sym mode) ∙ ap (λ n. untrapped_among d n s) (sym done);
      goes_on = λ calm. subst (λ n. burst_length d most s ≡ n + burst_length d (most - n) (steps d n s)) (sym done) (told-goes_on d base most s told tells (sym ends ∙ calm));
      ends = λ stops. told-ends d base most s told tells (sym ends ∙ stops) ∙ sym done;
    }

-- ---- one segment more

module _ (d : Desc) (k n u : ℕ) (old mid new : State) (x : Segment) (run : InBurst d k n u old mid) (more : IsSegment d (k - n) mid x) (below : n < k) where
  pub next-within : n + x.done ≤ k
  next-within = omega (arith, more.within, below)

  pub next-state : new ≡ steps d x.done mid → new ≡ steps d (n + x.done) old
  next-state moved = moved ∙ ap (steps d x.done) run.state ∙ steps-add d n x.done old

  pub next-counted : u + x.untrapped ≡ untrapped_among d (n + x.done) old
  next-counted =
      ap (λ v. v + x.untrapped) run.counted
      ∙ ap (λ v. untrapped_among d n old + v) (more.untrapped ∙ ap (untrapped_among d x.done) run.state)
      ∙ sym (untrapped_among-add d n x.done old)

  -- the burst goes on
  pub next-goes_on : new ≡ steps d x.done mid → x.ends ≡ false → InBurst d k (n + x.done) (u + x.untrapped) old new
  next-goes_on moved calm =
      let left : k - n - x.done ≡ k - (n + x.done) = omega arith in
      record {
        state = next-state moved;
        counted = next-counted;
        length = run.length ∙ ap (λ v. n + v) (more.goes_on calm)
            ∙ ap (λ v. n + (x.done + burst_length d v (steps d x.done mid))) left
            ∙ ap (λ s. n + (x.done + burst_length d (k - (n + x.done)) s)) (sym moved)
            ∙ omega arith;
      }

  -- or ends
  pub next-ends : x.ends ≡ true → n + x.done ≡ burst_length d k old
  next-ends stops = sym (run.length ∙ ap (λ v. n + v) (more.ends stops))
