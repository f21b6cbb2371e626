use Rattle.std.proofs.Common.{length, get_or, subst, ap, sym, ◌∙◌, refl}
use Rattle.std.proofs.lemmas.List.{get_or-replicate, length-replicate}
use Rattle.std.specs.Prelude.{ℕ, ◌<◌}
use Rattle.pg_out_steps.specs.Counting.{among}
use Rattle.pg_out_steps.proofs.tally.Tally.new.Goals as goal

pub returns-clause-shares : goal.returns-clause-shares
returns-clause-shares c = λ monitor s. c.new.ensures.shares monitor c.args.m.now.desc s

pub returns-clause-none : goal.returns-clause-none
unfolding among
returns-clause-none c = λ s.
    let zeros = c.in_ok-vec.ensures.items_if_clones_equal (λ y e. e) in
    record {
      steps = refl;
      size = ap length zeros ∙ length-replicate {A = ℕ} c.count.result 0 ∙ c.count.ensures;
      instrs = λ k within.
          let inside : k < c.count.result = subst (λ n. k < n) (sym c.count.ensures) within in
          ap (λ xs. get_or xs k 0) zeros ∙ get_or-replicate {A = ℕ} c.count.result k 0 0 inside;
      others = refl;
      memory = refl;
      trap = refl;
      no_pattern = refl;
    }
