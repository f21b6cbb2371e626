use Rattle.std.proofs.Common.{◌∙◌, ◌++◌, ◌∷◌, [], ℕ, List, Some, map, arith, ap, sym, subst}
use Rattle.pg_cnf.specs.Literals.{IsClause}
use Rattle.pg_watch.proofs.WatchedLemmas.{assigned-within}
use Rattle.pg_proof.specs.declared.step.Step.{Step}
use Rattle.pg_proof.specs.State.{variables_of}
use Rattle.pg_sat.proofs.ConflictLemmas.{within-more}
use Rattle.pg_sat_search.specs.Held.{renumbered}
use Rattle.pg_sat_search.proofs.HeldLemmas.{lits_within, lits_clause}
use Rattle.pg_sat_search.proofs.learn.log_step.Goals as goal

pub learn_at-requires-clause-there : goal.learn_at-requires-clause-there
learn_at-requires-clause-there c =
    let old = c.args.held.now.watches in
    assigned-within old.clauses old.trail c.args.last c.trail-trail.ensures.right c.requires.last.assigned

pub cut_place-requires-clause-within : goal.cut_place-requires-clause-within
cut_place-requires-clause-within c =
    let question = c.args.cnf.now.clauses in
    let old = c.args.held.now.watches in
    let kept = c.requires.forgetting in
    let known = c.in_ok-learned.ensures.learned (variables_of question) kept.greatest kept.held.places in
    let step = c.in_ok-learned.learned.step in
    within-more (variables_of question) c.args.cnf.now.variables step.lits kept.greatest
    (lits_within (variables_of question) (map Some old.clauses) step known.valid)

pub clause_of-requires : goal.clause_of-requires
clause_of-requires c =
    let question = c.args.cnf.now.clauses in
    let old = c.args.held.now.watches in
    let kept = c.requires.forgetting in
    let known = c.in_ok-learned.ensures.learned (variables_of question) kept.greatest kept.held.places in
    subst (IsClause 2147483647) (sym c.as_slice.ensures)
    (lits_clause (variables_of question) 2147483647 (map Some old.clauses) c.in_ok-learned.learned.step (omega (arith, kept.over.few, kept.greatest)) known.valid)

pub returns : goal.returns
returns c =
    let question = c.args.cnf.now.clauses in
    let kept = c.requires.forgetting in
    let known = c.in_ok-learned.ensures.learned (variables_of question) kept.greatest kept.held.places in
    let step = c.in_ok-learned.learned.step in
    record {
      step = step;
      valid = known.valid;
      logged = c.in_ok-push.ensures.items
          ∙ ap (λ (s : Step). c.args.steps.now.items ++ s ∷ [])
          (c.in_ok-step.ensures ∙ ap (λ (ns : List ℕ). renumbered ns step) c.as_slice-2.ensures.value);
      clause_is = c.in_ok-clause.ensures ∙ c.as_slice.ensures;
      cut = c.in_ok-jump.ensures;
    }
