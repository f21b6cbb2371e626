use Rattle.std.proofs.Common.{ℕ, List, length, subst, sym, ◌∙◌, ap, ◌++◌, ◌∷◌, []}
use Rattle.pg_proof.specs.declared.step.Step.{Step}
use Rattle.pg_sat.specs.Answers.{IsRefuted}
use Rattle.pg_sat_search.specs.Held.{renumbered}
use Rattle.pg_sat_search.proofs.TurnLemmas.{refuted_by}
use Rattle.pg_sat_search.proofs.turn.close.Goals as goal

pub returns : goal.returns
returns c =
    let question = c.args.cnf.now.clauses in
    let steps = c.args.steps.now.items in
    let held = c.args.held.now in
    subst (λ (ss : List Step). IsRefuted question (length steps) ss)
    (sym (c.in_ok-push.ensures.items ∙ ap (λ (s : Step). steps ++ s ∷ []) (c.in_ok-step.ensures ∙ ap (λ (ns : List ℕ). renumbered ns c.in_ok-found.found) c.as_slice.ensures.value)))
    (refuted_by question c.args.cnf.now.variables held.watches held.numbers.items steps c.in_ok-found.found c.requires.forgetting c.in_ok-found.ensures.learned
    c.in_ok-found.ensures.empty)
