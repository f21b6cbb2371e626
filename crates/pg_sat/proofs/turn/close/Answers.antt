use Rattle.std.proofs.Common.{List, length, subst, sym}
use Rattle.pg_proof.specs.declared.step.Step.{Step}
use Rattle.pg_sat.specs.Answers.{IsRefuted}
use Rattle.pg_sat.proofs.TurnLemmas.{refuted_by}
use Rattle.pg_sat.proofs.turn.close.Goals as goal

pub returns : goal.returns
returns c =
    let question = c.args.cnf.now.clauses in
    let steps = c.args.steps.now.items in
    subst (λ (ss : List Step). IsRefuted question (length steps) ss) (sym c.in_ok-push.ensures.items)
    (refuted_by question c.args.cnf.now.variables c.args.watches.now steps c.in_ok-step.step c.requires.solving c.in_ok-step.ensures.learned
    c.in_ok-step.ensures.empty)
