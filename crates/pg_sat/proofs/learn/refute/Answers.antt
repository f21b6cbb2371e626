use Rattle.std.proofs.Common.{◌≡◌, [], reverse}
use Rattle.pg_proof.specs.declared.step.Step.{Step}
use Rattle.pg_sat.specs.Listed.{listed}
use Rattle.pg_sat.specs.Learned.{IsLearnedWithin}
use Rattle.pg_sat.proofs.LearnLemmas.{learned, empty_learned, if_both}
use Rattle.pg_sat.proofs.learn.refute.Goals as goal

pub returns-clause-learned : goal.returns-clause-learned
returns-clause-learned c =
    let trace = c.in_ok-trace.trace in
    if_both c.step_of.result (λ (step : Step). step.lits ≡ listed trace.flags 1 c.args.variables) (λ (step : Step). step.hints ≡ reverse trace.hints.items)
    (IsLearnedWithin c.args.variables c.args.watches.now.clauses []) c.step_of.ensures.lits c.step_of.ensures.hints
    (λ step e f. learned c.args.variables c.args.watches.now.clauses [] trace.flags trace.hints.items step c.in_ok-trace.ensures e f)

pub returns-clause-empty : goal.returns-clause-empty
returns-clause-empty c =
    let trace = c.in_ok-trace.trace in
    if_both c.step_of.result (λ (step : Step). step.lits ≡ listed trace.flags 1 c.args.variables) (λ (step : Step). step.hints ≡ reverse trace.hints.items)
    (λ (step : Step). step.lits ≡ []) c.step_of.ensures.lits c.step_of.ensures.hints
    (λ step e f. empty_learned c.args.variables c.args.watches.now.clauses step c.requires.over.right
    (learned c.args.variables c.args.watches.now.clauses [] trace.flags trace.hints.items step c.in_ok-trace.ensures e f))
