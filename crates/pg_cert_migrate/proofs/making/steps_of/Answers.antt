use Rattle.std.proofs.Common.{◌++◌, ◌∷◌, [], ap, ◌∙◌}
use Rattle.pg_cert_migrate.proofs.MadeLemmas.{step_taken, removal_taken}
use Rattle.pg_cert_migrate.proofs.making.steps_of.Goals as goal

pub loop-act-preserved : goal.loop-act-preserved
loop-act-preserved c =
    step_taken c.loop-act.left c.pop.new.self c.in-Add.step c.loop-act.steps.items c.push.new.self.items c.args.log
    (c.in-Some.ensures ∙ ap (λ a. c.pop.new.self ++ a ∷ []) c.in-Add.is) c.in_ok-push-in-Add.ensures.items c.loop-act.invariant

pub loop-act-preserved-in-Remove : goal.loop-act-preserved-in-Remove
loop-act-preserved-in-Remove c =
    removal_taken c.loop-act.left c.pop.new.self c.in-Remove.field-0 c.loop-act.steps.items c.args.log
    (c.in-Some.ensures ∙ ap (λ a. c.pop.new.self ++ a ∷ []) c.in-Remove.is) c.loop-act.invariant
