use Rattle.std.proofs.Common.{Err, arith, subst}
use Rattle.pg_verify.specs.Reader.{Reader}
use Rattle.pg_verify.specs.Taking.{then_take}
use Rattle.pg_verify.specs.Feeding.{fed, finished, IsAnswer}
use Rattle.pg_cert_migrate.proofs.FamilyLemmas.{answered_after, refused_before, whole_answered}
use Rattle.pg_cert_migrate.proofs.reporting.report.Goals as goal

pub returns-in-Ok : goal.returns-in-Ok
returns-in-Ok g c =
    whole_answered c.args.machine.now.desc c.args.family c.args.bytes.now c.finish.result (omega arith)
    (subst (λ (r : Reader). IsAnswer (then_take (then_take r (λ p. fed p c.args.bytes.now)) finished) c.finish.result) c.verifier_of-verifier.ensures
    (answered_after _ _ c.finish.result c.in-Ok.ensures.fed c.finish.ensures.due))

pub returns-in-Err : goal.returns-in-Err
returns-in-Err g c =
    whole_answered c.args.machine.now.desc c.args.family c.args.bytes.now (Err c.in-Err.fault) (omega arith)
    (subst (λ (r : Reader). IsAnswer (then_take (then_take r (λ p. fed p c.args.bytes.now)) finished) (Err c.in-Err.fault)) c.verifier_of-verifier.ensures
    (refused_before _ c.in-Err.fault c.in-Err.ensures.due))
