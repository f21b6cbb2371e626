use Rattle.std.proofs.Common.{arith, subst}
use Rattle.pg_cert.specs.declared.cert.Family.TheVariants.{Plain}
use Rattle.pg_verify.specs.Reader.{Reader}
use Rattle.pg_verify.specs.Taking.{then_take}
use Rattle.pg_verify.specs.Feeding.{fed, finished, verified_whole, IsAnswer}
use Rattle.pg_verify.proofs.FeedLemmas.{whole_answered}
use Rattle.pg_verify.proofs.MissingLemmas.{missing_answers_are_asked}
use Rattle.pg_verify.proofs.verifier.verify.Goals as goal

pub returns-clause-answer : goal.returns-clause-answer
returns-clause-answer c =
    whole_answered c.args.machine.now.desc Plain c.args.bytes.now c.finish_with.result (omega arith)
    (subst (λ (r : Reader). IsAnswer (then_take (then_take r (λ p. fed p c.args.bytes.now)) finished) c.finish_with.result) c.new.ensures c.finish_with.ensures)

pub returns-clause-asked : goal.returns-clause-asked
returns-clause-asked c =
    let answer : IsAnswer (verified_whole c.args.machine.now.desc Plain c.args.bytes.now) c.finish_with.result =
    whole_answered c.args.machine.now.desc Plain c.args.bytes.now c.finish_with.result (omega arith)
    (subst (λ (r : Reader). IsAnswer (then_take (then_take r (λ p. fed p c.args.bytes.now)) finished) c.finish_with.result) c.new.ensures c.finish_with.ensures) in
    missing_answers_are_asked c.args.machine.now.desc Plain c.args.bytes.now c.finish_with.result answer
