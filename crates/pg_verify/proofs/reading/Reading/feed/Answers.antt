use Rattle.std.proofs.Common.{arith, ap, refl}
use Rattle.pg_verify.specs.Reader.{Progress}
use Rattle.pg_verify.proofs.FeedLemmas.{near_refused, far_refused}
use Rattle.pg_verify.proofs.reading.Reading.feed.Goals as goal

pub returns-in-Ok-clause-told : goal.returns-in-Ok-clause-told
returns-in-Ok-clause-told c =
    let told = c.in-Ok.ensures in
    λ _. far_refused c.args.self.now c.args.self.now c.feed_within-2.new.self c.args.bytes.now c.split_at.result.0.now _ refl c.split_at.ensures.front
    (omega arith) told.told (omega (arith, told.fed, c.split_at.ensures.front_len, c.self.invariant.1, ap (λ (p : Progress). p.fed) c.self.view_is))

pub returns-in-Err-clause-told : goal.returns-in-Err-clause-told
returns-in-Err-clause-told c =
    let told = c.in-Err.ensures in
    λ n. near_refused c.args.self.now c.args.self.now c.args.bytes.now c.split_at.result.0.now _ c.in-Err.fault refl c.split_at.ensures.front (told.told n)
