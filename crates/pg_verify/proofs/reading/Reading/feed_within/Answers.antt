use Rattle.std.proofs.Common.{◌+◌, arith, ap, sym, subst, ◌∙◌}
use Rattle.pg_verify.specs.Feeding.{fed}
use Rattle.pg_verify.proofs.FeedLemmas.{front_ends, front_once, all_plain, IsFedSoFar, IsFedSoFar-next, fed_refused}
use Rattle.pg_verify.proofs.reading.Reading.feed_within.Goals as goal

pub take_piece-requires-clause-ends : goal.take_piece-requires-clause-ends
take_piece-requires-clause-ends c =
    front_ends c.loop-end.left.now c.split_at.result.0.now c.in-Some.end (sym c.place_of_lf.ensures ∙ c.in-Some.is) c.split_at.ensures.front

pub take_piece-requires-clause-once : goal.take_piece-requires-clause-once
take_piece-requires-clause-once c =
    front_once c.loop-end.left.now c.split_at.result.0.now c.in-Some.end (sym c.place_of_lf.ensures ∙ c.in-Some.is) c.split_at.ensures.front

pub keep_bytes-requires-clause-plain : goal.keep_bytes-requires-clause-plain
keep_bytes-requires-clause-plain c = all_plain c.loop-end.left.now (sym c.place_of_lf.ensures ∙ c.in_default.is)

pub returns-in-Err-clause-told : goal.returns-in-Err-clause-told
returns-in-Err-clause-told c =
    let told = c.in-Err.ensures in
    λ n. fed_refused c.args.self.now c.loop-end.self c.args.bytes.now c.loop-end.left.now (c.in-Some.end + 1) c.in-Err.fault
    (ap (fed c.loop-end.self) (sym c.split_at.ensures.front) ∙ told.told n) c.loop-end.invariant

pub loop-end-preserved : goal.loop-end-preserved
loop-end-preserved c =
    let told = c.in-Ok.ensures in
    let front = c.split_at.ensures.front in
    subst (IsFedSoFar c.args.self.now c.take_piece.new.self c.args.bytes.now) (sym c.split_at.ensures.back)
    (IsFedSoFar-next c.args.self.now c.loop-end.self c.take_piece.new.self c.args.bytes.now c.loop-end.left.now (c.in-Some.end + 1)
    (omega (arith, c.split_at.ensures.back_len)) (ap (fed c.loop-end.self) (sym front) ∙ told.told) (omega (arith, told.fed, c.split_at.ensures.front_len)) told.room c.loop-end.invariant)
