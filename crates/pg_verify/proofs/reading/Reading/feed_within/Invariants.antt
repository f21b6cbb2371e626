use Rattle.std.proofs.Common.{length}
use Rattle.pg_verify.proofs.FeedLemmas.{IsFedSoFar}
use Rattle.pg_verify.proofs.reading.Reading.feed_within.Given as goal

abbrev pub decreases-loop-end : goal.decreases-loop-end
decreases-loop-end l = length l.left

abbrev pub invariant-loop-end : goal.invariant-loop-end
invariant-loop-end l = IsFedSoFar l.fn.self l.self l.fn.bytes l.left
