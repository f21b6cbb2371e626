use Rattle.std.proofs.Common.{arith}
use Rattle.pg_out_place.proofs.Feeds.{line_found}
use Rattle.pg_out_place.proofs.places.place_of_line.Goals as goal

pub returns-then-left-eq0-clause-line : goal.returns-then-left-eq0-clause-line
returns-then-left-eq0-clause-line c =
    λ _. line_found c.loop-at.left c.args.line c.loop-at.at c.args.text.now (omega arith) c.if-byte-eq10.true c.loop-at.invariant.more c.if-left-eq0.true c.loop-at.invariant.so_far
