use Rattle.std.proofs.Common.{length}
use Rattle.pg_move.specs.Seen.{reader_of}
use Rattle.pg_move.proofs.ReadLemmas.{IsReadSoFar}
use Rattle.pg_move.proofs.reading.read_lines.Given as goal

abbrev pub invariant-loop-left : goal.invariant-loop-left
invariant-loop-left l = IsReadSoFar l.shape l.bytes l.left l.line (reader_of l.reader)

abbrev pub decreases-loop-left : goal.decreases-loop-left
decreases-loop-left l = length l.left
