use Rattle.std.proofs.Common.{◌≡◌, length}
use Rattle.pg_report.specs.Spans.{span}
use Rattle.pg_run_still.proofs.viewing.words_at.Given as goal

-- the words before this one were read
abbrev pub invariant-loop-i : goal.invariant-loop-i
invariant-loop-i g l = record {
  read : l.words.items ≡ span l.base l.i (g.H.Hardware.machinery l.hw).state.cells;
  len : length l.words.items ≡ l.i;
}
