use Rattle.pg_report.proofs.Sums.{sum-next}
use Rattle.pg_report.proofs.summary.sum_of.Goals as goal

pub loop-i-preserved : goal.loop-i-preserved
loop-i-preserved g c = record {
  sum = sum-next c.args.w c.args.base c.loop-i.i (g.H.Hardware.machinery c.args.hw.now).state.cells c.peek-word.result c.loop-i.sum c.add-sum.result c.peek-word.ensures c.loop-i.invariant.sum c.add-sum.ensures.value;
  fits = c.add-sum.ensures.fits;
}
