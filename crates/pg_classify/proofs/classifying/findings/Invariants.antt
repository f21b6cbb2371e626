use Rattle.std.proofs.Common.{◌≡◌, length}
use Rattle.pg_classify.specs.Classified.{AreFound}
use Rattle.pg_classify.proofs.classifying.findings.Given as goal

abbrev pub invariant-loop-number : goal.invariant-loop-number
invariant-loop-number g l = record {
  count : length l.findings ≡ l.number;
  found : AreFound l.machine.desc l.fn.family l.fn.budget l.findings;
}
