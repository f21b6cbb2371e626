use Rattle.std.proofs.Common.{◌≡◌, ◌-◌, true}
use Rattle.std.specs.Prelude.{replicate}
use Rattle.std.proofs.Math.Seq.{sets}
use Rattle.pg_image.proofs.placing.mark.Given as goal

abbrev pub invariant-loop-k : goal.invariant-loop-k
invariant-loop-k l = sets l.given l.k (replicate (l.k-end - l.k) true) ≡ sets l.initial.given l.fn.first (replicate l.fn.count true)
