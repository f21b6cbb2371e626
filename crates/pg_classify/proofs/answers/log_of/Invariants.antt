use Rattle.std.proofs.Common.{◌≡◌, ◌++◌, length, map, reverse}
use Rattle.pg_proof.specs.declared.step.Act.TheVariants.{Add}
use Rattle.pg_classify.proofs.answers.log_of.Given as goal

abbrev pub invariant-loop-step : goal.invariant-loop-step
invariant-loop-step l = map Add l.left ++ reverse l.made.items ≡ map Add l.fn.steps

abbrev pub decreases-loop-step : goal.decreases-loop-step
decreases-loop-step l = length l.left
