use Rattle.std.proofs.Common.{◌≡◌, ◌++◌, length, reverse}
use Rattle.pg_cert_migrate.specs.Made.{steps_of}
use Rattle.pg_cert_migrate.proofs.making.steps_of.Given as goal

abbrev pub invariant-loop-act : goal.invariant-loop-act
invariant-loop-act l = steps_of l.left ++ reverse l.steps.items ≡ steps_of l.fn.log

abbrev pub decreases-loop-act : goal.decreases-loop-act
decreases-loop-act l = length l.left
