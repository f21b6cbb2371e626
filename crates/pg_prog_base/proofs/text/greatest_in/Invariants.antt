use Rattle.std.proofs.Common.{◌≡◌, drop}
use Rattle.std.specs.Prelude.{max}
use Rattle.pg_prog_base.specs.Dimacs.{greatest_in}
use Rattle.pg_prog_base.proofs.text.greatest_in.Given as goal

abbrev pub invariant-loop-literal : goal.invariant-loop-literal
invariant-loop-literal l = max l.most (greatest_in (drop l.literal-index l.literals)) ≡ greatest_in l.literals
