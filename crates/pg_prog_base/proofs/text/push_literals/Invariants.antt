use Rattle.std.proofs.Common.{◌≡◌, ◌++◌, drop}
use Rattle.pg_prog_base.specs.Dimacs.{literals_text}
use Rattle.pg_prog_base.proofs.text.push_literals.Given as goal

abbrev pub invariant-loop-literal : goal.invariant-loop-literal
invariant-loop-literal l = l.text.items ++ literals_text (drop l.literal-index l.literals) ≡ l.initial.text.items ++ literals_text l.literals
