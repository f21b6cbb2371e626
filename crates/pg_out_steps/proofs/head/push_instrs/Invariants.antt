use Rattle.std.proofs.Common.{◌≡◌, ◌++◌}
use Rattle.pg_out_steps.specs.Dump.{instrs_text}
use Rattle.pg_out_steps.proofs.head.push_instrs.Given as goal

abbrev pub invariant-loop-k : goal.invariant-loop-k
invariant-loop-k l = l.text.items ≡ l.initial.text.items ++ instrs_text l.m.desc l.k
