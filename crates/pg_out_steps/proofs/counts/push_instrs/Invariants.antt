use Rattle.std.proofs.Common.{◌≡◌, ◌++◌}
use Rattle.pg_out_steps.specs.Lines.{instr_lines}
use Rattle.pg_out_steps.proofs.counts.push_instrs.Given as goal

abbrev pub invariant-loop-k : goal.invariant-loop-k
invariant-loop-k l = l.text.items ≡ l.initial.text.items ++ instr_lines l.m.desc l.counts l.k
