use Rattle.std.proofs.Common.{◌≡◌, ◌++◌, drop}
use Rattle.pg_ast.proofs.tree.Desc.copied.Given as goal

abbrev pub invariant-loop-instr : goal.invariant-loop-instr
invariant-loop-instr l = l.instrs ++ drop l.instr-index l.self.instrs ≡ l.self.instrs
