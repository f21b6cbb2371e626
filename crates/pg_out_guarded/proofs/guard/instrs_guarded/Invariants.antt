use Rattle.std.proofs.Common.{◌≡◌, ◌++◌, List, length, drop}
use Rattle.pg_ast.specs.declared.tree.Instr.{Instr}
use Rattle.pg_out_guarded.specs.Guards.{AreGuarded}
use Rattle.pg_out_guarded.proofs.guard.instrs_guarded.Given as goal

abbrev pub invariant-loop-is_marked : goal.invariant-loop-is_marked
invariant-loop-is_marked l = record {
  same_length : length (drop l.is_marked-index l.marks) ≡ length l.left;
  whole : (rest : List Instr) → AreGuarded (drop l.is_marked-index l.marks) l.left rest → AreGuarded l.marks l.fn.instrs (l.all ++ rest);
}
