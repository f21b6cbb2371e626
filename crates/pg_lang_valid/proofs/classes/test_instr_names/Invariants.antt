use Rattle.std.proofs.Common.{◌≡◌, [], drop}
use Rattle.pg_lang_valid.specs.Twice.{first_twice, instr_names}
use Rattle.pg_lang_valid.proofs.classes.test_instr_names.Given as goal

abbrev pub invariant-loop-instr : goal.invariant-loop-instr
invariant-loop-instr l = record {
  once : first_twice l.table (instr_names (drop l.instr-index l.instrs)) ≡ first_twice [] (instr_names l.instrs);
}
