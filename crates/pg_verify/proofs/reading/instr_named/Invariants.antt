use Rattle.pg_lang_valid.specs.Twice.{instr_names}
use Rattle.pg_verify.proofs.NameLemmas.{AreOthers}
use Rattle.pg_verify.proofs.reading.instr_named.Given as goal

abbrev pub invariant-loop-instr : goal.invariant-loop-instr
invariant-loop-instr l = AreOthers (instr_names l.machine.desc.instrs) l.name l.instr
