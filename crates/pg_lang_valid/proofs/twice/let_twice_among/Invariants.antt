use Rattle.std.proofs.Common.{◌≡◌, drop}
use Rattle.pg_lang_valid.specs.Twice.{let_twice_among}
use Rattle.pg_lang_valid.proofs.twice.let_twice_among.Given as goal

abbrev pub invariant-loop-instr : goal.invariant-loop-instr
invariant-loop-instr l = let_twice_among (drop l.instr-index l.instrs) ≡ let_twice_among l.instrs
