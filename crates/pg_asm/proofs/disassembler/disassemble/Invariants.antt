use Rattle.std.proofs.Common.{◌≡◌, ◌++◌, drop}
use Rattle.pg_asm.specs.Texts.{source_text}
use Rattle.pg_asm.proofs.disassembler.disassemble.Given as goal

abbrev pub invariant-loop-at : goal.invariant-loop-at
invariant-loop-at l = l.text.items ++ source_text l.machine.desc l.at (drop l.at l.image) ≡ source_text l.machine.desc 0 l.image
