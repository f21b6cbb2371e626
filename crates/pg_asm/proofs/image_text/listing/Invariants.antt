use Rattle.std.proofs.Common.{◌≡◌, ◌++◌, drop}
use Rattle.pg_asm.specs.Texts.{asm_text}
use Rattle.pg_asm.proofs.image_text.listing.Given as goal

abbrev pub invariant-loop-at : goal.invariant-loop-at
invariant-loop-at l = l.text.items ++ asm_text l.machine.desc.word l.at (drop l.at l.image) ≡ asm_text l.machine.desc.word 0 l.image
