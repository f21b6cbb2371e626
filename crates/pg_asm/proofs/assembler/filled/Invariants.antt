use Rattle.std.proofs.Common.{◌≡◌, ◌++◌, drop}
use Rattle.pg_asm.specs.Sources.{filled}
use Rattle.pg_asm.proofs.assembler.filled.Given as goal

abbrev pub invariant-loop-cell : goal.invariant-loop-cell
invariant-loop-cell l = l.words.items ++ filled (drop l.cell-index l.cells) ≡ filled l.cells
