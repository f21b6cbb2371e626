use Rattle.pg_ast.proofs.DescReads.{instr_of-parts}
use Rattle.pg_read.proofs.instrs.made.Goals as goal

pub returns : goal.returns
returns c = let known = instr_of-parts c.new.result in cc
