use Rattle.pg_read.proofs.Shallow.{body-shallow}
use Rattle.pg_read.proofs.instrs.instr.Goals as goal

pub made-requires : goal.made-requires
made-requires c = body-shallow c.pattern.new.self c.block.new.cursor c.in_ok-body.body c.in_ok-body.ensures
