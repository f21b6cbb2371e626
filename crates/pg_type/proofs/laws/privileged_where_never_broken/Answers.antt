use Rattle.pg_type.proofs.KindLaws.{privileged-exactly}
use Rattle.pg_type.proofs.laws.privileged_where_never_broken.Goals as goal

pub returns : goal.returns
returns c = privileged-exactly c.args.desc.now c.args.instr.now
