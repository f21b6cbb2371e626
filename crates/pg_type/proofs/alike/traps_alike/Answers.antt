use Rattle.pg_type.proofs.AlikeSteps.{traps_alike as both_trap}
use Rattle.pg_type.proofs.alike.traps_alike.Goals as goal

pub returns : goal.returns
returns c = both_trap
