use Rattle.pg_type.proofs.AlikeLemmas.{done_alike as one}
use Rattle.pg_type.proofs.AlikeSteps.{accepted_alike as each}
use Rattle.pg_type.proofs.alike.done_alike.Goals as goal

pub returns : goal.returns
returns c = record { one = one; each = each }
