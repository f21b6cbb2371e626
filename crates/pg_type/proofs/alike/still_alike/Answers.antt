use Rattle.pg_type.proofs.AlikeSteps.{still_alike as still}
use Rattle.pg_type.proofs.alike.still_alike.Goals as goal

pub returns : goal.returns
returns c = still
