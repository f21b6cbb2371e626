use Rattle.pg_type.proofs.AlikeSteps.{traps_anywhere as anywhere}
use Rattle.pg_type.proofs.alike.traps_anywhere.Goals as goal

pub returns : goal.returns
returns c = anywhere
