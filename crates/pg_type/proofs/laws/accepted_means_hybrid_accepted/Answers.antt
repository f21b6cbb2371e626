use Rattle.pg_type.proofs.KindLaws.{accepted-hybrid}
use Rattle.pg_type.proofs.laws.accepted_means_hybrid_accepted.Goals as goal

pub returns : goal.returns
returns c = accepted-hybrid c.args.desc.now c.requires
