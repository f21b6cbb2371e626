use Rattle.std.proofs.Common.{length}
use Rattle.pg_proof.proofs.cover.passes.Goals as goal

pub are_marked-requires : goal.are_marked-requires
are_marked-requires c = c.in-Some.ensures.within (length c.args.flags.now) c.requires
