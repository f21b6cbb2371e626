use Rattle.std.proofs.Common.{refl}
use Rattle.pg_prog_trace.proofs.until.part_of.Goals as goal

pub returns-clause-part : goal.returns-clause-part
returns-clause-part g c = record { ends = c.in_ok-steps.ensures.ends; same = refl }
