use Rattle.pg_out_guarded.proofs.BrokenLemmas.{counted-instr}
use Rattle.pg_out_guarded.proofs.broken.marks_at.Goals as goal

pub marks_of-requires : goal.marks_of-requires
marks_of-requires c = counted-instr c.args.report.now.family c.args.report.now.marks _ c.args.instr c.requires.whole c.requires.there
