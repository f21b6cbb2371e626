use Rattle.std.proofs.Common.{sym}
use Rattle.pg_watch.proofs.LookLemmas.{IsSeen-look_from}
use Rattle.pg_watch.proofs.look.look_at.Goals as goal

pub returns : goal.returns
returns c = IsSeen-look_from c.args.trail.now.literals c.args.clause.now _ c.requires.distinct (sym c.look_through.ensures)
