use Rattle.pg_vec.proofs.Kept.{adds_then, front_then, there_later}
use Rattle.pg_symex.proofs.guards.guard.Goals as goal

pub or-requires-clause-left : goal.or-requires-clause-left
or-requires-clause-left c = there_later _ _ c.args.guards.now.mem_trap c.and.ensures.kept.front c.requires.mem_trap

pub and-requires-2-clause-left : goal.and-requires-2-clause-left
and-requires-2-clause-left c = there_later _ _ c.args.guards.now.live (front_then _ _ _ c.and.ensures.kept.front c.or.ensures.kept.front) c.requires.live

pub and-requires-2-clause-right : goal.and-requires-2-clause-right
and-requires-2-clause-right c = there_later _ _ c.args.usable (front_then _ _ _ c.and.ensures.kept.front c.or.ensures.kept.front) c.requires.usable

pub returns-in_err-live-clause-kept : goal.returns-in_err-live-clause-kept
returns-in_err-live-clause-kept c = adds_then _ _ _ 2 1 (adds_then _ _ _ 1 1 c.and.ensures.kept c.or.ensures.kept) c.and-2.ensures.kept

pub returns-clause-kept : goal.returns-clause-kept
returns-clause-kept c = adds_then _ _ _ 2 1 (adds_then _ _ _ 1 1 c.and.ensures.kept c.or.ensures.kept) c.and-2.ensures.kept
