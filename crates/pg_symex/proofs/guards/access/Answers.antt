use Rattle.std.proofs.Common.{◌^◌}
use Rattle.pg_vec.proofs.Kept.{adds_then, there_later}
use Rattle.pg_symex.specs.EntryView.{entry_as}
use Rattle.pg_symex.proofs.Steps.{access_step}
use Rattle.pg_symex.proofs.guards.access.Goals as goal

pub returns-clause-made : goal.returns-clause-made
returns-clause-made c =
    access_step c.guard.result (entry_as c.args.at.now) _ _ _ c.args.guards.now _ c.in_ok-usable.usable c.args.address.now c.bit_0.result c.in_ok-usable.ensures.made c.bit_0.ensures c.guard.ensures.made

pub guard-requires-clause-live : goal.guard-requires-clause-live
guard-requires-clause-live c = there_later _ _ c.args.guards.now.live c.lt.ensures.kept.front c.requires.live

pub guard-requires-clause-mem_trap : goal.guard-requires-clause-mem_trap
guard-requires-clause-mem_trap c = there_later _ _ c.args.guards.now.mem_trap c.lt.ensures.kept.front c.requires.mem_trap

pub returns-clause-kept : goal.returns-clause-kept
returns-clause-kept c = adds_then _ _ _ (2 ^ 15) 3 c.lt.ensures.kept c.guard.ensures.kept
