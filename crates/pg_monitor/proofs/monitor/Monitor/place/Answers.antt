use Rattle.std.proofs.Common.{sym}
use Rattle.pg_mon_control.proofs.OwnLemmas.{owned-in}
use Rattle.pg_monitor.proofs.monitor.Monitor.place.Goals as goal

pub place-requires-clause-owned : goal.place-requires-clause-owned
place-requires-clause-owned c = owned-in c.args.self.now.accepted.machine.now.desc.size c.args.self.now.granted.q c.args.self.now.granted c.args.self.now.guests (sym c.args.self.now.owned.storage) c.args.self.now.owned

pub invariant_of-self : goal.invariant_of-self
invariant_of-self c = record {
  owned = owned-in c.args.self.now.granted.q c.args.self.now.accepted.machine.now.desc.size _ _ c.args.self.now.owned.storage c.place.ensures.owned;
}
