use Rattle.pg_mon_control.proofs.OwnLemmas.{owned-made}
use Rattle.pg_monitor.proofs.monitor.Monitor.hold.Goals as goal

pub invariant_of-self : goal.invariant_of-self
invariant_of-self c = record {
  owned = owned-made _ c.args.size _ _ _ c.hold.result c.hold.ensures.granted c.hold.ensures.refused c.hold.ensures.lie c.args.self.now.owned;
}
