use Rattle.pg_watch.proofs.watches.Watches.release.Goals as goal

pub invariant_of-self : goal.invariant_of-self
invariant_of-self c = c.release_each.ensures c.self.inside.quiet c.self.inside.head c.self.invariant
