use Rattle.pg_watch.proofs.TrailLemmas.{after_undo, is_assigned}
use Rattle.pg_watch.proofs.watches.Watches.undo.Goals as goal

pub invariant_of-self : goal.invariant_of-self
invariant_of-self c =
    let assigned = is_assigned _ _ _ c.args.self.now c.args.len c.self.invariant.index.trail c.self.view_is c.requires.within c.requires.assigned in
    after_undo c.self.inside.clauses c.self.inside.trail _ _ _ _ _ _ c.args.len c.self.invariant assigned c.cut.ensures
