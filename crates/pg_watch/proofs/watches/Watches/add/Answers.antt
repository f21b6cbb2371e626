use Rattle.std.proofs.Common.{ap, ◌∙◌, ◌++◌, ◌∷◌, []}
use Rattle.pg_watch.proofs.TrailLemmas.{one_more_alone}
use Rattle.pg_watch.proofs.watches.Watches.add.Goals as goal

pub invariant_of-self-in-Ok : goal.invariant_of-self-in-Ok
invariant_of-self-in-Ok c =
    one_more_alone c.self.inside.clauses _ c.self.inside.trail c.self.inside.quiet c.self.inside.fresh.items _ c.self.inside.index.lists
    c.self.inside.index.pairs.items _ _ c.args.clause.now _ c.args.self.now c.self.invariant c.self.view_is c.requires.clause c.requires.room
    (c.in-Ok.ensures.ok ∙ ap (λ xs. c.self.inside.clauses ++ xs ∷ []) c.lits.ensures.literals) c.in_ok-register.ensures.fresh c.len-place.ensures
    c.in_ok-register.ensures.pairs
