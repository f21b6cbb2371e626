use Rattle.std.proofs.Common.{SFits, w32}
use Rattle.std.proofs.lemmas.Int.{to_z-of_z}
use Rattle.pg_watch.proofs.TrailLemmas.{assign_or_not}
use Rattle.pg_watch.proofs.watches.Watches.decide.Goals as goal

pub invariant_of-self : goal.invariant_of-self
invariant_of-self c =
    let fits : SFits w32 c.args.lit = c.ranges.lit in
    let ok = simp to_z-of_z at c.push.ensures.ok in
    assign_or_not c.push.result _ _ _ _ _ _ _ _ c.args.lit c.args.self.now c.self.invariant c.self.view_is c.requires.quiet c.requires.literal c.requires.unset
    ok c.push.ensures.err
