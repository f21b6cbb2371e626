use Rattle.std.proofs.Common.{Bool, List, set, subst, sym}
use Rattle.pg_sat.specs.Blocks.{AreCovered}
use Rattle.pg_sat.proofs.BlockLemmas.{covered_put}
use Rattle.pg_sat.proofs.flags.Flags.put.Goals as goal

pub invariant_of-self : goal.invariant_of-self
invariant_of-self c =
    subst (λ (bs : List Bool). AreCovered (set c.self.inside.flags.items c.args.at c.args.up) bs) (sym c.raise.ensures)
    (covered_put c.self.inside.flags.items c.self.inside.blocks.items c.args.at c.args.up c.self.invariant)
