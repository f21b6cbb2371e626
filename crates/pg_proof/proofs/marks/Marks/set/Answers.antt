use Rattle.std.proofs.Common.{◌∙◌, ap, set, true}
use Rattle.pg_proof.proofs.FlagLemmas.{IsStamped-set, flags_of-set}
use Rattle.pg_proof.proofs.marks.Marks.set.Goals as goal

pub invariant_of-self : goal.invariant_of-self
invariant_of-self c = IsStamped-set c.self.inside.stamp c.self.inside.stamps.items c.args.place c.self.invariant

pub returns : goal.returns
returns c =
    flags_of-set c.self.inside.stamp c.self.inside.stamps.items c.args.place ∙ ap (λ fs. set fs c.args.place true) c.self.view_is
