use Rattle.pg_proof.proofs.FlagLemmas.{IsStamped-push}
use Rattle.pg_proof.proofs.marks.Marks.grow.Goals as goal

pub invariant_of-self-2 : goal.invariant_of-self-2
invariant_of-self-2 c = rw c.in_ok-push.ensures.items (IsStamped-push c.self.inside.stamp c.self.inside.stamps.items c.self.invariant)
