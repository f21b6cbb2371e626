use Rattle.pg_word.proofs.SparseLemmas.{pushed}
use Rattle.pg_word.proofs.sparse.CellList.push.Goals as goal

pub invariant_of-self-2 : goal.invariant_of-self-2
invariant_of-self-2 c = rw c.in_ok-push.ensures.items (pushed _ _ _ c.self.invariant (rw c.self.view_is c.requires.past_last) c.requires.not_zero)
