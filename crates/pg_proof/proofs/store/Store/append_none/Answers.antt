use Rattle.std.proofs.Common.{length}
use Rattle.pg_proof.proofs.SpanLemmas.{AreSpans-none}
use Rattle.pg_proof.proofs.store.Store.append_none.Goals as goal

pub invariant_of-self-2 : goal.invariant_of-self-2
invariant_of-self-2 c = rw c.in_ok-push.ensures.items (AreSpans-none (length c.self.inside.literals.items) c.self.inside.spans.items c.self.invariant)
