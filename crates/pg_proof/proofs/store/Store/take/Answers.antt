use Rattle.std.proofs.Common.{◌-◌, ◌∙◌, None, length, ap, set}
use Rattle.pg_proof.proofs.SpanLemmas.{AreSpans-gone, held_in-gone}
use Rattle.pg_proof.proofs.store.Store.take.Goals as goal

pub invariant_of-self : goal.invariant_of-self
invariant_of-self c = AreSpans-gone (length c.self.inside.literals.items) c.self.inside.spans.items (c.args.number - 1) c.self.invariant

pub returns : goal.returns
returns c =
    held_in-gone c.self.inside.literals.items c.self.inside.spans.items (c.args.number - 1) ∙ ap (λ held. set held (c.args.number - 1) None) c.self.view_is
