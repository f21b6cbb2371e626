use Rattle.std.proofs.Common.{arith}
use Rattle.pg_alloc.proofs.GapLemmas.{gap-kept}
use Rattle.pg_alloc.proofs.grants.Grants.grant.Goals as goal

pub invariant_of-self : goal.invariant_of-self
invariant_of-self c =
    let gap = c.in-Some.ensures.gap in
    rw c.insert.ensures.items (gap-kept _ _ _ _ _ _ _ c.self.invariant (rw c.as_slice.ensures.value at gap) (omega (arith, gap.within)))

pub returns-clause-lie : goal.returns-clause-lie
returns-clause-lie c =
    let gap = c.in-Some.ensures.gap in
    rw c.insert.ensures.items (gap-kept _ _ _ _ _ _ _ c.self.invariant (rw c.as_slice.ensures.value at gap) (omega (arith, gap.within)))
