use Rattle.std.proofs.Common.{◌∙◌, sym}
use Rattle.pg_alloc.proofs.GrantLemmas.{placed-there, placed-nowhere, but_grant-place, same-storage}
use Rattle.pg_alloc.proofs.grants.Grants.release.Goals as goal

pub returns-in-Some-clause-live : goal.returns-in-Some-clause-live
returns-in-Some-clause-live c =
    rw (← c.self.view_is, ← c.as_slice.ensures.value) ((placed-there c.args.base c.as_slice.result.now c.in-Some.place (sym c.in-Some.ensures.place)).2)

pub returns-in-Some-clause-released : goal.returns-in-Some-clause-released
returns-in-Some-clause-released c =
    let found = placed-there c.args.base c.as_slice.result.now c.in-Some.place (sym c.in-Some.ensures.place) in
    let there = rw c.as_slice.ensures.value at found in
    rw (← c.self.view_is)
    (same-storage c.self.inside.q _ _ (c.remove.ensures.items ∙ but_grant-place c.self.inside.q c.args.base c.self.inside.items.items c.in-Some.place c.self.invariant there.0 there.1))

pub returns-in-None-clause-not_granted : goal.returns-in-None-clause-not_granted
returns-in-None-clause-not_granted c =
    rw (← c.self.view_is, ← c.as_slice.ensures.value) (placed-nowhere c.args.base c.as_slice.result.now (sym c.place_of.ensures.place ∙ c.in-None.is))
