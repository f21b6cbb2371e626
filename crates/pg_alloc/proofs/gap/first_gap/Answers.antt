use Rattle.std.proofs.Common.{refl, sym, ◌∙◌, arith}
use Rattle.std.proofs.lemmas.Bool.{leb-true, leb-false}
use Rattle.pg_alloc.proofs.GapLemmas.{none_passed, one_passed, gap_before, gap_behind, gap_none}
use Rattle.pg_alloc.proofs.gap.first_gap.Goals as goal

pub loop-place-init : goal.loop-place-init
loop-place-init c = none_passed _ _ _ c.requires.lie

pub returns-then-ends_before-clause-gap : goal.returns-then-ends_before-clause-gap
returns-then-ends_before-clause-gap c =
    let before = leb-true _ _ (sym c.ends_before.ensures ∙ c.if-ends_before.true) in
    gap_before _ _ _ _ _ c.requires.lie c.requires.least c.loop-place.invariant (omega arith) (omega (arith, before))

pub loop-place-preserved : goal.loop-place-preserved
loop-place-preserved c =
    let short = leb-false _ _ (sym c.ends_before.ensures ∙ c.if-ends_before.false) in
    one_passed _ _ _ c.loop-place.place c.loop-place.base _ _ refl refl c.requires.lie c.loop-place.invariant (omega arith) (omega (arith, short))

pub returns-then-ends_before-2-clause-gap : goal.returns-then-ends_before-2-clause-gap
returns-then-ends_before-2-clause-gap c =
    let within = leb-true _ _ (sym c.ends_before-2.ensures ∙ c.if-ends_before-2.true) in
    gap_behind _ _ _ _ _ c.requires.lie c.requires.least c.loop-place.invariant (omega arith) (omega (arith, within))

pub returns-else-ends_before-2-clause-none : goal.returns-else-ends_before-2-clause-none
returns-else-ends_before-2-clause-none c =
    let full = leb-false _ _ (sym c.ends_before-2.ensures ∙ c.if-ends_before-2.false) in
    gap_none _ _ _ c.loop-place.place c.loop-place.base c.loop-place.invariant (omega (arith, full))
