use Rattle.std.proofs.Common.{◌≡◌, ◌≤◌, ◌∙◌, None, Some, length, slice_get, ap, sym, subst}
use Rattle.std.specs.List.{slice_range}
use Rattle.std.specs.Option.{option_copied, option_and_then}
use Rattle.pg_proof.specs.Places.{AreWithin}
use Rattle.pg_proof.proofs.WithinLemmas.{AreHeldWithin-at}
use Rattle.pg_proof.proofs.SpanLemmas.{Lies, AreSpans-at, held_in-out, held_in-at, held_in-there}
use Rattle.pg_proof.proofs.store.held_at.Goals as goal
use Rattle.pg_proof.proofs.store.held_at.Goals.{In-Some-Some}

there : (c : In-Some-Some) → slice_get c.store.inside.spans.items c.args.place ≡ Some (Some c.in-Some-Some.span)
there c =
    ap (λ ss. slice_get ss c.args.place) (sym c.as_slice.ensures.value) ∙ sym c.at.ensures ∙ ap option_copied c.in-Some-Some.is ∙ ap Some c.in-Some-Some.field-0-is

lies : (c : In-Some-Some) → Lies (length c.store.inside.literals.items) c.in-Some-Some.span
lies c = AreSpans-at (length c.store.inside.literals.items) c.store.inside.spans.items c.args.place c.in-Some-Some.span c.store.invariant (there c)

pub part-requires-clause-start : goal.part-requires-clause-start
part-requires-clause-start c = (lies (goal.at.part-requires-clause-start c).In-Some-Some).start

pub part-requires-clause-end : goal.part-requires-clause-end
part-requires-clause-end c =
    subst (λ xs. c.in-Some-Some.span.end ≤ length xs) (sym c.as_slice-in-Some-Some.ensures.value) (lies (goal.at.part-requires-clause-end c).In-Some-Some).end

pub returns-in-None-clause-literals : goal.returns-in-None-clause-literals
returns-in-None-clause-literals c =
    sym (held_in-out c.store.inside.literals.items c.store.inside.spans.items c.args.place
    (ap (λ ss. slice_get ss c.args.place) (sym c.as_slice.ensures.value) ∙ sym c.at.ensures ∙ ap option_copied c.in-None.is))
    ∙ ap (λ held. option_and_then (λ x. x) (slice_get held c.args.place)) c.store.view_is

pub returns-in-Some-None-clause-literals : goal.returns-in-Some-None-clause-literals
returns-in-Some-None-clause-literals c =
    sym (held_in-at c.store.inside.literals.items c.store.inside.spans.items c.args.place None
    (ap (λ ss. slice_get ss c.args.place) (sym c.as_slice.ensures.value) ∙ sym c.at.ensures ∙ ap option_copied c.in-Some-None.is ∙ ap Some c.in-Some-None.field-0-is))
    ∙ ap (λ held. option_and_then (λ x. x) (slice_get held c.args.place)) c.store.view_is

pub returns-in-Some-Some-clause-literals : goal.returns-in-Some-Some-clause-literals
returns-in-Some-Some-clause-literals c =
    ap Some (c.part.ensures ∙ ap (λ xs. slice_range xs c.in-Some-Some.span.start c.in-Some-Some.span.end) c.as_slice-in-Some-Some.ensures.value)
    ∙ sym (held_in-at c.store.inside.literals.items c.store.inside.spans.items c.args.place (Some c.in-Some-Some.span)
    (there (goal.at.returns-in-Some-Some-clause-literals c).In-Some-Some))
    ∙ ap (λ held. option_and_then (λ x. x) (slice_get held c.args.place)) c.store.view_is

pub returns-in-Some-Some-clause-within : goal.returns-in-Some-Some-clause-within
returns-in-Some-Some-clause-within c =
    λ places within.
    subst (AreWithin places)
    (sym (c.part.ensures ∙ ap (λ xs. slice_range xs c.in-Some-Some.span.start c.in-Some-Some.span.end) c.as_slice-in-Some-Some.ensures.value))
    (AreHeldWithin-at places c.args.store.now c.args.place (slice_range c.store.inside.literals.items c.in-Some-Some.span.start c.in-Some-Some.span.end)
    (ap (λ held. slice_get held c.args.place) (sym c.store.view_is)
    ∙ held_in-there c.store.inside.literals.items c.store.inside.spans.items c.args.place c.in-Some-Some.span (there (goal.at.returns-in-Some-Some-clause-within c).In-Some-Some))
    within)
