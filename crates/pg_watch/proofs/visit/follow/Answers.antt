use Rattle.std.proofs.Common.{SFits, w32, sym, ap, ◌∙◌, Some}
use Rattle.std.proofs.lemmas.Int.{to_z-of_z}
use Rattle.pg_watch.proofs.VisitLemmas.{literal_there, conflict_at, true_after, steps_after}
use Rattle.pg_watch.proofs.visit.follow.Goals as goal

pub value-requires : goal.value-requires
value-requires c =
    let fits : SFits w32 c.args.lit = c.ranges.lit in
    simp to_z-of_z (literal_there _ _ c.args.place c.args.lit c.requires.right c.requires.place c.requires.there)

pub push-requires-clause-literal : goal.push-requires-clause-literal
push-requires-clause-literal c =
    let fits : SFits w32 c.args.lit = c.ranges.lit in
    simp to_z-of_z (literal_there _ _ c.args.place c.args.lit c.requires.right c.requires.place c.requires.there)

pub returns-in-Some-false-clause-followed : goal.returns-in-Some-false-clause-followed
returns-in-Some-false-clause-followed c =
    let fits : SFits w32 c.args.lit = c.ranges.lit in
    let read = simp to_z-of_z at c.in-Some-false.ensures in
    conflict_at _ _ c.args.place c.args.lit c.requires.place c.requires.others (sym read ∙ ap (λ b. Some b) c.in-Some-false.field-0-test)

pub returns-in-Ok-clause-steps : goal.returns-in-Ok-clause-steps
returns-in-Ok-clause-steps c =
    let fits : SFits w32 c.args.lit = c.ranges.lit in
    let read = simp to_z-of_z at c.in-None.ensures in
    let made = simp to_z-of_z at c.in-Ok.ensures.ok in
    steps_after _ _ _ c.args.place c.args.lit c.requires.trail c.requires.right c.requires.place (sym read) c.requires.there c.requires.others made

pub returns-in-Ok-clause-followed : goal.returns-in-Ok-clause-followed
returns-in-Ok-clause-followed c =
    let fits : SFits w32 c.args.lit = c.ranges.lit in
    let read = simp to_z-of_z at c.in-None.ensures in
    let made = simp to_z-of_z at c.in-Ok.ensures.ok in
    true_after _ _ _ c.args.place c.args.lit (sym read) c.requires.there made
