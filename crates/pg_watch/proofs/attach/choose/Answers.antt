use Rattle.std.proofs.Common.{SFits, w32, rules, sym, ap, ◌∙◌, Some}
use Rattle.std.proofs.lemmas.Int.{to_z-of_z}
use Rattle.pg_watch.proofs.Steps.{AreLiterals-contains}
use Rattle.pg_watch.proofs.JoinLemmas.{choice_open, choice_late}
use Rattle.pg_watch.proofs.attach.choose.Goals as goal

pub value-requires : goal.value-requires
value-requires c =
    let fits : SFits w32 c.in-Some.first = search rules in
    simp to_z-of_z (AreLiterals-contains c.args.trail.now.variables c.args.clause.now c.in-Some.first c.requires c.in-Some.ensures.there)

pub returns-in-Some-open_literal : goal.returns-in-Some-open_literal
returns-in-Some-open_literal c =
    let fits : SFits w32 c.in-Some.first = search rules in
    let fits_second : SFits w32 c.in-Some-open_literal.second = search rules in
    let other = simp to_z-of_z at c.in-Some-open_literal.ensures.other in
    simp to_z-of_z
    (choice_open c.args.trail.now.literals c.args.clause.now c.args.low c.in-Some.first c.in-Some-open_literal.second c.in-Some.ensures.there
    c.in-Some-open_literal.ensures.there other c.in-Some.ensures.not_false c.in-Some-open_literal.ensures.not_false)

pub returns-in-Some-late_literal : goal.returns-in-Some-late_literal
returns-in-Some-late_literal c =
    let fits : SFits w32 c.in-Some.first = search rules in
    let fits_second : SFits w32 c.in-Some-late_literal.second = search rules in
    let other = simp to_z-of_z at c.in-Some-late_literal.ensures.other in
    let read = simp to_z-of_z at c.in-Some-true.ensures in
    simp to_z-of_z
    (choice_late c.args.trail.now.literals c.args.clause.now c.args.low c.in-Some.first c.in-Some-late_literal.second c.in-Some.ensures.there
    c.in-Some-late_literal.ensures.there other c.in-Some.ensures.not_false (sym read ∙ ap (λ b. Some b) c.in-Some-true.field-0-test)
    c.in-Some-late_literal.ensures.late)
