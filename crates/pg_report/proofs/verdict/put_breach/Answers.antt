use Rattle.std.proofs.lemmas.Result.{err_from_is_err_and}
use Rattle.pg_edge.proofs.PutsLaws.{Puts-then, Puts-stopped}
use Rattle.pg_report.specs.Verdicts.{shown_at, shown_place, breach_text}
use Rattle.pg_report.proofs.verdict.put_breach.Goals as goal

pub returns-in_err-put_shown_at : goal.returns-in_err-put_shown_at
unfolding breach_text
returns-in_err-put_shown_at g c =
    let w = c.args.shape.now.w in
    let family = c.args.family in
    let marks = c.args.marks.now in
    let fault = err_from_is_err_and c.from_residual.result c.from_residual.ensures.1 in
    rw fault.1 (Puts-stopped _ _ _ _ (shown_at w family marks 0) (shown_at w family marks (shown_place marks)) _ _ c.in_err-put_shown_at.ensures)

pub returns : goal.returns
unfolding breach_text
returns g c =
    let w = c.args.shape.now.w in
    let family = c.args.family in
    let marks = c.args.marks.now in
    let second = rw c.shown_place.ensures.place at c.put_shown_at-2.ensures in
    Puts-then _ _ _ _ _ _ (shown_at w family marks 0) (shown_at w family marks (shown_place marks)) _ _ c.in_ok-put_shown_at.ensures second
