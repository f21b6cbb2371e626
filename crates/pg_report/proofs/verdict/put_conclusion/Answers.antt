use Rattle.std.proofs.lemmas.Result.{err_from_is_err_and}
use Rattle.pg_edge.proofs.PutsLaws.{Puts-then, Puts-stopped}
use Rattle.pg_cert.specs.Verdicts.{verdict_of}
use Rattle.pg_report.specs.Verdicts.{outcome_line, evidence_text, conclusion_text}
use Rattle.pg_report.proofs.verdict.put_conclusion.Goals as goal

pub returns-in_err-put_outcome : goal.returns-in_err-put_outcome
unfolding conclusion_text
returns-in_err-put_outcome g c =
    let d = c.args.m.now.desc in
    let family = c.args.report.now.family in
    let marks = c.args.report.now.marks in
    let fault = err_from_is_err_and c.from_residual.result c.from_residual.ensures.1 in
    rw fault.1 (Puts-stopped _ _ _ _ (outcome_line d (verdict_of family marks)) (evidence_text d family marks (verdict_of family marks)) _ _ c.in_err-put_outcome.ensures)

pub returns : goal.returns
unfolding conclusion_text
returns g c =
    let d = c.args.m.now.desc in
    let family = c.args.report.now.family in
    let marks = c.args.report.now.marks in
    Puts-then _ _ _ _ _ _ (outcome_line d (verdict_of family marks)) (evidence_text d family marks (verdict_of family marks)) _ _ c.in_ok-put_outcome.ensures c.put_evidence.ensures
