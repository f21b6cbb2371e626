use Rattle.pg_cert.proofs.VerdictLemmas.{breaks_when}
use Rattle.pg_cert.proofs.report.breaks.Goals as goal

pub returns-then-is_shown : goal.returns-then-is_shown
returns-then-is_shown c =
    breaks_when c.args.marks.now c.privileged-item.result c.is_shown.result c.any_shown.result c.in-len1-up.len_at_least c.privileged-item.is c.is_shown.ensures c.if-is_shown.true c.any_shown.ensures
