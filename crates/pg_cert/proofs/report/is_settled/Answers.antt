use Rattle.pg_cert.proofs.VerdictLemmas.{settled_when}
use Rattle.pg_cert.proofs.report.is_settled.Goals as goal

pub returns-else-is_refuted : goal.returns-else-is_refuted
returns-else-is_refuted c =
    settled_when c.args.marks.now c.privileged-item.result c.is_refuted.result c.all_refuted.result c.in-len1-up.len_at_least c.privileged-item.is c.is_refuted.ensures c.if-is_refuted.false c.all_refuted.ensures
