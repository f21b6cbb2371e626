use Rattle.pg_cert.proofs.InRange.{trimmed_may_stand}
use Rattle.pg_cert.proofs.laws.trimmed_logs_may_stand.Goals as goal

pub returns : goal.returns
returns c = λ question heading given log trimmed numbered may.
    trimmed_may_stand question heading given log trimmed numbered may
