use Rattle.pg_type.proofs.HybridRow.{m1_serves_hybrid_alone}
use Rattle.pg_type.proofs.rows.hybrid_alone.Goals as goal

pub returns : goal.returns
returns c = m1_serves_hybrid_alone
