use Rattle.std.proofs.Common.{refl}
use Rattle.pg_cnf.proofs.rows.worked_clauses.Goals as goal

pub returns : goal.returns
returns c = record {
  never = refl;
  one_and = refl;
  one_xor = refl;
  both = refl;
  one_alone = refl;
}
