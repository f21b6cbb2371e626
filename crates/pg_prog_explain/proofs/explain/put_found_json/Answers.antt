use Rattle.std.proofs.Common.{arith}
use Rattle.pg_prog_explain.proofs.explain.put_found_json.Goals as goal

pub returns-in-Err-clause-told : goal.returns-in-Err-clause-told
returns-in-Err-clause-told g c = λ less. absurd (omega (arith, less, c.ended.ensures.stopped))
