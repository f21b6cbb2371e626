use Rattle.std.proofs.Common.{refl}
use Rattle.pg_cmd_base.proofs.usage.tell_usage.Goals as goal

pub returns-in-Ok-clause-told : goal.returns-in-Ok-clause-told
returns-in-Ok-clause-told g c = record { status = refl; said = c.in-Ok.ensures.whole }

pub returns-in-Err-clause-told : goal.returns-in-Err-clause-told
returns-in-Err-clause-told g c = record { cause = c.in-Err.ensures.cause; front = c.in-Err.ensures.front }
