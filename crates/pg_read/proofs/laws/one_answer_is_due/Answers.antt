use Rattle.pg_read.proofs.OneAnswer.{one_answer}
use Rattle.pg_read.proofs.laws.one_answer_is_due.Goals as goal

pub returns : goal.returns
returns c = one_answer
