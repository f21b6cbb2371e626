use Rattle.pg_verify.proofs.JudgingLemmas.{shows_decides}
use Rattle.pg_verify.proofs.laws.shows_is_decided.Goals as goal

pub returns : goal.returns
returns c = λ d i kind s t. shows_decides d i kind s t
