use Rattle.pg_hybrid.proofs.UserLemmas.{hybrid_among-users, hybrid_among-direct, user_among-most}
use Rattle.pg_hybrid.proofs.laws.direct_turns_begin_in_user_mode.Goals as goal

pub returns-clause-users : goal.returns-clause-users
returns-clause-users c = λ d base n s. hybrid_among-users d base n s

pub returns-clause-turns : goal.returns-clause-turns
returns-clause-turns c = λ d n s. user_among-most d n s

pub returns-clause-direct : goal.returns-clause-direct
returns-clause-direct c = λ d base n s. hybrid_among-direct d base n s
