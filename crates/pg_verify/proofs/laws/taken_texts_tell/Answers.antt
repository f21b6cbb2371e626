use Rattle.pg_symex.proofs.RunLaw.{all_run_right}
use Rattle.pg_ask.proofs.ExactLaw.{questions-exact}
use Rattle.pg_verify.proofs.TellLemmas.{taken_texts_tell}
use Rattle.pg_verify.proofs.laws.taken_texts_tell.Goals as goal

pub returns : goal.returns
returns c = λ d family bytes p valid e. taken_texts_tell d (questions-exact d (all_run_right d)) valid family bytes p e
