use Rattle.pg_type.proofs.PairLemmas.{pairs_show}
use Rattle.pg_type.proofs.pair_laws.pairs_show.Goals as goal

pub returns : goal.returns
returns c = pairs_show
