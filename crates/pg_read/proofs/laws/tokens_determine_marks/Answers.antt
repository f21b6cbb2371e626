use Rattle.pg_read.proofs.FrontLemmas.{marks_determined}
use Rattle.pg_read.proofs.laws.tokens_determine_marks.Goals as goal

pub returns : goal.returns
returns c = marks_determined
