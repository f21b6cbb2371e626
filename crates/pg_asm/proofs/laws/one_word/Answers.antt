use Rattle.pg_asm.proofs.WordLemmas.{one-word}
use Rattle.pg_asm.proofs.laws.one_word.Goals as goal

pub returns : goal.returns
returns c = one-word
