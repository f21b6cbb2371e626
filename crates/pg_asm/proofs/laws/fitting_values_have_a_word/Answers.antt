use Rattle.pg_asm.proofs.WordLemmas.{word-is}
use Rattle.pg_asm.proofs.laws.fitting_values_have_a_word.Goals as goal

pub returns : goal.returns
returns c = word-is
