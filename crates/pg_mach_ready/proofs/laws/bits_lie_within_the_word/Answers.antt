use Rattle.pg_mach_ready.proofs.TellingLemmas.{lie_within}
use Rattle.pg_mach_ready.proofs.laws.bits_lie_within_the_word.Goals as goal

pub returns : goal.returns
returns c = lie_within
