use Rattle.std.proofs.Common.{arith}
use Rattle.std.proofs.lemmas.Grind.{common_steps}
use Rattle.pg_word.proofs.Numbers.{mod_64_mod}
use Rattle.pg_word.proofs.bits.shl.Goals as goal

pub returns-then-y-from-clause-value : goal.returns-then-y-from-clause-value
returns-then-y-from-clause-value c = grind (arith, common_steps, mod_64_mod)
