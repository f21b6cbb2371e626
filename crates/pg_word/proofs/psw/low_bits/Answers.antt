use Rattle.std.proofs.Common.{◌-◌, ◌∙◌, ap, arith, bit_and}
use Rattle.std.proofs.lemmas.Nat.{and_mask, one_shl}
use Rattle.pg_word.proofs.psw.low_bits.Goals as goal

pub returns : goal.returns
returns c = ap (λ t. bit_and c.args.word (t - 1)) (one_shl c.args.a 64 (omega arith)) ∙ and_mask c.args.word c.args.a
