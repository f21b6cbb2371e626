use Rattle.pg_asm.proofs.DecodeLemmas.{decoded-word}
use Rattle.pg_asm.proofs.laws.words_of_decode.Goals as goal

pub returns : goal.returns
returns c = λ number word i values there is. decoded-word c.args.desc.now number word i values c.requires there is
