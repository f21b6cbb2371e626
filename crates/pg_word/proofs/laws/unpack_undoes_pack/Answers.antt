use Rattle.pg_word.proofs.Words.{unpacked_packed}
use Rattle.pg_word.proofs.laws.unpack_undoes_pack.Goals as goal

pub returns : goal.returns
returns c = unpacked_packed _ _ c.requires
