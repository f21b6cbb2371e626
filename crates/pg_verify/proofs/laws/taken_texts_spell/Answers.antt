use Rattle.pg_verify.proofs.SpellLemmas.{taken_texts_spell}
use Rattle.pg_verify.proofs.laws.taken_texts_spell.Goals as goal

pub returns : goal.returns
returns c = λ d family bytes p valid e. taken_texts_spell d family bytes p e
