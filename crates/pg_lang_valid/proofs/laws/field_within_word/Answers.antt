use Rattle.pg_lang_valid.proofs.PatternFacts.{valid-field}
use Rattle.pg_lang_valid.proofs.laws.field_within_word.Goals as goal

pub returns : goal.returns
returns c = λ i x name f at e. valid-field c.args.desc.now i x name f c.requires at e
