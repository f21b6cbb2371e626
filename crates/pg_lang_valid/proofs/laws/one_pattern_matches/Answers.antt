use Rattle.pg_lang_valid.proofs.PatternFacts.{valid-apart}
use Rattle.pg_lang_valid.proofs.laws.one_pattern_matches.Goals as goal

pub returns : goal.returns
returns c = λ i j x y less at_i at_j s t. valid-apart c.args.desc.now i j x y c.args.word c.requires less at_i at_j s t
