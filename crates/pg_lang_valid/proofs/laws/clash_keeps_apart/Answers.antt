use Rattle.pg_lang_valid.proofs.PatternFacts.{clash-apart}
use Rattle.pg_lang_valid.proofs.laws.clash_keeps_apart.Goals as goal

pub returns : goal.returns
returns c = λ t. clash-apart c.args.p.now c.args.q.now c.args.word c.requires.lengths c.requires.clash c.requires.first t
