use Rattle.pg_text.proofs.Formed.{cut_formed}
use Rattle.pg_text.proofs.laws.tokens_are_formed.Goals as goal

pub returns : goal.returns
returns c ts h = cut_formed c.args.text.now ts h
