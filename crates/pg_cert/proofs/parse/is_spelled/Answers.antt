use Rattle.std.proofs.Common.{sym, ◌∙◌}
use Rattle.pg_cert.proofs.LineLemmas.{words_fit}
use Rattle.pg_cert.proofs.parse.is_spelled.Goals as goal

pub put_line-requires-clause-fit : goal.put_line-requires-clause-fit
put_line-requires-clause-fit c = words_fit c.args.shape.now c.args.line.now (sym c.is_line.ensures ∙ c.if-not-is_line.false)
