use Rattle.std.proofs.Common.{◌∙◌}
use Rattle.pg_ast.proofs.Same.{same_pattern}
use Rattle.pg_ast.proofs.copying.pattern_copied.Goals as goal

pub returns : goal.returns
returns c = same_pattern c.new.result c.args.pattern.now (c.new.ensures ∙ c.in_ok-bytes.ensures ∙ c.as_bytes.ensures)
