use Rattle.std.proofs.Common.{◌∙◌}
use Rattle.pg_ast.proofs.Same.{same_name}
use Rattle.pg_ast.proofs.copying.name_copied.Goals as goal

pub returns : goal.returns
returns c = same_name c.new.result c.args.name.now (c.new.ensures ∙ c.in_ok-bytes.ensures ∙ c.as_bytes.ensures)
