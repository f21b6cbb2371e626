use Rattle.std.proofs.Common.{◌∙◌, sym, subst}
use Rattle.pg_ast.specs.Levels.{IsShallow}
use Rattle.pg_ast.proofs.Same.{same_instr}
use Rattle.pg_ast.proofs.copying.instr_copied.Goals as goal

pub new-requires : goal.new-requires
new-requires c = subst IsShallow (sym (c.in_ok-body.ensures ∙ c.as_slice.ensures)) c.args.instr.now.shallow

pub returns : goal.returns
returns c =
    same_instr c.new.result c.args.instr.now (c.new.ensures.name ∙ c.in_ok-name.ensures) (c.new.ensures.pattern ∙ c.in_ok-pattern.ensures)
    (c.new.ensures.body ∙ c.in_ok-body.ensures ∙ c.as_slice.ensures)
