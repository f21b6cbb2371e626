use Rattle.pg_read.proofs.FormLemmas.{lit-form}
use Rattle.pg_ast.specs.Reading.{read_expr}
use Rattle.pg_read.proofs.exprs.+exprs.Goals as goal

pub level-returns-in-Some-Number : goal.level-returns-in-Some-Number
level-returns-in-Some-Number t c =
    rw (c.in-Some-Number.ensures, c.in-Some-Number.field-0-is, ← (lit-form (read_expr c.args.inner) c.next.new.self _)) c.lit.ensures
