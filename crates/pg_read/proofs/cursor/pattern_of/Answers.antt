use Rattle.pg_ast.proofs.Found.{pattern_of-found}
use Rattle.pg_read.proofs.cursor.pattern_of.Goals as goal

pub returns : goal.returns
returns c =
    let e = pattern_of-found c.try_new.result c.in_ok-from_slice.field-0 c.try_new.ensures.some c.try_new.ensures.bytes in cc c.in_ok-from_slice.ensures
