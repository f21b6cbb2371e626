use Rattle.pg_ast.proofs.Found.{name_of-found}
use Rattle.pg_read.proofs.cursor.name_of.Goals as goal

pub returns-in_ok-from_slice : goal.returns-in_ok-from_slice
returns-in_ok-from_slice c =
    let e = name_of-found c.try_new.result c.in_ok-from_slice.field-0 c.try_new.ensures.some c.try_new.ensures.bytes in cc c.in_ok-from_slice.ensures
