use Rattle.std.proofs.Common.{arith}
use Rattle.pg_read.proofs.AnswerLemmas.{answer-fault, answer-read, answer-unread}
use Rattle.pg_read.proofs.whole.read_desc.Goals as goal

pub returns-in-Err : goal.returns-in-Err
returns-in-Err c = rw c.token_fault.ensures (answer-fault c.args.bytes.now c.in-Err.fault (omega arith) c.in-Err.ensures)

pub returns-in-Ok-desc : goal.returns-in-Ok-desc
returns-in-Ok-desc c =
    let e = rw (c.new.ensures, c.as_slice.ensures) at c.in-Ok-desc.ensures in
    answer-read c.args.bytes.now c.in-Ok.toks c.in-Ok-desc.desc (omega arith) c.in-Ok.ensures e

pub returns-in-Err-Unread : goal.returns-in-Err-Unread
returns-in-Err-Unread c =
    let e = rw (c.new.ensures, c.as_slice.ensures, c.in-Err-Unread.field-0-is) at c.in-Err-Unread.ensures in
    answer-unread c.args.bytes.now c.in-Ok.toks c.why_unread.result (omega arith) c.in-Ok.ensures e (rw c.as_slice-in-Err-Unread.ensures at c.why_unread.ensures)
