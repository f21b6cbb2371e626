use Rattle.std.proofs.Common.{◌≡◌, []}
use Rattle.pg_move.specs.Seen.{reader_of}
use Rattle.pg_move.proofs.ReadLemmas.{IsReadSoFar-next, read_refused, read_over, none_left}
use Rattle.pg_move.proofs.reading.read_lines.Goals as goal

pub returns-in-Err : goal.returns-in-Err
returns-in-Err c = λ n.
    read_refused c.args.shape.now c.args.bytes.now c.loop-left.left.now c.split_line.result.0.now c.split_line.result.1.now c.loop-left.line
    (reader_of c.loop-left.reader) c.split_line.ensures.lines c.loop-left.invariant c.in-Err.fault (c.in-Err.ensures n)

pub loop-left-preserved : goal.loop-left-preserved
loop-left-preserved c =
    IsReadSoFar-next c.args.shape.now c.args.bytes.now c.loop-left.left.now c.split_line.result.0.now c.split_line.result.1.now c.loop-left.line
    (reader_of c.loop-left.reader) c.split_line.ensures.lines c.loop-left.invariant (reader_of c.in-Ok.next) c.in-Ok.ensures
    c.split_line.ensures.len c.split_line.ensures.some

pub returns : goal.returns
returns c =
    let none : c.loop-left.left.now ≡ [] = none_left c.loop-left.left.now c.is_empty.result c.is_empty.ensures c.loop-left-test.false in
    read_over c.args.shape.now c.args.bytes.now c.loop-left.left.now c.loop-left.line (reader_of c.loop-left.reader) c.finish.result
    none c.loop-left.invariant c.finish.ensures
