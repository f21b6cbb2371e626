use Rattle.std.proofs.Common.{length, ap, ◌∙◌, arith}
use Rattle.pg_report.specs.Spans.{span}
use Rattle.pg_move.proofs.RoomLemmas.{line_length}
use Rattle.pg_move.proofs.putting.put_row.Goals as goal

pub put-requires : goal.put-requires
put-requires g c =
    let cells = span c.args.base c.args.size (g.H.Hardware.machinery c.args.hw.now).state.cells in
    omega (arith, line_length c.args.shape.now.w c.args.k cells c.requires.shape.whole_bytes (omega arith), ap length (c.as_slice.ensures.value ∙ c.in-Some.ensures.text), c.requires.room)

pub returns-in-Some-clause-len : goal.returns-in-Some-clause-len
returns-in-Some-clause-len g c =
    let cells = span c.args.base c.args.size (g.H.Hardware.machinery c.args.hw.now).state.cells in
    omega (arith, line_length c.args.shape.now.w c.args.k cells c.requires.shape.whole_bytes (omega arith), ap length (c.as_slice.ensures.value ∙ c.in-Some.ensures.text), c.put.ensures.len)
