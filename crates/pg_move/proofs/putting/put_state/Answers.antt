use Rattle.std.proofs.Common.{◌++◌, ap, ◌∙◌, arith}
use Rattle.pg_word.specs.declared.shape.Shape.{Shape}
use Rattle.pg_image.specs.Lines.{lines_before, line_count}
use Rattle.pg_report.specs.Spans.{span}
use Rattle.pg_report.proofs.Runs.{length-span}
use Rattle.pg_move.proofs.PutLemmas.{state_put}
use Rattle.pg_move.proofs.putting.put_state.Goals as goal

pub returns-clause-items : goal.returns-clause-items
returns-clause-items g c =
    let guest = c.args.guest in
    let held = (g.H.Hardware.machinery c.args.hw.now).state.cells in
    let cells = span guest.base guest.size held in
    let within = length-span guest.base guest.size held (omega (arith, c.requires.holds.size, c.requires.holds.grant.within)) in
    state_put c.args.m.now.desc.word guest.size cells guest.psw c.args.into.now.items c.as_slice.result.now c.as_slice-2.result.now
    c.put.new.into.items c.put-2.new.into.items c.put_rows.new.into.items within c.put.ensures.items
    (c.as_slice.ensures.value ∙ c.size_line.ensures.text) c.put-2.ensures.items (c.as_slice-2.ensures.value ∙ c.psw_line.ensures.text)
    (c.put_rows.ensures.items ∙ ap (λ (s : Shape). c.put-2.new.into.items ++ lines_before s.w (line_count guest.size) cells) c.shape.ensures.numbers)
