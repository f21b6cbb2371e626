use Rattle.std.proofs.Common.{◌<◌, ◌≤◌, ◌^◌, ◌∙◌, ap, subst, sym, arith}
use Rattle.pg_edge.specs.Sink.{Puts}
use Rattle.pg_edge.specs.declared.shelf.Failed.{Failed}
use Rattle.pg_mon_control.specs.Guests.{virtual}
use Rattle.pg_run_still.specs.declared.view.View.{View}
use Rattle.pg_run_still.specs.Views.{end_of, view_text}
use Rattle.pg_run_still.proofs.ViewLemmas.{All-part, bytes-shown, cells-shown}
use Rattle.pg_run_still.proofs.viewing.put_view.Goals as goal

pub put_rows-requires-clause-fit : goal.put_rows-requires-clause-fit
put_rows-requires-clause-fit g c =
    let part = c.part_of.result in
    let s = c.in-Cells.cells in
    let ends : s.to ≤ c.args.guest.size = subst (λ v. end_of v ≤ c.args.guest.size) c.in-Cells.is c.requires.ends in
    All-part (λ word. word < 2 ^ c.args.shape.now.w) c.args.guest.base c.args.guest.size s.from part.size part.base (g.H.Hardware.machinery c.args.hw.now).state.cells c.part_of.ensures.base
    (omega (arith, ends, c.part_of.ensures.first, c.part_of.ensures.size)) c.requires.words

pub returns-in-Cells : goal.returns-in-Cells
returns-in-Cells g c =
    let w = c.args.shape.now.w in
    let cells = (g.H.Hardware.machinery c.args.hw.now).state.cells in
    let part = c.part_of.result in
    let ends : c.in-Cells.cells.to ≤ c.args.guest.size = subst (λ v. end_of v ≤ c.args.guest.size) c.in-Cells.is c.requires.ends in
    subst (λ t. Puts {T = Unit {0}} {E = Failed} (g.S.Sink.written c.args.out.now) (g.S.Sink.written c.put_rows.new.out) (g.S.Sink.faults c.args.out.now) (g.S.Sink.faults c.put_rows.new.out) t c.put_rows.result)
    (cells-shown w c.in-Cells.cells c.args.guest cells part.base part.first part.size c.part_of.ensures.base c.part_of.ensures.first c.part_of.ensures.size ends
    ∙ ap (λ (v : View). view_text w v (virtual cells c.args.guest)) (sym c.in-Cells.is))
    c.put_rows.ensures

pub returns-in-Bytes : goal.returns-in-Bytes
returns-in-Bytes g c =
    let w = c.args.shape.now.w in
    let cells = (g.H.Hardware.machinery c.args.hw.now).state.cells in
    let part = c.part_of-in-Bytes.result in
    let ends : c.in-Bytes.cells.to ≤ c.args.guest.size = subst (λ v. end_of v ≤ c.args.guest.size) c.in-Bytes.is c.requires.ends in
    subst (λ t. Puts {T = Unit {0}} {E = Failed} (g.S.Sink.written c.args.out.now) (g.S.Sink.written c.put_bytes.new.out) (g.S.Sink.faults c.args.out.now) (g.S.Sink.faults c.put_bytes.new.out) t c.put_bytes.result)
    (bytes-shown w c.in-Bytes.cells c.in-Bytes.count c.args.guest cells part.base part.first part.size c.part_of-in-Bytes.ensures.base c.part_of-in-Bytes.ensures.first c.part_of-in-Bytes.ensures.size ends
    ∙ ap (λ (v : View). view_text w v (virtual cells c.args.guest)) (sym c.in-Bytes.is))
    c.put_bytes.ensures
