use Rattle.std.proofs.Common.{◌+◌, ◌∙◌, arith}
use Rattle.std.proofs.lemmas.Result.{err_from_is_err_and}
use Rattle.pg_edge.proofs.PutsLaws.{Puts-none, Puts-then, Puts-stopped}
use Rattle.pg_report.specs.Spans.{span}
use Rattle.pg_run_still.specs.Views.{bytes_of, low_bytes}
use Rattle.pg_run_still.proofs.ViewLemmas.{bytes_of-none, bytes_of-next, bytes_of-front}
use Rattle.pg_run_still.proofs.viewing.put_each.Goals as goal

pub loop-i-init : goal.loop-i-init
loop-i-init g c = rw (bytes_of-none c.args.count.count) (Puts-none _ _ _)

pub loop-i-preserved : goal.loop-i-preserved
loop-i-preserved g c =
    let n = c.args.count.count in
    let base = c.args.part.base in
    let cells = (g.H.Hardware.machinery c.args.hw.now).state.cells in
    let piece = rw (c.as_slice.ensures.value ∙ c.low_bytes.ensures) at c.in_ok-put.ensures.puts in
    rw (bytes_of-next n base c.loop-i.i cells c.peek-word.result c.peek-word.ensures)
    (Puts-then _ _ _ _ _ _ (bytes_of n (span base c.loop-i.i cells)) (low_bytes n c.peek-word.result) _ _ c.loop-i.invariant piece)

pub returns-in_err-put : goal.returns-in_err-put
returns-in_err-put g c =
    let n = c.args.count.count in
    let base = c.args.part.base in
    let cells = (g.H.Hardware.machinery c.args.hw.now).state.cells in
    let fault = err_from_is_err_and c.from_residual.result c.from_residual.ensures.1 in
    let rest = bytes_of-front n base (c.loop-i.i + 1) c.args.part.size cells (omega arith) in
    let piece = rw (c.as_slice.ensures.value ∙ c.low_bytes.ensures) at c.in_err-put.ensures.puts in
    let front = Puts-then _ _ _ _ _ _ (bytes_of n (span base c.loop-i.i cells)) (low_bytes n c.peek-word.result) _ _ c.loop-i.invariant piece in
    rw fault.1 (rw rest.1 (rw (bytes_of-next n base c.loop-i.i cells c.peek-word.result c.peek-word.ensures) (Puts-stopped _ _ _ _ _ rest.0 _ _ front)))
