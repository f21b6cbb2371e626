use Rattle.std.proofs.Common.{[], ◌∷◌}
use Rattle.std.proofs.lemmas.Result.{err_from_is_err_and}
use Rattle.pg_edge.proofs.PutsLaws.{Puts-then, Puts-stopped}
use Rattle.pg_report.specs.Spans.{span}
use Rattle.pg_run_still.specs.Views.{bytes_of}
use Rattle.pg_run_still.proofs.viewing.put_bytes.Goals as goal

pub returns-in_err-put_each : goal.returns-in_err-put_each
returns-in_err-put_each g c =
    let bytes = bytes_of c.args.count.count (span c.args.part.base c.args.part.size (g.H.Hardware.machinery c.args.hw.now).state.cells) in
    let fault = err_from_is_err_and c.from_residual.result c.from_residual.ensures.1 in
    rw fault.1 (Puts-stopped _ _ _ _ bytes (10 ∷ []) _ _ c.in_err-put_each.ensures)

pub returns : goal.returns
returns g c =
    let bytes = bytes_of c.args.count.count (span c.args.part.base c.args.part.size (g.H.Hardware.machinery c.args.hw.now).state.cells) in
    Puts-then _ _ _ _ _ _ bytes (10 ∷ []) _ _ c.in_ok-put_each.ensures c.put.ensures.puts
