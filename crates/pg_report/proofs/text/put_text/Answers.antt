use Rattle.std.proofs.Common.{◌≡◌, ◌++◌, ◌∙◌, ap}
use Rattle.std.proofs.lemmas.List.{append_assoc}
use Rattle.std.proofs.lemmas.Result.{err_from_is_err_and}
use Rattle.pg_edge.proofs.PutsLaws.{Puts-then, Puts-stopped}
use Rattle.pg_report.proofs.text.put_text.Goals as goal

pub returns-in_err-put : goal.returns-in_err-put
returns-in_err-put g c =
    let fault = err_from_is_err_and c.from_residual.result c.from_residual.ensures.1 in
    let sent = c.loop-rest.invariant.0 in
    let line = c.split_line.result.0.now in
    let behind = c.split_line.result.1.now in
    let whole : sent ++ line ++ behind ≡ c.args.text.now = append_assoc sent line behind ∙ ap (λ t. sent ++ t) c.split_line.ensures.whole ∙ c.loop-rest.invariant.1 in
    let front = Puts-then _ _ _ _ _ _ sent line _ _ c.loop-rest.invariant.2 c.in_err-put.ensures.puts in
    rw fault.1 (rw (← whole) (Puts-stopped _ _ _ _ (sent ++ line) behind _ _ front))

pub loop-rest-preserved : goal.loop-rest-preserved
loop-rest-preserved g c =
    let sent = c.loop-rest.invariant.0 in
    let line = c.split_line.result.0.now in
    let behind = c.split_line.result.1.now in (
      sent ++ line,
      append_assoc sent line behind ∙ ap (λ t. sent ++ t) c.split_line.ensures.whole ∙ c.loop-rest.invariant.1,
      Puts-then _ _ _ _ _ _ sent line _ _ c.loop-rest.invariant.2 c.in_ok-put.ensures.puts,
    )
