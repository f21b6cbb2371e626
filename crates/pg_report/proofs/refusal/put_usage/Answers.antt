use Rattle.std.proofs.Common.{◌+◌, ◌++◌, ◌∙◌, ◌<◌, ◌≤◌, [], ap, arith, drop, length}
use Rattle.std.proofs.lemmas.Result.{err_from_is_err_and}
use Rattle.pg_cli_table.proofs.UsageLaws.{usage_all, usage_line, usage_none}
use Rattle.pg_cli_table.specs.Commands.{usages}
use Rattle.pg_edge.proofs.PutsLaws.{Puts-none, Puts-stopped, Puts-then}
use Rattle.pg_report.proofs.refusal.put_usage.Goals as goal

pub loop-command-init : goal.loop-command-init
loop-command-init g c = ([], ap (λ commands. [] ++ usages commands) c.commands-command-items.ensures ∙ usage_none, Puts-none _ _ _)

pub returns-in_err-put : goal.returns-in_err-put
returns-in_err-put g c =
    let fault = err_from_is_err_and c.from_residual.result c.from_residual.ensures.1 in
    let sent = c.loop-command.invariant.0 in
    let line = c.as_bytes.result.now in
    let within : c.loop-command.command-index < length c.commands-command-items.result.now = omega arith in
    let whole = usage_line _ _ _ sent line within (c.as_bytes.ensures.value ∙ c.synopsis.ensures.usage) c.loop-command.invariant.1 in
    let behind = usages (drop (c.loop-command.command-index + 1) c.commands-command-items.result.now) in
    let front = Puts-then _ _ _ _ _ _ sent line _ _ c.loop-command.invariant.2 c.in_err-put.ensures.puts in
    rw fault.1 (rw (← whole) (Puts-stopped _ _ _ _ (sent ++ line) behind _ _ front))

pub loop-command-preserved : goal.loop-command-preserved
loop-command-preserved g c =
    let sent = c.loop-command.invariant.0 in
    let line = c.as_bytes.result.now in
    let within : c.loop-command.command-index < length c.commands-command-items.result.now = omega arith in (
      sent ++ line,
      usage_line _ _ _ sent line within (c.as_bytes.ensures.value ∙ c.synopsis.ensures.usage) c.loop-command.invariant.1,
      Puts-then _ _ _ _ _ _ sent line _ _ c.loop-command.invariant.2 c.in_ok-put.ensures.puts,
    )

pub returns : goal.returns
returns g c =
    let past : length c.commands-command-items.result.now ≤ c.loop-command.command-index = omega arith in
    let all = usage_all _ _ c.loop-command.invariant.0 past c.loop-command.invariant.1 in
    rw (← all) c.loop-command.invariant.2
