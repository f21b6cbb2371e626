use Rattle.std.proofs.Common.{◌≡◌, ℕ, List, ◌++◌, drop, Ok}
use Rattle.pg_cli_table.specs.Commands.{usage_text, usages}
use Rattle.pg_edge.specs.Sink.{Puts}
use Rattle.pg_edge.specs.declared.shelf.Failed.{Failed}
use Rattle.pg_report.proofs.refusal.put_usage.Given as goal

-- the lines that were put so far, and those of the commands that are left, make the whole
abbrev pub invariant-loop-command : goal.invariant-loop-command
invariant-loop-command g l = (sent : List ℕ) × (sent ++ usages (drop l.command-index l.command-items) ≡ usage_text)
    × Puts {T = Unit {0}} {E = Failed} (g.S.Sink.written l.initial.out) (g.S.Sink.written l.out) (g.S.Sink.faults l.initial.out) (g.S.Sink.faults l.out) sent (Ok tt)
