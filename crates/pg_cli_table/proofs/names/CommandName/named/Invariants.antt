use Rattle.std.proofs.Common.{◌≡◌, drop}
use Rattle.pg_cli_table.specs.Commands as spec
use Rattle.pg_cli_table.proofs.names.CommandName.named.Given as goal

-- the command of the name is among those that follow
abbrev pub invariant-loop-command : goal.invariant-loop-command
invariant-loop-command l = spec.named (drop l.command-index l.command-items) l.name ≡ spec.named spec.commands l.name
