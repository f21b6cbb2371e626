use Rattle.std.proofs.Common.{◌≡◌, drop}
use Rattle.clap.specs.Words.{app_of}
use Rattle.pg_cli_parse.specs.Line.{line}
use Rattle.pg_cli_parse.proofs.FoldLaws.{with_commands}
use Rattle.pg_cli_parse.proofs.line.command_line.Given as goal

-- what is built, with the commands that follow, is the line
abbrev pub invariant-loop-command : goal.invariant-loop-command
invariant-loop-command l = with_commands (app_of l.whole) (drop l.command-index l.command-items) ≡ line
