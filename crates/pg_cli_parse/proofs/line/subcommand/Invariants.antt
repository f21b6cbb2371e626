use Rattle.std.proofs.Common.{◌≡◌, [], drop, false}
use Rattle.clap.specs.Words.{app_of}
use Rattle.clap.specs.declared.builder.command.Command.TheViews.{out-Command}
use Rattle.pg_cli_table.specs.Synopses.{synopsis_of}
use Rattle.pg_cli_parse.specs.Line.{shape}
use Rattle.pg_cli_parse.proofs.FoldLaws.{rules_of, with_rules}
use Rattle.pg_cli_parse.proofs.line.subcommand.Given as goal

-- what is built, with the arguments that follow, is the command
abbrev pub invariant-loop-argument : goal.invariant-loop-argument
invariant-loop-argument l = (with_rules (app_of l.command) (rules_of (drop l.argument-index l.argument-items))
    ≡ record { top = shape (synopsis_of l.synopsis); subs = [] }) × ((out-Command l.command).has_globals ≡ false)
