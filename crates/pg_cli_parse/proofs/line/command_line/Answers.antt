-- The commands join the program one after another.
use Rattle.std.proofs.Common.{◌∙◌, ◌<◌, ap, arith, length}
use Rattle.clap.specs.Words.{App, app_of, with_subcommand}
use Rattle.pg_cli_parse.proofs.FoldLaws.{command_joined}
use Rattle.pg_cli_parse.proofs.line.command_line.Goals as goal

pub loop-command-preserved : goal.loop-command-preserved
loop-command-preserved c =
    let joined = c.in_ok-whole.ensures.shape c.in_ok-next.ensures.local
    ∙ ap (λ (a : App). with_subcommand (app_of c.loop-command.whole) a.top) c.in_ok-next.ensures.app in
    let within : c.loop-command.command-index < length c.commands-command-items.result.now = omega arith in
    command_joined _ _ _ _ _ _ within c.synopsis.ensures.called joined ∙ c.loop-command.invariant
