-- The arguments join the command one after another.
use Rattle.std.proofs.Common.{◌∙◌, ◌<◌, ap, arith, length, rules}
use Rattle.clap.specs.Words.{App}
use Rattle.pg_cli_parse.proofs.FoldLaws.{rule_joined, rules_of, with_rules}
use Rattle.pg_cli_parse.proofs.line.subcommand.Goals as goal

pub loop-argument-init : goal.loop-argument-init
loop-argument-init c =
    let all = rules_of c.args.synopsis.arguments.now in
    (ap (λ (a : App). with_rules a all) c.new-command.ensures.app, c.new-command.ensures.local)

pub loop-argument-preserved : goal.loop-argument-preserved
loop-argument-preserved c =
    let within : c.loop-argument.argument-index < length c.args.synopsis.arguments.now = omega arith in (
      rule_joined _ _ _ _ _ _ within c.rule.ensures.rule (c.in_ok-command.ensures.shape c.rule.ensures.local) ∙ c.loop-argument.invariant.0,
      search rules,
    )
