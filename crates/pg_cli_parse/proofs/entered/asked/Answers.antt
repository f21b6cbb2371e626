-- The name that was entered is that of a command, whose arguments hold what it wants.
use Rattle.std.proofs.Common.{◌∙◌, ap, sym}
use Rattle.std.specs.Prelude.{option_map}
use Rattle.std.specs.Option.{is_some}
use Rattle.std.proofs.lemmas.Result.{IfOk-weaker}
use Rattle.clap.specs.Words.{found_of, rows_of}
use Rattle.pg_cli_parse.proofs.EnteredLaws.{asks_as, entered_name, entered_rows, held_of}
use Rattle.pg_cli_parse.proofs.entered.asked.Goals as goal

pub unwrap-command-requires : goal.unwrap-command-requires
unwrap-command-requires c =
    let name = sym (ap (option_map (λ p. p.0.now)) c.unwrap-entered.ensures) ∙ c.subcommand.ensures.name in
    ap is_some (c.named.ensures ∙ entered_name c.args.matches.now c.requires _ name)

pub asked_of-requires : goal.asked_of-requires
asked_of-requires c =
    let m = c.args.matches.now in
    let name = sym (ap (option_map (λ p. p.0.now)) c.unwrap-entered.ensures) ∙ c.subcommand.ensures.name in
    let rows = sym (ap (option_map (λ p. rows_of (found_of p.1.now))) c.unwrap-entered.ensures) ∙ c.subcommand.ensures.rows in
    held_of m c.requires _ _ (sym c.unwrap-command.ensures ∙ c.named.ensures ∙ entered_name m c.requires _ name) (entered_rows m c.requires _ rows)

pub returns : goal.returns
returns c =
    let m = c.args.matches.now in
    let name = sym (ap (option_map (λ p. p.0.now)) c.unwrap-entered.ensures) ∙ c.subcommand.ensures.name in
    let rows = sym (ap (option_map (λ p. rows_of (found_of p.1.now))) c.unwrap-entered.ensures) ∙ c.subcommand.ensures.rows in
    let asks = asks_as m c.requires _ _ (sym c.unwrap-command.ensures ∙ c.named.ensures ∙ entered_name m c.requires _ name) (entered_rows m c.requires _ rows) in
    IfOk-weaker c.asked_of.result _ _ (λ r is. asks ∙ is) c.asked_of.ensures
