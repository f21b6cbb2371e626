-- The command that a parse entered, by its name and its rows.
use Rattle.std.proofs.Common.{◌≡◌, ◌∙◌, ap, ap₂, refl, sym, subst, List, Option, Some, None, Box, unwrap_or}
use Rattle.std.specs.Prelude.{option_and_then, option_map}
use Rattle.std.specs.Box.{box_value}
use Rattle.clap.specs.Walk.{Row, Text}
use Rattle.clap.specs.Matches.{subcommand_name_of}
use Rattle.clap.specs.Simple.{subcommand_rows, subcommand_rows_of}
use Rattle.clap.specs.declared.parser.matches.ArgMatches.{ArgMatches}
use Rattle.clap.specs.declared.parser.matches.ArgMatches.TheViews.{out-ArgMatches, out-SubCommand}
use Rattle.clap.specs.declared.parser.matches.SubCommand.{SubCommand}
use Rattle.pg_cli_table.specs.Commands.{commands, named, synopsis}
use Rattle.pg_cli_table.specs.declared.names.CommandName.{CommandName}
use Rattle.pg_cli_parse.specs.Asked.{asked_of, named_as}
use Rattle.pg_cli_parse.specs.Entered.{HoldsCommand, HoldsRows}

module _ {Z : Type 0} where
  name_with_rows : (o : Option (Box SubCommand Z)) → option_map (λ b. (out-SubCommand (box_value b)).name.now) o ≡ option_map (λ p. p.0) (subcommand_rows o)
  name_with_rows None = refl
  name_with_rows (Some b) = refl

-- the name that was entered
pub name_entered : (m : ArgMatches) (name : Text) (rows : List Row) → subcommand_rows_of m ≡ Some (name, rows) → subcommand_name_of m ≡ Some name
name_entered m name rows is = name_with_rows (out-ArgMatches m).subcommand ∙ ap (option_map (λ p. p.0)) is

-- it is that of the command that holds what it wants
pub entered_name : (m : ArgMatches) (held : HoldsCommand (subcommand_rows_of m)) (name : Text) → Some name ≡ subcommand_name_of m
    → named commands name ≡ Some held.command
entered_name m held name is =
    let same : name ≡ (synopsis held.command).name = ap (λ o. unwrap_or o name) (is ∙ name_entered m _ _ held.is_entered) in
    ap (named commands) same ∙ held.is_named

-- and so are the rows
pub entered_rows : (m : ArgMatches) (held : HoldsCommand (subcommand_rows_of m)) (rows : List Row) → Some rows ≡ option_map (λ p. p.1) (subcommand_rows_of m)
    → rows ≡ held.rows
entered_rows m held rows is = ap (λ o. unwrap_or o rows) (is ∙ ap (option_map (λ p. p.1)) held.is_entered)

pub held_of : (m : ArgMatches) (held : HoldsCommand (subcommand_rows_of m)) (command : CommandName) (rows : List Row) → Some command ≡ Some held.command
    → rows ≡ held.rows → HoldsRows command rows
held_of m held command rows is are =
    subst (λ (rs : List Row). HoldsRows command rs) (sym are)
    (subst (λ (one : CommandName). HoldsRows one held.rows) (sym (ap (λ o. unwrap_or o command) is)) held.holds)

-- what is asked for is what it asks for
pub asks_of : (entered : Option (Text × List Row)) (held : HoldsCommand entered) → named_as entered ≡ asked_of held.command held.rows
asks_of entered held = ap named_as held.is_entered ∙ ap (option_and_then (λ one. asked_of one held.rows)) held.is_named

pub asks_as : (m : ArgMatches) (held : HoldsCommand (subcommand_rows_of m)) (command : CommandName) (rows : List Row) → Some command ≡ Some held.command
    → rows ≡ held.rows → named_as (subcommand_rows_of m) ≡ asked_of command rows
asks_as m held command rows is are =
    asks_of (subcommand_rows_of m) held ∙ sym (ap₂ asked_of (ap (λ o. unwrap_or o command) is) are)
