-- What the loops over the table build.
use Rattle.std.proofs.Common.{◌≡◌, ◌∙◌, ◌++◌, ◌+◌, ◌<◌, ap, sym, ℕ, List, [], ◌∷◌, map, drop, length, slice_index_or}
use Rattle.std.proofs.lemmas.List.{append_assoc, drop_more}
use Rattle.std.specs.Prelude.{fold}
use Rattle.clap.specs.Walk.{Rule}
use Rattle.clap.specs.Simple.{App, with_rule, with_subcommand}
use Rattle.pg_cli_table.specs.Commands.{synopsis}
use Rattle.pg_cli_table.specs.Synopses.{Synopsis, argument_of}
use Rattle.pg_cli_table.specs.declared.synopsis.Argument.{Argument}
use Rattle.pg_cli_table.specs.declared.names.CommandName.{CommandName}
use Rattle.pg_cli_parse.specs.Arguments.{rule}
use Rattle.pg_cli_parse.specs.Line.{shape}

-- a command with these arguments after its own
abbrev pub with_rules : App → List Rule → App
with_rules a rules = record a { top = record a.top { rules = a.top.rules ++ rules } }

pub with_rule_first : (a : App) (r : Rule) (rules : List Rule) → with_rules (with_rule a r) rules ≡ with_rules a (r ∷ rules)
with_rule_first a r rules = ap (λ (rs : List Rule). record a { top = record a.top { rules = rs } }) (append_assoc a.top.rules (r ∷ []) rules)

-- the rules of these arguments
abbrev pub rules_of : List Argument → List Rule
rules_of arguments = map rule (map argument_of arguments)

-- one argument more has joined
pub rule_joined : (arguments : List Argument) (i : ℕ) (d : Argument) (old new : App) (r : Rule) → i < length arguments
    → r ≡ rule (argument_of (slice_index_or arguments i d)) → new ≡ with_rule old r
    → with_rules new (rules_of (drop (i + 1) arguments)) ≡ with_rules old (rules_of (drop i arguments))
rule_joined arguments i d old new r within is joined =
    let rest = rules_of (drop (i + 1) arguments) in
    ap (λ (a : App). with_rules a rest) joined ∙ with_rule_first old r rest ∙ ap (λ (x : Rule). with_rules old (x ∷ rest)) is
    ∙ ap (λ (xs : List Argument). with_rules old (rules_of xs)) (sym (drop_more arguments i d within))

-- a line with these commands in turn
abbrev pub with_commands : App → List CommandName → App
with_commands = fold (λ a command. with_subcommand a (shape (synopsis command)))

-- one command more has joined
pub command_joined : (cs : List CommandName) (i : ℕ) (d : CommandName) (old new : App) (s : Synopsis) → i < length cs
    → s ≡ synopsis (slice_index_or cs i d) → new ≡ with_subcommand old (shape s)
    → with_commands new (drop (i + 1) cs) ≡ with_commands old (drop i cs)
command_joined cs i d old new s within is joined =
    let rest = drop (i + 1) cs in
    ap (λ (a : App). with_commands a rest) joined ∙ ap (λ (x : Synopsis). with_commands (with_subcommand old (shape x)) rest) is
    ∙ ap (with_commands old) (sym (drop_more cs i d within))
