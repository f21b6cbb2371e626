-- The parse fails by the line's faults, and where it has none the command that was named says what is asked for.
use Rattle.std.proofs.Common.{◌≡◌, ◌∙◌, ap, sym, subst, [], map, string_bytes, Global}
use Rattle.clap.specs.Words.{App, fault_of, is_simple, is_simple_and_free, subcommand_of, subcommand_rows_of}
use Rattle.pg_cli_parse.specs.Asked.{named_as}
use Rattle.pg_cli_parse.specs.Line.{line}
use Rattle.pg_cli_parse.specs.Entered.{HoldsCommand}
use Rattle.pg_cli_parse.proofs.AnswerLaws.{asks_by_name, asks_nothing, nothing_at_fault, refusal_has_fault}
use Rattle.pg_cli_parse.proofs.LineLaws.{line_holds, line_plain, line_simple}
use Rattle.pg_cli_parse.proofs.request.Goals as goal

pub returns-in-Err-try_get_matches_from-clause-refused : goal.returns-in-Err-try_get_matches_from-clause-refused
returns-in-Err-try_get_matches_from-clause-refused c refused =
    let words = map (string_bytes {Z = Global}) c.args.words.now in
    let failed = c.in-Err-try_get_matches_from.ensures.kinds (ap is_simple_and_free c.in-Ok.ensures ∙ line_simple) in
    asks_nothing words (λ none. refusal_has_fault _ _ _ failed (λ e. c.cause.ensures.memory (c.kind.ensures ∙ e)) refused (ap (λ (a : App). fault_of a words) c.in-Ok.ensures ∙ none))

pub asked-requires : goal.asked-requires
asked-requires c =
    let words = map (string_bytes {Z = Global}) c.args.words.now in
    let line_is = c.in-Ok.ensures in
    let fine : fault_of line words ≡ [] = ap (λ (a : App). fault_of a words) (sym line_is) ∙ c.in-Ok-try_get_matches_from.ensures.kinds (ap is_simple_and_free line_is ∙ line_simple) in
    let named : subcommand_rows_of c.in-Ok-try_get_matches_from.matches ≡ subcommand_of line words =
    (c.in-Ok-try_get_matches_from.ensures.matches (ap is_simple line_is ∙ line_plain)).1 ∙ ap (λ (a : App). subcommand_of a words) line_is in
    subst HoldsCommand (sym named) (line_holds words fine)

pub returns-in-Ok-Some-clause-ok : goal.returns-in-Ok-Some-clause-ok
returns-in-Ok-Some-clause-ok c =
    let words = map (string_bytes {Z = Global}) c.args.words.now in
    let line_is = c.in-Ok.ensures in
    let fine : fault_of line words ≡ [] = ap (λ (a : App). fault_of a words) (sym line_is) ∙ c.in-Ok-try_get_matches_from.ensures.kinds (ap is_simple_and_free line_is ∙ line_simple) in
    let named : subcommand_rows_of c.in-Ok-try_get_matches_from.matches ≡ subcommand_of line words =
    (c.in-Ok-try_get_matches_from.ensures.matches (ap is_simple line_is ∙ line_plain)).1 ∙ ap (λ (a : App). subcommand_of a words) line_is in
    asks_by_name words fine ∙ ap named_as (sym named) ∙ c.in-Ok-Some.ensures ∙ c.in-Ok-Some.field-0-is

pub returns-in-Ok-None-clause-refused : goal.returns-in-Ok-None-clause-refused
returns-in-Ok-None-clause-refused c refused =
    let words = map (string_bytes {Z = Global}) c.args.words.now in
    let line_is = c.in-Ok.ensures in
    let fine : fault_of line words ≡ [] = ap (λ (a : App). fault_of a words) (sym line_is) ∙ c.in-Ok-try_get_matches_from.ensures.kinds (ap is_simple_and_free line_is ∙ line_simple) in
    let named : subcommand_rows_of c.in-Ok-try_get_matches_from.matches ≡ subcommand_of line words =
    (c.in-Ok-try_get_matches_from.ensures.matches (ap is_simple line_is ∙ line_plain)).1 ∙ ap (λ (a : App). subcommand_of a words) line_is in
    asks_by_name words fine ∙ ap named_as (sym named) ∙ c.in-Ok-None.ensures ∙ c.in-Ok-None.field-0-is

pub returns-in-Err-clause-faults : goal.returns-in-Err-clause-faults
returns-in-Err-clause-faults c = nothing_at_fault _

pub returns-in-Err-try_get_matches_from-clause-faults : goal.returns-in-Err-try_get_matches_from-clause-faults
returns-in-Err-try_get_matches_from-clause-faults c = nothing_at_fault _

pub returns-in-Ok-Some-clause-faults : goal.returns-in-Ok-Some-clause-faults
returns-in-Ok-Some-clause-faults c = nothing_at_fault _

pub returns-in-Ok-None-clause-faults : goal.returns-in-Ok-None-clause-faults
returns-in-Ok-None-clause-faults c = nothing_at_fault _

pub returns-clause-faults : goal.returns-clause-faults
returns-clause-faults c = nothing_at_fault _
