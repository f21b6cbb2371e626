-- The text that `clap` hands out is the first value of the argument's row.
use Rattle.std.proofs.Common.{◌∙◌, ◌≡◌, ap, sym, ℕ, List, Some}
use Rattle.std.specs.Option.{is_some, option_map}
use Rattle.std.proofs.lemmas.Result.{IfOk-weaker}
use Rattle.clap.specs.Words.{first_of, found_of, rows_of}
use Rattle.clap.proofs.CallerLemmas.{some_of_text}
use Rattle.clap.proofs.WalkLemmas.{first_value-rows}
use Rattle.pg_cli_parse.proofs.arguments.text.Goals as goal

pub unwrap-requires : goal.unwrap-requires
unwrap-requires c = some_of_text _ c.get_str.result _ c.get_str.ensures (ap is_some (first_value-rows (found_of c.args.matches.now) c.args.id.now) ∙ c.requires)

pub returns : goal.returns
returns c =
    let id = c.args.id.now in
    let f = found_of c.args.matches.now in
    let first : first_of id (rows_of f) ≡ Some c.unwrap.result.now = sym (first_value-rows f id) ∙ sym c.get_str.ensures ∙ ap (option_map (λ t. t.now)) c.unwrap.ensures in
    IfOk-weaker c.from_str.result _ _ (λ t e. first ∙ ap (λ (bytes : List ℕ). Some bytes) (sym e)) c.from_str.ensures.ok
