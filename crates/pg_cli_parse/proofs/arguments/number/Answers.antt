-- The number that `clap` reads is the one that the text of the argument's row writes.
use Rattle.std.proofs.Common.{◌∙◌, ◌≡◌, ap, sym}
use Rattle.std.specs.Prelude.{option_map}
use Rattle.std.specs.Option.{is_some}
use Rattle.std.specs.Str.Parse.{ExplainsUnsignedError, HasUnsignedDigitsIfOk, ParsesUnsigned}
use Rattle.clap.specs.Words.{found_of, one_of, rows_of}
use Rattle.clap.proofs.WalkLemmas.{one_text-rows}
use Rattle.pg_cli_parse.specs.Arguments.{number_of}
use Rattle.pg_cli_parse.proofs.NumberLaws.{reads_number}
use Rattle.pg_cli_parse.proofs.arguments.number.Goals as goal

pub unwrap-requires : goal.unwrap-requires
unwrap-requires c =
    let id = c.args.id.now in
    let found = found_of c.args.matches.now in
    let is : option_map number_of (one_of id (rows_of found)) ≡ c.get_one.result =
    reads_number _ (λ bs x. ParsesUnsigned 64 10 bs x × ExplainsUnsignedError 10 bs x × HasUnsignedDigitsIfOk bs x) id (rows_of found) c.get_one.result
    (λ t x g. g.0) (λ t is. c.get_one.ensures.value t (one_text-rows found id ∙ is)) c.requires in
    sym (ap is_some is) ∙ ap (λ o. is_some (option_map number_of o)) c.requires.is_value

pub returns : goal.returns
returns c =
    let id = c.args.id.now in
    let found = found_of c.args.matches.now in
    reads_number _ (λ bs x. ParsesUnsigned 64 10 bs x × ExplainsUnsignedError 10 bs x × HasUnsignedDigitsIfOk bs x) id (rows_of found) c.get_one.result
    (λ t x g. g.0) (λ t is. c.get_one.ensures.value t (one_text-rows found id ∙ is)) c.requires ∙ c.unwrap.ensures
