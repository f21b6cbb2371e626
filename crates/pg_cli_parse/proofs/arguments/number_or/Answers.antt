-- The number that `clap` reads is the one that the text of the argument's row writes, where it has one.
use Rattle.std.proofs.Common.{◌∙◌, sym}
use Rattle.std.specs.Str.Parse.{ExplainsUnsignedError, HasUnsignedDigitsIfOk, ParsesUnsigned}
use Rattle.clap.specs.Words.{found_of, rows_of}
use Rattle.clap.proofs.WalkLemmas.{one_text-rows}
use Rattle.pg_cli_parse.proofs.NumberLaws.{reads_number_or}
use Rattle.pg_cli_parse.proofs.arguments.number_or.Goals as goal

pub returns : goal.returns
returns c =
    let id = c.args.id.now in
    let found = found_of c.args.matches.now in
    reads_number_or _ (λ bs x. ParsesUnsigned 64 10 bs x × ExplainsUnsignedError 10 bs x × HasUnsignedDigitsIfOk bs x) id (rows_of found) c.get_one.result
    c.args.other (λ t x g. g.0) (λ none. c.get_one.ensures.none (one_text-rows found id ∙ none))
    (λ t is. c.get_one.ensures.value t (one_text-rows found id ∙ is)) c.requires ∙ sym c.unwrap_or.ensures
