-- The texts that `clap` hands out are the values of the argument's row.
use Rattle.std.proofs.Common.{◌≡◌, ◌≤◌, ◌∙◌, ap, sym, refl, true, List, [], length, map, Option, Some, None, arith, unwrap_or}
use Rattle.std.specs.Option.{is_some, option_map}
use Rattle.clap.specs.Words.{Text, all_of, found_of, rows_of}
use Rattle.clap.proofs.CallerLemmas.{some_of_text}
use Rattle.clap.proofs.WalkLemmas.{raw_values-rows}
use Rattle.pg_cli_parse.proofs.arguments.texts.Goals as goal

some_texts : (o : Option (List Text)) → 1 ≤ length (unwrap_or o []) → is_some o ≡ true
some_texts None some = absurd (omega arith)
some_texts (Some texts) some = refl

pub unwrap-requires : goal.unwrap-requires
unwrap-requires c =
    let id = c.args.id.now in
    let f = found_of c.args.matches.now in
    some_of_text _ c.get_strs.result _ (c.get_strs.ensures ∙ raw_values-rows f id) (some_texts (all_of id (rows_of f)) c.requires)

pub returns : goal.returns
returns c =
    let id = c.args.id.now in
    let f = found_of c.args.matches.now in
    let all : all_of id (rows_of f) ≡ Some (map (λ text. text.now) c.unwrap.result.now) =
    sym (raw_values-rows f id) ∙ sym c.get_strs.ensures ∙ ap (option_map (λ s. map (λ text. text.now) s.now)) c.unwrap.ensures in
    sym (ap (λ (o : Option (List Text)). unwrap_or o []) all)
