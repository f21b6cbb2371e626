use Rattle.std.proofs.Common.{◌++◌, arith, ap, sym, ◌∙◌}
use Rattle.std.proofs.lemmas.Bool.{eqb-true}
use Rattle.pg_verify.specs.Reader.{Progress}
use Rattle.pg_verify.proofs.FeedLemmas.{piece_told, no_bytes}
use Rattle.pg_verify.proofs.reading.Reading.take_piece.Goals as goal

pub returns-then-is_empty-clause-told : goal.returns-then-is_empty-clause-told
returns-then-is_empty-clause-told c =
    let rest = c.self.inside.rest in
    let none = no_bytes rest.items (omega (arith, eqb-true rest.len 0 (sym c.is_empty.ensures ∙ c.if-is_empty.true), rest.ok.0)) in
    piece_told c.args.self.now _ c.take_whole.new.self c.args.piece.now c.args.piece.now _ c.take_whole.result c.self.view_is (ap (λ xs. xs ++ c.args.piece.now) (sym none)) none
    c.requires.ends c.requires.once (omega (arith, c.requires.within, ap (λ (p : Progress). p.fed) c.self.view_is)) c.take_whole.ensures.told

pub returns-clause-told : goal.returns-clause-told
returns-clause-told c =
    let told = c.in_ok-extend_from_slice.ensures in
    let joined = told.items in
    let after = c.replace-line.ensures.after in
    let items = c.new.ensures.items in
    let value = c.replace-line.ensures.value in
    let slice = c.as_slice.ensures.value in
    piece_told c.args.self.now _ c.take_whole-2.new.self c.args.piece.now _ _ c.take_whole-2.result c.self.view_is (cc) (cc) c.requires.ends c.requires.once
    (omega (arith, c.requires.within, ap (λ (p : Progress). p.fed) c.self.view_is)) c.take_whole-2.ensures.told
