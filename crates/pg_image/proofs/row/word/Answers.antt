use Rattle.std.proofs.Common.{unwrap_or, ap, sym, ◌∙◌, refl}
use Rattle.pg_image.proofs.Words.{word_number}
use Rattle.pg_image.proofs.row.word.Goals as goal

pub unwrap-requires : goal.unwrap-requires
unwrap-requires c = rw (c.hex_word_of.ensures.value, word_number c.args.w c.args.part.now c.requires.word) refl

pub returns-clause-value : goal.returns-clause-value
returns-clause-value c =
    let same = sym c.unwrap.ensures ∙ c.hex_word_of.ensures.value ∙ word_number c.args.w c.args.part.now c.requires.word in
    ap (λ o. unwrap_or o 0) same
