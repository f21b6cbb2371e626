use Rattle.std.proofs.Common.{◌/◌, ◌∷◌, ◌++◌, ap, ◌∙◌}
use Rattle.pg_text.specs.Printing.{hex_text}
use Rattle.pg_cert.proofs.Spacing.{spaced_more}
use Rattle.pg_cert.proofs.put.put_words.Goals as goal

pub loop-word-preserved : goal.loop-word-preserved
loop-word-preserved c =
    let old = c.loop-word.into.items in
    spaced_more (hex_text (c.args.w / 4)) c.args.words.now c.loop-word.word-index 0 old c.put_part.new.into.items _ c.loop-word-test.true
    (c.in_ok-put_part.ensures ∙ ap (λ t. old ++ 32 ∷ t) (c.as_slice.ensures.value ∙ c.hex_word.ensures.text)) c.loop-word.invariant
