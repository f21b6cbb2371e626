use Rattle.std.proofs.Common.{◌/◌, sym, ap, ◌∙◌, refl, arith}
use Rattle.std.specs.Str.Parse.{digits_value}
use Rattle.pg_text.proofs.Hex.{digits_value-hex_text, word_below}
use Rattle.pg_text.proofs.HexBytes.{word_written}
use Rattle.pg_text.proofs.word.hex_word.Goals as goal

pub returns-clause-text : goal.returns-clause-text
returns-clause-text c =
    word_written c.args.w (c.args.w / 8) _ _ c.args.value c.to_bytes-bytes.result _ _ c.encode_to_slice-written.result c.requires.bytes refl (omega arith) (omega arith) (c.to_bytes-bytes.ensures (c.args.w / 8) (omega arith)) (sym c.is_ok.ensures.value ∙ c.if-prove.false) c.encode_to_slice-written.ensures.written

pub returns-clause-value : goal.returns-clause-value
returns-clause-value c =
    ap (digits_value 16) (returns-clause-text c) ∙ digits_value-hex_text (c.args.w / 4) c.args.value (word_below c.args.w c.args.value c.requires.bytes c.requires.fits)
