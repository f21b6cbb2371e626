use Rattle.std.proofs.Common.{◌/◌, sym, ◌∙◌, ap, Some, arith}
use Rattle.pg_text.proofs.HexBytes.{room_len, word_is, word_fits}
use Rattle.pg_text.proofs.word.hex_word_of.Goals as goal

pub returns-in-Ok-clause-value : goal.returns-in-Ok-clause-value
returns-in-Ok-clause-value c =
    let h = word_is c.args.w _ c.args.digits.now c.decode_to_slice.new.out c.decode_to_slice.result c.requires.bytes (room_len (c.args.w / 8) _ (omega arith)) c.decode_to_slice.ensures.value in
    ap Some c.from_bytes.ensures ∙ sym (rw c.in-Ok.is at h)

pub returns-in-Ok-clause-fits : goal.returns-in-Ok-clause-fits
returns-in-Ok-clause-fits c = word_fits c.args.w c.args.digits.now c.from_bytes.result c.requires.bytes (returns-in-Ok-clause-value c)

pub returns-in-Err-clause-value : goal.returns-in-Err-clause-value
returns-in-Err-clause-value c =
    let h = word_is c.args.w _ c.args.digits.now c.decode_to_slice.new.out c.decode_to_slice.result c.requires.bytes (room_len (c.args.w / 8) _ (omega arith)) c.decode_to_slice.ensures.value in
    sym (rw c.in-Err.is at h)
