use Rattle.std.proofs.Common.{◌≡◌, take}
use Rattle.std.specs.Prelude.{filter}
use Rattle.pg_lang_token.specs.Words.{is_pattern_byte}
use Rattle.pg_text.proofs.piece.pattern_bytes.Given as goal

abbrev pub invariant-loop-byte : goal.invariant-loop-byte
invariant-loop-byte l = l.bytes.items ≡ filter is_pattern_byte (take l.byte-index l.inner)
