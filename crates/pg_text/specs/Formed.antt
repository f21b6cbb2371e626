-- What each token of a text holds.
use Rattle.std.specs.Prelude.{◌<◌, ◌^◌, IsTrue}
use Rattle.std.specs.List.{list_all}
use Rattle.pg_lang_token.specs.Words.{is_word, is_pattern_byte}
use Rattle.pg_lang_token.specs.declared.tok.Tok.{Tok}
use Rattle.pg_lang_token.specs.declared.tok.Tok.TheVariants.{Word, Number, Pattern, Sign}

-- a word's bytes make a word, a number is below 2 ^ 64, and a pattern's bytes may stand in a pattern
abbrev pub IsFormed : Tok → Type 0
IsFormed (Word bytes) = IsTrue (is_word bytes)
IsFormed (Number value) = value < 2 ^ 64
IsFormed (Pattern bytes) = IsTrue (list_all is_pattern_byte bytes)
IsFormed (Sign s) = Unit {0}
