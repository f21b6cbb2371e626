-- Words as hexadecimal digits.
use Rattle.std.specs.Prelude.{ℕ, zero, suc, ◌/◌, ◌%◌, false, ◌&&◌, ◌==◌, if◌then◌else◌, List, [], ◌∷◌, ◌++◌, length, Option, None, Some}
use Rattle.std.specs.List.{list_all}
use Rattle.std.specs.Char.{is_ascii_hexdigit}
use Rattle.std.specs.Str.Parse.{digits_value}
use Rattle.std.specs.Fmt.{digit_glyph}

-- the last n hexadecimal digits of a number, in lower case
unfoldable pub hex_text : ℕ → ℕ → List ℕ
hex_text zero value = []
hex_text (suc n) value = hex_text n (value / 16) ++ digit_glyph false (value % 16) ∷ []

-- the word of w bits that w / 4 hexadecimal digits of either case write
abbrev pub hex_word_of : ℕ → List ℕ → Option ℕ
hex_word_of w digits = if (length digits == w / 4) && list_all is_ascii_hexdigit digits then Some (digits_value 16 digits) else None
