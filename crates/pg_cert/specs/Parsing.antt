-- What the bytes of one line say. The laws beside it tie this to the spelling: bytes say a line exactly where they are its
-- text, and it is in range.
use Rattle.std.specs.Prelude.{◌≡◌, ℕ, Bool, false, not, ◌&&◌, ◌||◌, ◌==◌, nat_le, if◌then◌else◌, ⊤, List, [], ◌∷◌, length, codes, bytes_eq, Option, None, Some, Result, Ok, Err}
use Rattle.std.specs.List.{list_any, list_all, slice_split}
use Rattle.pg_word.specs.declared.shape.Shape.{Shape}
use Rattle.pg_lang_token.specs.Words.{is_digit}
use Rattle.pg_cert.specs.declared.cert.Family.{Family}
use Rattle.pg_cert.specs.declared.cert.Family.TheVariants.{Plain, Hybrid}
use Rattle.pg_cert.specs.declared.line.Line.{Line}
use Rattle.pg_cert.specs.declared.parse.LineFault.{LineFault}
use Rattle.pg_cert.specs.declared.parse.LineFault.TheVariants as fault
use Rattle.pg_cert.specs.Lines.{line_text, is_line}
use Rattle.pg_cert.specs.Reading.{read_parts, but_last, last_byte, part_at}

-- what bytes say: a line; or nothing, since a byte is foreign, or they are no line; or they begin a certificate of a version
-- that is unknown
pub data Said : Type 0 where
  Says : (line : Line) → Said
  NoToken : Said
  NoForm : Said
  OtherVersion : (family : Family) → Said

-- a byte that no line has
abbrev pub is_foreign : ℕ → Bool
is_foreign c = not (nat_le 32 c && nat_le c 126)

-- bytes but for the LF at their end, if there is one
abbrev pub before_end : List ℕ → List ℕ
before_end bytes = (if last_byte bytes == 10 then but_last bytes else bytes)

abbrev pub parts_of : List ℕ → List (List ℕ)
parts_of bytes = slice_split (λ c. c == 32) (but_last bytes)

-- digits of a number of any size, with no 0 before others
abbrev pub is_decimal : List ℕ → Bool
is_decimal [] = false
is_decimal (c ∷ cs) = list_all is_digit (c ∷ cs) && (not (c == 48) || (length cs == 0))

abbrev pub family_word : Family → List ℕ
family_word Plain = codes "pgcert"
family_word Hybrid = codes "pghybrid"

-- the word of a family, a number, and LF
unfoldable pub is_first : Family → List ℕ → Bool
is_first family bytes =
    (last_byte bytes == 10) && ((length (parts_of bytes) == 2) && (bytes_eq (part_at (parts_of bytes) 0) (family_word family) && is_decimal (part_at (parts_of bytes) 1)))

abbrev pub said_of_no_line : List ℕ → Said
said_of_no_line bytes = (if is_first Plain bytes then OtherVersion Plain else (if is_first Hybrid bytes then OtherVersion Hybrid else NoForm))

-- a line that was read is what bytes say where it is in range and they are its one spelling
abbrev pub said_of_read : Shape → List ℕ → Option Line → Said
said_of_read shape bytes None = said_of_no_line bytes
said_of_read shape bytes (Some line) = (if is_line shape line && bytes_eq bytes (line_text shape line) then Says line else said_of_no_line bytes)

unfoldable pub said : Shape → List ℕ → Said
said shape bytes = (if list_any is_foreign (before_end bytes) then NoToken else said_of_read shape bytes (read_parts shape.w (parts_of bytes)))

-- what is answered of bytes: what they say. Lack of memory says nothing
abbrev pub IsAnswer : Said → Result Line LineFault → Type 0
IsAnswer s (Ok line) = s ≡ Says line
IsAnswer s (Err fault.Token) = s ≡ NoToken
IsAnswer s (Err fault.Grammar) = s ≡ NoForm
IsAnswer s (Err (fault.Version family)) = s ≡ OtherVersion family
IsAnswer s (Err fault.Memory) = ⊤
