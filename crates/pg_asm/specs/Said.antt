-- What the lines of a source say, each by its parts.
use Rattle.std.specs.Prelude.{ℕ, ◌-◌, Bool, ◌&&◌, ◌==◌, nat_le, if◌then◌else◌, List, [], ◌∷◌, length, take, drop, slice_index, codes, bytes_eq, Option, None, Some}
use Rattle.std.specs.Option.{option_map}
use Rattle.pg_lang_token.specs.Words.{is_name}
use Rattle.pg_text.specs.Cutting.{dec_number}
use Rattle.pg_text.specs.Printing.{hex_word_of}
use Rattle.pg_lang_valid.specs.Overlaps.{is_field_letter}

-- a value: a number below 2^64, or the place of a label
pub data Value : Type 0 where
  Number : ℕ → Value
  Named : List ℕ → Value

-- a value for the field of a letter
pub record Operand : Type 0 where
  pub letter : ℕ
  pub value : Value

-- what a line says: nothing; the place of the next word; a label for the place that is reached; a word; or an instruction
pub data Said : Type 0 where
  Blank : Said
  At : ℕ → Said
  Label : List ℕ → Said
  Word : ℕ → Said
  Instr : List ℕ → List Operand → Said

-- the most digits of a place
abbrev pub most_place_digits : ℕ
most_place_digits = 7

-- ---- values

-- decimal digits, or a name
abbrev pub value_said : List ℕ → Option Value
value_said text = elim (dec_number text) [ Some v ↦ Some (Number v) | None ↦ if is_name text then Some (Named text) else None ]

-- a part that begins with a letter from 'a' to 'z' and '='
abbrev pub begins_operand : List ℕ → Bool
begins_operand part = nat_le 2 (length part) && is_field_letter (slice_index part 0) && (slice_index part 1 == 61)

-- `f=V`
abbrev pub operand_said : List ℕ → Option Operand
operand_said part =
    if begins_operand part then option_map (λ v. record { letter = slice_index part 0; value = v }) (value_said (drop 2 part)) else None

-- one more in front
abbrev pub in_front : {X : Type 0} → Option X → Option (List X) → Option (List X)
in_front None xs = None
in_front (Some x) None = None
in_front (Some x) (Some xs) = Some (x ∷ xs)

-- each part is `f=V`
unfoldable pub operands_said : List (List ℕ) → Option (List Operand)
operands_said [] = Some []
operands_said (part ∷ parts) = in_front (operand_said part) (operands_said parts)

-- ---- lines

-- behind `@`: from 1 to 7 decimal digits
abbrev pub place_said : List ℕ → Option ℕ
place_said digits = if nat_le (length digits) most_place_digits then dec_number digits else None

-- `NAME:`
abbrev pub label_said : List ℕ → Option (List ℕ)
label_said part =
    if (slice_index part (length part - 1) == 58) && is_name (take (length part - 1) part) then Some (take (length part - 1) part) else None

-- a place or a label
abbrev pub mark_said : List ℕ → Option Said
mark_said [] = None
mark_said (c ∷ cs) = if c == 64 then option_map At (place_said cs) else option_map Label (label_said (c ∷ cs))

-- a line of one part alone
abbrev pub alone : List (List ℕ) → Option Said → Option Said
alone behind said = if length behind == 0 then said else None

-- what stands behind `word`: one part
abbrev pub word_said : ℕ → List (List ℕ) → Option Said
word_said w [] = None
word_said w (part ∷ rest) = alone rest (option_map Word (hex_word_of w part))

-- what the parts of a line say, for words of w bits; `None` where they are of another form
abbrev pub said_of : ℕ → List (List ℕ) → Option Said
said_of w [] = Some Blank
said_of w (head ∷ rest) =
    if bytes_eq head (codes "word") then word_said w rest
    else (if is_name head then option_map (Instr head) (operands_said rest)
    else alone rest (mark_said head))
