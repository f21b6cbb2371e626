-- *WordOf*: the word of an instruction and of values for its fields, and what a word is decoded to.
use Rattle.std.specs.Prelude.{◌≡◌, ℕ, ◌+◌, ◌-◌, ◌*◌, ◌^◌, Bool, true, false, not, ◌&&◌, ◌||◌, ◌==◌, nat_lt, if◌then◌else◌, List, [], ◌∷◌, length, drop, map, slice_get, slice_index, Option, None, Some}
use Rattle.std.specs.Option.{option_map}
use Rattle.pg_ast.specs.declared.tree.Instr.{Instr}
use Rattle.pg_lang_meaning.specs.Patterns.{byte_0, byte_1, bit_of_word, matches, run_length, field_value, matching_number}
use Rattle.pg_lang_meaning.specs.Opcodes.{wanted_bit}
use Rattle.pg_lang_valid.specs.Overlaps.{is_field_letter}
use Rattle.pg_asm.specs.declared.fields.LetterField.{LetterField}

-- ---- the fields of a pattern

-- whether a field begins at a place: a letter stands there, and another byte before it
abbrev pub begins_field : (before c : ℕ) → Bool
begins_field before c = is_field_letter c && not (c == before)

-- how many of the places behind a letter are of its run, and how many bits stand below that
abbrev pub field_here : ℕ → List ℕ → LetterField
field_here c cs = record { letter = c; width = 1 + run_length c cs; low = length cs - run_length c cs }

-- the fields that begin in the places behind the byte `before`, from the highest
unfoldable pub fields_behind : ℕ → List ℕ → List LetterField
fields_behind before [] = []
fields_behind before (c ∷ cs) = if begins_field before c then field_here c cs ∷ fields_behind c cs else fields_behind c cs

-- the fields of a pattern, from the highest
abbrev pub fields_of : List ℕ → List LetterField
fields_of pattern = fields_behind 0 pattern

-- the bits of a word that stand in a field
abbrev pub value_in : ℕ → LetterField → ℕ
value_in word f = field_value (record { width = f.width; low = f.low }) word

-- the values of a word's fields
abbrev pub values_in : List ℕ → ℕ → List ℕ
values_in pattern word = map (value_in word) (fields_of pattern)

-- as many values as fields, each of no more bits than its field
unfoldable pub fit : List LetterField → List ℕ → Bool
fit [] [] = true
fit [] (v ∷ vs) = false
fit (f ∷ fs) [] = false
fit (f ∷ fs) (v ∷ vs) = nat_lt v (2 ^ f.width) && fit fs vs

-- ---- words

-- whether a place counts: it is fixed, or a field's. The other places are free.
abbrev pub counts : ℕ → Bool
counts c = (c == byte_0) || (c == byte_1) || is_field_letter c

-- a word with 0 in the free places, and above the pattern
unfoldable pub kept_bits : List ℕ → ℕ → ℕ
kept_bits [] word = 0
kept_bits (c ∷ cs) word = (if counts c then bit_of_word word (length cs) else 0) * 2 ^ length cs + kept_bits cs word

-- *WordOf*: a word has the pattern's fixed bits, the values in the fields, and 0 in free places
pub record IsWordOf (pattern values : List ℕ) (word : ℕ) : Type 0 where
  pub fixed : matches pattern word ≡ true
  pub fields : values_in pattern word ≡ values
  pub free : kept_bits pattern word ≡ word

-- the sum of what each place behind the byte `before` adds: where a field begins its value, and else the bit that is wanted
unfoldable pub word_behind : (before : ℕ) (cs values : List ℕ) → ℕ
word_behind before [] values = 0
word_behind before (c ∷ cs) values =
    if begins_field before c then slice_index values 0 * 2 ^ (length cs - run_length c cs) + word_behind c cs (drop 1 values)
    else wanted_bit c * 2 ^ length cs + word_behind c cs values

-- the word that is *WordOf*, where the values fit
abbrev pub word_by : (pattern values : List ℕ) → ℕ
word_by pattern values = word_behind 0 pattern values

-- ---- instructions

-- the pattern of the instruction of a number
abbrev pub pattern_of : List Instr → ℕ → List ℕ
pattern_of is k = elim (slice_get is k) [ Some i ↦ i.pattern.bytes | None ↦ [] ]

-- the number of the instruction whose pattern matches a word, and the values of its fields there
abbrev pub decoded : List Instr → ℕ → Option (ℕ × List ℕ)
decoded is word = option_map (λ k. (k, values_in (pattern_of is k) word)) (matching_number is 0 word)
