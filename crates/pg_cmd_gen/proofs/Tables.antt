-- Names and patterns of the instructions there can be: each fact is a test of every number below 60, which is computed once.
use Rattle.std.proofs.Common.{◌≡◌, ℕ, zero, suc, ◌<◌, Bool, true, false, not, ◌&&◌, ◌==◌, List, [], ◌∷◌, ◌++◌, Option, None, Some, IsTrue, refl}
use Rattle.std.specs.List.{list_all}
use Rattle.std.specs.Fmt.{digits}
use Rattle.std.proofs.lemmas.Bool.{false≢true, eqb-true, and_parts, not-true, agree_below, agree_below_at}
use Rattle.pg_lang_token.specs.Words.{is_name, is_pattern_byte}
use Rattle.pg_lang_meaning.specs.Patterns.{Field, run_length, field_of_letter}
use Rattle.pg_lang_valid.specs.Twice.{is_among}
use Rattle.pg_lang_valid.specs.Overlaps.{is_well_formed, has_split_letter, clash}
use Rattle.pg_cmd_gen.specs.Generated.{bits_text, name_at, pattern_at}

abbrev always : ℕ → Bool
always n = true

-- a test holds of each number below one
abbrev HoldsBelow : (ℕ → Bool) → ℕ → Type 0
HoldsBelow test n = agree_below test always n ≡ true

at_number : (test : ℕ → Bool) (n k : ℕ) → HoldsBelow test n → k < n → test k ≡ true
at_number test n k h below = agree_below_at test always n k h below

-- the names of the instructions below a number
abbrev pub names_below : ℕ → List (List ℕ)
names_below zero = []
names_below (suc n) = names_below n ++ name_at n ∷ []

-- a field of 8 bits, with so many below it
abbrev pub byte_at : ℕ → Field
byte_at low = record { width = 8; low = low }

-- the fields that bodies name
pub record HasFields (pattern : List ℕ) : Type 0 where
  pub x : field_of_letter 120 pattern ≡ Some (byte_at 16)
  pub y : field_of_letter 121 pattern ≡ Some (byte_at 8)
  pub z : field_of_letter 122 pattern ≡ Some (byte_at 0)

-- ---- tests

abbrev is_byte_at : ℕ → Option Field → Bool
is_byte_at low None = false
is_byte_at low (Some f) = (f.width == 8) && (f.low == low)

abbrev has_name : ℕ → Bool
has_name k = is_name (name_at k)

abbrev has_new_name : ℕ → Bool
has_new_name k = not (is_among (names_below k) (name_at k))

abbrev has_pattern : ℕ → Bool
has_pattern k = list_all is_pattern_byte (pattern_at k)

abbrev has_formed_pattern : ℕ → Bool
has_formed_pattern k = is_well_formed 32 (pattern_at k)

abbrev has_byte_at : ℕ → ℕ → ℕ → Bool
has_byte_at letter low k = is_byte_at low (field_of_letter letter (pattern_at k))

abbrev clash_at : ℕ → ℕ → Bool
clash_at k j = clash (pattern_at j) (pattern_at k)

abbrev clashes_below : ℕ → Bool
clashes_below k = agree_below (clash_at k) always k

-- ---- tables

names_table : HoldsBelow has_name 60
unfolding digits
names_table = refl

new_names_table : HoldsBelow has_new_name 60
unfolding digits
new_names_table = refl

patterns_table : HoldsBelow has_pattern 60
unfolding bits_text
patterns_table = refl

formed_table : HoldsBelow has_formed_pattern 60
unfolding bits_text has_split_letter run_length
formed_table = refl

x_table : HoldsBelow (has_byte_at 120 16) 60
unfolding bits_text field_of_letter run_length
x_table = refl

y_table : HoldsBelow (has_byte_at 121 8) 60
unfolding bits_text field_of_letter run_length
y_table = refl

z_table : HoldsBelow (has_byte_at 122 0) 60
unfolding bits_text field_of_letter run_length
z_table = refl

clash_table : HoldsBelow clashes_below 60
unfolding bits_text clash
clash_table = refl

-- ---- what they say

field_is : (width low at : ℕ) → width ≡ 8 → low ≡ at → Some (record { width = width; low = low }) ≡ Some (byte_at at)
field_is width low at e f = cc

byte-is : (low : ℕ) (field : Option Field) → is_byte_at low field ≡ true → field ≡ Some (byte_at low)
byte-is low None h = absurd (false≢true h)
byte-is low (Some f) h =
    let parts = and_parts (f.width == 8) (f.low == low) h in
    field_is f.width f.low low (eqb-true f.width 8 parts.0) (eqb-true f.low low parts.1)

pub name_at-is_name : (k : ℕ) → k < 60 → IsTrue (is_name (name_at k))
name_at-is_name k below = at_number has_name 60 k names_table below

pub name_at-new : (k : ℕ) → k < 60 → is_among (names_below k) (name_at k) ≡ false
name_at-new k below = not-true (is_among (names_below k) (name_at k)) (at_number has_new_name 60 k new_names_table below)

pub pattern_at-is_pattern : (k : ℕ) → k < 60 → IsTrue (list_all is_pattern_byte (pattern_at k))
pattern_at-is_pattern k below = at_number has_pattern 60 k patterns_table below

pub pattern_at-formed : (k : ℕ) → k < 60 → is_well_formed 32 (pattern_at k) ≡ true
pattern_at-formed k below = at_number has_formed_pattern 60 k formed_table below

pub pattern_at-fields : (k : ℕ) → k < 60 → HasFields (pattern_at k)
pattern_at-fields k below = record {
  x = byte-is 16 (field_of_letter 120 (pattern_at k)) (at_number (has_byte_at 120 16) 60 k x_table below);
  y = byte-is 8 (field_of_letter 121 (pattern_at k)) (at_number (has_byte_at 121 8) 60 k y_table below);
  z = byte-is 0 (field_of_letter 122 (pattern_at k)) (at_number (has_byte_at 122 0) 60 k z_table below);
}

pub patterns-clash : (j k : ℕ) → j < k → k < 60 → clash (pattern_at j) (pattern_at k) ≡ true
patterns-clash j k before below = at_number (clash_at k) k j (at_number clashes_below 60 k clash_table below) before
