-- The fourth and fifth classes of validity: patterns of the wrong form, and patterns that match one word.
use Rattle.std.specs.Prelude.{ℕ, ◌+◌, Bool, false, not, ◌&&◌, ◌||◌, ◌==◌, nat_le, if◌then◌else◌, List, [], ◌∷◌, length, drop, Option, None, Some}
use Rattle.std.specs.List.{list_any}
use Rattle.pg_ast.specs.declared.tree.Instr.{Instr}
use Rattle.pg_lang_meaning.specs.Patterns.{byte_0, byte_1, run_length}

-- a small letter
abbrev pub is_field_letter : ℕ → Bool
is_field_letter c = nat_le 97 c && nat_le c 122

-- a letter of the pattern stands in two runs
unfoldable pub has_split_letter : List ℕ → Bool
has_split_letter [] = false
has_split_letter (c ∷ cs) =
    (is_field_letter c && list_any (λ later. later == c) (drop (run_length c cs) cs)) || has_split_letter cs

-- a pattern lists the w bits of a word, each letter in one run
abbrev pub is_well_formed : ℕ → List ℕ → Bool
is_well_formed w pattern = (length pattern == w) && not (has_split_letter pattern)

-- the first instruction whose pattern is not of that form; the first here has number k
unfoldable pub pattern_broken : ℕ → ℕ → List Instr → Option ℕ
pattern_broken w k [] = None
pattern_broken w k (i ∷ others) = (if is_well_formed w i.pattern.bytes then pattern_broken w (k + 1) others else Some k)

-- one byte wants the bit that the other forbids
abbrev pub bytes_clash : ℕ → ℕ → Bool
bytes_clash c d = ((c == byte_0) && (d == byte_1)) || ((c == byte_1) && (d == byte_0))

-- at some place one pattern has 0 and the other 1
unfoldable pub clash : List ℕ → List ℕ → Bool
clash [] q = false
clash (c ∷ cs) [] = false
clash (c ∷ cs) (d ∷ ds) = bytes_clash c d || clash cs ds

-- the first of these instructions whose pattern overlaps with p; the first here has number k
unfoldable pub overlap_with : List ℕ → ℕ → List Instr → Option ℕ
overlap_with p k [] = None
overlap_with p k (i ∷ others) = (if clash p i.pattern.bytes then overlap_with p (k + 1) others else Some k)

abbrev pub paired : ℕ → Option ℕ → Option (ℕ × ℕ) → Option (ℕ × ℕ)
paired k None later = later
paired k (Some j) later = Some (k, j)

-- the first pair of instructions whose patterns overlap: the least first number, then the least second
unfoldable pub overlap : ℕ → List Instr → Option (ℕ × ℕ)
overlap k [] = None
overlap k (i ∷ others) = paired k (overlap_with i.pattern.bytes (k + 1) others) (overlap (k + 1) others)
