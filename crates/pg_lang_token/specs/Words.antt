-- Which bytes make a word, a name and a pattern.
use Rattle.std.specs.Prelude.{ℕ, Bool, false, not, ◌&&◌, ◌||◌, ◌==◌, nat_le, List, [], ◌∷◌, length, codes, bytes_eq}
use Rattle.std.specs.List.{list_all, list_any}

-- a letter of either case
abbrev pub is_letter : ℕ → Bool
is_letter c = (nat_le 65 c && nat_le c 90) || (nat_le 97 c && nat_le c 122)

abbrev pub is_digit : ℕ → Bool
is_digit c = nat_le 48 c && nat_le c 57

-- a letter, a digit or '_'
abbrev pub is_word_byte : ℕ → Bool
is_word_byte c = is_letter c || is_digit c || (c == 95)

-- the most bytes that a word has, and so a name
abbrev pub most_name_bytes : ℕ
most_name_bytes = 32

-- a letter, then letters, digits and '_', few enough
abbrev pub is_word : List ℕ → Bool
is_word [] = false
is_word (c ∷ cs) = is_letter c && list_all is_word_byte cs && nat_le (length (c ∷ cs)) most_name_bytes

-- the words of the description language, which are no names
abbrev pub reserved_words : List (List ℕ)
reserved_words =
    codes "machine" ∷ codes "word" ∷ codes "address" ∷ codes "size" ∷ codes "causes" ∷ codes "instr" ∷ codes "let" ∷
    codes "mem" ∷ codes "pc" ∷ codes "mode" ∷ codes "rel" ∷ codes "bound" ∷ codes "trap" ∷ codes "if" ∷ codes "else" ∷
    codes "cat" ∷ codes "cut" ∷ codes "ext" ∷ codes "sext" ∷ codes "sel" ∷ []

abbrev pub is_reserved : List ℕ → Bool
is_reserved w = list_any (λ r. bytes_eq w r) reserved_words

-- a word that is not reserved
abbrev pub is_name : List ℕ → Bool
is_name w = is_word w && not (is_reserved w)

-- '0' and '1' fix a bit, '.' leaves it free, a small letter is a field
abbrev pub is_pattern_byte : ℕ → Bool
is_pattern_byte c = (c == 48) || (c == 49) || (c == 46) || (nat_le 97 c && nat_le c 122)
