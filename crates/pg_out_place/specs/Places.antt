-- Where in a text a byte stands.
use Rattle.std.specs.Prelude.{◌≡◌, ◌≢◌, ℕ, suc, ◌-◌, ◌<◌, ◌≤◌, Bool, not, ◌&&◌, ◌==◌, nat_le, nat_lt, if◌then◌else◌, List, [], ◌∷◌, slice_index}

-- ---- lines

-- how many line feeds there are
unfoldable pub feeds : List ℕ → ℕ
feeds [] = 0
feeds (b ∷ bs) = if b == 10 then suc (feeds bs) else feeds bs

-- `start` is where the line of `place` begins: no line feed stands between them, and one stands before `start`, if anything does
pub record IsLineStart (text : List ℕ) (place start : ℕ) : Type 0 where
  pub within : start ≤ place
  pub same : (k : ℕ) → start ≤ k → k < place → slice_index text k ≢ 10
  pub first : 0 < start → slice_index text (start - 1) ≡ 10

-- ---- characters

-- a byte behind the first one of a character
abbrev pub is_tail : ℕ → Bool
is_tail b = nat_le 128 b && nat_lt b 192

-- the well-formed characters of two, three and four bytes, as the Unicode Standard lists them
abbrev pub is_two : ℕ → ℕ → Bool
is_two a b = nat_le 194 a && nat_lt a 224 && is_tail b

abbrev pub is_three : ℕ → ℕ → ℕ → Bool
is_three a b c = nat_le 224 a && nat_lt a 240 && is_tail b && is_tail c && not ((a == 224) && nat_lt b 160) && not ((a == 237) && nat_le 160 b)

abbrev pub is_four : ℕ → ℕ → ℕ → ℕ → Bool
is_four a b c d =
    nat_le 240 a && nat_lt a 245 && is_tail b && is_tail c && is_tail d && not ((a == 240) && nat_lt b 144) && not ((a == 244) && nat_le 144 b)

-- how many bytes the character at the front has; a byte that begins none is one by itself
unfoldable pub char_len : List ℕ → ℕ
char_len text =
    if is_two (slice_index text 0) (slice_index text 1) then 2
    else if is_three (slice_index text 0) (slice_index text 1) (slice_index text 2) then 3
    else if is_four (slice_index text 0) (slice_index text 1) (slice_index text 2) (slice_index text 3) then 4
    else 1

-- how many characters begin, where so many bytes of the one before are still to come
unfoldable pub chars_behind : ℕ → List ℕ → ℕ
chars_behind _ [] = 0
chars_behind due (b ∷ bs) = if due == 0 then suc (chars_behind (char_len (b ∷ bs) - 1) bs) else chars_behind (due - 1) bs

-- how many characters there are
abbrev pub chars : List ℕ → ℕ
chars text = chars_behind 0 text
