-- The bytes of numbers, and of lines that are put one after another.
use Rattle.std.proofs.Common.{◌≡◌, ℕ, zero, suc, ◌+◌, ◌/◌, ◌%◌, ◌^◌, ◌<◌, Bool, true, false, not, List, [], ◌∷◌, ◌++◌, get_or, All, refl, ap, ◌∙◌, arith}
use Rattle.std.specs.Prelude.{◌==◌}
use Rattle.std.specs.List.{list_all}
use Rattle.std.specs.Char.{is_ascii_digit, is_ascii_hexdigit}
use Rattle.std.specs.Fmt.{decimal, digit_glyph}
use Rattle.std.proofs.lemmas.Bool.{and_parts, and_from, not-true}
use Rattle.std.proofs.lemmas.Bool.Decides.{nat_tests}
use Rattle.std.proofs.lemmas.Fmt.{decimal_by_steps}
use Rattle.std.proofs.lemmas.List.Folds.{list_all-append}
use Rattle.std.proofs.lemmas.List.Sums.{AllPass-from_list_all}
use Rattle.std.proofs.lemmas.List.Splits.{slice_split_at}
use Rattle.pg_text.specs.Printing.{hex_text}
use Rattle.pg_image.specs.Images.{lines_of}

-- ---- tests of bytes

pub all-both : (p : ℕ → Bool) (xs ys : List ℕ) → list_all p xs ≡ true → list_all p ys ≡ true → list_all p (xs ++ ys) ≡ true
all-both p xs ys hx hy = list_all-append p xs ys ∙ and_from (list_all p xs) (list_all p ys) hx hy

pub all-implied : (p q : ℕ → Bool) → ((c : ℕ) → p c ≡ true → q c ≡ true) → (xs : List ℕ) → list_all p xs ≡ true → list_all q xs ≡ true
all-implied p q imp [] h = refl
all-implied p q imp (x ∷ xs) h =
    let both = and_parts (p x) (list_all p xs) h in
    and_from (q x) (list_all q xs) (imp x both.0) (all-implied p q imp xs both.1)

-- no byte passes a test, where all pass another that excludes it
pub none-pass : (p q : ℕ → Bool) → ((c : ℕ) → p c ≡ true → q c ≡ false) → (xs : List ℕ) → list_all p xs ≡ true → All (λ c. q c ≡ false) xs
none-pass p q apart xs h =
    let all = AllPass-from_list_all (λ c. not (q c)) xs (all-implied p (λ c. not (q c)) (λ c e. ap not (apart c e)) xs h) in
    λ k d lt. not-true (q (get_or xs k d)) (all k d lt)

-- ---- digits

digit-is : (d : ℕ) → d < 10 → is_ascii_digit (48 + d) ≡ true
digit-is d h = grind (arith, nat_tests)

pub decimal-digits : (n : ℕ) → n < 2 ^ 64 → list_all is_ascii_digit (decimal n) ≡ true
decimal-digits n h =
    decimal_by_steps (λ n ds. list_all is_ascii_digit ds ≡ true)
    (λ d lt. and_from (is_ascii_digit (48 + d)) true (digit-is d lt) refl)
    (λ n ds ten all. all-both is_ascii_digit ds ((48 + n % 10) ∷ []) all (and_from (is_ascii_digit (48 + n % 10)) true (digit-is (n % 10) (omega arith)) refl))
    n h

glyph-is : (d : ℕ) → d < 16 → is_ascii_hexdigit (digit_glyph false d) ≡ true
glyph-is d h = grind (arith, nat_tests)

pub hex-digits : (n value : ℕ) → list_all is_ascii_hexdigit (hex_text n value) ≡ true
unfolding hex_text
hex-digits zero value = refl
hex-digits (suc n) value =
    all-both is_ascii_hexdigit (hex_text n (value / 16)) (digit_glyph false (value % 16) ∷ []) (hex-digits n (value / 16))
    (and_from (is_ascii_hexdigit (digit_glyph false (value % 16))) true (glyph-is (value % 16) (omega arith)) refl)

-- ---- lines

-- a line, an LF, and a text: its lines are that line, and those of the text
pub lines-more : (line text : List ℕ) → All (λ c. (c == 10) ≡ false) line → lines_of (line ++ 10 ∷ text) ≡ line ∷ lines_of text
unfolding lines_of
lines-more line text none = slice_split_at (λ c. c == 10) line 10 text none refl
