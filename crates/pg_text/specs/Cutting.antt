-- What a text is cut into.
use Rattle.std.specs.Prelude.{◌≡◌, ℕ, zero, suc, ◌+◌, ◌-◌, ◌^◌, Bool, not, ◌&&◌, ◌||◌, ◌==◌, nat_le, nat_lt, if◌then◌else◌, List, [], ◌∷◌, ◌++◌, length, take, drop, map, filter, slice_index, Option, None, Some, Result, Ok, Err}
use Rattle.std.specs.List.{prefix_len, list_all}
use Rattle.std.specs.Char.{is_ascii_hexdigit}
use Rattle.std.specs.Str.Parse.{digits_value}
use Rattle.pg_lang_token.specs.Words.{most_name_bytes, is_letter, is_digit, is_word_byte, is_pattern_byte}
use Rattle.pg_lang_token.specs.declared.tok.Tok.{Tok}
use Rattle.pg_lang_token.specs.declared.tok.Tok.TheVariants.{Word, Number, Pattern}
use Rattle.pg_lang_token.specs.declared.tok.Tok.TheVariants as tok
use Rattle.pg_lang_token.specs.declared.tok.Sign.{Sign}
use Rattle.pg_lang_token.specs.declared.tok.Sign.TheVariants.{OpenBrace, CloseBrace, OpenParen, CloseParen, OpenBracket, CloseBracket, Semicolon, Comma, Colon, Equals, DoubleEquals, Tilde, Plus, Minus, Star, Ampersand, Bar, Caret, LessThan, DoubleLess, DoubleGreater}
use Rattle.pg_text.specs.declared.place.Span.{Span}
use Rattle.pg_text.specs.declared.place.TextFault.{TextFault}
use Rattle.pg_text.specs.declared.place.TextFault.TheVariants.{BadByte, BadNumber, BadWord, BadPattern, Memory}
use Rattle.pg_text.specs.declared.piece.Piece.{Piece}

-- space, tab, CR or LF
abbrev pub is_blank : ℕ → Bool
is_blank c = (c == 32) || (c == 9) || (c == 13) || (c == 10)

-- ---- what stands at the front

-- n bytes that make no token
abbrev pub skip : ℕ → Result Piece TextFault
skip n = Ok (record { tok = None; len = n })

-- n bytes that make the token t
abbrev pub made : Tok → ℕ → Result Piece TextFault
made t n = Ok (record { tok = Some t; len = n })

-- a word: as many letters, digits and '_' as follow, few enough
unfoldable pub word_at : ℕ → List ℕ → Result Piece TextFault
word_at place text =
    let n = prefix_len is_word_byte text in
    if nat_le n most_name_bytes then made (Word (take n text)) n else Err (BadWord place)

-- a number below 2 ^ 64
abbrev pub limited : ℕ → Option ℕ
limited n = if nat_lt n (2 ^ 64) then Some n else None

-- what stands behind '0x'
abbrev pub hex_digits : List ℕ → List ℕ
hex_digits text = if (slice_index text 0 == 48) && (slice_index text 1 == 120) then drop 2 text else []

-- from 1 to 16 hexadecimal digits
abbrev pub hex_number : List ℕ → Option ℕ
hex_number digits =
    if nat_le 1 (length digits) && nat_le (length digits) 16 && list_all is_ascii_hexdigit digits then limited (digits_value 16 digits) else None

-- decimal digits, one at least
abbrev pub dec_number : List ℕ → Option ℕ
dec_number digits = if nat_le 1 (length digits) && list_all is_digit digits then limited (digits_value 10 digits) else None

-- decimal digits, or '0x' and hexadecimal ones
abbrev pub number_of : List ℕ → Option ℕ
number_of text = if list_all is_digit text then dec_number text else hex_number (hex_digits text)

-- a number: as many letters, digits and '_' as follow
unfoldable pub number_at : ℕ → List ℕ → Result Piece TextFault
number_at place text =
    let n = prefix_len is_word_byte text in
    elim (number_of (take n text)) [ Some v ↦ made (Number v) n | None ↦ Err (BadNumber place) ]

-- what may stand between the quotes of a pattern
abbrev pub is_inner : ℕ → Bool
is_inner c = is_pattern_byte c || (c == 95)

-- a pattern: what stands behind its opening quote is as many such bytes as follow, and a closing quote
unfoldable pub pattern_at : ℕ → List ℕ → Result Piece TextFault
pattern_at place text =
    let inner = drop 1 text in
    let n = prefix_len is_inner inner in
    if slice_index inner n == 34 then made (Pattern (filter is_pattern_byte (take n inner))) (n + 2) else Err (BadPattern place)

-- a sign of two bytes
abbrev pub sign_of_two : ℕ → ℕ → Option Sign
sign_of_two a b =
    if (a == 61) && (b == 61) then Some DoubleEquals
    else (if (a == 60) && (b == 60) then Some DoubleLess
    else (if (a == 62) && (b == 62) then Some DoubleGreater
    else None))

-- a sign of one byte
abbrev pub sign_of_one : ℕ → Option Sign
sign_of_one c =
    if c == 123 then Some OpenBrace
    else (if c == 125 then Some CloseBrace
    else (if c == 40 then Some OpenParen
    else (if c == 41 then Some CloseParen
    else (if c == 91 then Some OpenBracket
    else (if c == 93 then Some CloseBracket
    else (if c == 59 then Some Semicolon
    else (if c == 44 then Some Comma
    else (if c == 58 then Some Colon
    else (if c == 61 then Some Equals
    else (if c == 126 then Some Tilde
    else (if c == 43 then Some Plus
    else (if c == 45 then Some Minus
    else (if c == 42 then Some Star
    else (if c == 38 then Some Ampersand
    else (if c == 124 then Some Bar
    else (if c == 94 then Some Caret
    else (if c == 60 then Some LessThan
    else None)))))))))))))))))

-- a sign, of two bytes if they make one
unfoldable pub sign_at : ℕ → List ℕ → Result Piece TextFault
sign_at place text =
    elim (sign_of_two (slice_index text 0) (slice_index text 1)) [
      | Some s ↦ made (tok.Sign s) 2
      | None ↦ elim (sign_of_one (slice_index text 0)) [ Some s ↦ made (tok.Sign s) 1 | None ↦ Err (BadByte place) ]
    ]

-- the front of a text that is not empty and begins at this place: by its first byte
unfoldable pub front : ℕ → List ℕ → Result Piece TextFault
front place text =
    let c = slice_index text 0 in
    if is_blank c then skip 1
    else (if c == 35 then skip (prefix_len (λ b. not (b == 10)) text)
    else (if is_letter c then word_at place text
    else (if is_digit c then number_at place text
    else (if c == 34 then pattern_at place text
    else sign_at place text))))

-- ---- the whole text

-- the token that n bytes at a place make, if they make one
abbrev pub placed : ℕ → Piece → List (Tok × Span)
placed place p = elim (p.tok) [ Some t ↦ (t, record { from = place; to = place + p.len }) ∷ [] | None ↦ [] ]

-- tokens in front of what else there is, where there is no fault
abbrev pub before : List (Tok × Span) → Result (List (Tok × Span)) TextFault → Result (List (Tok × Span)) TextFault
before ts (Ok us) = Ok (ts ++ us)
before ts (Err f) = Err f

-- a piece, and then what go gives behind it: go is told how many bytes after the first are the piece's
abbrev pub then_cut : ℕ → Result Piece TextFault → (ℕ → Result (List (Tok × Span)) TextFault) → Result (List (Tok × Span)) TextFault
then_cut place (Ok p) go = before (placed place p) (go (p.len - 1))
then_cut place (Err f) go = Err f

-- the tokens of a text that begins at this place, of which the first `skipped` bytes belong to a piece before
unfoldable pub cut_from : (skipped place : ℕ) → List ℕ → Result (List (Tok × Span)) TextFault
cut_from skipped place [] = Ok []
cut_from (suc k) place (b ∷ bs) = cut_from k (place + 1) bs
cut_from zero place (b ∷ bs) = then_cut place (front place (b ∷ bs)) (λ k. cut_from k (place + 1) bs)

-- the tokens of a text, each with its place, or its first fault
unfoldable pub cut : List ℕ → Result (List (Tok × Span)) TextFault
cut text = cut_from 0 0 text

-- the tokens alone, where there is no fault
abbrev pub toks_of : Result (List (Tok × Span)) TextFault → Option (List Tok)
toks_of (Ok ts) = Some (map (λ t. t.0) ts)
toks_of (Err f) = None

abbrev pub tokens_in : List ℕ → Option (List Tok)
tokens_in text = toks_of (cut text)

-- ---- what a call answers

-- what a call answers is what is due, unless memory ran out
abbrev pub IsCutDue : {X : Type 0} → Result X TextFault → Result X TextFault → Type 0
IsCutDue (Ok x) due = due ≡ Ok x
IsCutDue (Err Memory) due = Unit {0}
IsCutDue (Err (BadByte place)) due = due ≡ Err (BadByte place)
IsCutDue (Err (BadNumber place)) due = due ≡ Err (BadNumber place)
IsCutDue (Err (BadWord place)) due = due ≡ Err (BadWord place)
IsCutDue (Err (BadPattern place)) due = due ≡ Err (BadPattern place)
