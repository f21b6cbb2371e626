-- What the bytes of an image mean.
use Rattle.std.specs.Prelude.{◌≡◌, ℕ, zero, suc, ◌+◌, ◌-◌, ◌/◌, Bool, false, not, ◌&&◌, ◌||◌, ◌==◌, nat_le, nat_lt, if◌then◌else◌, List, [], ◌∷◌, ◌++◌, length, take, drop, map, filter, replicate, fold, position, slice_index, Option, None, Some, Result, Ok, Err}
use Rattle.std.specs.List.{list_all, list_any, before_first, prefix_len, slice_split}
use Rattle.std.specs.Char.{is_ascii_digit, is_ascii_hexdigit}
use Rattle.std.specs.Str.Parse.{digits_value}
use Rattle.pg_image.specs.declared.fault.ImageFault.{ImageFault}
use Rattle.pg_image.specs.declared.fault.ImageFault.TheVariants.{Long, Token, Grammar, Address, Overlap, Memory}

-- ---- the text

-- the most bytes that an image has
abbrev pub most_image_bytes : ℕ
most_image_bytes = 33554432

-- the lines of a text: it is cut at each LF
unfoldable pub lines_of : List ℕ → List (List ℕ)
lines_of text = slice_split (λ c. c == 10) text

-- a line without its comment, which begins at the first '#'
abbrev pub content : List ℕ → List ℕ
content line = before_first (λ c. c == 35) line

-- what separates the parts of a line: space, tab or CR
abbrev pub is_gap : ℕ → Bool
is_gap c = (c == 32) || (c == 9) || (c == 13)

-- what may stand in a line outside its comment: hexadecimal digits of either case, a colon, and what separates parts
abbrev pub may_stand : ℕ → Bool
may_stand c = is_ascii_hexdigit c || (c == 58) || is_gap c

-- the place of the first byte outside comments that may not stand there, in lines of which the first begins at this place
unfoldable pub foreign_place : ℕ → List (List ℕ) → Option ℕ
foreign_place place [] = None
foreign_place place (line ∷ lines) =
    elim (position (λ c. not (may_stand c)) (content line)) [
      | Some k ↦ Some (place + k)
      | None ↦ foreign_place (place + length line + 1) lines
    ]

-- ---- the rows

-- a row: the number of its line, the first cell that it gives, and its words
pub record Row : Type 0 where
  pub line : ℕ
  pub first : ℕ
  pub words : List ℕ

-- the parts of a line: what stands between separators, where that is not empty
unfoldable pub parts_of : List ℕ → List (List ℕ)
parts_of line = filter (λ part. nat_lt 0 (length part)) (slice_split is_gap line)

-- a line behind what separates its first part from the line's begin
abbrev pub behind_gaps : List ℕ → List ℕ
behind_gaps line = drop (prefix_len is_gap line) line

-- the digits of an address: all but its last byte
abbrev pub address_digits : List ℕ → List ℕ
address_digits part = take (length part - 1) part

-- the most digits of an address
abbrev pub most_address_digits : ℕ
most_address_digits = 7

-- an address: at least one decimal digit, not too many, and a colon behind them
unfoldable pub is_address : List ℕ → Bool
is_address part =
    (slice_index part (length part - 1) == 58)
    && nat_le 1 (length (address_digits part)) && nat_le (length (address_digits part)) most_address_digits
    && list_all is_ascii_digit (address_digits part)

-- a word of w bits: w / 4 hexadecimal digits
unfoldable pub is_word : ℕ → List ℕ → Bool
is_word w part = (length part == w / 4) && list_all is_ascii_hexdigit part

-- parts that make a row: an address, and one word or more
abbrev pub is_row : ℕ → List (List ℕ) → Bool
is_row w [] = false
is_row w (head ∷ rest) = is_address head && nat_le 1 (length rest) && list_all (is_word w) rest

-- the row that these parts make, on line n
abbrev pub row_of : ℕ → List ℕ → List (List ℕ) → Row
row_of n head rest = record { line = n; first = digits_value 10 (address_digits head); words = map (digits_value 16) rest }

-- a row in front of others, where there is no fault in those
abbrev pub in_front : Row → Result (List Row) ImageFault → Result (List Row) ImageFault
in_front row (Ok rows) = Ok (row ∷ rows)
in_front row (Err fault) = Err fault

-- what line n makes of its parts, and the lines behind it: without parts it is skipped
abbrev pub with_line : ℕ → ℕ → List (List ℕ) → Result (List Row) ImageFault → Result (List Row) ImageFault
with_line w n [] behind = behind
with_line w n (head ∷ rest) behind = if is_row w (head ∷ rest) then in_front (row_of n head rest) behind else Err (Grammar n)

-- the rows of lines, of which the first is line n, or the first line of another form
unfoldable pub rows_from : ℕ → ℕ → List (List ℕ) → Result (List Row) ImageFault
rows_from w n [] = Ok []
rows_from w n (line ∷ lines) = with_line w n (parts_of (content line)) (rows_from w (n + 1) lines)

-- ---- the cells

-- the cell behind the last one that a row gives
abbrev pub end_of : Row → ℕ
end_of row = row.first + length row.words

-- whether one of these rows gives cell k
abbrev pub is_given : List Row → ℕ → Bool
is_given rows k = list_any (λ row. nat_le row.first k && nat_lt k (end_of row)) rows

-- whether one of these rows gives one of n cells from cell k on
unfoldable pub any_given : List Row → ℕ → ℕ → Bool
any_given rows k zero = false
any_given rows k (suc n) = is_given rows k || any_given rows (k + 1) n

-- what is wrong with a row behind these earlier ones: first that it passes the size, then that it gives a cell again
abbrev pub fault_of : ℕ → List Row → Row → Option ImageFault
fault_of size earlier row =
    if nat_lt size (end_of row) then Some (Address row.line)
    else (if any_given earlier row.first (length row.words) then Some (Overlap row.line)
    else None)

-- the first row with a fault, of rows behind earlier ones
unfoldable pub first_fault : ℕ → List Row → List Row → Option ImageFault
first_fault size earlier [] = None
first_fault size earlier (row ∷ rows) =
    elim (fault_of size earlier row) [
      | Some fault ↦ Some fault
      | None ↦ first_fault size (earlier ++ row ∷ []) rows
    ]

-- words put in the place of those from cell k on
abbrev pub put : {X : Type 0} → ℕ → List X → List X → List X
put k words cells = take k cells ++ words ++ drop (k + length words) cells

-- the cells of an image: zeros, and each row's words put at its address
unfoldable pub cells_of : ℕ → List Row → List ℕ
cells_of size rows = fold (λ cells row. put row.first row.words cells) (replicate size 0) rows

-- ---- the image

-- the rows of a text: first each byte has to be one that may stand where it does
abbrev pub rows_due : ℕ → List ℕ → Result (List Row) ImageFault
rows_due w text =
    elim (foreign_place 0 (lines_of text)) [
      | Some place ↦ Err (Token place)
      | None ↦ rows_from w 1 (lines_of text)
    ]

-- the cells of rows
abbrev pub cells_due : ℕ → List Row → Result (List ℕ) ImageFault
cells_due size rows = elim (first_fault size [] rows) [ Some fault ↦ Err fault | None ↦ Ok (cells_of size rows) ]

-- a step, and then another one with what it gave
abbrev pub then_due : {X Y : Type 0} → Result X ImageFault → (X → Result Y ImageFault) → Result Y ImageFault
then_due (Ok x) go = go x
then_due (Err fault) go = Err fault

-- the image of a text, for words of w bits and so many cells: its cells, or its first fault
unfoldable pub image_due : ℕ → ℕ → List ℕ → Result (List ℕ) ImageFault
image_due w size text = if nat_lt most_image_bytes (length text) then Err Long else then_due (rows_due w text) (cells_due size)

-- what a call answers is what is due, unless memory ran out
abbrev pub IsImageDue : {X : Type 0} → Result X ImageFault → Result X ImageFault → Type 0
IsImageDue (Ok x) due = due ≡ Ok x
IsImageDue (Err Memory) due = Unit {0}
IsImageDue (Err Long) due = due ≡ Err Long
IsImageDue (Err (Token place)) due = due ≡ Err (Token place)
IsImageDue (Err (Grammar line)) due = due ≡ Err (Grammar line)
IsImageDue (Err (Address line)) due = due ≡ Err (Address line)
IsImageDue (Err (Overlap line)) due = due ≡ Err (Overlap line)
