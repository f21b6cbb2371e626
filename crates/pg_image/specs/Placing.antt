-- Rows put one after another into cells, of which it is kept which are given.
use Rattle.std.specs.Prelude.{◌≡◌, ℕ, ◌+◌, Bool, true, nat_lt, if◌then◌else◌, List, [], ◌∷◌, length, replicate, Option, None, Some, Result, Ok, Err}
use Rattle.std.specs.List.{list_any, slice_range}
use Rattle.pg_image.specs.declared.fault.ImageFault.{ImageFault}
use Rattle.pg_image.specs.declared.fault.ImageFault.TheVariants.{Address, Overlap}
use Rattle.pg_image.specs.Images.{Row, put, then_due, with_line}

-- what is wrong with a row on line n of so many cells from this one on
abbrev pub clash_of : List Bool → (n first count : ℕ) → Option ImageFault
clash_of given n first count =
    if nat_lt (length given) (first + count) then Some (Address n)
    else (if list_any (λ g. g) (slice_range given first (first + count)) then Some (Overlap n)
    else None)

-- rows put behind those that are there, up to the first one with which something is wrong
unfoldable pub place_rows : List ℕ → List Bool → List Row → Result (List ℕ) ImageFault
place_rows cells given [] = Ok cells
place_rows cells given (row ∷ rows) =
    elim (clash_of given row.line row.first (length row.words)) [
      | Some fault ↦ Err fault
      | None ↦ place_rows (put row.first row.words cells) (put row.first (replicate (length row.words) true) given) rows
    ]

-- a row is put: those behind it go on from the new cells
abbrev pub IsPut : Row → (cells : List ℕ) (given : List Bool) (cells' : List ℕ) (given' : List Bool) → Type 0
IsPut row cells given cells' given' = (behind : List Row) → place_rows cells given (row ∷ behind) ≡ place_rows cells' given' behind

-- a row is not: the fault is that of all the rows
abbrev pub IsClash : Row → (cells : List ℕ) (given : List Bool) → ImageFault → Type 0
IsClash row cells given fault = (behind : List Row) → place_rows cells given (row ∷ behind) ≡ Err fault

-- what is told of a row
abbrev pub RowTold : Row → (cells : List ℕ) (given : List Bool) (cells' : List ℕ) (given' : List Bool) → Option ImageFault → Type 0
RowTold row cells given cells' given' None = IsPut row cells given cells' given'
RowTold row cells given cells' given' (Some fault) = IsClash row cells given fault

-- the same of line n, by its parts
abbrev pub IsLinePut : (w n : ℕ) → List (List ℕ) → (cells : List ℕ) (given : List Bool) (cells' : List ℕ) (given' : List Bool) → Type 0
IsLinePut w n parts cells given cells' given' =
    (behind : Result (List Row) ImageFault) → then_due (with_line w n parts behind) (place_rows cells given) ≡ then_due behind (place_rows cells' given')

abbrev pub IsLineClash : (w n : ℕ) → List (List ℕ) → (cells : List ℕ) (given : List Bool) → ImageFault → Type 0
IsLineClash w n parts cells given fault =
    (behind : List Row) → then_due (with_line w n parts (Ok behind)) (place_rows cells given) ≡ Err fault

abbrev pub LineTold : (w n : ℕ) → List (List ℕ) → (cells : List ℕ) (given : List Bool) (cells' : List ℕ) (given' : List Bool) → Option ImageFault → Type 0
LineTold w n parts cells given cells' given' None = IsLinePut w n parts cells given cells' given'
LineTold w n parts cells given cells' given' (Some fault) = IsLineClash w n parts cells given fault

-- the same of all rows
abbrev pub AllTold : Result (List Row) ImageFault → (cells : List ℕ) (given : List Bool) (cells' : List ℕ) → Option ImageFault → Type 0
AllTold rows cells given cells' None = then_due rows (place_rows cells given) ≡ Ok cells'
AllTold rows cells given cells' (Some fault) = then_due rows (place_rows cells given) ≡ Err fault
