-- How the parts of a line are read. More is taken than lines have parts: what is read is a line where it is spelled so.
use Rattle.std.specs.Prelude.{◌≡◌, ℕ, ◌-◌, Bool, false, ◌==◌, nat_le, if◌then◌else◌, ℤ, pos, negsuc, neg_ℤ, List, [], ◌∷◌, length, take, drop, slice_index, slice_index_or, codes, bytes_eq, Option, None, Some}
use Rattle.pg_word.specs.declared.psw.Mode.{Mode}
use Rattle.pg_word.specs.declared.psw.Mode.TheVariants.{S, U}
use Rattle.pg_text.specs.Cutting.{dec_number}
use Rattle.pg_text.specs.Printing.{hex_word_of}
use Rattle.pg_type.specs.declared.kind.Kind.{Kind}
use Rattle.pg_type.specs.declared.kind.Kind.TheVariants.{Privileged, Control, ModeDep, Location, Bound, UControl, ULocation, UBound}
use Rattle.pg_cert.specs.declared.line.Heading.{Heading}
use Rattle.pg_cert.specs.declared.line.Heading.TheVariants.{PlainOne, PlainTwo, HybridOne}
use Rattle.pg_cert.specs.declared.line.Found.{Found}
use Rattle.pg_cert.specs.declared.line.Found.TheVariants.{Refuted, Shown, Spent}
use Rattle.pg_cert.specs.declared.line.Line.{Line}
use Rattle.pg_cert.specs.declared.line.Line.TheVariants.{First, Header, Step, Remove, Size, Psw, Cells, End}
use Rattle.pg_cert.specs.Lines.{most_variable, most_number}

-- a value and what is done with it, or none
abbrev pub then_read : {X Y : Type 0} → Option X → (X → Option Y) → Option Y
then_read None go = None
then_read (Some x) go = go x

-- ---- parts

-- a number up to a greatest
unfoldable pub read_number : ℕ → List ℕ → Option ℕ
read_number most part = then_read (dec_number part) (λ n. (if nat_le n most then Some n else None))

-- the negation of a number
abbrev pub negative : ℕ → ℤ
negative n = neg_ℤ (pos n)

unfoldable pub read_lit : List ℕ → Option ℤ
read_lit [] = None
read_lit (c ∷ cs) =
    (if c == 45 then then_read (read_number most_variable cs) (λ n. Some (negative n))
    else then_read (read_number most_variable (c ∷ cs)) (λ n. Some (pos n)))

abbrev pub is_zero : ℤ → Bool
is_zero (pos n) = n == 0
is_zero (negsuc n) = false

-- literals up to a 0, and the parts behind it
unfoldable pub read_lits : List (List ℕ) → Option (List ℤ × List (List ℕ))
read_lits [] = None
read_lits (part ∷ parts) =
    then_read (read_lit part) (λ z. (if is_zero z then Some ([], parts) else then_read (read_lits parts) (λ r. Some (z ∷ r.0, r.1))))

-- what a call answers of literals behind which these parts stand: they, and the place behind their end
abbrev pub AreLitsRead : Option (List ℤ × ℕ) → List (List ℕ) → List (List ℕ) → Type 0
AreLitsRead None left parts = read_lits left ≡ None
AreLitsRead (Some lits) left parts = read_lits left ≡ Some (lits.0, drop lits.1 parts)

-- numbers up to a 0, which is the last part
unfoldable pub read_numbers : List (List ℕ) → Option (List ℕ)
read_numbers [] = None
read_numbers (part ∷ parts) =
    then_read (read_number most_number part) (λ n. (if n == 0 then (if length parts == 0 then Some [] else None) else then_read (read_numbers parts) (λ ns. Some (n ∷ ns))))

-- words of w bits
unfoldable pub read_words : ℕ → List (List ℕ) → Option (List ℕ)
read_words w [] = Some []
read_words w (part ∷ parts) = then_read (hex_word_of w part) (λ x. then_read (read_words w parts) (λ xs. Some (x ∷ xs)))

abbrev pub read_kind : List ℕ → Option Kind
read_kind part =
    (if bytes_eq part (codes "privileged") then Some Privileged
    else (if bytes_eq part (codes "control") then Some Control
    else (if bytes_eq part (codes "mode") then Some ModeDep
    else (if bytes_eq part (codes "location") then Some Location
    else (if bytes_eq part (codes "bound") then Some Bound
    else (if bytes_eq part (codes "ucontrol") then Some UControl
    else (if bytes_eq part (codes "ulocation") then Some ULocation
    else (if bytes_eq part (codes "ubound") then Some UBound
    else None))))))))

abbrev pub read_mode : List ℕ → Option Mode
read_mode part = (if bytes_eq part (codes "s") then Some S else (if bytes_eq part (codes "u") then Some U else None))

-- ---- lines, by their parts

abbrev pub part_at : List (List ℕ) → ℕ → List ℕ
part_at parts i = slice_index_or parts i []

abbrev pub read_heading : List (List ℕ) → Option Heading
read_heading parts =
    (if bytes_eq (part_at parts 0) (codes "pgcert")
    then (if bytes_eq (part_at parts 1) (codes "1") then Some PlainOne else (if bytes_eq (part_at parts 1) (codes "2") then Some PlainTwo else None))
    else (if bytes_eq (part_at parts 1) (codes "1") then Some HybridOne else None))

abbrev pub read_found : List (List ℕ) → Option Found
read_found parts =
    (if length parts == 4
    then (if bytes_eq (part_at parts 3) (codes "refuted") then Some Refuted else Some Shown)
    else then_read (read_number most_number (part_at parts 4)) (λ n. Some (Spent n)))

abbrev pub read_header : List (List ℕ) → Option Line
read_header parts = then_read (read_kind (part_at parts 2)) (λ kind. then_read (read_found parts) (λ found. Some (Header (part_at parts 1) kind found)))

abbrev pub read_step : List (List ℕ) → Option Line
read_step parts = then_read (read_lits (drop 1 parts)) (λ r. then_read (read_numbers r.1) (λ hints. Some (Step (record { lits = r.0; hints = hints }))))

abbrev pub read_psw : List (List ℕ) → Option Line
read_psw parts =
    then_read (read_mode (part_at parts 1)) (λ mode. then_read (read_number most_number (part_at parts 2)) (λ p. then_read (read_number most_number (part_at parts 3)) (λ l. then_read (read_number most_number (part_at parts 4)) (λ b.
    Some (Psw (record { mode = mode; p = p; l = l; b = b }))))))

-- the bytes of a part but its last
abbrev pub but_last : List ℕ → List ℕ
but_last part = take (length part - 1) part

abbrev pub last_byte : List ℕ → ℕ
last_byte part = slice_index part (length part - 1)

abbrev pub read_cells : ℕ → List (List ℕ) → Option Line
read_cells w parts =
    then_read (read_number most_number (but_last (part_at parts 0))) (λ first. then_read (read_words w (drop 1 parts)) (λ words. Some (Cells first words)))

-- by the first part: a colon at its end is that of cells, and all others are words
unfoldable pub read_parts : ℕ → List (List ℕ) → Option Line
read_parts w parts =
    (if last_byte (part_at parts 0) == 58 then read_cells w parts
    else (if bytes_eq (part_at parts 0) (codes "s") then read_step parts
    else (if bytes_eq (part_at parts 0) (codes "d") then then_read (read_numbers (drop 1 parts)) (λ numbers. Some (Remove numbers))
    else (if bytes_eq (part_at parts 0) (codes "finding") then read_header parts
    else (if bytes_eq (part_at parts 0) (codes "size") then then_read (read_number most_number (part_at parts 1)) (λ n. Some (Size n))
    else (if bytes_eq (part_at parts 0) (codes "psw") then read_psw parts
    else (if bytes_eq (part_at parts 0) (codes "end") then Some End
    else then_read (read_heading parts) (λ heading. Some (First heading)))))))))
