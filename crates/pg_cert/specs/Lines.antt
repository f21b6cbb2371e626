-- The lines of certificates. A line is a list of parts with one space between, and LF behind the last.
use Rattle.std.specs.Prelude.{⊤, ℕ, ◌-◌, ◌/◌, ◌%◌, ◌^◌, ◌<◌, Bool, true, not, ◌&&◌, ◌==◌, nat_le, nat_lt, IsTrue, ℤ, nat_abs, List, [], ◌∷◌, ◌++◌, length, map, codes}
use Rattle.std.specs.List.{All, list_any, list_all, join_with_byte}
use Rattle.std.specs.Fmt.{decimal, signed_decimal}
use Rattle.pg_word.specs.declared.shape.Shape.{Shape}
use Rattle.pg_word.specs.declared.psw.Psw.{Psw as Psws}
use Rattle.pg_lang_token.specs.Words.{is_word}
use Rattle.pg_text.specs.Printing.{hex_text}
use Rattle.pg_image.specs.Lines.{mode_text, line_cells}
use Rattle.pg_type.specs.declared.kind.Kind.{Kind}
use Rattle.pg_type.specs.declared.kind.Kind.TheVariants.{Privileged, Control, ModeDep, Location, Bound, UControl, ULocation, UBound}
use Rattle.pg_cert.specs.declared.line.Heading.{Heading}
use Rattle.pg_cert.specs.declared.line.Heading.TheVariants.{PlainOne, PlainTwo, HybridOne}
use Rattle.pg_cert.specs.declared.line.Found.{Found}
use Rattle.pg_cert.specs.declared.line.Found.TheVariants.{Refuted, Shown, Spent}
use Rattle.pg_cert.specs.declared.line.Line.{Line}
use Rattle.pg_cert.specs.declared.line.Line.TheVariants.{First, Header, Step, Remove, Size, Psw, Cells, End}

-- ---- the parts of a line

abbrev pub heading_parts : Heading → List (List ℕ)
heading_parts PlainOne = codes "pgcert" ∷ codes "1" ∷ []
heading_parts PlainTwo = codes "pgcert" ∷ codes "2" ∷ []
heading_parts HybridOne = codes "pghybrid" ∷ codes "1" ∷ []

abbrev pub kind_text : Kind → List ℕ
kind_text Privileged = codes "privileged"
kind_text Control = codes "control"
kind_text ModeDep = codes "mode"
kind_text Location = codes "location"
kind_text Bound = codes "bound"
kind_text UControl = codes "ucontrol"
kind_text ULocation = codes "ulocation"
kind_text UBound = codes "ubound"

abbrev pub found_parts : Found → List (List ℕ)
found_parts Refuted = codes "refuted" ∷ []
found_parts Shown = codes "shown" ∷ []
found_parts (Spent k) = codes "spent" ∷ decimal k ∷ []

abbrev pub header_parts : List ℕ → Kind → Found → List (List ℕ)
header_parts name kind found = codes "finding" ∷ name ∷ kind_text kind ∷ found_parts found

-- a list is ended by 0, which none of its numbers is
abbrev pub step_parts : List ℤ → List ℕ → List (List ℕ)
step_parts lits hints = codes "s" ∷ map signed_decimal lits ++ codes "0" ∷ map decimal hints ++ codes "0" ∷ []

abbrev pub removal_parts : List ℕ → List (List ℕ)
removal_parts numbers = codes "d" ∷ map decimal numbers ++ codes "0" ∷ []

abbrev pub size_parts : ℕ → List (List ℕ)
size_parts n = codes "size" ∷ decimal n ∷ []

abbrev pub psw_parts : Psws → List (List ℕ)
psw_parts psw = codes "psw" ∷ mode_text psw.mode ∷ decimal psw.p ∷ decimal psw.l ∷ decimal psw.b ∷ []

-- the first cell with a colon, and the words, of w bits
abbrev pub cells_parts : ℕ → ℕ → List ℕ → List (List ℕ)
cells_parts w first words = (decimal first ++ 58 ∷ []) ∷ map (hex_text (w / 4)) words

abbrev pub end_parts : List (List ℕ)
end_parts = codes "end" ∷ []

-- the parts of a line, for words of w bits
unfoldable pub line_parts : ℕ → Line → List (List ℕ)
line_parts w (First heading) = heading_parts heading
line_parts w (Header name kind found) = header_parts name kind found
line_parts w (Step step) = step_parts step.lits step.hints
line_parts w (Remove numbers) = removal_parts numbers
line_parts w (Size n) = size_parts n
line_parts w (Psw psw) = psw_parts psw
line_parts w (Cells first words) = cells_parts w first words
line_parts w End = end_parts

-- parts with one space between each two, and LF behind the last
abbrev pub parts_text : List (List ℕ) → List ℕ
parts_text parts = join_with_byte 32 parts ++ 10 ∷ []

-- the one spelling of a line
unfoldable pub line_text : Shape → Line → List ℕ
line_text shape line = parts_text (line_parts shape.w line)

-- the words of a line of cells have w bits
abbrev pub DoWordsFit : ℕ → Line → Type 0
DoWordsFit w (First heading) = ⊤
DoWordsFit w (Header name kind found) = ⊤
DoWordsFit w (Step step) = ⊤
DoWordsFit w (Remove numbers) = ⊤
DoWordsFit w (Size n) = ⊤
DoWordsFit w (Psw psw) = ⊤
DoWordsFit w (Cells first words) = All (λ word. word < 2 ^ w) words
DoWordsFit w End = ⊤

-- parts with a space before each: what stands behind the first part of a line
unfoldable pub spaced : List (List ℕ) → List ℕ
spaced [] = []
spaced (part ∷ parts) = 32 ∷ part ++ spaced parts

-- ---- lines in range

abbrev pub most_budget : ℕ
most_budget = 1000000

abbrev pub is_found : Found → Bool
is_found Refuted = true
is_found Shown = true
is_found (Spent k) = nat_le 1 k && nat_le k most_budget

-- numbers that ascend strictly from above one on, up to a greatest
abbrev pub ascend : ℕ → ℕ → List ℕ → Bool
ascend most above [] = true
ascend most above (n ∷ ns) = nat_lt above n && (nat_le n most && ascend most n ns)

abbrev pub most_variable : ℕ
most_variable = 2 ^ 31 - 1

abbrev pub most_number : ℕ
most_number = 2 ^ 32 - 1

-- literals ascend strictly by variable, so that none is 0
abbrev pub are_lits : List ℤ → Bool
are_lits lits = ascend most_variable 0 (map nat_abs lits)

abbrev pub are_hints : List ℕ → Bool
are_hints hints = list_all (λ h. nat_le 1 h && nat_le h most_number) hints

abbrev pub are_removed : List ℕ → Bool
are_removed numbers = nat_le 1 (length numbers) && ascend most_number 0 numbers

abbrev pub is_psw : ℕ → Psws → Bool
is_psw a psw = nat_lt psw.p (2 ^ a) && (nat_lt psw.l (2 ^ a) && nat_lt psw.b (2 ^ a))

-- a line shows from 1 to 8 cells, of which one is not zero
abbrev pub are_cells : ℕ → ℕ → List ℕ → Bool
are_cells w first words =
    (nat_le first most_number && (first % line_cells == 0))
    && ((nat_le 1 (length words) && nat_le (length words) line_cells) && (list_any (λ x. not (x == 0)) words && list_all (λ x. nat_lt x (2 ^ w)) words))

-- the numbers of a line are in their ranges, and its name is a word
unfoldable pub is_line : Shape → Line → Bool
is_line shape (First heading) = true
is_line shape (Header name kind found) = is_word name && is_found found
is_line shape (Step step) = are_lits step.lits && are_hints step.hints
is_line shape (Remove numbers) = are_removed numbers
is_line shape (Size n) = nat_le 2 n && nat_le n shape.q
is_line shape (Psw psw) = is_psw shape.a psw
is_line shape (Cells first words) = are_cells shape.w first words
is_line shape End = true

abbrev pub IsLine : Shape → Line → Type 0
IsLine shape line = IsTrue (is_line shape line)
