-- What bytes say of a saved guest, or why they are refused: line by line, and the first line at fault refuses.
use Rattle.std.specs.Prelude.{ℕ, suc, Bool, ◌&&◌, ◌==◌, nat_lt, if◌then◌else◌, List, [], ◌∷◌, length, drop, codes, bytes_eq, Option, None, Some, Result, Ok, Err}
use Rattle.pg_word.specs.declared.shape.Shape.{Shape}
use Rattle.pg_word.specs.declared.psw.Psw.{Psw as Psws}
use Rattle.pg_cert.specs.declared.line.Line.{Line}
use Rattle.pg_cert.specs.declared.line.Line.TheVariants as line
use Rattle.pg_cert.specs.Reading.{read_number, but_last, last_byte, part_at}
use Rattle.pg_cert.specs.Parsing.{Said, Says, NoToken, NoForm, OtherVersion, parts_of, is_decimal, said}
use Rattle.pg_cert_drawn.specs.Drawn.{Drawn, drawn, with_row, state_of}
use Rattle.pg_move.specs.declared.fault.SavedFault.{SavedFault}
use Rattle.pg_move.specs.declared.fault.SavedFault.TheVariants as fault
use Rattle.pg_move.specs.Texts.{SavedGuest, most_steps, most_bytes, first_text, steps_text}

-- ---- lines

-- a byte before the lines behind it: at the front of the first of them
abbrev pub before_lines : ℕ → List (List ℕ) → List (List ℕ)
before_lines c [] = (c ∷ []) ∷ []
before_lines c (l ∷ ls) = (c ∷ l) ∷ ls

-- the lines of bytes, each with its LF. What stands behind the last LF, if anything does, is a line without one
unfoldable pub cut_lines : List ℕ → List (List ℕ)
cut_lines [] = []
cut_lines (c ∷ cs) = (if c == 10 then (c ∷ []) ∷ cut_lines cs else before_lines c (cut_lines cs))

-- ---- how far a text has been read

-- nothing was read; the first line; the steps; the size of the state; its program status word, and rows of its cells; or all
pub data SavedReader : Type 0 where
  Fresh : SavedReader
  Begun : SavedReader
  Counted : (steps : ℕ) → SavedReader
  Sized : (steps size : ℕ) → SavedReader
  Drawing : (steps : ℕ) (s : Drawn) → SavedReader
  Over : (steps : ℕ) (s : Drawn) → SavedReader

-- the line of this number is of another form than may stand there
abbrev pub misplaced : {X : Type 0} → ℕ → Result X SavedFault
misplaced n = Err (fault.Grammar n)

-- ---- the first line and the steps, which no certificate has

-- the word of saved guests, a number of any size, and LF
unfoldable pub is_version : List ℕ → Bool
is_version bytes =
    (last_byte bytes == 10) && ((length (parts_of bytes) == 2)
    && (bytes_eq (part_at (parts_of bytes) 0) (codes "pgguest") && is_decimal (part_at (parts_of bytes) 1)))

abbrev pub first_read : ℕ → List ℕ → Result SavedReader SavedFault
first_read n bytes =
    (if bytes_eq bytes first_text then Ok Begun
    else (if is_version bytes then Err (fault.Version n) else misplaced n))

-- a number that was read, where the bytes are its one spelling
abbrev pub steps_counted : ℕ → List ℕ → Option ℕ → Result SavedReader SavedFault
steps_counted n bytes None = misplaced n
steps_counted n bytes (Some steps) = (if bytes_eq bytes (steps_text steps) then Ok (Counted steps) else misplaced n)

-- the number behind `steps `
abbrev pub number_of_steps : List ℕ → Option ℕ
number_of_steps bytes = read_number most_steps (drop 6 (but_last bytes))

abbrev pub steps_read : ℕ → List ℕ → Result SavedReader SavedFault
steps_read n bytes = steps_counted n bytes (number_of_steps bytes)

-- bytes that are no line of a certificate
unfoldable pub after_own : ℕ → SavedReader → List ℕ → Result SavedReader SavedFault
after_own n Fresh bytes = first_read n bytes
after_own n Begun bytes = steps_read n bytes
after_own n (Counted steps) bytes = misplaced n
after_own n (Sized steps size) bytes = misplaced n
after_own n (Drawing steps s) bytes = misplaced n
after_own n (Over steps s) bytes = misplaced n

-- ---- the lines of the state, and the last one, as certificates have them

abbrev pub with_size : ℕ → ℕ → SavedReader → Result SavedReader SavedFault
with_size n size Fresh = misplaced n
with_size n size Begun = misplaced n
with_size n size (Counted steps) = Ok (Sized steps size)
with_size n size (Sized steps other) = misplaced n
with_size n size (Drawing steps s) = misplaced n
with_size n size (Over steps s) = misplaced n

abbrev pub with_psw : ℕ → Psws → SavedReader → Result SavedReader SavedFault
with_psw n psw Fresh = misplaced n
with_psw n psw Begun = misplaced n
with_psw n psw (Counted steps) = misplaced n
with_psw n psw (Sized steps size) = Ok (Drawing steps (drawn size psw))
with_psw n psw (Drawing steps s) = misplaced n
with_psw n psw (Over steps s) = misplaced n

-- a state with a row more, where the row fits
abbrev pub drawn_on : ℕ → ℕ → Option Drawn → Result SavedReader SavedFault
drawn_on n steps None = misplaced n
drawn_on n steps (Some s) = Ok (Drawing steps s)

abbrev pub with_cells : ℕ → ℕ → List ℕ → SavedReader → Result SavedReader SavedFault
with_cells n first words Fresh = misplaced n
with_cells n first words Begun = misplaced n
with_cells n first words (Counted steps) = misplaced n
with_cells n first words (Sized steps size) = misplaced n
with_cells n first words (Drawing steps s) = drawn_on n steps (with_row first words s)
with_cells n first words (Over steps s) = misplaced n

abbrev pub with_end : ℕ → SavedReader → Result SavedReader SavedFault
with_end n Fresh = misplaced n
with_end n Begun = misplaced n
with_end n (Counted steps) = misplaced n
with_end n (Sized steps size) = misplaced n
with_end n (Drawing steps s) = Ok (Over steps s)
with_end n (Over steps s) = misplaced n

-- by what the line of this number says
unfoldable pub after_form : ℕ → SavedReader → Line → Result SavedReader SavedFault
after_form n r (line.First heading) = misplaced n
after_form n r (line.Header name kind found) = misplaced n
after_form n r (line.Step step) = misplaced n
after_form n r (line.Remove numbers) = misplaced n
after_form n r (line.Size size) = with_size n size r
after_form n r (line.Psw psw) = with_psw n psw r
after_form n r (line.Cells first words) = with_cells n first words r
after_form n r line.End = with_end n r

-- ---- a line more

unfoldable pub after_said : ℕ → SavedReader → List ℕ → Said → Result SavedReader SavedFault
after_said n r bytes (Says l) = after_form n r l
after_said n r bytes NoToken = Err (fault.Token n)
after_said n r bytes NoForm = after_own n r bytes
after_said n r bytes (OtherVersion family) = after_own n r bytes

-- the line of this number: its bytes, its LF among them
unfoldable pub after_saved_line : Shape → ℕ → SavedReader → List ℕ → Result SavedReader SavedFault
after_saved_line shape n r bytes = after_said n r bytes (said shape bytes)

-- ---- whole texts

abbrev pub then_read : {X Y : Type 0} → Result X SavedFault → (X → Result Y SavedFault) → Result Y SavedFault
then_read (Ok x) go = go x
then_read (Err f) go = Err f

-- no line comes any more: the line of this number is missing, unless the last one was read
abbrev pub finished : ℕ → SavedReader → Result SavedGuest SavedFault
finished n Fresh = misplaced n
finished n Begun = misplaced n
finished n (Counted steps) = misplaced n
finished n (Sized steps size) = misplaced n
finished n (Drawing steps s) = misplaced n
finished n (Over steps s) = Ok (record { steps = steps; state = state_of s })

-- these lines, of which the first has this number
unfoldable pub read_lines : Shape → ℕ → SavedReader → List (List ℕ) → Result SavedGuest SavedFault
read_lines shape n r [] = finished n r
read_lines shape n r (l ∷ ls) = then_read (after_saved_line shape n r l) (λ next. read_lines shape (suc n) next ls)

-- what bytes say, for machines of a shape. That there are too many is told before all else
unfoldable pub saved_due : Shape → List ℕ → Result SavedGuest SavedFault
saved_due shape bytes = (if nat_lt most_bytes (length bytes) then Err fault.Long else read_lines shape 1 Fresh (cut_lines bytes))
