-- Rows put one after another.
use Rattle.std.proofs.Common.{◌≡◌, ℕ, suc, ◌+◌, ◌-◌, ◌<◌, ◌≤◌, Bool, true, false, cond, List, [], ◌∷◌, length, map, set, Option, Some, None, Result, Ok, Err, sym, ap, ◌∙◌, refl, arith}
use Rattle.std.specs.Prelude.{replicate}
use Rattle.std.specs.Result.{result_err}
use Rattle.std.specs.Str.Parse.{digits_value}
use Rattle.std.proofs.Math.Seq.{sets, sets-eq}
use Rattle.std.proofs.lemmas.List.{length-replicate, length-map}
use Rattle.pg_image.specs.declared.fault.ImageFault.{ImageFault}
use Rattle.pg_image.specs.declared.fault.ImageFault.TheVariants.{Grammar}
use Rattle.pg_image.specs.declared.row.RowText.{RowText}
use Rattle.pg_image.specs.Images.{Row, content, parts_of, is_row, row_of, rows_from, with_line, in_front, put, then_due}
use Rattle.pg_image.specs.Left.{lines_left}
use Rattle.pg_image.specs.Forms.{words_in, row_on}
use Rattle.pg_image.specs.Placing.{clash_of, place_rows, IsPut, IsClash, IsLinePut, IsLineClash}
use Rattle.pg_image.proofs.Scans.{rows_cut, rows_none}

-- ---- flags

pub mark_next : (given : List Bool) (k end : ℕ) → k < end → sets (set given k true) (k + 1) (replicate (end - (k + 1)) true) ≡ sets given k (replicate (end - k) true)
mark_next given k end lt =
    let e : end - k ≡ suc (end - (k + 1)) = omega arith in
    let s : k + 1 ≡ suc k = omega arith in
    ap (λ j. sets (set given k true) j (replicate (end - (k + 1)) true)) s
    ∙ sym (ap (λ m. sets given k (replicate m true)) e)

pub mark_all : (given : List Bool) (k end : ℕ) → end ≤ k → sets given k (replicate (end - k) true) ≡ given
mark_all given k end le =
    let e : end - k ≡ 0 = omega arith in
    ap (λ m. sets given k (replicate m true)) e

pub mark_is : (given : List Bool) (first count : ℕ) → first + count ≤ length given → sets given first (replicate count true) ≡ put first (replicate count true) given
mark_is given first count room = sets-eq (replicate count true) given first (omega (arith, length-replicate {A = Bool} count true))

-- ---- words

pub words_all : (cells : List ℕ) (k : ℕ) (text : List ℕ) → parts_of text ≡ [] → sets cells k (words_in text) ≡ cells
words_all cells k text none = ap (λ parts. sets cells k (map (digits_value 16) parts)) none

pub words_are : (cells : List ℕ) (first : ℕ) (text : List ℕ) → first + length (parts_of text) ≤ length cells → sets cells first (words_in text) ≡ put first (words_in text) cells
words_are cells first text room = sets-eq (words_in text) cells first (omega (arith, length-map (parts_of text) (digits_value 16)))

-- ---- a row

pub row_clash : (cells : List ℕ) (given : List Bool) (n : ℕ) (r : RowText) (fault : ImageFault) → length (parts_of r.words.now) ≡ r.count
    → Some fault ≡ clash_of given n r.first r.count → IsClash (row_on n r) cells given fault
unfolding place_rows
row_clash cells given n r fault count found =
    let len : length (words_in r.words.now) ≡ r.count = length-map (parts_of r.words.now) (digits_value 16) ∙ count in
    let is : clash_of given n r.first (length (words_in r.words.now)) ≡ Some fault = ap (clash_of given n r.first) len ∙ sym found in
    λ behind. ap (λ found. elim found [
      | Some fault ↦ Err fault
      | None ↦ place_rows (put r.first (words_in r.words.now) cells) (put r.first (replicate (length (words_in r.words.now)) true) given) behind
    ]) is

pub row_put : (cells cells' : List ℕ) (given given' : List Bool) (n : ℕ) (r : RowText) → length (parts_of r.words.now) ≡ r.count
    → None ≡ clash_of given n r.first r.count → cells' ≡ put r.first (words_in r.words.now) cells → given' ≡ put r.first (replicate r.count true) given
    → IsPut (row_on n r) cells given cells' given'
unfolding place_rows
row_put cells cells' given given' n r count found words flags =
    let len : length (words_in r.words.now) ≡ r.count = length-map (parts_of r.words.now) (digits_value 16) ∙ count in
    let is : clash_of given n r.first (length (words_in r.words.now)) ≡ None = ap (clash_of given n r.first) len ∙ sym found in
    λ behind. ap (λ found. elim found [
      | Some fault ↦ Err fault
      | None ↦ place_rows (put r.first (words_in r.words.now) cells) (put r.first (replicate (length (words_in r.words.now)) true) given) behind
    ]) is
    ∙ ap (λ m. place_rows (put r.first (words_in r.words.now) cells) (put r.first (replicate m true) given) behind) len
    ∙ ap (λ cs. place_rows cs (put r.first (replicate r.count true) given) behind) (sym words)
    ∙ ap (λ gs. place_rows cells' gs behind) (sym flags)

-- ---- a line

fault_in_front : (row : Row) (behind : Result (List Row) ImageFault) → result_err (in_front row behind) ≡ result_err behind
fault_in_front row (Ok rows) = refl
fault_in_front row (Err fault) = refl

formed_if : (b : Bool) (n : ℕ) (row : Row) (behind : Result (List Row) ImageFault) → result_err (cond b (in_front row behind) (Err (Grammar n))) ≡ None → result_err behind ≡ None
formed_if true n row behind h = sym (fault_in_front row behind) ∙ h
formed_if false n row behind h = cc

-- where a text has the form of an image, so do the lines behind its first
formed_behind : (w n : ℕ) (parts : List (List ℕ)) (behind : Result (List Row) ImageFault) → result_err (with_line w n parts behind) ≡ None → result_err behind ≡ None
formed_behind w n [] behind h = h
formed_behind w n (head ∷ rest) behind h = formed_if (is_row w (head ∷ rest)) n (row_of n head rest) behind h

pub formed_later : (w n : ℕ) (left rest : Option (List ℕ)) (line : List ℕ) → lines_left left ≡ line ∷ lines_left rest
    → result_err (rows_from w n (lines_left left)) ≡ None → result_err (rows_from w (n + 1) (lines_left rest)) ≡ None
formed_later w n left rest line cut formed =
    formed_behind w n (parts_of (content line)) (rows_from w (n + 1) (lines_left rest)) (sym (ap result_err (rows_cut w n left rest line cut)) ∙ formed)

clash_before : (w n : ℕ) (parts : List (List ℕ)) (cells : List ℕ) (given : List Bool) (fault : ImageFault) (behind : Result (List Row) ImageFault)
    → IsLineClash w n parts cells given fault → result_err behind ≡ None → then_due (with_line w n parts behind) (place_rows cells given) ≡ Err fault
clash_before w n parts cells given fault (Ok rows) clash formed = clash rows
clash_before w n parts cells given fault (Err other) clash formed = cc

pub line_clash : (w n : ℕ) (left rest : Option (List ℕ)) (line : List ℕ) (cells : List ℕ) (given : List Bool) (fault : ImageFault) → lines_left left ≡ line ∷ lines_left rest
    → result_err (rows_from w n (lines_left left)) ≡ None → IsLineClash w n (parts_of (content line)) cells given fault
    → then_due (rows_from w n (lines_left left)) (place_rows cells given) ≡ Err fault
line_clash w n left rest line cells given fault cut formed clash =
    ap (λ r. then_due r (place_rows cells given)) (rows_cut w n left rest line cut)
    ∙ clash_before w n (parts_of (content line)) cells given fault (rows_from w (n + 1) (lines_left rest)) clash (formed_later w n left rest line cut formed)

pub line_put : (w n : ℕ) (left rest : Option (List ℕ)) (line : List ℕ) (cells cells' : List ℕ) (given given' : List Bool) → lines_left left ≡ line ∷ lines_left rest
    → IsLinePut w n (parts_of (content line)) cells given cells' given'
    → then_due (rows_from w (n + 1) (lines_left rest)) (place_rows cells' given') ≡ then_due (rows_from w n (lines_left left)) (place_rows cells given)
line_put w n left rest line cells cells' given given' cut is_put =
    sym (is_put (rows_from w (n + 1) (lines_left rest))) ∙ sym (ap (λ r. then_due r (place_rows cells given)) (rows_cut w n left rest line cut))

pub rows_all : (w n : ℕ) (left : Option (List ℕ)) (cells : List ℕ) (given : List Bool) → left ≡ None
    → then_due (rows_from w n (lines_left left)) (place_rows cells given) ≡ Ok cells
unfolding place_rows
rows_all w n left cells given none = ap (λ r. then_due r (place_rows cells given)) (rows_none w n left none)
