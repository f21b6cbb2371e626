-- What is told of a line's parts.
use Rattle.std.specs.Prelude.{◌≡◌, ℕ, ◌≤◌, List, [], length, map, Result, Err, true}
use Rattle.std.specs.List.{list_all}
use Rattle.std.specs.Result.{result_err}
use Rattle.std.specs.Str.Parse.{digits_value}
use Rattle.pg_image.specs.declared.fault.ImageFault.{ImageFault}
use Rattle.pg_image.specs.declared.fault.ImageFault.TheVariants.{Grammar}
use Rattle.pg_image.specs.declared.row.RowText.{RowText}
use Rattle.pg_image.specs.declared.row.Form.{Form}
use Rattle.pg_image.specs.declared.row.Form.TheVariants.{Blank, Other}
use Rattle.pg_image.specs.declared.row.Form.TheVariants as form
use Rattle.pg_image.specs.Images.{Row, parts_of, is_word, with_line, in_front}

-- the words of a row's text
abbrev pub words_in : List ℕ → List ℕ
words_in text = map (digits_value 16) (parts_of text)

-- the row of line n
abbrev pub row_on : ℕ → RowText → Row
row_on n r = record { line = n; first = r.first; words = words_in r.words.now }

-- the parts make this row: its text holds words alone, one at least, and they are so many
pub record MakeRow (w : ℕ) (parts : List (List ℕ)) (r : RowText) : Type 0 where
  pub words : list_all (is_word w) (parts_of r.words.now) ≡ true
  pub count : length (parts_of r.words.now) ≡ r.count
  pub some : 1 ≤ r.count
  pub row : (n : ℕ) (behind : Result (List Row) ImageFault) → with_line w n parts behind ≡ in_front (row_on n r) behind

-- the parts are of another form
abbrev pub MakeNone : ℕ → List (List ℕ) → Type 0
MakeNone w parts = (n : ℕ) (behind : Result (List Row) ImageFault) → with_line w n parts behind ≡ Err (Grammar n)

-- the parts are none, or make a row, so that a fault is that of a line behind
abbrev pub AddNoFault : ℕ → List (List ℕ) → Type 0
AddNoFault w parts = (n : ℕ) (behind : Result (List Row) ImageFault) → result_err (with_line w n parts behind) ≡ result_err behind

-- there are no parts, they make a row, or they make none
abbrev pub IsForm : ℕ → List (List ℕ) → Form → Type 0
IsForm w parts Blank = parts ≡ []
IsForm w parts (form.Row r) = MakeRow w parts r
IsForm w parts Other = MakeNone w parts
