-- What is left of a text, once its first lines are read: nothing, or a text that begins with a line.
use Rattle.std.specs.Prelude.{ℕ, ◌+◌, List, [], length, Option, None, Some}
use Rattle.pg_image.specs.Images.{lines_of}

-- the lines that are left
abbrev pub lines_left : Option (List ℕ) → List (List ℕ)
lines_left None = []
lines_left (Some text) = lines_of text

-- the bytes that are left, with the LF before them
abbrev pub bytes_left : Option (List ℕ) → ℕ
bytes_left None = 0
bytes_left (Some text) = length text + 1
