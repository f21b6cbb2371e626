-- A shelf in memory, as its callers see it.
use Rattle.std.specs.Prelude.{ℕ, List, [], ◌∷◌, length, take, Option, Some, None, is_some, cond, nat_le}
use Rattle.std.specs.Str.{bytes_eq}
use Rattle.pg_edge.specs.Count.{one_more}
use Rattle.pg_edge.specs.Failing.{taken_by}
use Rattle.pg_edge.specs.Shelf.{Files}

-- the files by name and content, how many bytes a save may leave in one, the calls that are to fail, and
-- how many calls, failed reads and failed saves there were
pub record ShelfView : Type 0 where
  pub files : List (List ℕ × List ℕ)
  pub room : ℕ
  pub failing : List (ℕ × ℕ)
  pub calls : ℕ
  pub reads : ℕ
  pub saves : ℕ

-- the content of the first file of the name
abbrev pub content_of : List (List ℕ × List ℕ) → List ℕ → Option (List ℕ)
content_of [] name = None
content_of (file ∷ rest) name = cond (bytes_eq file.0 name) (Some file.1) (content_of rest name)

-- a shelf in memory tells its files
abbrev pub told : ShelfView → Option Files
told shelf = Some (content_of shelf.files)

-- the files with this content in the first file of the name
abbrev pub with_content : List (List ℕ × List ℕ) → List ℕ → List ℕ → List (List ℕ × List ℕ)
with_content [] name bytes = []
with_content (file ∷ rest) name bytes = cond (bytes_eq file.0 name) ((file.0, bytes) ∷ rest) (file ∷ with_content rest name bytes)

-- how many bytes the next call takes before it fails, if it is to fail
abbrev pub next_call : ShelfView → Option ℕ
next_call shelf = taken_by shelf.failing (one_more shelf.calls)

-- the files after a save that a listed call cut short; one that is not listed has changed nothing
abbrev pub cut_short : List (List ℕ × List ℕ) → Option ℕ → List ℕ → List ℕ → List (List ℕ × List ℕ)
cut_short files None name bytes = files
cut_short files (Some taken) name bytes = with_content files name (take taken bytes)

-- the files after a save that failed, where it is to fail as given: bytes past the room change nothing
abbrev pub files_left : List (List ℕ × List ℕ) → ℕ → Option ℕ → List ℕ → List ℕ → List (List ℕ × List ℕ)
files_left files room failing name bytes = cond (nat_le (length bytes) room) (cut_short files failing name bytes) files

-- the shelf after a call that reads: a listed call is a failed read
abbrev pub after_read : ShelfView → ShelfView
after_read shelf = record shelf { calls = one_more shelf.calls; reads = cond (is_some (next_call shelf)) (one_more shelf.reads) shelf.reads }

-- the shelf after a save that went through
abbrev pub after_save : ShelfView → List ℕ → List ℕ → ShelfView
after_save shelf name bytes = record shelf { files = with_content shelf.files name bytes; calls = one_more shelf.calls }

-- the shelf after a save that failed
abbrev pub after_failed_save : ShelfView → List ℕ → List ℕ → ShelfView
after_failed_save shelf name bytes = record shelf { files = files_left shelf.files shelf.room (next_call shelf) name bytes; calls = one_more shelf.calls; saves = one_more shelf.saves }
