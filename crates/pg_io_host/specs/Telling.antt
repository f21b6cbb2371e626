-- What a program says on standard error. Its lines begin with its own name.
use Rattle.std.specs.Prelude.{ℕ, if◌then◌else◌, List, [], ◌∷◌, ◌++◌, map, take, codes}
use Rattle.std.specs.Char.{is_ascii_control}
use Rattle.std.specs.declared.io.ErrorKind.{ErrorKind}
use Rattle.pg_io_host.specs.declared.refused.Cause.{Cause}
use Rattle.pg_io_host.specs.declared.refused.Deed.{Deed}
use Rattle.pg_io_host.specs.declared.refused.Refused.{Refused}

-- a byte of a name as it is shown: a control character as `?`
abbrev pub shown_byte : ℕ → ℕ
shown_byte byte = (if is_ascii_control byte then 63 else byte)

-- a line: `PROGRAM: TEXT`
unfoldable pub told_line : List ℕ → List ℕ → List ℕ
told_line program text = program ++ codes ": " ++ text ++ 10 ∷ []

-- the name of a refused call, with dots behind it where not all of it was kept
unfoldable pub name_text : Refused → List ℕ
name_text kept = map shown_byte kept.name.items ++ (if kept.is_cut then codes "..." else [])

-- the kind of an error in words
unfoldable pub why_text : ErrorKind → List ℕ
why_text ErrorKind.NotFound = codes "no such file or directory"
why_text ErrorKind.PermissionDenied = codes "permission denied"
why_text ErrorKind.IsADirectory = codes "is a directory"
why_text ErrorKind.NotADirectory = codes "not a directory"
why_text ErrorKind.InvalidFilename = codes "file name too long"
why_text ErrorKind.FilesystemLoop = codes "too many levels of symbolic links"
why_text ErrorKind.ReadOnlyFilesystem = codes "read-only file system"
why_text ErrorKind.StorageFull = codes "no space left on device"
why_text ErrorKind.QuotaExceeded = codes "disk quota exceeded"
why_text ErrorKind.FileTooLarge = codes "file too large"
why_text ErrorKind.ResourceBusy = codes "device or resource busy"
why_text ErrorKind.ExecutableFileBusy = codes "text file busy"
why_text ErrorKind.NotSeekable = codes "illegal seek"
why_text ErrorKind.BrokenPipe = codes "broken pipe"
why_text ErrorKind.OutOfMemory = codes "cannot allocate memory"
why_text kind = codes "input/output error"

-- what was not done, before the cause
abbrev pub deed_text : Deed → List ℕ
deed_text Deed.Read = codes "cannot be read: "
deed_text Deed.Size = codes "cannot be read: "
deed_text Deed.Save = codes "cannot be written: "

-- what was not done, and why
unfoldable pub cause_text : Deed → Cause → List ℕ
cause_text deed Cause.Missing = codes "no such file"
cause_text deed (Cause.System kind) = deed_text deed ++ why_text kind

-- what is said of a refused call
unfoldable pub refusal_text : Refused → List ℕ
refusal_text kept = name_text kept ++ codes ": " ++ cause_text kept.deed kept.cause

-- a line that is written over: carriage return, what keeps a terminal from wrapping, `PROGRAM: TEXT`, what erases the rest of a line,
-- and what lets the terminal wrap again
unfoldable pub progress_text : List ℕ → List ℕ → List ℕ
progress_text program text = (13 ∷ 27 ∷ codes "[?7l") ++ program ++ codes ": " ++ map shown_byte (take 74 text) ++ 27 ∷ codes "[K" ++ 27 ∷ codes "[?7h"

-- a line of a text of which no more is shown than comes
abbrev pub noted_line : List ℕ → List ℕ → List ℕ
noted_line program text = told_line program (map shown_byte (take 160 text))

-- what erases a line
unfoldable pub erase_text : List ℕ
erase_text = 13 ∷ 27 ∷ codes "[K"
