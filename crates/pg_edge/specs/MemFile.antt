-- The files that a shelf in memory keeps.
use Rattle.std.specs.Prelude.{ℕ, ◌≤◌, List, map, string_bytes, vec_capacity}
use Rattle.pg_edge.specs.declared.mem_file.MemFile.{MemFile}

-- a file's name and content
abbrev pub shown : MemFile → List ℕ × List ℕ
shown file = (string_bytes file.name, file.bytes.items)

-- the names and contents of files
abbrev pub all_shown : List MemFile → List (List ℕ × List ℕ)
all_shown files = map shown files

-- a file's storage has room for so many bytes
abbrev pub HasRoom : ℕ → MemFile → Type 0
HasRoom room file = room ≤ vec_capacity file.bytes
