-- The command `disasm DESC IMAGE --grant G`.
use Rattle.std.specs.Prelude.{[], ◌∷◌, codes}
use Rattle.pg_cli_table.specs.Synopses.{Synopsis, File}
use Rattle.pg_cli_table.specs.Running.{grant}

abbrev pub disasm : Synopsis
disasm = record { name = codes "disasm"; arguments = File (codes "DESC") ∷ File (codes "IMAGE") ∷ grant ∷ [] }
