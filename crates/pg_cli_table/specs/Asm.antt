-- The command `asm DESC SOURCE --grant G`.
use Rattle.std.specs.Prelude.{[], ◌∷◌, codes}
use Rattle.pg_cli_table.specs.Synopses.{Synopsis, File}
use Rattle.pg_cli_table.specs.Running.{grant}

abbrev pub asm : Synopsis
asm = record { name = codes "asm"; arguments = File (codes "DESC") ∷ File (codes "SOURCE") ∷ grant ∷ [] }
