-- The command `bare DESC IMAGE --grant G --steps N`.
use Rattle.std.specs.Prelude.{[], ◌∷◌, codes}
use Rattle.pg_cli_table.specs.Synopses.{Synopsis, File}
use Rattle.pg_cli_table.specs.Running.{grant, steps}

abbrev pub bare : Synopsis
bare = record { name = codes "bare"; arguments = File (codes "DESC") ∷ File (codes "IMAGE") ∷ grant ∷ steps ∷ [] }
