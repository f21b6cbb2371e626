-- The command `print DESC`.
use Rattle.std.specs.Prelude.{[], ◌∷◌, codes}
use Rattle.pg_cli_table.specs.Synopses.{Synopsis, File}

abbrev pub print : Synopsis
print = record { name = codes "print"; arguments = File (codes "DESC") ∷ [] }
