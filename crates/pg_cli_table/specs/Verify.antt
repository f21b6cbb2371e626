-- The command `verify DESC CERT`.
use Rattle.std.specs.Prelude.{[], ◌∷◌, codes}
use Rattle.pg_cli_table.specs.Synopses.{Synopsis, File}

abbrev pub verify : Synopsis
verify = record { name = codes "verify"; arguments = File (codes "DESC") ∷ File (codes "CERT") ∷ [] }
