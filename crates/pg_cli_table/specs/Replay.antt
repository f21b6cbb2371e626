-- The command `replay DESC CERT`.
use Rattle.std.specs.Prelude.{[], ◌∷◌, codes}
use Rattle.pg_cli_table.specs.Synopses.{Synopsis, File}

abbrev pub replay : Synopsis
replay = record { name = codes "replay"; arguments = File (codes "DESC") ∷ File (codes "CERT") ∷ [] }
