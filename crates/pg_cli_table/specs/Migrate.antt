-- The command `migrate DESC CERT FILE`.
use Rattle.std.specs.Prelude.{[], ◌∷◌, codes}
use Rattle.pg_cli_table.specs.Synopses.{Synopsis, File}

abbrev pub migrate : Synopsis
migrate = record { name = codes "migrate"; arguments = File (codes "DESC") ∷ File (codes "CERT") ∷ File (codes "FILE") ∷ [] }
