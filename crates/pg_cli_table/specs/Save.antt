-- The command `save DESC CERT IMAGE FILE --grant G --steps N`.
use Rattle.std.specs.Prelude.{[], ◌∷◌, codes}
use Rattle.pg_cli_table.specs.Synopses.{Synopsis, File}
use Rattle.pg_cli_table.specs.Running.{grant, steps}

abbrev pub save : Synopsis
save = record {
  name = codes "save";
  arguments = File (codes "DESC") ∷ File (codes "CERT") ∷ File (codes "IMAGE") ∷ File (codes "FILE") ∷ grant ∷ steps ∷ [];
}
