-- The command `resume DESC CERT SAVED --steps N [--skip P]`.
use Rattle.std.specs.Prelude.{[], ◌∷◌, codes}
use Rattle.pg_cli_table.specs.Synopses.{Argument, Synopsis, File, OptionalNumber}
use Rattle.pg_cli_table.specs.Running.{steps}

-- how many cells are held before the guest's own: 0 to 1,048,575
abbrev pub skip : Argument
skip = OptionalNumber (codes "skip") (codes "P") (record { least = 0; most = 1048575 })

abbrev pub resume : Synopsis
resume = record {
  name = codes "resume";
  arguments = File (codes "DESC") ∷ File (codes "CERT") ∷ File (codes "SAVED") ∷ steps ∷ skip ∷ [];
}
