-- The command `nest DESC CERT IMAGE --grant G --steps N --depth D`.
use Rattle.std.specs.Prelude.{[], ◌∷◌, codes}
use Rattle.pg_cli_table.specs.Synopses.{Argument, Synopsis, File, NumberOption}
use Rattle.pg_cli_table.specs.Running.{grant, steps}

-- how many monitors there are: 1 to 4
abbrev pub depth : Argument
depth = NumberOption (codes "depth") (codes "D") (record { least = 1; most = 4 })

abbrev pub nest : Synopsis
nest = record {
  name = codes "nest";
  arguments = File (codes "DESC") ∷ File (codes "CERT") ∷ File (codes "IMAGE") ∷ grant ∷ steps ∷ depth ∷ [];
}
