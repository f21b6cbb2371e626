-- The command `run DESC CERT IMAGE.. --grant G --steps N [--slice K]`.
use Rattle.std.specs.Prelude.{[], ◌∷◌, codes}
use Rattle.pg_cli_table.specs.Synopses.{Argument, Synopsis, File, Files, OptionalNumber}
use Rattle.pg_cli_table.specs.Running.{grant, steps}

-- how many steps a guest does before the next has its turn: 1 to 1,000,000
abbrev pub slice : Argument
slice = OptionalNumber (codes "slice") (codes "K") (record { least = 1; most = 1000000 })

abbrev pub run : Synopsis
run = record {
  name = codes "run";
  arguments = File (codes "DESC") ∷ File (codes "CERT") ∷ Files (codes "IMAGE") ∷ grant ∷ steps ∷ slice ∷ [];
}
