-- The command `gen NUMBER SIZE --cert FILE`.
use Rattle.std.specs.Prelude.{[], ◌∷◌, codes}
use Rattle.pg_cli_table.specs.Synopses.{Argument, Synopsis, FileOption, Number}

-- the number that the description is made of: 0 to 2 ^ 64 - 1
abbrev pub number : Argument
number = Number (codes "NUMBER") (record { least = 0; most = 18446744073709551615 })

-- how many instructions the description has: 1 to 60
abbrev pub size : Argument
size = Number (codes "SIZE") (record { least = 1; most = 60 })

abbrev pub gen : Synopsis
gen = record { name = codes "gen"; arguments = number ∷ size ∷ FileOption (codes "cert") (codes "FILE") ∷ [] }
