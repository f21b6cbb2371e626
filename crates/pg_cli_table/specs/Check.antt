-- The command `check DESC --cert FILE [--budget K]`.
use Rattle.std.specs.Prelude.{[], ◌∷◌, codes}
use Rattle.pg_cli_table.specs.Synopses.{Argument, Synopsis, File, FileOption, OptionalNumber}

-- how many clauses the solver may learn for a question: 1 to 1,000,000
abbrev pub budget : Argument
budget = OptionalNumber (codes "budget") (codes "K") (record { least = 1; most = 1000000 })

abbrev pub check : Synopsis
check = record { name = codes "check"; arguments = File (codes "DESC") ∷ FileOption (codes "cert") (codes "FILE") ∷ budget ∷ [] }
