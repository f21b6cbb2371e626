-- The command `hcheck DESC --cert FILE [--budget K]`: the arguments of `check`, for the condition of hybrid machines.
use Rattle.std.specs.Prelude.{codes}
use Rattle.pg_cli_table.specs.Check.{check}
use Rattle.pg_cli_table.specs.Synopses.{Synopsis}

abbrev pub hcheck : Synopsis
hcheck = record check { name = codes "hcheck" }
