-- The command `hybrid DESC CERT IMAGE.. --grant G --steps N [--slice K]`: the arguments of `run`, for a hybrid monitor.
use Rattle.std.specs.Prelude.{codes}
use Rattle.pg_cli_table.specs.Run.{run}
use Rattle.pg_cli_table.specs.Synopses.{Synopsis}

abbrev pub hybrid : Synopsis
hybrid = record run { name = codes "hybrid" }
