-- The command that words name, once they were taken.
use Rattle.std.specs.Prelude.{◌≡◌, List, Option, Some}
use Rattle.clap.specs.Walk.{Row, Text}
use Rattle.pg_cli_table.specs.Commands.{commands, named, synopsis}
use Rattle.pg_cli_table.specs.declared.names.CommandName.{CommandName}
use Rattle.pg_cli_parse.specs.Arguments.{HoldAll}

-- the rows of a command's arguments hold what the command wants
abbrev pub HoldsRows : CommandName → List Row → Type 0
HoldsRows command = HoldAll (synopsis command).arguments

-- a command was named, and its arguments hold what it wants
pub record HoldsCommand (entered : Option (Text × List Row)) : Type 0 where
  pub command : CommandName
  pub rows : List Row
  pub is_entered : entered ≡ Some ((synopsis command).name, rows)
  pub is_named : named commands (synopsis command).name ≡ Some command
  pub holds : HoldsRows command rows
