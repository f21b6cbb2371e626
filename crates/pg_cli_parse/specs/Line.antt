-- The command line of the program, as plain data: each command as its synopsis says, and the whole line.
use Rattle.std.specs.Prelude.{map, true, false, codes}
use Rattle.clap.specs.Simple.{App, Shape, new_shape}
use Rattle.pg_cli_table.specs.Commands.{commands, synopsis}
use Rattle.pg_cli_table.specs.Synopses.{Synopsis}
use Rattle.pg_cli_parse.specs.Arguments.{rule}

-- a command with its arguments
abbrev pub shape : Synopsis → Shape
shape s = record (new_shape s.name) { rules = map rule s.arguments }

-- the program: a command has to be named, and there is no word for help or the version
abbrev pub program : Shape
program = record (new_shape (codes "pgv")) {
  is_leaf = false;
  disable_help_flag = true;
  disable_help_subcommand = true;
  disable_version_flag = true;
  subcommand_required = true;
}

-- the whole command line
abbrev pub line : App
line = record { top = program; subs = map (λ command. shape (synopsis command)) commands }
