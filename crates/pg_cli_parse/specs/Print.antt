-- The command `print DESC`.
use Rattle.std.specs.Prelude.{List, Option, Some, codes}
use Rattle.clap.specs.Walk.{Row}
use Rattle.pg_cli_parse.specs.Arguments.{with_text}
use Rattle.pg_cli_table.specs.declared.print.PrintWords.{PrintWords}

-- what the arguments ask for
abbrev pub print_of : List Row → Option PrintWords
print_of rows = with_text (codes "DESC") rows (λ desc. Some (record { desc = desc }))
