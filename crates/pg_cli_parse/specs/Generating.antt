-- The command `gen NUMBER SIZE --cert FILE`.
use Rattle.std.specs.Prelude.{List, Option, Some, codes}
use Rattle.clap.specs.Walk.{Row}
use Rattle.pg_cli_parse.specs.Arguments.{with_number, with_text}
use Rattle.pg_cli_table.specs.declared.generating.GenWords.{GenWords}

-- what the arguments ask for
abbrev pub gen_of : List Row → Option GenWords
gen_of rows = with_number (codes "NUMBER") rows (λ number. with_number (codes "SIZE") rows (λ count.
    with_text (codes "cert") rows (λ cert. Some (record { number = number; count = count; cert = cert }))))
