-- The command `migrate DESC CERT FILE`.
use Rattle.std.specs.Prelude.{List, Option, Some, codes}
use Rattle.clap.specs.Walk.{Row}
use Rattle.pg_cli_parse.specs.Arguments.{with_text}
use Rattle.pg_cli_table.specs.declared.migrate.MigrateWords.{MigrateWords}

-- what the arguments ask for
abbrev pub migrate_of : List Row → Option MigrateWords
migrate_of rows = with_text (codes "DESC") rows (λ desc. with_text (codes "CERT") rows (λ cert.
    with_text (codes "FILE") rows (λ file. Some (record { desc = desc; cert = cert; file = file }))))
