-- The command `verify DESC CERT`.
use Rattle.std.specs.Prelude.{List, Option, Some, codes}
use Rattle.clap.specs.Walk.{Row}
use Rattle.pg_cli_parse.specs.Arguments.{with_text}
use Rattle.pg_cli_table.specs.declared.verify.VerifyWords.{VerifyWords}

-- what the arguments ask for
abbrev pub verify_of : List Row → Option VerifyWords
verify_of rows = with_text (codes "DESC") rows (λ desc. with_text (codes "CERT") rows (λ cert. Some (record { desc = desc; cert = cert })))
