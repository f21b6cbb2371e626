-- The command `asm DESC SOURCE --grant G`.
use Rattle.std.specs.Prelude.{List, Option, Some, codes}
use Rattle.clap.specs.Walk.{Row}
use Rattle.pg_cli_parse.specs.Arguments.{with_number, with_text}
use Rattle.pg_cli_table.specs.declared.asm.AsmWords.{AsmWords}

-- what the arguments ask for
abbrev pub asm_of : List Row → Option AsmWords
asm_of rows = with_text (codes "DESC") rows (λ desc. with_text (codes "SOURCE") rows (λ source.
    with_number (codes "grant") rows (λ grant. Some (record { desc = desc; source = source; grant = grant }))))
