-- The command `disasm DESC IMAGE --grant G`.
use Rattle.std.specs.Prelude.{List, Option, Some, codes}
use Rattle.clap.specs.Walk.{Row}
use Rattle.pg_cli_parse.specs.Arguments.{with_number, with_text}
use Rattle.pg_cli_table.specs.declared.disasm.DisasmWords.{DisasmWords}

-- what the arguments ask for
abbrev pub disasm_of : List Row → Option DisasmWords
disasm_of rows = with_text (codes "DESC") rows (λ desc. with_text (codes "IMAGE") rows (λ image.
    with_number (codes "grant") rows (λ grant. Some (record { desc = desc; image = image; grant = grant }))))
