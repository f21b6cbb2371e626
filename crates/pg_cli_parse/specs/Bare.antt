-- The command `bare DESC IMAGE --grant G --steps N`.
use Rattle.std.specs.Prelude.{List, Option, Some, codes}
use Rattle.clap.specs.Walk.{Row}
use Rattle.pg_cli_parse.specs.Arguments.{with_number, with_text}
use Rattle.pg_cli_table.specs.declared.bare.BareWords.{BareWords}

-- what the arguments ask for
abbrev pub bare_of : List Row → Option BareWords
bare_of rows = with_text (codes "DESC") rows (λ desc. with_text (codes "IMAGE") rows (λ image.
    with_number (codes "grant") rows (λ grant. with_number (codes "steps") rows (λ steps. Some (record {
      desc = desc;
      image = image;
      grant = grant;
      steps = steps;
    })))))
