-- The command `save DESC CERT IMAGE FILE --grant G --steps N`.
use Rattle.std.specs.Prelude.{List, Option, Some, codes}
use Rattle.clap.specs.Walk.{Row}
use Rattle.pg_cli_parse.specs.Arguments.{with_number, with_text}
use Rattle.pg_cli_table.specs.declared.save.SaveWords.{SaveWords}

-- what the arguments ask for
abbrev pub save_of : List Row → Option SaveWords
save_of rows = with_text (codes "DESC") rows (λ desc. with_text (codes "CERT") rows (λ cert.
    with_text (codes "IMAGE") rows (λ image. with_text (codes "FILE") rows (λ file.
    with_number (codes "grant") rows (λ grant. with_number (codes "steps") rows (λ steps. Some (record {
      desc = desc;
      cert = cert;
      image = image;
      file = file;
      grant = grant;
      steps = steps;
    })))))))
