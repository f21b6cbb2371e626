-- The command `nest DESC CERT IMAGE --grant G --steps N --depth D`.
use Rattle.std.specs.Prelude.{List, Option, Some, codes}
use Rattle.clap.specs.Walk.{Row}
use Rattle.pg_cli_parse.specs.Arguments.{with_number, with_text}
use Rattle.pg_cli_table.specs.declared.nest.NestWords.{NestWords}

-- what the arguments ask for
abbrev pub nest_of : List Row → Option NestWords
nest_of rows = with_text (codes "DESC") rows (λ desc. with_text (codes "CERT") rows (λ cert.
    with_text (codes "IMAGE") rows (λ image. with_number (codes "grant") rows (λ grant.
    with_number (codes "steps") rows (λ steps. with_number (codes "depth") rows (λ depth. Some (record {
      desc = desc;
      cert = cert;
      image = image;
      grant = grant;
      steps = steps;
      depth = depth;
    })))))))
