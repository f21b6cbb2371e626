-- The command `resume DESC CERT SAVED --steps N [--skip P]`.
use Rattle.std.specs.Prelude.{ℕ, List, Option, Some, codes}
use Rattle.clap.specs.Walk.{Row}
use Rattle.pg_cli_parse.specs.Arguments.{number_or, with_number, with_text}
use Rattle.pg_cli_table.specs.declared.resume.ResumeWords.{ResumeWords}

-- how many cells are held before the guest's own, where the words do not say it
abbrev pub skip_unsaid : ℕ
skip_unsaid = 0

-- what the arguments ask for
abbrev pub resume_of : List Row → Option ResumeWords
resume_of rows = with_text (codes "DESC") rows (λ desc. with_text (codes "CERT") rows (λ cert.
    with_text (codes "SAVED") rows (λ saved. with_number (codes "steps") rows (λ steps. Some (record {
      desc = desc;
      cert = cert;
      saved = saved;
      steps = steps;
      skip = number_or (codes "skip") skip_unsaid rows;
    })))))
