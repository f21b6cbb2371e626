-- The command `check DESC --cert FILE [--budget K]`, and every command that takes the same words.
use Rattle.std.specs.Prelude.{ℕ, List, Option, Some, codes}
use Rattle.clap.specs.Walk.{Row}
use Rattle.pg_cli_parse.specs.Arguments.{number_or, with_text}
use Rattle.pg_cli_table.specs.declared.check.CheckWords.{CheckWords}

-- how many clauses the solver may learn for a question, where the words do not say it
abbrev pub budget_unsaid : ℕ
budget_unsaid = 20000

-- what the arguments ask for
abbrev pub check_of : List Row → Option CheckWords
check_of rows = with_text (codes "DESC") rows (λ desc. with_text (codes "cert") rows (λ cert. Some (record {
  desc = desc;
  cert = cert;
  budget = number_or (codes "budget") budget_unsaid rows;
})))
