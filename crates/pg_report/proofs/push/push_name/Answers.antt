use Rattle.std.proofs.Common.{◌++◌, ◌∙◌, ap}
use Rattle.pg_lang_token.specs.Words.{most_name_bytes}
use Rattle.pg_report.proofs.Names.{take-within}
use Rattle.pg_report.proofs.push.push_name.Goals as goal

pub returns-clause-items : goal.returns-clause-items
returns-clause-items c =
    c.push.ensures.items ∙ ap (λ t. c.args.line.now.items ++ t) (take-within c.min.result most_name_bytes c.args.name.now c.min.ensures)
