use Rattle.std.proofs.Common.{subst}
use Rattle.pg_prog_base.specs.Dimacs.{IsQuestionText}
use Rattle.pg_prog_base.proofs.Texts.{if_ok}
use Rattle.pg_prog_proofs.proofs.dimacs.written.Goals as goal

pub returns : goal.returns
returns c = if_ok c.text_of.result (λ text known i is. subst (λ clauses. IsQuestionText clauses text.items) (c.in_ok-asked.ensures.question i is) known) c.text_of.ensures
