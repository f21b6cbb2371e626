-- A question does not depend on whether traps tell their causes.
use Rattle.std.proofs.Common.{refl}
use Rattle.pg_ast.specs.declared.tree.Desc.{Desc}
use Rattle.pg_symex.specs.Body.{body_made, run_made}
use Rattle.pg_ask.specs.Fits.{fits_made}
use Rattle.pg_ask.specs.Ends.{end_made, both_made}
use Rattle.pg_ask.specs.Question.{begun_made, question_made}
use Rattle.pg_ask.specs.Means.{CausesKeepQuestions}

pub causes-keep : (d : Desc) → CausesKeepQuestions d
unfolding question_made begun_made fits_made both_made end_made run_made body_made
causes-keep d i kind causes = refl
