-- For told files `pg_go` comes to one thing.
use Rattle.std.proofs.Common.{Some}
use Rattle.pg_cert.specs.declared.cert.Family.TheVariants.{Plain}
use Rattle.pg_edge.specs.Shelf.{Files}
use Rattle.pg_cmd_base.specs.Steps.{Gives, IsOne}
use Rattle.pg_cmd_base.proofs.OneSteps.{one-gives, one-then}
use Rattle.pg_cmd_run.specs.Loading.{GuestsDue}
use Rattle.pg_cmd_run.proofs.LoadingLemmas.{one-guests}
use Rattle.pg_prog_go.specs.declared.request.GoWords.{GoWords}
use Rattle.pg_prog_go.specs.Going.{GoDue, files_of, judged_go_of}

pub one-go : (files : Files) (w : GoWords) → IsOne (GoDue w (Some files))
unfolding GoDue
one-go files w = one-then (GuestsDue Plain (files_of w) (Some files)) (λ l. Gives (judged_go_of w l)) (one-guests Plain (files_of w) files) (λ l. one-gives (judged_go_of w l))
