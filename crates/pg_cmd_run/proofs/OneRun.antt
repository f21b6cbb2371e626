-- A command that runs images comes to one thing, for told files.
use Rattle.std.proofs.Common.{Some}
use Rattle.pg_cert.specs.declared.cert.Family.{Family}
use Rattle.pg_cli_table.specs.declared.run.RunWords.{RunWords}
use Rattle.pg_edge.specs.Shelf.{Files}
use Rattle.pg_cmd_base.specs.Steps.{Gives, IsOne}
use Rattle.pg_cmd_base.proofs.OneSteps.{one-gives, one-then}
use Rattle.pg_cmd_run.specs.Loading.{GuestsDue}
use Rattle.pg_cmd_run.specs.Run.{RunDue, files_of, judged_run_of}
use Rattle.pg_cmd_run.proofs.LoadingLemmas.{one-guests}

pub one-run : (family : Family) (files : Files) (r : RunWords) → IsOne (RunDue family r (Some files))
unfolding RunDue
one-run family files r = one-then (GuestsDue family (files_of r) (Some files)) (λ l. Gives (judged_run_of r l)) (one-guests family (files_of r) files) (λ l. one-gives (judged_run_of r l))
