-- `nest` comes to one thing, for told files.
use Rattle.std.proofs.Common.{Some}
use Rattle.pg_cli_table.specs.declared.nest.NestWords.{NestWords}
use Rattle.pg_edge.specs.Shelf.{Files}
use Rattle.pg_cmd_certs.specs.Guests.{GuestDue}
use Rattle.pg_cmd_certs.proofs.GuestLemmas.{one-guest}
use Rattle.pg_cmd_base.specs.Steps.{Gives, IsOne}
use Rattle.pg_cmd_base.proofs.OneSteps.{one-gives, one-then}
use Rattle.pg_cmd_run.specs.Nest.{NestDue, files_of, nest_run_of}

pub one-nest : (files : Files) (n : NestWords) → IsOne (NestDue n (Some files))
unfolding NestDue
one-nest files n = one-then (GuestDue (files_of n) (Some files)) (λ l. Gives (nest_run_of n l)) (one-guest files (files_of n)) (λ l. one-gives (nest_run_of n l))
