-- What a certificate comes to that is read as one of either family.
use Rattle.std.specs.Prelude.{ℕ, List, Option}
use Rattle.pg_ast.specs.declared.tree.Desc.{Desc}
use Rattle.pg_cert.specs.declared.cert.Family.{Family}
use Rattle.pg_cert.specs.declared.report.Report.{Report}
use Rattle.pg_edge.specs.Shelf.{Files}
use Rattle.pg_cmd_certs.specs.Certificates.{CertDue}
use Rattle.pg_cmd_base.specs.Steps.{Step}
use Rattle.pg_cmd_base.specs.declared.refusal.Refusal.{Refusal}

-- the certificate of a machine, read as one of either family
unfoldable pub EitherDue : Desc → Option Files → List ℕ → Step Refusal Report
EitherDue d told name outcome = (family : Family) × CertDue d family told name outcome
