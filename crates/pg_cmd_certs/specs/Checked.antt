-- A certificate that was found for a description.
use Rattle.std.specs.Prelude.{ℕ, List}
use Rattle.pg_ast.specs.declared.tree.Desc.{Desc}
use Rattle.pg_cert.specs.declared.cert.Family.{Family}
use Rattle.pg_cert.specs.declared.report.Report.{Report}
use Rattle.pg_classify.specs.Classified.{AreSearched}
use Rattle.pg_cmd_certs.specs.Saving.{IsWritten}

-- a valid certificate, whose refutations are trimmed, and whose open logs spend the budget
pub record IsChecked (d : Desc) (family : Family) (budget : ℕ) (bytes : List ℕ) (report : Report) : Type 0 where
  pub written : IsWritten d family bytes report
  pub searched : AreSearched d family budget written.cert.findings
