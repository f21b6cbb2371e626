-- What a certificate says of a run.
use Rattle.std.specs.Prelude.{◌≡◌, ℕ, ◌+◌, ◌≤◌, List, Option}
use Rattle.pg_alloc.specs.Fit.{kept_cells}
use Rattle.pg_cert.specs.declared.cert.Family.{Family}
use Rattle.pg_cert.specs.declared.cert.Family.TheVariants as family
use Rattle.pg_cert.specs.declared.report.Report.{Report}
use Rattle.pg_cert.specs.declared.report.Verdict.TheVariants.{Accepted}
use Rattle.pg_cert.specs.Verdicts.{verdict_of}
use Rattle.pg_edge.specs.Shelf.{Files}
use Rattle.pg_cmd_certs.specs.Certificates.{CertDue}
use Rattle.pg_cmd_certs.specs.Meaning.{IsAcceptedBy}
use Rattle.pg_lang_meaning.specs.Steps.{power_on, steps}
use Rattle.pg_cmd_base.specs.Steps.{Came}
use Rattle.pg_cmd_plain.specs.Bare.{BareRun}
use Rattle.pg_out_steps.specs.Handling.{goes_direct, direct_steps}
use Rattle.pg_out_steps.specs.declared.handling.Monitor.{Monitor}
use Rattle.pg_out_steps.specs.declared.handling.Monitor.TheVariants as monitor

-- the monitor of a family
abbrev pub monitor_of : Family → Monitor
monitor_of family.Plain = monitor.Plain
monitor_of family.Hybrid = monitor.Hybrid

-- wherever a grant of the run lies in the machine's storage, a monitor of this kind would handle each step as it does from cell 0 on
pub record IsAnywhere (m : Monitor) (r : BareRun) : Type 0 where
  pub step : (base n : ℕ) → base + r.grant ≤ r.desc.size → goes_direct m r.desc base (steps r.desc n (power_on r.image r.grant)) ≡
      goes_direct m r.desc 0 (steps r.desc n (power_on r.image r.grant))
  pub count : (base n : ℕ) → base + r.grant ≤ r.desc.size → direct_steps m r.desc base n (power_on r.image r.grant) ≡
      direct_steps m r.desc 0 n (power_on r.image r.grant)

-- the file of this name has a certificate that accepts the machine of a run, and there is room for the cells that a monitor keeps
pub record IsJudged (cert : List ℕ) (told : Option Files) (r : BareRun) (report : Report) : Type 0 where
  pub due : CertDue r.desc report.family told cert (Came report)
  pub verdict : verdict_of report.family report.marks ≡ Accepted
  pub accepted : IsAcceptedBy report.family r.desc
  pub room : kept_cells + r.grant ≤ r.desc.size
  pub anywhere : IsAnywhere (monitor_of report.family) r
