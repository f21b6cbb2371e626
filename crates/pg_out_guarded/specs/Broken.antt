-- The instructions that are shown not to be privileged and shown to be sensitive.
use Rattle.std.specs.Prelude.{◌≡◌, ℕ, ◌<◌, Bool, List, length, Some, slice_get}
use Rattle.pg_cert.specs.declared.report.Report.{Report}
use Rattle.pg_cert.specs.Verdicts.{breaks, kind_count, marks_of}

-- for each of so many instructions, whether its marks say so
pub record AreBroken (report : Report) (count : ℕ) (broken : List Bool) : Type 0 where
  pub whole : length broken ≡ count
  pub each : (k : ℕ) → k < count → slice_get broken k ≡ Some (breaks (marks_of (kind_count report.family) report.marks k))
