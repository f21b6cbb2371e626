use Rattle.std.proofs.Common.{◌≡◌, ◌++◌, map, drop}
use Rattle.pg_cert.specs.Verdicts.{mark_of}
use Rattle.pg_cert.proofs.report.report_of.Given as goal

abbrev pub invariant-loop-finding : goal.invariant-loop-finding
invariant-loop-finding l = l.marks ++ map mark_of (drop l.finding-index l.cert.findings) ≡ map mark_of l.cert.findings
