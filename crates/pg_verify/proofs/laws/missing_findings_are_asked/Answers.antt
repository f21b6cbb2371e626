use Rattle.pg_verify.proofs.MissingLemmas.{missing_findings_are_asked}
use Rattle.pg_verify.proofs.laws.missing_findings_are_asked.Goals as goal

pub returns : goal.returns
returns c = missing_findings_are_asked
