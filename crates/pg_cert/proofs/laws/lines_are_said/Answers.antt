use Rattle.pg_cert.proofs.Said.{said-line}
use Rattle.pg_cert.proofs.laws.lines_are_said.Goals as goal

pub returns : goal.returns
returns c = said-line
