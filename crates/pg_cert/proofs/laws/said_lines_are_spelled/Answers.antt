use Rattle.pg_cert.proofs.Said.{said_spelled}
use Rattle.pg_cert.proofs.laws.said_lines_are_spelled.Goals as goal

pub returns : goal.returns
returns c = said_spelled
