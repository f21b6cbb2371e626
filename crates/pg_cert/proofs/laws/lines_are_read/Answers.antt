use Rattle.pg_cert.proofs.OneText.{read_text-line}
use Rattle.pg_cert.proofs.laws.lines_are_read.Goals as goal

pub returns : goal.returns
returns c = read_text-line
