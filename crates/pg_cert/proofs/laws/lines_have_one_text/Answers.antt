use Rattle.pg_cert.proofs.OneText.{one_line}
use Rattle.pg_cert.proofs.laws.lines_have_one_text.Goals as goal

pub returns : goal.returns
returns c = one_line
