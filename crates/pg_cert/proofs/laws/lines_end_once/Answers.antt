use Rattle.pg_cert.proofs.Said.{text_ends, ends_once}
use Rattle.pg_cert.proofs.laws.lines_end_once.Goals as goal

pub returns : goal.returns
returns c = record { ends = text_ends; once = ends_once }
