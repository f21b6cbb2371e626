use Rattle.std.proofs.Common.{◌∙◌, sym}
use Rattle.pg_edge.proofs.PutsLaws.{Puts-none}
use Rattle.pg_report.proofs.state.put_line.Goals as goal

pub returns-in-None : goal.returns-in-None
returns-in-None g c = rw (c.row_line.ensures.none c.in-None.is) (Puts-none _ _ _)

pub returns-in-Some : goal.returns-in-Some
returns-in-Some g c = rw (sym (c.as_slice.ensures.value ∙ c.in-Some.ensures.text)) c.put.ensures.puts
