use Rattle.pg_move.proofs.ReadLemmas.{read_in_range}
use Rattle.pg_move.proofs.reading.read_saved.Goals as goal

pub returns-clause-saved : goal.returns-clause-saved
returns-clause-saved c = read_in_range c.args.shape.now c.args.bytes.now c.read_lines.result c.if-bytes-gt-SAVED_BYTES.false c.read_lines.ensures
