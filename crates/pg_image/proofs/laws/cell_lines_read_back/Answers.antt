use Rattle.pg_image.proofs.ReadsBack.{rows_due-cells_text}
use Rattle.pg_image.proofs.laws.cell_lines_read_back.Goals as goal

pub returns : goal.returns
returns c w first words bytes least small some all = rows_due-cells_text w first words bytes least small some all
