use Rattle.pg_image.proofs.Lengths.{length-size_text, length-psw_text, length-cells_text}
use Rattle.pg_image.proofs.laws.line_lengths.Goals as goal

pub returns-clause-size : goal.returns-clause-size
returns-clause-size c = length-size_text

pub returns-clause-psw : goal.returns-clause-psw
returns-clause-psw c = length-psw_text

pub returns-clause-cells : goal.returns-clause-cells
returns-clause-cells c = length-cells_text
