use Rattle.pg_text.proofs.Digits.{digits_utf8}
use Rattle.pg_text.proofs.number.number_below.Goals as goal

pub returns-in-Err : goal.returns-in-Err
returns-in-Err c = absurd (c.in-Err.ensures.cases.0 (digits_utf8 c.args.base c.args.digits.now c.requires.most c.requires.digits.1))
