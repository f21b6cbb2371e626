use Rattle.std.proofs.Common.{◌+◌, ◌<◌, length, not, arith}
use Rattle.std.specs.List.{prefix_len}
use Rattle.std.specs.Prelude.{◌==◌}
use Rattle.std.proofs.lemmas.List.{take_rest}
use Rattle.pg_image.proofs.Cuts.{lines_first, lines_last}
use Rattle.pg_image.proofs.cutting.split_line.Goals as goal

pub returns-then-len-text-clause-lines : goal.returns-then-len-text-clause-lines
returns-then-len-text-clause-lines c =
    let e = c.len_before-len.ensures.len in
    let inside : prefix_len (λ b. not (b == 10)) c.args.text.now < length c.args.text.now = omega arith in
    rw (take_rest c.args.text.now (c.len_before-len.result + 1), e) (lines_first c.args.text.now inside)

pub returns-else-len-text-clause-lines : goal.returns-else-len-text-clause-lines
returns-else-len-text-clause-lines c =
    let e = c.len_before-len.ensures.len in
    lines_last c.args.text.now (omega arith)
