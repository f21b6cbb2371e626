use Rattle.std.proofs.Common.{◌≡◌, ◌+◌, min, ◌∷◌, length, take, drop, ap, ◌∙◌, sym}
use Rattle.pg_move.specs.Reading.{cut_lines}
use Rattle.pg_move.proofs.CutLemmas.{line_len, first_cut}
use Rattle.pg_move.proofs.reading.split_line.Goals as goal

pub returns-clause-lines : goal.returns-clause-lines
returns-clause-lines c =
    let bytes = c.args.bytes.now in
    let cut = c.split_at.ensures in
    let len : line_len bytes ≡ c.min-end.result = sym (c.min-end.ensures ∙ ap (λ n. min (n + 1) (length bytes)) c.len_before.ensures.len) in
    first_cut bytes c.requires ∙ ap (λ n. take n bytes ∷ cut_lines (drop n bytes)) len
    ∙ ap (λ first. first ∷ cut_lines (drop c.min-end.result bytes)) (sym cut.front)
    ∙ ap (λ behind. c.split_at.result.0.now ∷ cut_lines behind) (sym cut.back)
