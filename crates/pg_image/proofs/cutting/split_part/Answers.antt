use Rattle.std.proofs.Common.{◌≡◌, ℕ, List, ◌-◌, length, take, drop, not, sym, ap, ◌∙◌}
use Rattle.std.specs.List.{prefix_len}
use Rattle.std.proofs.lemmas.List.{take_rest}
use Rattle.pg_image.specs.Images.{is_gap}
use Rattle.pg_image.proofs.Cuts.{parts_first_at, parts_none}
use Rattle.pg_image.proofs.cutting.split_part.Goals as goal
use Rattle.pg_image.proofs.cutting.split_part.Goals.{After-part_len-len}

-- what is measured stands behind the separators
is_behind : (c : After-part_len-len) → c.part_len-len.result ≡ prefix_len (λ b. not (is_gap b)) (drop (prefix_len is_gap c.args.line.now) c.args.line.now)
is_behind c =
    c.part_len-len.ensures.len
    ∙ ap (prefix_len (λ b. not (is_gap b))) (take_rest c.args.line.now c.gap_len.result ∙ ap (λ n. drop n c.args.line.now) c.gap_len.ensures.len)

pub returns-then-len-eq0-clause-parts : goal.returns-then-len-eq0-clause-parts
returns-then-len-eq0-clause-parts c = parts_none c.args.line.now (sym (is_behind (goal.at.returns-then-len-eq0-clause-parts c).After-part_len-len) ∙ c.if-len-eq0.true)

pub returns-else-len-eq0-clause-parts : goal.returns-else-len-eq0-clause-parts
returns-else-len-eq0-clause-parts c =
    let g = c.gap_len.result in
    let front : List ℕ = take (length c.args.line.now - g) (drop g c.args.line.now) in
    rw (take_rest front c.part_len-len.result)
    (parts_first_at c.args.line.now front g c.part_len-len.result c.gap_len.ensures.len (take_rest c.args.line.now g) c.part_len-len.ensures.len c.if-len-eq0.false c.part_len-len.ensures.within)
