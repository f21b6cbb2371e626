use Rattle.std.proofs.Common.{◌≡◌, ◌∷◌, sym, ap, ◌∙◌, arith}
use Rattle.std.specs.Option.{option_copied}
use Rattle.pg_image.specs.Left.{lines_left, bytes_left}
use Rattle.pg_asm.proofs.PassLemmas.{foreign_here, foreign_later, foreign_none}
use Rattle.pg_asm.proofs.scan.foreign_place.Goals as goal
use Rattle.pg_asm.proofs.scan.foreign_place.Goals.{After-split_line}

is_cut : (c : After-split_line) → lines_left (option_copied c.loop-left.left) ≡ c.split_line.result.0.now ∷ lines_left (option_copied c.split_line.result.1)
is_cut c = ap (λ l. lines_left (option_copied l)) c.in-Some.is ∙ c.split_line.ensures.lines

pub returns-in-Some-foreign_in : goal.returns-in-Some-foreign_in
returns-in-Some-foreign_in c =
    sym (foreign_here c.loop-left.place c.in-Some-foreign_in.k _ _ _ (is_cut (goal.at.returns-in-Some-foreign_in c).After-split_line) c.in-Some-foreign_in.ensures.value)
    ∙ c.loop-left.invariant.so_far

pub loop-left-preserved : goal.loop-left-preserved
loop-left-preserved c =
    let room = ap (λ l. bytes_left (option_copied l)) c.in-Some.is in
    record {
      so_far =
          foreign_later c.loop-left.place _ _ _ (is_cut (goal.at.loop-left-preserved c).After-split_line) (sym c.in_default-foreign_in.is ∙ c.foreign_in.ensures.value)
          ∙ c.loop-left.invariant.so_far;
      room = omega (arith, room, c.loop-left.invariant.room, c.split_line.ensures.len);
    }

pub returns : goal.returns
returns c = sym (foreign_none c.loop-left.place (option_copied c.loop-left.left) (ap option_copied c.in_default.is)) ∙ c.loop-left.invariant.so_far
