use Rattle.std.proofs.Common.{◌≡◌, ◌∷◌, sym, ap, ◌∙◌, arith}
use Rattle.std.specs.Option.{option_copied}
use Rattle.pg_image.specs.Left.{lines_left, bytes_left}
use Rattle.pg_image.proofs.Putting.{formed_later, line_clash, line_put, rows_all}
use Rattle.pg_image.proofs.placing.place_all.Goals as goal
use Rattle.pg_image.proofs.placing.place_all.Goals.{After-split_line}

is_cut : (c : After-split_line) → lines_left (option_copied c.loop-left.left) ≡ c.split_line.result.0.now ∷ lines_left (option_copied c.split_line.result.1)
is_cut c = ap (λ l. lines_left (option_copied l)) c.in-Some.is ∙ c.split_line.ensures.lines

pub returns-in-Some-place_line-clause-placed : goal.returns-in-Some-place_line-clause-placed
returns-in-Some-place_line-clause-placed c =
    sym c.loop-left.invariant.so_far
    ∙ line_clash c.args.w c.loop-left.n _ _ _ c.loop-left.cells c.loop-left.given c.in-Some-place_line.fault (is_cut (goal.at.returns-in-Some-place_line-clause-placed c).After-split_line) c.loop-left.invariant.formed c.in-Some-place_line.ensures.placed

pub loop-left-preserved : goal.loop-left-preserved
loop-left-preserved c =
    let cut = is_cut (goal.at.loop-left-preserved c).After-split_line in
    let room = ap (λ l. bytes_left (option_copied l)) c.in-Some.is in
    record {
      formed = formed_later c.args.w c.loop-left.n _ _ _ cut c.loop-left.invariant.formed;
      fit = c.place_line.ensures.fit;
      so_far =
          line_put c.args.w c.loop-left.n _ _ _ c.loop-left.cells c.place_line.new.cells c.loop-left.given c.place_line.new.given cut c.in_default-place_line.ensures.placed
          ∙ c.loop-left.invariant.so_far;
      room = omega (arith, room, c.loop-left.invariant.room, c.split_line.ensures.len);
    }

pub returns-clause-placed : goal.returns-clause-placed
returns-clause-placed c =
    sym c.loop-left.invariant.so_far
    ∙ rows_all c.args.w c.loop-left.n (option_copied c.loop-left.left) c.loop-left.cells c.loop-left.given (ap option_copied c.in_default.is)
