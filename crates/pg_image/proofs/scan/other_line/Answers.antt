use Rattle.std.proofs.Common.{◌≡◌, ◌∷◌, sym, ap, ◌∙◌, arith}
use Rattle.std.specs.Option.{option_copied}
use Rattle.std.specs.Result.{result_err}
use Rattle.pg_image.specs.Left.{lines_left, bytes_left}
use Rattle.pg_image.proofs.Scans.{other_here, other_later, rows_none}
use Rattle.pg_image.proofs.scan.other_line.Goals as goal
use Rattle.pg_image.proofs.scan.other_line.Goals.{After-split_line}

is_cut : (c : After-split_line) → lines_left (option_copied c.loop-left.left) ≡ c.split_line.result.0.now ∷ lines_left (option_copied c.split_line.result.1)
is_cut c = ap (λ l. lines_left (option_copied l)) c.in-Some.is ∙ c.split_line.ensures.lines

pub returns-then-is_other : goal.returns-then-is_other
returns-then-is_other c =
    sym c.loop-left.invariant.so_far
    ∙ other_here c.args.w c.loop-left.n _ _ _ (is_cut (goal.at.returns-then-is_other c).After-split_line) c.if-is_other.ensures

pub loop-left-preserved : goal.loop-left-preserved
loop-left-preserved c =
    let room = ap (λ l. bytes_left (option_copied l)) c.in-Some.is in
    record {
      so_far =
          other_later c.args.w c.loop-left.n _ _ _ (is_cut (goal.at.loop-left-preserved c).After-split_line) c.if-is_other.ensures
          ∙ c.loop-left.invariant.so_far;
      room = omega (arith, room, c.loop-left.invariant.room, c.split_line.ensures.len);
    }

pub returns : goal.returns
returns c =
    sym c.loop-left.invariant.so_far ∙ ap result_err (rows_none c.args.w c.loop-left.n (option_copied c.loop-left.left) (ap option_copied c.in_default.is))
