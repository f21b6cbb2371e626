use Rattle.std.proofs.Common.{◌≡◌, ◌∷◌, sym, ap, ◌∙◌, arith}
use Rattle.std.specs.Option.{option_copied}
use Rattle.pg_image.specs.Left.{lines_left, bytes_left}
use Rattle.pg_asm.specs.Lines.{said_as}
use Rattle.pg_asm.specs.Sources.{Labels, first_place, no_labels}
use Rattle.pg_asm.specs.Passes.{labels_due}
use Rattle.pg_asm.proofs.PassLemmas.{said_other, labels_later, labels_end, place-room}
use Rattle.pg_asm.proofs.gather.labels_of.Goals as goal
use Rattle.pg_asm.proofs.gather.labels_of.Goals.{After-split_line}

is_cut : (c : After-split_line) → lines_left (option_copied c.loop-left.left) ≡ c.split_line.result.0.now ∷ lines_left (option_copied c.split_line.result.1)
is_cut c = ap (λ l. lines_left (option_copied l)) c.in-Some.is ∙ c.split_line.ensures.lines

pub returns-in-None : goal.returns-in-None
returns-in-None c =
    sym c.loop-left.invariant.so_far
    ∙ ap (labels_due c.loop-left.n c.loop-left.place c.loop-left.labels)
    (said_other c.args.w c.loop-left.n _ _ _ (is_cut (goal.at.returns-in-None c).After-split_line) c.in-None.ensures)

pub loop-left-preserved : goal.loop-left-preserved
loop-left-preserved c =
    let room = ap (λ l. bytes_left (option_copied l)) c.in-Some.is in
    record {
      so_far =
          labels_later c.args.w c.loop-left.n c.loop-left.place _ c.loop-left.labels c.add_line.new.labels _ _ _ (said_as c.in-Some-line_of.said) (is_cut (goal.at.loop-left-preserved c).After-split_line)
          c.in-Some-line_of.ensures.0 c.place_behind-place.ensures c.in-Ok.ensures
          ∙ c.loop-left.invariant.so_far;
      room = omega (arith, room, c.loop-left.invariant.room, c.split_line.ensures.len);
      first = omega (arith, c.loop-left.invariant.first);
      place = rw c.place_behind-place.ensures
          (place-room c.in-Some-line_of.said c.args.w c.loop-left.place (bytes_left (option_copied c.loop-left.left)) (bytes_left (option_copied c.split_line.result.1)) _ c.in-Some-line_of.ensures.1
          (omega (arith, room, c.split_line.ensures.len)) (omega (arith, room, c.loop-left.invariant.first, c.loop-left.invariant.room, c.split_line.ensures.len)) c.loop-left.invariant.place);
    }

pub returns : goal.returns
returns c =
    sym c.loop-left.invariant.so_far ∙ labels_end c.args.w c.loop-left.n c.loop-left.place c.loop-left.labels (option_copied c.loop-left.left) (ap option_copied c.in_default.is)
