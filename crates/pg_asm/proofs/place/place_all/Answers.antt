use Rattle.std.proofs.Common.{◌≡◌, ◌∷◌, sym, ap, ◌∙◌, arith}
use Rattle.std.specs.Option.{option_copied}
use Rattle.pg_image.specs.Left.{lines_left, bytes_left}
use Rattle.pg_asm.specs.Lines.{said_as}
use Rattle.pg_asm.specs.Passes.{words_due}
use Rattle.pg_asm.proofs.PassLemmas.{said_other, words_later, words_clash, words_end, formed_later, place-room}
use Rattle.pg_asm.proofs.place.place_all.Goals as goal
use Rattle.pg_asm.proofs.place.place_all.Goals.{After-split_line}

is_cut : (c : After-split_line) → lines_left (option_copied c.loop-left.left) ≡ c.split_line.result.0.now ∷ lines_left (option_copied c.split_line.result.1)
is_cut c = ap (λ l. lines_left (option_copied l)) c.in-Some.is ∙ c.split_line.ensures.lines

pub returns-in-None-clause-told : goal.returns-in-None-clause-told
returns-in-None-clause-told c =
    sym c.loop-left.invariant.so_far
    ∙ ap (words_due c.args.machine.now.desc c.args.labels.now c.loop-left.n c.loop-left.place c.loop-left.cells)
    (said_other c.args.machine.now.desc.word c.loop-left.n _ _ _ (is_cut (goal.at.returns-in-None-clause-told c).After-split_line) c.in-None.ensures)

pub returns-in-Some-place_line-clause-told : goal.returns-in-Some-place_line-clause-told
returns-in-Some-place_line-clause-told c =
    sym c.loop-left.invariant.so_far
    ∙ words_clash c.args.machine.now.desc c.args.labels.now c.args.machine.now.desc.word c.loop-left.n c.loop-left.place c.loop-left.cells c.in-Some-place_line.fault _ _ _
    (said_as c.in-Some-line_for.said) (is_cut (goal.at.returns-in-Some-place_line-clause-told c).After-split_line) c.in-Some-line_for.ensures.0 c.loop-left.invariant.formed c.in-Some-place_line.ensures.told

pub loop-left-preserved : goal.loop-left-preserved
loop-left-preserved c =
    let cut = is_cut (goal.at.loop-left-preserved c).After-split_line in
    let room = ap (λ l. bytes_left (option_copied l)) c.in-Some.is in
    record {
      so_far =
          words_later c.args.machine.now.desc c.args.labels.now c.args.machine.now.desc.word c.loop-left.n c.loop-left.place _ c.loop-left.cells c.place_line.new.cells _ _ _
          (said_as c.in-Some-line_for.said) cut c.in-Some-line_for.ensures.0 c.place_behind-place.ensures c.in_default-place_line.ensures.told
          ∙ c.loop-left.invariant.so_far;
      formed = formed_later c.args.machine.now.desc.word c.loop-left.n _ _ _ (said_as c.in-Some-line_for.said) cut c.in-Some-line_for.ensures.0 c.loop-left.invariant.formed;
      fit = λ fit. c.place_line.ensures.fit (c.loop-left.invariant.fit fit);
      room = omega (arith, room, c.loop-left.invariant.room, c.split_line.ensures.len);
      first = omega (arith, c.loop-left.invariant.first);
      place = rw c.place_behind-place.ensures
          (place-room c.in-Some-line_for.said c.args.machine.now.desc.word c.loop-left.place (bytes_left (option_copied c.loop-left.left)) (bytes_left (option_copied c.split_line.result.1)) _
          c.in-Some-line_for.ensures.1
          (omega (arith, room, c.split_line.ensures.len)) (omega (arith, room, c.loop-left.invariant.first, c.loop-left.invariant.room, c.split_line.ensures.len)) c.loop-left.invariant.place);
    }

pub returns-clause-told : goal.returns-clause-told
returns-clause-told c =
    sym c.loop-left.invariant.so_far
    ∙ words_end c.args.machine.now.desc c.args.labels.now c.args.machine.now.desc.word c.loop-left.n c.loop-left.place c.loop-left.cells (option_copied c.loop-left.left) (ap option_copied c.in_default.is)
