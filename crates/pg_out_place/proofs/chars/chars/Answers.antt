use Rattle.std.proofs.Common.{◌-◌, ◌∙◌, ap, arith}
use Rattle.pg_out_place.specs.Places.{chars_behind}
use Rattle.pg_out_place.proofs.CharSteps.{chars_begun, chars_gone_on}
use Rattle.pg_out_place.proofs.chars.chars.Goals as goal
use Rattle.pg_out_place.proofs.chars.chars.Goals.{then-due-eq0, else-due-eq0}

pub loop-at-preserved : goal.loop-at-preserved
loop-at-preserved c =
    elim c.if-due-eq0.branch [
      | then-due-eq0 w ↦ record {
        few = omega arith;
        so_far = chars_begun c.loop-at.count c.loop-at.due c.loop-at.at (chars_behind 0 c.args.text.now) c.if-due-eq0.count c.if-due-eq0.due c.args.text.now (omega arith) w.if-due-eq0.true w.count-is (w.due-is ∙ ap (λ n. n - 1) w.char_len_at-due.ensures.len) c.loop-at.invariant.so_far;
      }
      | else-due-eq0 w ↦ record {
        few = omega arith;
        so_far = chars_gone_on c.loop-at.count c.loop-at.due c.loop-at.at (chars_behind 0 c.args.text.now) c.if-due-eq0.count c.if-due-eq0.due c.args.text.now (omega arith) (omega arith) w.count-is w.due-is c.loop-at.invariant.so_far;
      }
    ]
