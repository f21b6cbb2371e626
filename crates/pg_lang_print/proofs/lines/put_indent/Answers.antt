use Rattle.std.proofs.Common.{◌∙◌}
use Rattle.pg_lang_print.proofs.Laying.{indent-next}
use Rattle.pg_lang_print.proofs.lines.put_indent.Goals as goal

pub loop-left-preserved : goal.loop-left-preserved
loop-left-preserved c =
    rw (c.in_ok-push-2.ensures.items, c.in_ok-push.ensures.items) (indent-next c.loop-left.text.items c.loop-left.left c.loop-left-test.true ∙ c.loop-left.invariant)
