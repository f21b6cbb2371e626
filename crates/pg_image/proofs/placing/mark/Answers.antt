use Rattle.std.proofs.Common.{◌+◌, sym, ◌∙◌}
use Rattle.pg_image.proofs.Putting.{mark_next, mark_all, mark_is}
use Rattle.pg_image.proofs.placing.mark.Goals as goal

pub loop-k-preserved : goal.loop-k-preserved
loop-k-preserved c = mark_next c.loop-k.given c.loop-k.k (c.args.first + c.args.count) c.loop-k-test.true ∙ c.loop-k.invariant

pub returns : goal.returns
returns c =
    sym (mark_all c.loop-k.given c.loop-k.k (c.args.first + c.args.count) c.loop-k-test.false)
    ∙ c.loop-k.invariant
    ∙ mark_is c.args.given.now c.args.first c.args.count c.requires
