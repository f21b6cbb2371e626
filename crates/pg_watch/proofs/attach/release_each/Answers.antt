use Rattle.pg_watch.proofs.attach.release_each.Goals as goal

pub returns : goal.returns
returns c = λ q h w. c.attach_each.ensures q h (c.retire_each.ensures.watched q c.args.index.now.lists c.args.index.now.pairs.items h w)
