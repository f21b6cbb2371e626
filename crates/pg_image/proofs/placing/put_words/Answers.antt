use Rattle.std.proofs.Common.{sym, ◌∙◌}
use Rattle.pg_image.proofs.Putting.{words_all, words_are}
use Rattle.pg_image.proofs.placing.put_words.Goals as goal

pub returns-clause-put : goal.returns-clause-put
returns-clause-put c =
    sym (words_all c.loop-part.cells c.loop-part.k c.loop-part.left.now c.in_default.ensures.parts)
    ∙ c.loop-part.invariant.so_far
    ∙ words_are c.args.cells.now c.args.first c.args.text.now c.requires.room
