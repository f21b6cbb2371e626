use Rattle.std.proofs.Common.{refl}
use Rattle.pg_prog_base.proofs.CommentLemmas.{goes-nowhere, goes-further}
use Rattle.pg_prog_base.proofs.comments.push_said.Goals as goal

pub loop-byte-init : goal.loop-byte-init
loop-byte-init c = goes-nowhere c.args.text.now.items

pub loop-byte-preserved : goal.loop-byte-preserved
loop-byte-preserved c = goes-further _ _ _ _ c.loop-byte.invariant c.within_a_line.ensures c.in_ok-push.ensures.items
