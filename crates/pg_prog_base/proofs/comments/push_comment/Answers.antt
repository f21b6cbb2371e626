use Rattle.pg_prog_base.proofs.CommentLemmas.{one-more}
use Rattle.pg_prog_base.proofs.comments.push_comment.Goals as goal

pub returns : goal.returns
returns c = one-more _ _ _ _ c.requires c.in_ok-push.ensures.items c.in_ok-push_said.ensures c.in_ok-push-2.ensures.items
