use Rattle.std.proofs.Common.{rules}
use Rattle.pg_prog_base.proofs.CommentLemmas.{no-comments}
use Rattle.pg_prog_base.proofs.question.text_of.Goals as goal

pub push_comments-requires : goal.push_comments-requires
push_comments-requires c = no-comments _ (search rules)

pub returns : goal.returns
returns c = record { comments = c.push_comments.new.text.items; skipped = c.in_ok-push_comments.ensures; whole = search rules }
