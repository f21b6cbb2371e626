use Rattle.pg_out_pair.specs.Views.{seen_window}
use Rattle.pg_out_pair.proofs.SettledLemmas.{all-settled}
use Rattle.pg_out_pair.proofs.differences.differences.Goals as goal

pub returns : goal.returns
returns c = record {
  each = c.in_ok-push_second.ensures.each;
  whole = all-settled (seen_window c.args.x.now) (seen_window c.args.y.now) _ c.requires
      (λ a n. c.in_ok-push_second.ensures.kept a (c.in_ok-push_first.ensures.whole a n)) c.in_ok-push_second.ensures.whole;
}
