use Rattle.std.proofs.Common.{[], ◌∷◌, sym, subst}
use Rattle.pg_out_pair.specs.Telling.{IsSettled}
use Rattle.pg_out_pair.specs.Views.{seen_window}
use Rattle.pg_out_pair.proofs.SettledLemmas.{settled-kept}
use Rattle.pg_out_pair.proofs.differences.push_at.Goals as goal

pub returns-in_ok-push-in-Some-clause-kept : goal.returns-in_ok-push-in-Some-clause-kept
returns-in_ok-push-in-Some-clause-kept c = λ b h.
    let xs = seen_window c.args.x.now in
    let ys = seen_window c.args.y.now in
    subst (λ ds. IsSettled xs ys ds b) (sym c.in_ok-push-in-Some.ensures.items) (settled-kept xs ys c.args.list.now.items (c.in-Some.found ∷ []) b h)
