use Rattle.std.proofs.Common.{Err, ◌∙◌}
use Rattle.pg_cert_migrate.proofs.FamilyLemmas.{then_rest, none_left, no_byte, cut_at}
use Rattle.pg_cert_migrate.proofs.reporting.feed_all.Goals as goal

pub pieces-preserved : goal.pieces-preserved
pieces-preserved g c =
    record {
      leads = c.pieces.invariant.leads ∙ then_rest c.pieces.verifier c.feed.new.self c.pieces.left.now c.split_at.result.0.now c.split_at.result.1.now
          (cut_at c.pieces.left.now c.split_at.result.0.now c.split_at.result.1.now _ c.split_at.ensures.front c.split_at.ensures.back) c.in-Ok.ensures.fed;
      some = c.in-Ok.ensures.some;
    }

pub returns-in-Err-clause-due : goal.returns-in-Err-clause-due
returns-in-Err-clause-due g c =
    λ n. c.pieces.invariant.leads ∙ then_rest c.pieces.verifier (Err c.in-Err.fault) c.pieces.left.now c.split_at.result.0.now c.split_at.result.1.now
    (cut_at c.pieces.left.now c.split_at.result.0.now c.split_at.result.1.now _ c.split_at.ensures.front c.split_at.ensures.back) (c.in-Err.ensures.due n)

pub returns-clause-fed : goal.returns-clause-fed
returns-clause-fed g c =
    c.pieces.invariant.leads ∙ none_left c.pieces.verifier c.pieces.left.now (no_byte c.pieces.left.now c.is_empty.result c.is_empty.ensures c.pieces-test.false)
