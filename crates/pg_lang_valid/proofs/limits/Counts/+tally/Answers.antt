use Rattle.std.proofs.Common.{ap, ◌∙◌, arith}
use Rattle.pg_lang_valid.specs.Limits.{both, stmt_tally}
use Rattle.pg_lang_valid.specs.Counted.{capped, added}
use Rattle.pg_lang_valid.proofs.CountLemmas.{added-capped, counted_more, counted_all}
use Rattle.pg_lang_valid.proofs.limits.Counts.+tally.Goals as goal

pub of_stmts-loop-stmt-preserved : goal.of_stmts-loop-stmt-preserved
of_stmts-loop-stmt-preserved t c =
    let before = c.loop-stmt.invariant in
    let s = c.stmt-item.result in (
      both before.0 (stmt_tally s),
      c.and-counts.ensures ∙ ap (λ x. added x c.of_stmt.result) before.1 ∙ ap (added (capped before.0)) c.of_stmt.ensures ∙ added-capped before.0 (stmt_tally s),
      counted_more before.0 c.args.stmts.now c.loop-stmt.stmt-index s s c.loop-stmt-test.true c.stmt-item.is before.2,
    )

pub of_stmts-returns : goal.of_stmts-returns
of_stmts-returns t c =
    let before = c.loop-stmt.invariant in
    before.1 ∙ ap capped (counted_all before.0 c.args.stmts.now c.loop-stmt.stmt-index (omega arith) before.2)
