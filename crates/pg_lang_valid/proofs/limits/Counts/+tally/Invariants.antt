use Rattle.std.proofs.Common.{◌≡◌, drop, map}
use Rattle.pg_lang_valid.specs.Limits.{Tally, all_of, stmt_tally, both}
use Rattle.pg_lang_valid.specs.Counted.{capped}
use Rattle.pg_lang_valid.proofs.limits.Counts.+tally.Given as goal

-- what is counted so far, and what the rest counts, make the whole
abbrev pub invariant-of_stmts-loop-stmt : goal.invariant-of_stmts-loop-stmt
invariant-of_stmts-loop-stmt l =
    (t : Tally) × (l.counts ≡ capped t) × (both t (all_of (map stmt_tally (drop l.stmt-index l.stmts))) ≡ all_of (map stmt_tally l.stmts))
