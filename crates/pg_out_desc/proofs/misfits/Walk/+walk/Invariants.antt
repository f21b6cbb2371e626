use Rattle.std.proofs.Common.{◌+◌, ◌*◌, map}
use Rattle.pg_lang_valid.specs.Limits.{all_of, stmt_tally}
use Rattle.pg_out_desc.proofs.misfits.Walk.+walk.Given as goal

-- a block has fewer statements than its if, and stands above each of its own
abbrev pub decreases-statement : goal.decreases-statement
decreases-statement l = 2 * (stmt_tally l.stmt.now).statements

abbrev pub decreases-block : goal.decreases-block
decreases-block l = 2 * (all_of (map stmt_tally l.stmts.now)).statements + 1
