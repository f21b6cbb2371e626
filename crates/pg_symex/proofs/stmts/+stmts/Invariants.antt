use Rattle.std.proofs.Common.{◌+◌, ◌*◌, drop, map}
use Rattle.pg_lang_valid.specs.Limits.{all_of, if_any, stmt_tally}
use Rattle.std.specs.Option.{option_map}
use Rattle.pg_symex.specs.EntryView.{entry_as}
use Rattle.pg_symex.proofs.BlockSteps.{PartlyMade}
use Rattle.pg_symex.proofs.stmts.+stmts.Given as goal

-- the arms of an if have fewer statements than it has, and a block stands below what asks for it, above each of its statements
abbrev pub decreases-stmt : goal.decreases-stmt
decreases-stmt l = 5 * (stmt_tally l.s.now).statements

abbrev pub decreases-arms : goal.decreases-arms
decreases-arms l = 5 * ((all_of (map stmt_tally l.held.now)).statements + (if_any (option_map (map stmt_tally) l.other.now)).statements) + 4

abbrev pub decreases-otherwise : goal.decreases-otherwise
decreases-otherwise l = 5 * (if_any (option_map (map stmt_tally) l.other.now)).statements + 3

abbrev pub decreases-block : goal.decreases-block
decreases-block l = 5 * (all_of (map stmt_tally l.stmts.now)).statements + 2

abbrev pub decreases-in_order : goal.decreases-in_order
decreases-in_order l = 5 * (all_of (map stmt_tally l.stmts.now)).statements + 1

abbrev pub invariant-in_order-loop-s : goal.invariant-in_order-loop-s
invariant-in_order-loop-s l =
    PartlyMade (entry_as l.at) l.stmts (drop l.s-index l.stmts) l.initial.c.nodes l.initial.t l.initial.run l.c.nodes l.t l.run
