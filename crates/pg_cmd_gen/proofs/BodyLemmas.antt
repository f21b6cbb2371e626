-- The six bodies in each class of validity, where a pattern has the fields x, y and z.
use Rattle.std.proofs.Common.{◌≡◌, ℕ, ◌==◌, Bool, true, false, if◌then◌else◌, List, [], map, None, lit≤}
use Rattle.pg_ast.specs.declared.tree.Stmt.{Stmt}
use Rattle.pg_ast.specs.Levels.{IsShallow}
use Rattle.pg_ast.proofs.ExprEquations.{depth_of_rules}
use Rattle.pg_ast.proofs.StmtEquations.{expr_levels_rules, block_levels_rules}
use Rattle.pg_lang_valid.specs.Limits.{stmt_tally, all_of, both, tally_limit}
use Rattle.pg_lang_valid.specs.Twice.{let_names, all_names}
use Rattle.pg_lang_valid.specs.Scopes.{sight_of, seen_in_order}
use Rattle.pg_lang_valid.specs.Widths.{Setting, fare_of, fares_in_order, broken_place}
use Rattle.pg_lang_valid.proofs.CheckExprEquations.{expr_tally_rules, unknown_name_rules}
use Rattle.pg_lang_valid.proofs.CheckStmtEquations.{stmt_tally_rules, let_names_rules, sight_of_rules}
use Rattle.pg_lang_valid.proofs.WidthEquations.{judged_rules}
use Rattle.pg_lang_valid.proofs.FareEquations.{fare_rules}
use Rattle.pg_cmd_gen.proofs.Tables.{HasFields}
use Rattle.pg_cmd_gen.specs.Bodies.{adds, xors, jumps_where_equal, traps, loads_register, stores_relocation, body_of}

-- the setting of words of 32 bits and addresses of 8
abbrev pub setting_by : List ℕ → Setting
setting_by pattern = record { w = 32; a = 8; pattern = pattern }

-- a body breaks no limit, binds nothing, names no more than these fields, and has the widths that are wanted
pub record IsSound (body : List Stmt) : Type 0 where
  pub shallow : IsShallow body
  pub limits : tally_limit (all_of (map stmt_tally body)) ≡ None
  pub lets : all_names (map let_names body) ≡ []
  pub names : (pattern : List ℕ) → HasFields pattern → seen_in_order (map (sight_of pattern) body) [] ≡ None
  pub widths : (pattern : List ℕ) → HasFields pattern → broken_place (fares_in_order (map (fare_of (setting_by pattern)) body) 0 []) ≡ None

adds-sound : IsSound adds
unfolding all_of both seen_in_order fares_in_order
adds-sound = record {
  shallow = record { blocks = simp block_levels_rules (lit≤ tt); exprs = simp (expr_levels_rules, depth_of_rules) (lit≤ tt) };
  limits = simp (stmt_tally_rules, expr_tally_rules);
  lets = simp let_names_rules;
  names = λ pattern h. simp (sight_of_rules, unknown_name_rules, h.x, h.y, h.z);
  widths = λ pattern h. simp (fare_rules, judged_rules, h.x, h.y, h.z);
}

xors-sound : IsSound xors
unfolding all_of both seen_in_order fares_in_order
xors-sound = record {
  shallow = record { blocks = simp block_levels_rules (lit≤ tt); exprs = simp (expr_levels_rules, depth_of_rules) (lit≤ tt) };
  limits = simp (stmt_tally_rules, expr_tally_rules);
  lets = simp let_names_rules;
  names = λ pattern h. simp (sight_of_rules, unknown_name_rules, h.x, h.y, h.z);
  widths = λ pattern h. simp (fare_rules, judged_rules, h.x, h.y, h.z);
}

jumps-sound : IsSound jumps_where_equal
unfolding all_of both seen_in_order fares_in_order
jumps-sound = record {
  shallow = record { blocks = simp block_levels_rules (lit≤ tt); exprs = simp (expr_levels_rules, depth_of_rules) (lit≤ tt) };
  limits = simp (stmt_tally_rules, expr_tally_rules);
  lets = simp let_names_rules;
  names = λ pattern h. simp (sight_of_rules, unknown_name_rules, h.x, h.y, h.z);
  widths = λ pattern h. simp (fare_rules, judged_rules, h.x, h.y, h.z);
}

traps-sound : IsSound traps
unfolding all_of both seen_in_order fares_in_order
traps-sound = record {
  shallow = record { blocks = simp block_levels_rules (lit≤ tt); exprs = simp expr_levels_rules (lit≤ tt) };
  limits = simp stmt_tally_rules;
  lets = simp let_names_rules;
  names = λ pattern h. simp sight_of_rules;
  widths = λ pattern h. simp fare_rules;
}

loads-sound : IsSound loads_register
unfolding all_of both seen_in_order fares_in_order
loads-sound = record {
  shallow = record { blocks = simp block_levels_rules (lit≤ tt); exprs = simp (expr_levels_rules, depth_of_rules) (lit≤ tt) };
  limits = simp (stmt_tally_rules, expr_tally_rules);
  lets = simp let_names_rules;
  names = λ pattern h. simp (sight_of_rules, unknown_name_rules, h.x, h.y);
  widths = λ pattern h. simp (fare_rules, judged_rules, h.x, h.y);
}

stores-sound : IsSound stores_relocation
unfolding all_of both seen_in_order fares_in_order
stores-sound = record {
  shallow = record { blocks = simp block_levels_rules (lit≤ tt); exprs = simp (expr_levels_rules, depth_of_rules) (lit≤ tt) };
  limits = simp (stmt_tally_rules, expr_tally_rules);
  lets = simp let_names_rules;
  names = λ pattern h. simp (sight_of_rules, unknown_name_rules, h.x);
  widths = λ pattern h. simp (fare_rules, judged_rules, h.x);
}

either-sound : (test : Bool) (one other : List Stmt) → IsSound one → IsSound other → IsSound (if test then one else other)
either-sound true one other h k = h
either-sound false one other h k = k

-- each body is sound
pub body_of-sound : (n : ℕ) → IsSound (body_of n)
unfolding body_of
body_of-sound n =
    either-sound (n == 0) adds _ adds-sound (
    either-sound (n == 1) xors _ xors-sound (
    either-sound (n == 2) jumps_where_equal _ jumps-sound (
    either-sound (n == 3) traps _ traps-sound (
    either-sound (n == 4) loads_register stores_relocation loads-sound stores-sound))))
