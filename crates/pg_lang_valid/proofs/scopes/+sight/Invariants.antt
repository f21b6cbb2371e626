use Rattle.std.proofs.Common.{◌≡◌, length, take, drop, map}
use Rattle.pg_lang_valid.specs.Scopes.{seen_in_order, sight_of}
use Rattle.pg_lang_valid.proofs.scopes.+sight.Given as goal

abbrev pub invariant-unknown_in_order-loop-stmt : goal.invariant-unknown_in_order-loop-stmt
invariant-unknown_in_order-loop-stmt l = record {
  found : seen_in_order (map (sight_of l.pattern) (drop l.stmt-index l.stmts)) l.scope ≡ seen_in_order (map (sight_of l.pattern) l.stmts) l.initial.scope;
  kept : take (length l.initial.scope) l.scope ≡ l.initial.scope;
}
