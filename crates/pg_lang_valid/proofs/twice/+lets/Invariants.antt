use Rattle.std.proofs.Common.{◌≡◌, ◌++◌, drop, map}
use Rattle.pg_lang_valid.specs.Twice.{all_names, let_names}
use Rattle.pg_lang_valid.proofs.twice.+lets.Given as goal

abbrev pub invariant-add_all_lets-loop-stmt : goal.invariant-add_all_lets-loop-stmt
invariant-add_all_lets-loop-stmt l =
    l.names ++ all_names (map let_names (drop l.stmt-index l.stmts)) ≡ l.initial.names ++ all_names (map let_names l.stmts)
