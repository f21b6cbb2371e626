use Rattle.std.proofs.Common.{◌≡◌, drop}
use Rattle.pg_lang_valid.specs.Scopes.{name_unknown}
use Rattle.pg_lang_valid.proofs.scopes.name_unknown.Given as goal

abbrev pub invariant-loop-k : goal.invariant-loop-k
invariant-loop-k l = name_unknown l.k (drop l.k l.instrs) ≡ name_unknown 0 l.instrs
