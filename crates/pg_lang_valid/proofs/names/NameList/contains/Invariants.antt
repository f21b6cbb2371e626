use Rattle.std.proofs.Common.{◌≡◌, drop, map}
use Rattle.pg_lang_valid.specs.Twice.{is_among}
use Rattle.pg_lang_valid.proofs.names.NameList.contains.Given as goal

abbrev pub invariant-loop-other : goal.invariant-loop-other
invariant-loop-other l = is_among (map (λ n. n.now) (drop l.other-index l.other-items)) l.name ≡ is_among (map (λ n. n.now) l.other-items) l.name
