use Rattle.std.proofs.Common.{◌≡◌, [], drop, map}
use Rattle.pg_lang_valid.specs.Twice.{let_twice}
use Rattle.pg_lang_valid.proofs.twice.let_twice.Given as goal

abbrev pub invariant-loop-name : goal.invariant-loop-name
invariant-loop-name l =
    let_twice l.pattern l.seen (map (λ n. n.now) (drop l.name-index l.names)) ≡ let_twice l.pattern [] (map (λ n. n.now) l.names)
