use Rattle.std.proofs.Common.{◌≡◌, map, take}
use Rattle.pg_sat_search.specs.Held.{number_in}
use Rattle.pg_sat_search.proofs.renumber.named.Given as goal

abbrev pub invariant-loop-hint : goal.invariant-loop-hint
invariant-loop-hint l = l.named.items ≡ map (number_in l.numbers) (take l.hint-index l.hints)
