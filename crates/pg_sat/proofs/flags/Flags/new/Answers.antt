use Rattle.pg_sat.proofs.BlockLemmas.{covered_down}
use Rattle.pg_sat.proofs.flags.Flags.new.Goals as goal

pub invariant_of-result : goal.invariant_of-result
invariant_of-result c = covered_down _ _ _ (c.in_ok-flags.ensures.items_if_clones_equal (λ y e. e))
