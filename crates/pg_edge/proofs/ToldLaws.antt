-- What is told stays told.
use Rattle.std.proofs.Common.{Option, Some, None}
use Rattle.pg_edge.specs.Told.{BothTold}

-- two steps are one, where the relations compose
pub BothTold-then : {A : Type 0} (was mid now : Option A) (P Q R : A → A → Type 0) → ((a b c : A) → P a b → Q b c → R a c) → BothTold was mid P → BothTold mid now Q → BothTold was now R
BothTold-then None None None P Q R go a b = tt
BothTold-then None None (Some now) P Q R go a b = b
BothTold-then None (Some mid) now P Q R go a b = absurd a
BothTold-then (Some was) None now P Q R go a b = absurd a
BothTold-then (Some was) (Some mid) None P Q R go a b = b
BothTold-then (Some was) (Some mid) (Some now) P Q R go a b = go was mid now a b
