-- What an implementation tells of the outside: some do, and of the others no clause speaks.
use Rattle.std.specs.Prelude.{Option, Some, None}

-- told before and after and related so, or told at neither time
abbrev pub BothTold : {A : Type 0} → Option A → Option A → (A → A → Type 0) → Type 0
BothTold None None R = Unit {0}
BothTold None (Some now) R = ⊥
BothTold (Some was) None R = ⊥
BothTold (Some was) (Some now) R = R was now
