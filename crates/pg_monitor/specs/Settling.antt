-- Guests that are still: a step leaves the state as it is, and so does every later one.
use Rattle.std.specs.Prelude.{◌≡◌, ℕ, ◌+◌, ◌<◌, ◌≤◌, Option, None, Some}
use Rattle.pg_ast.specs.declared.tree.Desc.{Desc}
use Rattle.pg_lang_meaning.specs.States.{State}
use Rattle.pg_lang_meaning.specs.Steps.{steps}
use Rattle.pg_hw.specs.Stillness.{IsStill}
use Rattle.pg_hw.specs.declared.settling.Settled.{Settled}

-- of the first n states from a state on none is still
abbrev pub NoneStill : Desc → ℕ → State → Type 0
NoneStill d n s = (j : ℕ) → j < n → IsStill d (steps d j s) → ⊥

-- the state behind n steps is the first that is still, before so many steps
pub record StillFirst (d : Desc) (n k : ℕ) (s : State) : Type 0 where
  pub before : n < k
  pub still : IsStill d (steps d n s)
  pub first : NoneStill d n s

-- what is told of k steps from a state: behind how many of them it is first still, if it is before the last of them
abbrev pub TellsFirst : Desc → ℕ → State → Option ℕ → Type 0
TellsFirst d k s None = NoneStill d k s
TellsFirst d k s (Some n) = StillFirst d n k s

-- what is told of some turns of a guest at a state, `most` of them at most
pub record TellsSettled (d : Desc) (most : ℕ) (s : State) (told : Settled) : Type 0 where
  pub some : 1 ≤ told.done
  pub within : told.done ≤ most
  pub first : TellsFirst d told.done s told.still

-- a number that was told before, or else one that is told of what is behind so many steps
abbrev pub first_of : Option ℕ → ℕ → Option ℕ → Option ℕ
first_of (Some n) m told = Some n
first_of None m None = None
first_of None m (Some n) = Some (m + n)
