-- Turns by a plan: which guest is to have how many turns, in order.
use Rattle.std.specs.Prelude.{ℕ, zero, suc, ◌+◌, ◌<◌, ◌≤◌, ◌⊎◌, ◌==◌, if◌then◌else◌, List, [], ◌∷◌, All, Option, None, Some, slice_get}
use Rattle.pg_ast.specs.declared.tree.Desc.{Desc}
use Rattle.pg_lang_meaning.specs.States.{State}
use Rattle.pg_lang_meaning.specs.Steps.{steps}
use Rattle.pg_mon_control.specs.declared.guest.Guest.{Guest}

-- ---- states and turns

-- the k-th of these states n steps on, and the others as they are
abbrev pub moved : Desc → ℕ → ℕ → List State → List State
moved d k n [] = []
moved d zero n (s ∷ ss) = steps d n s ∷ ss
moved d (suc k) n (s ∷ ss) = s ∷ moved d k n ss

-- the states after a plan: each pair moves the state of its guest
abbrev pub after_plan : Desc → List (ℕ × ℕ) → List State → List State
after_plan d [] ss = ss
after_plan d (turn ∷ plan) ss = after_plan d plan (moved d turn.0 turn.1 ss)

-- all turns of a plan
abbrev pub turns_of : List (ℕ × ℕ) → ℕ
turns_of [] = 0
turns_of (turn ∷ plan) = turn.1 + turns_of plan

-- the turns that a plan gives to guest j
abbrev pub turns_for : ℕ → List (ℕ × ℕ) → ℕ
turns_for j [] = 0
turns_for j (turn ∷ plan) = (if turn.0 == j then turn.1 else 0) + turns_for j plan

-- ---- what is counted of turns

-- a count among the first n turns of a guest: by the base of its grant, by n, and by its state before the first of them
abbrev pub Count : Type 0
Count = ℕ → ℕ → State → ℕ

-- the count among n turns of a guest that may be missing
abbrev pub count_turns : Count → Option Guest → Option State → ℕ → ℕ
count_turns f None s n = 0
count_turns f (Some g) None n = 0
count_turns f (Some g) (Some s) n = f g.base n s

-- the count among the turns of a plan, of guests at these states
abbrev pub count_of : Desc → Count → List Guest → List (ℕ × ℕ) → List State → ℕ
count_of d f gs [] ss = 0
count_of d f gs (turn ∷ plan) ss =
    count_turns f (slice_get gs turn.0) (slice_get ss turn.0) turn.1 + count_of d f gs plan (moved d turn.0 turn.1 ss)

-- ---- cells

-- a cell of no grant
pub record IsOutside (gs : List Guest) (at : ℕ) : Type 0 where
  pub outside : All (λ g. (at < g.base) ⊎ (g.base + g.size ≤ at)) gs
