-- Rounds of guests that run until they are still: the plan of their turns, by when each is first still.
use Rattle.std.specs.Prelude.{ℕ, zero, suc, ◌+◌, ◌-◌, ◌*◌, ◌/◌, Bool, true, nat_le, min, if◌then◌else◌, List, [], ◌∷◌, ◌++◌, Option, None, Some}

-- whether a guest has a turn behind so many: it has none where it was still behind fewer
abbrev pub goes_on : ℕ → Option ℕ → Bool
goes_on done None = true
goes_on done (Some n) = nat_le done n

-- one round behind so many turns, from guest k on: each guest that goes on has as many more
abbrev pub round_behind : ℕ → ℕ → ℕ → List (Option ℕ) → List (ℕ × ℕ)
round_behind done turns k [] = []
round_behind done turns k (first ∷ firsts) =
    (if goes_on done first then (k, turns) ∷ round_behind done turns (suc k) firsts else round_behind done turns (suc k) firsts)

-- so many rounds of slices; one that begins less than a slice before the end is shorter
abbrev pub rounds_until : ℕ → ℕ → List (Option ℕ) → ℕ → List (ℕ × ℕ)
rounds_until slice steps firsts zero = []
rounds_until slice steps firsts (suc rounds) =
    rounds_until slice steps firsts rounds ++ round_behind (rounds * slice) (min slice (steps - rounds * slice)) 0 firsts

-- how many turns a guest has: all steps, or those up to the end of the slice in which it is found still
abbrev pub turns_until : ℕ → ℕ → Option ℕ → ℕ
turns_until slice steps None = steps
turns_until slice steps (Some n) = min steps (slice * (n / slice + 1))
