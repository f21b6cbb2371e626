-- Clauses that are taken away.
use Rattle.std.specs.Prelude.{ℕ, ◌-◌, if◌then◌else◌, ℤ, List, [], ◌∷◌, Option, None, Some, is_some, slice_set}
use Rattle.std.specs.Option.{option_map}
use Rattle.pg_proof.specs.State.{State, clause_at}

-- what is held without the clauses of some numbers, one after another; none where one of them is not held, or is gone by then
abbrev pub without : List (Option (List ℤ)) → List ℕ → Option (List (Option (List ℤ)))
without held [] = Some held
without held (n ∷ ns) = (if is_some (clause_at held n) then without (slice_set held (n - 1) None) ns else None)

-- the state without them: variables, and whether it is closed, stay
abbrev pub after_removal : State → List ℕ → Option State
after_removal state numbers = option_map (λ held. record state { held = held }) (without state.held numbers)
