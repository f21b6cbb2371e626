-- Calls that are to fail, by number, with the bytes that each takes before it fails.
use Rattle.std.specs.Prelude.{ℕ, List, [], ◌∷◌, Option, Some, None, ◌==◌, cond}

-- how many bytes the call of this number takes before it fails, if it is to fail
abbrev pub taken_by : List (ℕ × ℕ) → ℕ → Option ℕ
taken_by [] call = None
taken_by (entry ∷ rest) call = cond (entry.0 == call) (Some entry.1) (taken_by rest call)
