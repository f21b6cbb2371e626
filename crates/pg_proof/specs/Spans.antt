-- Clauses as runs of one list.
use Rattle.std.specs.Prelude.{ℕ, ◌-◌, ◌≤◌, ⊤, ℤ, List, [], ◌∷◌, map, Option, None, Some}
use Rattle.std.specs.List.{slice_range}
use Rattle.std.specs.Option.{option_map}
use Rattle.pg_proof.specs.declared.store.Span.{Span}

-- the literals of a span, or none where the clause was taken away
abbrev pub run_in : List ℤ → Option Span → Option (List ℤ)
run_in literals span = option_map (λ s. slice_range literals s.start s.end) span

abbrev pub held_in : List ℤ → List (Option Span) → List (Option (List ℤ))
held_in literals spans = map (run_in literals) spans

abbrev pub length_of : Option Span → ℕ
length_of None = 0
length_of (Some s) = s.end - s.start

-- each lies within so many literals
abbrev pub AreSpans : ℕ → List (Option Span) → Type 0
AreSpans total [] = ⊤
AreSpans total (None ∷ ss) = AreSpans total ss
AreSpans total (Some s ∷ ss) = (s.start ≤ s.end) × (s.end ≤ total) × AreSpans total ss
