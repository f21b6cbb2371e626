-- Clauses as runs of one list.
use Rattle.std.specs.Prelude.{ℕ, ◌≤◌, ⊤, ℤ, List, [], ◌∷◌, map}
use Rattle.std.specs.List.{slice_range}
use Rattle.pg_watch.specs.declared.arena.Span.{Span}

abbrev pub clauses_in : List ℤ → List Span → List (List ℤ)
clauses_in literals spans = map (λ s. slice_range literals s.start s.end) spans

-- each lies within so many literals
abbrev pub AreSpans : ℕ → List Span → Type 0
AreSpans total [] = ⊤
AreSpans total (s ∷ ss) = (s.start ≤ s.end) × (s.end ≤ total) × AreSpans total ss
