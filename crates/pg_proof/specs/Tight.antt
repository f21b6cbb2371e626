-- Tight steps: a step that is the resolvent of the clauses of its hints, with nothing added.
use Rattle.std.specs.Prelude.{ℕ, Bool, true, ◌&&◌, ℤ, neg_ℤ, List, [], ◌∷◌, map, Option, is_none, unwrap_or}
use Rattle.std.specs.List.{list_any, list_all}
use Rattle.pg_proof.specs.declared.propagation.Reading.{Reading}
use Rattle.pg_proof.specs.declared.propagation.Reading.TheVariants.{Falsified, Unit, Neither}
use Rattle.pg_proof.specs.declared.step.Step.{Step}
use Rattle.pg_proof.specs.Places.{has, negations}
use Rattle.pg_proof.specs.Reading.{reading}
use Rattle.pg_proof.specs.State.{clause_at}
use Rattle.pg_proof.specs.Refutation.{fault_of}

-- the literals of a clause with a number
abbrev pub literals_at : List (Option (List ℤ)) → ℕ → List ℤ
literals_at held n = unwrap_or (clause_at held n) []

-- the clauses that hints name, in their order
abbrev pub hint_clauses : List (Option (List ℤ)) → List ℕ → List (List ℤ)
hint_clauses held hints = map (literals_at held) hints

-- whether a literal stands in one of some clauses
abbrev pub stands_in : List (List ℤ) → ℤ → Bool
stands_in clauses z = list_any (λ c. has c z) clauses

abbrev pub at_set : Reading → (ℤ → Bool) → Bool
at_set Falsified go = true
at_set (Unit z) go = go z
at_set Neither go = true

-- each literal that one of the clauses sets, in their order, stands negated in a later one
abbrev pub sets_used : List ℤ → List (List ℤ) → Bool
sets_used trail [] = true
sets_used trail (c ∷ cs) = at_set (reading (has trail) c) (λ z. stands_in cs (neg_ℤ z) && sets_used (z ∷ trail) cs)

-- a valid step each literal of which stands in the clause of a hint, and whose hints set nothing that no later one uses
unfoldable pub is_tight : ℕ → List (Option (List ℤ)) → Step → Bool
is_tight variables held step =
    is_none (fault_of variables held step)
    && (list_all (stands_in (hint_clauses held step.hints)) step.lits && sets_used (negations step.lits) (hint_clauses held step.hints))
