-- Which clauses an assignment makes true. It is a list, whose place v - 1 has the value of variable v.
use Rattle.std.specs.Prelude.{zero, suc, Bool, false, not, ℤ, pos, negsuc, List, slice_index_or}
use Rattle.std.specs.List.{list_any, list_all}

abbrev pub literal_true : List Bool → ℤ → Bool
literal_true assignment (pos zero) = false
literal_true assignment (pos (suc n)) = slice_index_or assignment n false
literal_true assignment (negsuc n) = not (slice_index_or assignment n false)

-- one of its literals
abbrev pub clause_true : List Bool → List ℤ → Bool
clause_true assignment literals = list_any (literal_true assignment) literals

-- each of them
abbrev pub clauses_true : List Bool → List (List ℤ) → Bool
clauses_true assignment clauses = list_all (clause_true assignment) clauses
