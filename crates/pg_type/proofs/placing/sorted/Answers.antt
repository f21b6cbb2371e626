-- The closure gives a cell's address.
use Rattle.std.proofs.Common.{ℕ, List, rules, subst}
use Rattle.std.specs.List.Sorted.{IsStableByKey}
use Rattle.std.specs.Ordering.{nat_cmp}
use Rattle.std.proofs.lemmas.List.Sorted.{answers_always, IsNonDecreasingBy-from_sort_by_key}
use Rattle.pg_type.proofs.placing.sorted.Goals as goal

pub returns-clause-ascending : goal.returns-clause-ascending
returns-clause-ascending c = IsNonDecreasingBy-from_sort_by_key (λ cell. cell.0) _ c.in_ok-sort_by_key.ensures.sorted (λ a r q k. search rules)

pub returns-clause-stable : goal.returns-clause-stable
returns-clause-stable c =
    subst (λ (xs : List (ℕ × ℕ)). IsStableByKey (λ cell. cell.0) nat_cmp xs c.sort_by_key.new.self.items) c.in_ok-ordered.ensures.items
    (c.sort_by_key.ensures.stable (λ cell. cell.0) (answers_always _ _ _ (λ f a r g h. search rules)))
