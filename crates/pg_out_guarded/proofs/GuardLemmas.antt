-- A body with the guard put first keeps the limits.
use Rattle.std.proofs.Common.{◌≡◌, ℕ, suc, ◌+◌, ◌<◌, ◌≤◌, Bool, false, List, [], ◌∷◌, ◌++◌, length, get_or, drop, slice_get, Some, refl, sym, ap, ◌∙◌, subst, arith, append_assoc}
use Rattle.std.proofs.Math.Seq.{drop-cons}
use Rattle.std.proofs.lemmas.List.{append-nil, drop_all}
use Rattle.std.proofs.lemmas.Option.{same_Some}
use Rattle.std.specs.List.{remove}
use Rattle.pg_ast.specs.declared.tree.Instr.{Instr}
use Rattle.pg_ast.specs.declared.tree.Stmt.{Stmt}
use Rattle.pg_ast.specs.Levels.{IsShallow, block_levels, expr_levels}
use Rattle.pg_ast.proofs.ExprEquations.{depth_of_rules}
use Rattle.pg_ast.proofs.StmtEquations.{expr_levels_rules, block_levels_rules}
use Rattle.pg_out_guarded.specs.Guards.{guard, IsGuardedIf, AreGuarded}

guard-blocks : block_levels guard ≡ 1
guard-blocks = simp block_levels_rules refl

guard-exprs : expr_levels guard ≡ 1
guard-exprs = simp (expr_levels_rules, depth_of_rules) refl

pub guarded-shallow : (body : List Stmt) → IsShallow body → IsShallow (guard ∷ body)
guarded-shallow body h = record { blocks = omega (arith, h.blocks, guard-blocks); exprs = omega (arith, h.exprs, guard-exprs) }

-- ---- instructions one after another

pub first-left : (left : List Instr) (i : Instr) → slice_get left 0 ≡ Some i → left ≡ i ∷ remove left 0
first-left [] i e = absurd (cc)
first-left (x ∷ xs) i e = ap (λ y. y ∷ xs) (same_Some x i e)

module _ (marks : List Bool) (k : ℕ) (l : k < length marks) (instrs left all : List Instr) (i x : Instr) (first : slice_get left 0 ≡ Some i)
    (is_guarded : IsGuardedIf (get_or marks k false) i x) where
  cut : drop k marks ≡ get_or marks k false ∷ drop (k + 1) marks
  cut =
      let one : suc k ≡ k + 1 = omega arith in
      drop-cons marks k false l ∙ ap (λ n. get_or marks k false ∷ drop n marks) one

  pub next-length : length (drop k marks) ≡ length left → length (drop (k + 1) marks) ≡ length (remove left 0)
  next-length same =
      let one : length (drop k marks) ≡ suc (length (drop (k + 1) marks)) = ap length cut in
      let other : length left ≡ suc (length (remove left 0)) = ap length (first-left left i first) in
      omega (arith, one, other, same)

  pub next-whole : ((rest : List Instr) → AreGuarded (drop k marks) left rest → AreGuarded marks instrs (all ++ rest)) →
      (rest : List Instr) → AreGuarded (drop (k + 1) marks) (remove left 0) rest → AreGuarded marks instrs ((all ++ x ∷ []) ++ rest)
  next-whole whole rest h =
      let both : AreGuarded (get_or marks k false ∷ drop (k + 1) marks) (i ∷ remove left 0) (x ∷ rest) = (is_guarded, h) in
      let there : AreGuarded (drop k marks) left (x ∷ rest) =
      subst (λ ms. AreGuarded ms left (x ∷ rest)) (sym cut) (subst (λ is. AreGuarded (get_or marks k false ∷ drop (k + 1) marks) is (x ∷ rest)) (sym (first-left left i first)) both) in
      subst (AreGuarded marks instrs) (sym (append_assoc all (x ∷ []) rest)) (whole (x ∷ rest) there)

none-left : (left : List Instr) → 0 ≡ length left → left ≡ []
none-left [] e = refl
none-left (x ∷ xs) e = absurd (omega (arith, e))

pub last-whole : (marks : List Bool) (k : ℕ) (instrs left all : List Instr) → length marks ≤ k → length (drop k marks) ≡ length left →
    ((rest : List Instr) → AreGuarded (drop k marks) left rest → AreGuarded marks instrs (all ++ rest)) → AreGuarded marks instrs all
last-whole marks k instrs left all l same whole =
    let none : drop k marks ≡ [] = drop_all k marks l in
    let empty : left ≡ [] = none-left left (sym (ap length none) ∙ same) in
    let there : AreGuarded (drop k marks) left [] = subst (λ ms. AreGuarded ms left []) (sym none) (subst (λ is. AreGuarded [] is []) (sym empty) tt) in
    subst (AreGuarded marks instrs) (append-nil all) (whole [] there)
