-- Descriptions with a guard before the bodies of some instructions.
use Rattle.std.specs.Prelude.{◌≡◌, ℕ, Bool, true, false, List, [], ◌∷◌, length, None, Some, slice_get, if◌then◌else◌}
use Rattle.pg_ast.specs.declared.tree.Expr.TheVariants.{Mode}
use Rattle.pg_ast.specs.declared.tree.Stmt.{Stmt}
use Rattle.pg_ast.specs.declared.tree.Stmt.TheVariants.{Trap, If}
use Rattle.pg_ast.specs.declared.tree.Instr.{Instr}
use Rattle.pg_ast.specs.declared.tree.Desc.{Desc}

-- if mode { trap; }
abbrev pub guard : Stmt
guard = If Mode (Trap ∷ []) None

-- an instruction with the guard put first
pub record IsGuarded (i guarded : Instr) : Type 0 where
  pub name : guarded.name ≡ i.name
  pub pattern : guarded.pattern ≡ i.pattern
  pub body : guarded.body ≡ guard ∷ i.body

-- an instruction that is to have a guard, or is not
abbrev pub IsGuardedIf : Bool → Instr → Instr → Type 0
IsGuardedIf true i j = IsGuarded i j
IsGuardedIf false i j = j ≡ i

-- each of a list of instructions has a guard where the mark at its place says so, and is the same where it does not
abbrev pub AreGuarded : List Bool → List Instr → List Instr → Type 0
AreGuarded [] [] [] = Unit {0}
AreGuarded (mark ∷ marks) (i ∷ is) (j ∷ js) = IsGuardedIf mark i j × AreGuarded marks is js
AreGuarded _ _ _ = ⊥

-- the same description, but that the instructions with a mark have a guard
pub record IsGuardedDesc (marks : List Bool) (d e : Desc) : Type 0 where
  pub word : e.word ≡ d.word
  pub address : e.address ≡ d.address
  pub size : e.size ≡ d.size
  pub causes : e.causes ≡ d.causes
  pub instrs : AreGuarded marks d.instrs e.instrs
