-- Literals and clauses, as integers: n stands for variable n, and -n for its negation.
use Rattle.std.specs.Prelude.{ℕ, ◌<◌, ◌≤◌, ◌≢◌, ⊤, ℤ, nat_abs, List, [], ◌∷◌}
use Rattle.std.specs.Coded.{×_prop, Unit-prop}
use Rattle.std.proofs.Props.{props}

-- a literal of one of so many variables, which are numbered from 1
abbrev pub IsLiteral : ℕ → ℤ → Type 0
IsLiteral variables z = (0 < nat_abs z) × (nat_abs z ≤ variables)

abbrev pub AreLiterals : ℕ → List ℤ → Type 0
AreLiterals variables [] = ⊤
AreLiterals variables (z ∷ zs) = IsLiteral variables z × AreLiterals variables zs

abbrev pub IsAbsent : ℤ → List ℤ → Type 0
IsAbsent z [] = ⊤
IsAbsent z (y ∷ ys) = (z ≢ y) × IsAbsent z ys

-- none stands there twice
abbrev pub AreDistinct : List ℤ → Type 0
AreDistinct [] = ⊤
AreDistinct (z ∷ zs) = IsAbsent z zs × AreDistinct zs

-- a clause has literals, and none twice
pub record IsClause (variables : ℕ) (literals : List ℤ) : Type 0 where
  pub within : AreLiterals variables literals
  pub distinct : AreDistinct literals

abbrev pub AreClauses : ℕ → List (List ℤ) → Type 0
AreClauses variables [] = ⊤
AreClauses variables (c ∷ cs) = IsClause variables c × AreClauses variables cs

-- each has at most one proof
AreLiterals-prop : (variables : ℕ) (zs : List ℤ) → IsProp (AreLiterals variables zs)
AreLiterals-prop variables [] = Unit-prop
AreLiterals-prop variables (z ∷ zs) = ×_prop (hlevel props) (AreLiterals-prop variables zs)

IsAbsent-prop : (z : ℤ) (ys : List ℤ) → IsProp (IsAbsent z ys)
IsAbsent-prop z [] = Unit-prop
IsAbsent-prop z (y ∷ ys) = ×_prop (hlevel props) (IsAbsent-prop z ys)

AreDistinct-prop : (zs : List ℤ) → IsProp (AreDistinct zs)
AreDistinct-prop [] = Unit-prop
AreDistinct-prop (z ∷ zs) = ×_prop (IsAbsent-prop z zs) (AreDistinct-prop zs)

pub IsClause-prop : (variables : ℕ) (c : List ℤ) → IsProp (IsClause variables c)
IsClause-prop variables c = hlevel (props, AreLiterals-prop, AreDistinct-prop)

pub AreClauses-prop : (variables : ℕ) (cs : List (List ℤ)) → IsProp (AreClauses variables cs)
AreClauses-prop variables [] = Unit-prop
AreClauses-prop variables (c ∷ cs) = ×_prop (IsClause-prop variables c) (AreClauses-prop variables cs)
