-- Trails: the literals that are set, in order, and beside each why it is.
use Rattle.std.specs.Prelude.{◌≡◌, ◌≢◌, ℕ, ◌-◌, ◌<◌, ◌≤◌, ⊤, Bool, true, false, if◌then◌else◌, ℤ, neg_ℤ, List, [], ◌∷◌, ◌++◌, length, take, drop, Option, None, Some, Contains, slice_index_or}
use Rattle.std.specs.Ordering.{int_eq}
use Rattle.pg_cnf.specs.Literals.{IsLiteral}

-- the literals that are set, of so many variables. The reason of a literal is the number of the clause that was unit in it,
-- and one that was assigned has none
pub record Trail : Type 0 where
  pub variables : ℕ
  pub literals : List ℤ
  pub reasons : List (Option ℕ)

-- a literal is true where it is set, false where its negation is, and else unset
abbrev pub value_of : List ℤ → ℤ → Option Bool
value_of [] z = None
value_of (y ∷ ys) z = (if int_eq y z then Some true else (if int_eq y (neg_ℤ z) then Some false else value_of ys z))

-- these literals are all false
abbrev pub AreFalse : List ℤ → List ℤ → Type 0
AreFalse set [] = ⊤
AreFalse set (y ∷ ys) = (value_of set y ≡ Some false) × AreFalse set ys

-- and these, but for one
abbrev pub AreFalseBut : List ℤ → ℤ → List ℤ → Type 0
AreFalseBut set z [] = ⊤
AreFalseBut set z (y ∷ ys) = (y ≢ z → value_of set y ≡ Some false) × AreFalseBut set z ys

-- a clause is falsified where all its literals are false
abbrev pub IsFalsified : List ℤ → List ℤ → Type 0
IsFalsified set clause = AreFalse set clause

-- and unit in a literal of it that is unset where all others are false
pub record IsUnit (set clause : List ℤ) (z : ℤ) : Type 0 where
  pub there : Contains clause z
  pub unset : value_of set z ≡ None
  pub others : AreFalseBut set z clause

-- clauses are numbered from 1
pub record IsNumber (clauses : List (List ℤ)) (number : ℕ) : Type 0 where
  pub from_one : 0 < number
  pub there : number ≤ length clauses

abbrev pub clause_at : List (List ℤ) → ℕ → List ℤ
clause_at clauses number = slice_index_or clauses (number - 1) []

-- the clause with a number is falsified, or unit in a literal
pub record IsConflict (clauses : List (List ℤ)) (set : List ℤ) (number : ℕ) : Type 0 where
  pub numbered : IsNumber clauses number
  pub falsified : IsFalsified set (clause_at clauses number)

pub record IsReason (clauses : List (List ℤ)) (set : List ℤ) (z : ℤ) (number : ℕ) : Type 0 where
  pub numbered : IsNumber clauses number
  pub unit : IsUnit set (clause_at clauses number) z

abbrev pub HasReason : List (List ℤ) → List ℤ → ℤ → Option ℕ → Type 0
HasReason clauses set z None = ⊤
HasReason clauses set z (Some number) = IsReason clauses set z number

-- each literal is of one of the variables, and was unset before it was set
abbrev pub AreSet : ℕ → List ℤ → List ℤ → Type 0
AreSet variables before [] = ⊤
AreSet variables before (z ∷ zs) =
    IsLiteral variables z × (value_of before z ≡ None) × AreSet variables (before ++ z ∷ []) zs

-- and the clause that is its reason was unit in it, if it has one
abbrev pub HaveReasons : List (List ℤ) → List ℤ → List ℤ → List (Option ℕ) → Type 0
HaveReasons clauses before [] reasons = (reasons ≡ [])
HaveReasons clauses before (z ∷ zs) [] = ⊥
HaveReasons clauses before (z ∷ zs) (r ∷ rs) =
    HasReason clauses before z r × HaveReasons clauses (before ++ z ∷ []) zs rs

-- what is known of each assignment
pub record IsAssignment (trail : Trail) : Type 0 where
  pub set : AreSet trail.variables [] trail.literals
  pub as_many : length trail.reasons ≡ length trail.literals

pub record IsTrail (clauses : List (List ℤ)) (trail : Trail) : Type 0 where
  pub set : AreSet trail.variables [] trail.literals
  pub reasoned : HaveReasons clauses [] trail.literals trail.reasons

-- nothing is left to propagate: a clause is neither falsified nor unit
pub record IsOpen (set clause : List ℤ) : Type 0 where
  pub not_falsified : ¬ IsFalsified set clause
  pub not_unit : (z : ℤ) → ¬ IsUnit set clause z

abbrev pub IsQuiet : List (List ℤ) → List ℤ → Type 0
IsQuiet [] set = ⊤
IsQuiet (c ∷ cs) set = IsOpen set c × IsQuiet cs set

abbrev pub IsSomeNumber : Option ℕ → Type 0
IsSomeNumber None = ⊥
IsSomeNumber (Some n) = ⊤

abbrev pub AreDerived : List (Option ℕ) → Type 0
AreDerived [] = ⊤
AreDerived (r ∷ rs) = IsSomeNumber r × AreDerived rs

-- the old trail with further literals, each of which has a reason
pub record Extends (old new : Trail) : Type 0 where
  pub variables : new.variables ≡ old.variables
  pub literals : take (length old.literals) new.literals ≡ old.literals
  pub reasons : take (length old.reasons) new.reasons ≡ old.reasons
  pub derived : AreDerived (drop (length old.reasons) new.reasons)

-- one literal more
abbrev pub pushed : Trail → ℤ → Option ℕ → Trail
pushed trail z r = record trail { literals = trail.literals ++ z ∷ []; reasons = trail.reasons ++ r ∷ [] }

-- the first so many literals
abbrev pub cut : Trail → ℕ → Trail
cut trail n = record trail { literals = take n trail.literals; reasons = take n trail.reasons }
