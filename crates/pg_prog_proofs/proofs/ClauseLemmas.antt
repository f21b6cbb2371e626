-- Clauses that are built literal by literal, ascending by their variables.
use Rattle.std.proofs.Common.{◌≡◌, ◌≢◌, ℕ, ◌<◌, ◌≤◌, List, [], ◌∷◌, ◌++◌, ap, arith, ℤ, nat_abs}
use Rattle.std.specs.Prelude.{⊤}
use Rattle.pg_cnf.specs.Literals.{IsLiteral, AreLiterals, IsAbsent, AreDistinct, IsClause}

-- the variables of these are not above one
abbrev pub AreUpTo : ℕ → List ℤ → Type 0
AreUpTo n [] = ⊤
AreUpTo n (z ∷ zs) = (nat_abs z ≤ n) × AreUpTo n zs

up_to-push : (m n : ℕ) (zs : List ℤ) (z : ℤ) → AreUpTo m zs → m ≤ n → nat_abs z ≤ n → AreUpTo n (zs ++ z ∷ [])
up_to-push m n [] z h le l = (l, tt)
up_to-push m n (y ∷ ys) z h le l = (omega (arith, h.0), up_to-push m n ys z h.1 le l)

literals-push : (n : ℕ) (zs : List ℤ) (z : ℤ) → AreLiterals n zs → IsLiteral n z → AreLiterals n (zs ++ z ∷ [])
literals-push n [] z h l = (l, tt)
literals-push n (y ∷ ys) z h l = (h.0, literals-push n ys z h.1 l)

absent-push : (y : ℤ) (zs : List ℤ) (z : ℤ) → IsAbsent y zs → y ≢ z → IsAbsent y (zs ++ z ∷ [])
absent-push y [] z h d = (d, tt)
absent-push y (x ∷ xs) z h d = (h.0, absent-push y xs z h.1 d)

distinct-push : (m : ℕ) (zs : List ℤ) (z : ℤ) → AreDistinct zs → AreUpTo m zs → m < nat_abs z → AreDistinct (zs ++ z ∷ [])
distinct-push m [] z h u lt = (tt, tt)
distinct-push m (y ∷ ys) z h u lt =
    (absent-push y ys z h.0 (λ e. (let f : nat_abs y ≡ nat_abs z = ap nat_abs e in omega (arith, u.0))), distinct-push m ys z h.1 u.1 lt)

-- a clause so far, of variables not above one
pub record IsDraft (variables last : ℕ) (zs : List ℤ) : Type 0 where
  pub clause : IsClause variables zs
  pub up_to : AreUpTo last zs

pub draft-push : (variables last : ℕ) (zs : List ℤ) (z : ℤ) → IsDraft variables last zs → last < nat_abs z → nat_abs z ≤ variables →
    IsDraft variables (nat_abs z) (zs ++ z ∷ [])
draft-push variables last zs z h lt le = record {
  clause = record {
    within = literals-push variables zs z h.clause.within (omega arith, le);
    distinct = distinct-push last zs z h.clause.distinct h.up_to lt;
  };
  up_to = up_to-push last (nat_abs z) zs z h.up_to (omega arith) (omega arith);
}

pub draft_none : (variables : ℕ) → IsDraft variables 0 []
draft_none variables = record { clause = record { within = tt; distinct = tt }; up_to = tt }
