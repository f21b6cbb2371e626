-- Literals and their negations.
use Rattle.std.proofs.Common.{SFits, w32, zero, suc, ◌≡◌, ℕ, ◌<◌, ◌≤◌, ◌^◌, List, None, sym, subst, arith, ℤ, pos, negsuc, neg_ℤ}
use Rattle.std.proofs.lemmas.Int.{ints}
use Rattle.pg_cnf.specs.Literals.{IsLiteral}
use Rattle.pg_proof.proofs.MarkedLemmas.{nat_abs-neg}
use Rattle.pg_watch.specs.Trail.{value_of}
use Rattle.pg_watch.proofs.Values.{value_of-unset_neg}
use Rattle.pg_sat_guide.specs.Free.{IsFree}

pub SFits-neg : (z y : ℤ) → y ≡ neg_ℤ z → IsLiteral 2147483647 z → SFits w32 y
SFits-neg z y e h = subst (SFits w32) (sym e) (by z h)
  where
    by : (x : ℤ) → IsLiteral 2147483647 x → SFits w32 (neg_ℤ x)
    by (pos zero) h = omega (arith, ints)
    by (pos (suc n)) h = omega (arith, ints, h.1)
    by (negsuc n) h = omega (arith, ints, h.1)

pub SFits-literal : (n : ℕ) (z : ℤ) → n < 2 ^ 31 → IsLiteral n z → SFits w32 z
SFits-literal n (pos k) lt h = omega (arith, ints, h.1)
SFits-literal n (negsuc k) lt h = omega (arith, ints, h.1)

-- the negation of a variable that is unset
pub free_neg : (n : ℕ) (set : List ℤ) (v : ℕ) (z : ℤ) → 0 < v → v ≤ n → None ≡ value_of set (pos v) → z ≡ neg_ℤ (pos v) → IsFree n set z
free_neg n set v z lt le e f =
    subst (IsFree n set) (sym f) (record {
      literal = (omega (arith, nat_abs-neg (pos v)), omega (arith, nat_abs-neg (pos v)));
      unset = value_of-unset_neg set (pos v) lt (sym e);
    })

-- a variable that is unset
pub free_pos : (n : ℕ) (set : List ℤ) (v : ℕ) (z : ℤ) → 0 < v → v ≤ n → None ≡ value_of set (pos v) → z ≡ pos v → IsFree n set z
free_pos n set v z lt le e f = subst (IsFree n set) (sym f) (record { literal = (omega arith, omega arith); unset = sym e })
