-- What a visit finds of a clause.
use Rattle.std.proofs.Common.{◌≡◌, ◌≢◌, ℕ, ◌+◌, ◌-◌, ◌<◌, ◌⊎◌, inl, inr, false, ℤ, pos, List, [], ◌∷◌, length, get_or, None, Some, sym, ap, subst, ◌∙◌, arith, nat_abs}
use Rattle.std.specs.Prelude.{Contains}
use Rattle.pg_cnf.specs.Literals.{IsLiteral, AreClauses}
use Rattle.pg_watch.specs.declared.index.Pair.{Pair}
use Rattle.pg_watch.specs.Trail.{Trail, value_of, AreFalse, AreFalseBut, IsConflict, pushed, IsTrail}
use Rattle.pg_watch.specs.Fixes.{Steps}
use Rattle.pg_watch.specs.Watching.{literals_at, pair_at, HasTrue, IsPair, Has, ArePairs, no_pair}
use Rattle.std.proofs.lemmas.List.{get_or_read}
use Rattle.pg_watch.proofs.Values.{value_of-push_same}
use Rattle.pg_watch.proofs.Tables.{same_or_not}
use Rattle.pg_watch.proofs.Steps.{AreClauses-at, AreLiterals-contains, Steps-unit}
use Rattle.pg_watch.proofs.Moves.{has_there}

pub literal_there : (n : ℕ) (cs : List (List ℤ)) (k : ℕ) (z : ℤ) → AreClauses n cs → k < length cs → Contains (literals_at cs k) z → IsLiteral n z
literal_there n cs k z h lt there = AreLiterals-contains n (literals_at cs k) z (AreClauses-at n cs k h lt).within there

pub literal_of_pair : (n : ℕ) (cs : List (List ℤ)) (k : ℕ) (p : Pair) (z : ℤ) → AreClauses n cs → k < length cs → IsPair (literals_at cs k) p → Has p z →
    IsLiteral n z
literal_of_pair n cs k p z h lt pair has = literal_there n cs k z h lt (has_there (literals_at cs k) p z pair has)

all_false-cases : (zs : List ℤ) (z y : ℤ) → (y ≡ z) ⊎ (y ≢ z) → (y ≢ z → value_of zs y ≡ Some false) → value_of zs z ≡ Some false → value_of zs y ≡ Some false
all_false-cases zs z y (inl e) h f = ap (value_of zs) e ∙ f
all_false-cases zs z y (inr d) h f = h d

pub all_false : (zs : List ℤ) (z : ℤ) (ys : List ℤ) → AreFalseBut zs z ys → value_of zs z ≡ Some false → AreFalse zs ys
all_false zs z [] h f = tt
all_false zs z (y ∷ ys) h f = (all_false-cases zs z y (same_or_not y z) h.0 f, all_false zs z ys h.1 f)

pub conflict_at : (cs : List (List ℤ)) (zs : List ℤ) (k : ℕ) (z : ℤ) → k < length cs → AreFalseBut zs z (literals_at cs k) → value_of zs z ≡ Some false →
    IsConflict cs zs (k + 1)
conflict_at cs zs k z lt h f = record {
  numbered = record { from_one = omega arith; there = omega arith };
  falsified = subst (λ (i : ℕ). AreFalse zs (literals_at cs i)) (let e : k ≡ k + 1 - 1 = omega arith in e) (all_false zs z (literals_at cs k) h f);
}

pub true_after : (cs : List (List ℤ)) (t u : Trail) (k : ℕ) (z : ℤ) → value_of t.literals z ≡ None → Contains (literals_at cs k) z →
    u ≡ pushed t z (Some (k + 1)) → HasTrue u.literals (literals_at cs k)
true_after cs t u k z unset there e = record {
  which = z;
  there = there;
  holds = ap (λ (s : Trail). value_of s.literals z) e ∙ value_of-push_same t.literals z unset;
}

pub steps_after : (cs : List (List ℤ)) (t u : Trail) (k : ℕ) (z : ℤ) → IsTrail cs t → AreClauses t.variables cs → k < length cs → value_of t.literals z ≡ None →
    Contains (literals_at cs k) z → AreFalseBut t.literals z (literals_at cs k) → u ≡ pushed t z (Some (k + 1)) → Steps cs t u
steps_after cs t u k z h clauses lt unset there others e =
    subst (λ (s : Trail). Steps cs t s) (sym e)
    (Steps-unit cs t k z h clauses lt (record { there = there; unset = unset; others = others }))

pub not_zero : (n : ℕ) (z : ℤ) → IsLiteral n z → z ≢ pos 0
not_zero n z h e = omega (arith, h.0, ap nat_abs e)

-- what is read of the pairs
pub pair_read : (cs : List (List ℤ)) (ps : List Pair) (k : ℕ) (p : Pair) → length ps ≡ length cs → k < length cs → p ≡ get_or ps k p → pair_at ps k ≡ p
pair_read cs ps k p long lt e = sym (get_or_read ps k p (omega arith) e no_pair)

pub pair_found : (n : ℕ) (cs : List (List ℤ)) (ps : List Pair) (k : ℕ) (p : Pair) (w : ℤ) → ArePairs cs ps → length ps ≡ length cs → k < length cs →
    p ≡ get_or ps k p → IsLiteral n w → Has p w → IsPair (literals_at cs k) p
pair_found n cs ps k p w h long lt e l has =
    let same = pair_read cs ps k p long lt e in
    subst (IsPair (literals_at cs k)) same (h k lt w (not_zero n w l) (subst (λ (q : Pair). Has q w) (sym same) has))
