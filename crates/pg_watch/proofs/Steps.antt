-- A trail grows step by step.
use Rattle.std.proofs.Common.{◌≡◌, ℕ, zero, suc, ◌+◌, ◌-◌, ◌<◌, ◌≤◌, ℤ, List, [], ◌∷◌, ◌++◌, length, take, drop, get_or, Option, None, Some, refl, sym, ap, subst, ◌∙◌, arith, append_assoc}
use Rattle.std.specs.Prelude.{Contains}
use Rattle.std.proofs.lemmas.List.{append-nil, take_all, take-take, drop_all, take-append-le, drop-append-le, take-append-drop}
use Rattle.pg_cnf.specs.Literals.{IsLiteral, AreLiterals, IsClause, AreClauses}
use Rattle.pg_watch.specs.Trail.{Trail, value_of, HasReason, HaveReasons, IsUnit, IsTrail, Extends, AreDerived, IsSomeNumber, pushed}
use Rattle.pg_watch.specs.Fixes.{Steps}
use Rattle.pg_watch.proofs.Tables.{AreSet-push}

HaveReasons-push : (cs : List (List ℤ)) (before zs : List ℤ) (rs : List (Option ℕ)) (z : ℤ) (r : Option ℕ) → HaveReasons cs before zs rs →
    HasReason cs (before ++ zs) z r → HaveReasons cs before (zs ++ z ∷ []) (rs ++ r ∷ [])
HaveReasons-push cs before [] [] z r h own = (subst (λ (xs : List ℤ). HasReason cs xs z r) (append-nil before) own, refl)
HaveReasons-push cs before [] (q ∷ rs) z r h own = cc
HaveReasons-push cs before (y ∷ zs) [] z r h own = absurd h
HaveReasons-push cs before (y ∷ zs) (q ∷ rs) z r h own =
    (h.0, HaveReasons-push cs (before ++ y ∷ []) zs rs z r h.1 (subst (λ (xs : List ℤ). HasReason cs xs z r) (sym (append_assoc before (y ∷ []) zs)) own))

pub length-reasons : (cs : List (List ℤ)) (before zs : List ℤ) (rs : List (Option ℕ)) → HaveReasons cs before zs rs → length rs ≡ length zs
length-reasons cs before [] rs h = ap length h
length-reasons cs before (z ∷ zs) [] h = absurd h
length-reasons cs before (z ∷ zs) (r ∷ rs) h = ap suc (length-reasons cs (before ++ z ∷ []) zs rs h.1)

-- one literal more
pub IsTrail-push : (cs : List (List ℤ)) (t : Trail) (z : ℤ) (r : Option ℕ) → IsTrail cs t → IsLiteral t.variables z → value_of t.literals z ≡ None →
    HasReason cs t.literals z r → IsTrail cs (pushed t z r)
IsTrail-push cs t z r h l e own = record {
  set = AreSet-push t.variables [] t.literals z h.set l e;
  reasoned = HaveReasons-push cs [] t.literals t.reasons z r h.reasoned own;
}

AreDerived-push : (rs : List (Option ℕ)) (r : Option ℕ) → AreDerived rs → IsSomeNumber r → AreDerived (rs ++ r ∷ [])
AreDerived-push [] r h own = (own, tt)
AreDerived-push (q ∷ rs) r h own = (h.0, AreDerived-push rs r h.1 own)

-- the first so many are all there
pub take-length : {A : Type 0} (xs ys : List A) → take (length xs) ys ≡ xs → length xs ≤ length ys
take-length [] ys e = omega arith
take-length (x ∷ xs) [] e = cc
take-length (x ∷ xs) (y ∷ ys) e = omega (arith, take-length xs ys (let f : y ∷ take (length xs) ys ≡ x ∷ xs = e in cc))

pub Extends-same : (t : Trail) → Extends t t
Extends-same t = record {
  variables = refl;
  literals = take_all (length t.literals) t.literals (omega arith);
  reasons = take_all (length t.reasons) t.reasons (omega arith);
  derived = subst AreDerived (sym (drop_all (length t.reasons) t.reasons (omega arith))) tt;
}

pub Extends-push : (s t : Trail) (z : ℤ) (r : Option ℕ) → Extends s t → IsSomeNumber r → Extends s (pushed t z r)
Extends-push s t z r h own = record {
  variables = h.variables;
  literals = take-append-le (length s.literals) t.literals (z ∷ []) (take-length s.literals t.literals h.literals) ∙ h.literals;
  reasons = take-append-le (length s.reasons) t.reasons (r ∷ []) (take-length s.reasons t.reasons h.reasons) ∙ h.reasons;
  derived = subst AreDerived (sym (drop-append-le (length s.reasons) t.reasons (r ∷ []) (take-length s.reasons t.reasons h.reasons)))
      (AreDerived-push (drop (length s.reasons) t.reasons) r h.derived own);
}

pub Steps-same : (cs : List (List ℤ)) (t : Trail) → IsTrail cs t → Steps cs t t
Steps-same cs t h = record { extends = Extends-same t; trail = h }

-- the clause at a place is over the variables
pub AreClauses-at : (n : ℕ) (cs : List (List ℤ)) (k : ℕ) → AreClauses n cs → k < length cs → IsClause n (get_or cs k [])
AreClauses-at n [] k h lt = absurd (omega arith)
AreClauses-at n (c ∷ cs) zero h lt = h.0
AreClauses-at n (c ∷ cs) (suc k) h lt = AreClauses-at n cs k h.1 (omega arith)

pub AreLiterals-at : (n : ℕ) (zs : List ℤ) (k : ℕ) (d : ℤ) → AreLiterals n zs → k < length zs → IsLiteral n (get_or zs k d)
AreLiterals-at n [] k d h lt = absurd (omega arith)
AreLiterals-at n (z ∷ zs) zero d h lt = h.0
AreLiterals-at n (z ∷ zs) (suc k) d h lt = AreLiterals-at n zs k d h.1 (omega arith)

pub AreLiterals-contains : (n : ℕ) (zs : List ℤ) (z : ℤ) → AreLiterals n zs → Contains zs z → IsLiteral n z
AreLiterals-contains n zs z h there = subst (IsLiteral n) there.2 (AreLiterals-at n zs there.0 z h there.1)

AreDerived-append : (rs qs : List (Option ℕ)) → AreDerived rs → AreDerived qs → AreDerived (rs ++ qs)
AreDerived-append [] qs h k = k
AreDerived-append (r ∷ rs) qs h k = (h.0, AreDerived-append rs qs h.1 k)

derived-more : (r s t : List (Option ℕ)) → length r ≤ length s → take (length s) t ≡ s → AreDerived (drop (length r) s) → AreDerived (drop (length s) t) →
    AreDerived (drop (length r) t)
derived-more r s t le e h k =
    subst AreDerived
    (sym (drop-append-le (length r) s (drop (length s) t) le)
    ∙ ap (λ xs. drop (length r) (xs ++ drop (length s) t)) (sym e) ∙ ap (drop (length r)) (take-append-drop (length s) t))
    (AreDerived-append (drop (length r) s) (drop (length s) t) h k)

front-more : {A : Type 0} (r s t : List A) → take (length r) s ≡ r → take (length s) t ≡ s → take (length r) t ≡ r
front-more r s t e f = sym (take-take (length r) (length s) t (take-length r s e)) ∙ ap (take (length r)) f ∙ e

pub Extends-more : (r s t : Trail) → Extends r s → Extends s t → Extends r t
Extends-more r s t h k = record {
  variables = k.variables ∙ h.variables;
  literals = front-more r.literals s.literals t.literals h.literals k.literals;
  reasons = front-more r.reasons s.reasons t.reasons h.reasons k.reasons;
  derived = derived-more r.reasons s.reasons t.reasons (take-length r.reasons s.reasons h.reasons) k.reasons h.derived k.derived;
}

pub Extends-longer : (s t : Trail) → Extends s t → length s.literals ≤ length t.literals
Extends-longer s t h = take-length s.literals t.literals h.literals

pub Steps-more : (cs : List (List ℤ)) (r s t : Trail) → Steps cs r s → Steps cs s t → Steps cs r t
Steps-more cs r s t h k = record { extends = Extends-more r s t h.extends k.extends; trail = k.trail }

-- a clause that is unit, and its literal set
pub Steps-unit : (cs : List (List ℤ)) (t : Trail) (k : ℕ) (z : ℤ) → IsTrail cs t → AreClauses t.variables cs → k < length cs →
    IsUnit t.literals (get_or cs k []) z → Steps cs t (pushed t z (Some (k + 1)))
Steps-unit cs t k z h clauses lt unit = record {
  extends = Extends-push t t z (Some (k + 1)) (Extends-same t) tt;
  trail = IsTrail-push cs t z (Some (k + 1)) h
      (AreLiterals-contains t.variables (get_or cs k []) z (AreClauses-at t.variables cs k clauses lt).within unit.there) unit.unset
      (record { numbered = record { from_one = omega arith; there = omega arith }; unit = subst (λ (i : ℕ). IsUnit t.literals (get_or cs i []) z) (let e : k ≡ k + 1 - 1 = omega arith in e) unit });
}
