-- Grants that a monitor made, and the guests that have some of them.
use Rattle.std.proofs.Common.{◌≡◌, ℕ, ◌+◌, ◌≤◌, ◌⊎◌, inl, inr, Bool, true, false, cond, not, List, [], ◌∷◌, ◌++◌, slice_get, slice_set, All, Result, Ok, Err, Some, refl, sym, ◌∙◌, ap, subst, arith}
use Rattle.std.specs.Prelude.{nat_lt, ◌==◌, ◌&&◌, IfOk, OnOk, OnErr}
use Rattle.std.proofs.lemmas.Bool.{eq-eqb, eqb-true, ne_eqb, or_cases, or_left, or_right, and_from, and_parts, both_ways}
use Rattle.std.proofs.lemmas.List.Elements.{All-nil, All-cons, All-head, All-tail, All-append, All-set, All-weaker}
use Rattle.pg_alloc.specs.Fit.{free_base}
use Rattle.pg_alloc.specs.Grants.{Granted, IsGrant, AreGrants, and_grant, but_grant, is_granted}
use Rattle.pg_alloc.proofs.FitLemmas.{free_base-free}
use Rattle.pg_mon_control.specs.declared.guest.Guest.{Guest}
use Rattle.pg_mon_control.specs.Guests.{is_one_of, AreOwned}
use Rattle.pg_mon_control.proofs.GuestLemmas.{All-at}

-- ---- one more grant

abbrev IsOneOf : ℕ × ℕ → List (ℕ × ℕ) → Type 0
IsOneOf x grants = is_one_of x grants ≡ true

abbrev same : ℕ × ℕ → ℕ × ℕ → Bool
same x y = (x.0 == y.0) && (x.1 == y.1)

one_of-and : (x grant : ℕ × ℕ) (grants : List (ℕ × ℕ)) → IsOneOf x grants → IsOneOf x (and_grant grant grants)
one_of-and x grant [] h = absurd (let wrong : ⊥ = cc in wrong)
one_of-and x grant (first ∷ rest) h = by_test (nat_lt grant.0 first.0) (kept (λ later. one_of-and x grant rest later) (or_cases (same first x) (is_one_of x rest) h))
  where
    kept : (IsOneOf x rest → IsOneOf x (and_grant grant rest)) → (same first x ≡ true) ⊎ IsOneOf x rest → IsOneOf x (first ∷ and_grant grant rest)
    kept more (inl is) = or_left (same first x) (is_one_of x (and_grant grant rest)) is
    kept more (inr later) = or_right (same first x) (is_one_of x (and_grant grant rest)) (more later)

    by_test : (t : Bool) → IsOneOf x (first ∷ and_grant grant rest) → IsOneOf x (cond t (grant ∷ first ∷ rest) (first ∷ and_grant grant rest))
    by_test true later = or_right (same grant x) (is_one_of x (first ∷ rest)) h
    by_test false later = later

is_same : (x : ℕ × ℕ) → same x x ≡ true
is_same x = and_from (x.0 == x.0) (x.1 == x.1) (eq-eqb x.0 x.0 refl) (eq-eqb x.1 x.1 refl)

one_of-new : (grant : ℕ × ℕ) (grants : List (ℕ × ℕ)) → IsOneOf grant (and_grant grant grants)
one_of-new grant [] = or_left (same grant grant) false (is_same grant)
one_of-new grant (first ∷ rest) = by_test (nat_lt grant.0 first.0) (one_of-new grant rest)
  where
    by_test : (t : Bool) → IsOneOf grant (and_grant grant rest) → IsOneOf grant (cond t (grant ∷ first ∷ rest) (first ∷ and_grant grant rest))
    by_test true later = or_left (same grant grant) (is_one_of grant (first ∷ rest)) (is_same grant)
    by_test false later = or_right (same first grant) (is_one_of grant (and_grant grant rest)) later

same_pair : (x y : ℕ × ℕ) → same x y ≡ true → x ≡ y
same_pair x y h =
    let parts = and_parts (x.0 == y.0) (x.1 == y.1) h in
    ap (λ n. (n, x.1)) (eqb-true x.0 y.0 parts.0) ∙ ap (λ n. (y.0, n)) (eqb-true x.1 y.1 parts.1)

-- what is said of all of them is said of each
pub one_of-all : (P : ℕ × ℕ → Type 0) (x : ℕ × ℕ) (grants : List (ℕ × ℕ)) → All P grants → IsOneOf x grants → P x
one_of-all P x [] all h = absurd (let wrong : ⊥ = cc in wrong)
one_of-all P x (first ∷ rest) all h = by_case (λ later. one_of-all P x rest (All-tail P first rest all) later) (or_cases (same first x) (is_one_of x rest) h)
  where
    by_case : (IsOneOf x rest → P x) → (same first x ≡ true) ⊎ IsOneOf x rest → P x
    by_case more (inl is) = subst P (same_pair first x is) (All-head P first rest all)
    by_case more (inr later) = more later

-- ---- guests keep what they have

-- the same guests beside one more grant
pub owned-and : (q : ℕ) (old new : Granted) (grant : ℕ × ℕ) (gs : List Guest) → new ≡ record old { grants = and_grant grant old.grants } → AreGrants new.q new.grants →
    AreOwned q old gs → AreOwned q new gs
owned-and q old new grant gs is lie h = record {
  storage = ap (λ (x : Granted). x.q) is ∙ h.storage;
  lie = subst (λ n. AreGrants n new.grants) (ap (λ (x : Granted). x.q) is ∙ h.storage) lie;
  own = All-weaker (λ (g : Guest). IsOneOf (g.base, g.size) old.grants) (λ (g : Guest). IsOneOf (g.base, g.size) new.grants)
      (λ g own. subst (λ (x : Granted). IsOneOf (g.base, g.size) x.grants) (sym is) (one_of-and (g.base, g.size) grant old.grants own)) gs h.own;
}

-- a guest in the new one too
pub owned-new : (q : ℕ) (old new : Granted) (g : Guest) (gs hs : List Guest) → new ≡ record old { grants = and_grant (g.base, g.size) old.grants } → AreOwned q new gs →
    hs ≡ gs ++ g ∷ [] → AreOwned q new hs
owned-new q old new g gs hs is kept more = record {
  storage = kept.storage;
  lie = kept.lie;
  own = subst (All (λ (x : Guest). IsOneOf (x.base, x.size) new.grants)) (sym more)
      (All-append (λ (x : Guest). IsOneOf (x.base, x.size) new.grants) gs (g ∷ []) kept.own
      (All-cons (λ (x : Guest). IsOneOf (x.base, x.size) new.grants) g []
      (subst (λ (x : Granted). IsOneOf (g.base, g.size) x.grants) (sym is) (one_of-new (g.base, g.size) old.grants)) (All-nil (λ (x : Guest). IsOneOf (x.base, x.size) new.grants))));
}

-- whether a grant was made or not
pub owned-made : {E : Type 0} (q size : ℕ) (old new : Granted) (gs : List Guest) (r : Result ℕ E) → IfOk r (λ base. new ≡ record old { grants = and_grant (base, size) old.grants }) →
    OnErr r (new ≡ old) → AreGrants new.q new.grants → AreOwned q old gs → AreOwned q new gs
owned-made q size old new gs (Ok base) made refused lie owned = owned-and q old new (base, size) gs made lie owned
owned-made q size old new gs (Err e) made refused lie owned = subst (λ (x : Granted). AreOwned q x gs) (sym refused) owned

-- in a storage of as many cells
pub owned-in : (p q : ℕ) (granted : Granted) (gs : List Guest) → p ≡ q → AreOwned p granted gs → AreOwned q granted gs
owned-in p q granted gs same owned = subst (λ n. AreOwned n granted gs) same owned

-- a guest in the same grant
pub owned-set : (q : ℕ) (granted : Granted) (gs hs : List Guest) (k : ℕ) (g h : Guest) → AreOwned q granted gs → slice_get gs k ≡ Some g → h.base ≡ g.base → h.size ≡ g.size →
    hs ≡ slice_set gs k h → AreOwned q granted hs
owned-set q granted gs hs k g h owned is base size set =
    let own : IsOneOf (h.base, h.size) granted.grants =
    ap (λ n. is_one_of (n, h.size) granted.grants) base ∙ ap (λ n. is_one_of (g.base, n) granted.grants) size
    ∙ All-at (λ (x : Guest). IsOneOf (x.base, x.size) granted.grants) gs k g owned.own is in
    record {
      storage = owned.storage;
      lie = owned.lie;
      own = subst (All (λ (x : Guest). IsOneOf (x.base, x.size) granted.grants)) (sym set) (All-set (λ (x : Guest). IsOneOf (x.base, x.size) granted.grants) gs k h own owned.own);
    }

-- what is free is beside each guest
pub free-apart : (q size base : ℕ) (granted : Granted) (gs : List Guest) → AreOwned q granted gs → free_base q granted.grants size ≡ Some base →
    All (λ (g : Guest). (base + size ≤ g.base) ⊎ (g.base + g.size ≤ base)) gs
free-apart q size base granted gs h first =
    let free = free_base-free q granted.grants size base first in
    All-weaker (λ (g : Guest). IsOneOf (g.base, g.size) granted.grants) (λ (g : Guest). (base + size ≤ g.base) ⊎ (g.base + g.size ≤ base))
    (λ g own. one_of-all (λ grant. (base + size ≤ grant.0) ⊎ (grant.0 + grant.1 ≤ base)) (g.base, g.size) granted.grants free.beside own) gs h.own

-- ---- a grant that is given back

other : ℕ → ℕ × ℕ → Bool
other base grant = not (grant.0 == base)

-- of these none has the base
but-none : (base : ℕ) (grants : List (ℕ × ℕ)) → All (λ grant. ¬ (grant.0 ≡ base)) grants → but_grant base grants ≡ grants
but-none base [] all = refl
but-none base (first ∷ rest) all =
    ap (λ t. cond (not t) (first ∷ but_grant base rest) (but_grant base rest)) (ne_eqb first.0 base (All-head (λ grant. ¬ (grant.0 ≡ base)) first rest all))
    ∙ ap (λ l. first ∷ l) (but-none base rest (All-tail (λ grant. ¬ (grant.0 ≡ base)) first rest all))

but-and : (base size : ℕ) (grants : List (ℕ × ℕ)) → All (λ grant. ¬ (grant.0 ≡ base)) grants → but_grant base (and_grant (base, size) grants) ≡ grants
but-and base size [] all = ap (λ t. cond (not t) ((base, size) ∷ []) []) (eq-eqb base base refl)
but-and base size (first ∷ rest) all = by_test (nat_lt base first.0) (but-and base size rest (All-tail (λ grant. ¬ (grant.0 ≡ base)) first rest all))
  where
    by_test : (t : Bool) → but_grant base (and_grant (base, size) rest) ≡ rest → but_grant base (cond t ((base, size) ∷ first ∷ rest) (first ∷ and_grant (base, size) rest)) ≡ first ∷ rest
    by_test true later =
        ap (λ t. cond (not t) ((base, size) ∷ but_grant base (first ∷ rest)) (but_grant base (first ∷ rest))) (eq-eqb base base refl) ∙ but-none base (first ∷ rest) all
    by_test false later =
        ap (λ t. cond (not t) (first ∷ but_grant base (and_grant (base, size) rest)) (but_grant base (and_grant (base, size) rest)))
        (ne_eqb first.0 base (All-head (λ grant. ¬ (grant.0 ≡ base)) first rest all))
        ∙ ap (λ l. first ∷ l) later

apart : (q base size : ℕ) (grant : ℕ × ℕ) → 1 ≤ size → (base + size ≤ grant.0) ⊎ (grant.0 + grant.1 ≤ base) → IsGrant q grant → ¬ (grant.0 ≡ base)
apart q base size grant least (inl before) is = λ same. absurd (omega (arith, before, same))
apart q base size grant least (inr after) is = λ same. absurd (omega (arith, after, same, is.least))

elsewhere : (q base size : ℕ) (grants : List (ℕ × ℕ)) → 1 ≤ size → All (λ grant. (base + size ≤ grant.0) ⊎ (grant.0 + grant.1 ≤ base)) grants → All (IsGrant q) grants →
    All (λ grant. ¬ (grant.0 ≡ base)) grants
elsewhere q base size [] least beside each = All-nil (λ (grant : ℕ × ℕ). ¬ (grant.0 ≡ base))
elsewhere q base size (x ∷ xs) least beside each =
    All-cons (λ (grant : ℕ × ℕ). ¬ (grant.0 ≡ base)) x xs
    (apart q base size x least (All-head (λ grant. (base + size ≤ grant.0) ⊎ (grant.0 + grant.1 ≤ base)) x xs beside) (All-head (IsGrant q) x xs each))
    (elsewhere q base size xs least (All-tail (λ grant. (base + size ≤ grant.0) ⊎ (grant.0 + grant.1 ≤ base)) x xs beside) (All-tail (IsGrant q) x xs each))

-- a grant that was made last is given back, and all is as it was
pub given-back : (q base size : ℕ) (old mid new : Granted) → 1 ≤ size → AreGrants q old.grants → free_base q old.grants size ≡ Some base →
    mid ≡ record old { grants = and_grant (base, size) old.grants } → new ≡ record mid { grants = but_grant base mid.grants } → new ≡ old
given-back q base size old mid new least lie first one two =
    let free = free_base-free q old.grants size base first in
    two ∙ ap (λ (x : Granted). let y : Granted = record x { grants = but_grant base x.grants } in y) one
    ∙ ap (λ gs. let y : Granted = record old { grants = gs } in y) (but-and base size old.grants (elsewhere q base size old.grants least free.beside lie.each))

granted-and : (base size : ℕ) (grants : List (ℕ × ℕ)) → is_granted base (and_grant (base, size) grants) ≡ true
granted-and base size [] = or_left (base == base) false (eq-eqb base base refl)
granted-and base size (first ∷ rest) = by_test (nat_lt base first.0) (granted-and base size rest)
  where
    by_test : (t : Bool) → is_granted base (and_grant (base, size) rest) ≡ true → is_granted base (cond t ((base, size) ∷ first ∷ rest) (first ∷ and_grant (base, size) rest)) ≡ true
    by_test true later = or_left (base == base) (is_granted base (first ∷ rest)) (eq-eqb base base refl)
    by_test false later = or_right (first.0 == base) (is_granted base (and_grant (base, size) rest)) later

pub returned : {T E : Type 0} (q base size : ℕ) (old mid new : Granted) (r : Result T E) → 1 ≤ size → AreGrants q old.grants → free_base q old.grants size ≡ Some base →
    mid ≡ record old { grants = and_grant (base, size) old.grants } → OnOk r (new ≡ record mid { grants = but_grant base mid.grants }) → OnErr r (is_granted base mid.grants ≡ false) →
    new ≡ old
returned q base size old mid new (Ok x) least lie first made freed missing = given-back q base size old mid new least lie first made freed
returned q base size old mid new (Err e) least lie first made freed missing =
    absurd (both_ways (is_granted base mid.grants) missing (ap (λ (x : Granted). is_granted base x.grants) made ∙ granted-and base size old.grants))
