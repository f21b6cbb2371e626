-- The table of values keeps to the list of literals.
use Rattle.std.proofs.Common.{◌≡◌, ◌≢◌, ℕ, zero, suc, ◌+◌, ◌-◌, ◌*◌, ◌<◌, ◌≤◌, ◌⊎◌, inl, inr, Bool, true, false, ℤ, pos, negsuc, neg_ℤ, nat_abs, List, [], ◌∷◌, ◌++◌, length, take, get_or, set, Option, None, Some, refl, sym, ap, subst, ◌∙◌, arith, append_assoc, length-append}
use Rattle.std.specs.Ordering.{int_eq}
use Rattle.std.proofs.lemmas.List.{get_or-set_same, get_or-set_other, append-nil}
use Rattle.std.proofs.Math.ListN.{length-set}
use Rattle.std.proofs.lemmas.Bool.Decides.{Decides-int_eq}
use Rattle.std.proofs.Math.IntN.{neg_ℤ-neg_ℤ}
use Rattle.pg_cnf.specs.Literals.{IsLiteral}
use Rattle.std.proofs.lemmas.Bool.{cases_lt}
use Rattle.std.proofs.lemmas.List.{take_all, take-take, get_or_append_left, get_or_push}
use Rattle.pg_watch.specs.Trail.{Trail, value_of, AreSet, IsAssignment, cut}
use Rattle.pg_watch.specs.Table.{AreWhere, IsTable}
use Rattle.pg_watch.specs.Places.{place_of}
use Rattle.pg_watch.proofs.Values.{some≢none, rest-none, found_at, same_variable, value_of-after_some, value_of-one, value_of-one_neg, neg-differs, value_of-push_other, value_of-push_same, value_of-push_neg, value_of-unset_neg}

pub place_of-same : (y z : ℤ) → place_of y ≡ place_of z → y ≡ z
place_of-same (pos a) (pos b) e = ap pos (omega arith)
place_of-same (pos a) (negsuc b) e = absurd (omega arith)
place_of-same (negsuc a) (pos b) e = absurd (omega arith)
place_of-same (negsuc a) (negsuc b) e = ap negsuc (omega arith)

pub place_of-lt : (n : ℕ) (z : ℤ) → IsLiteral n z → place_of z < 2 * n + 2
place_of-lt n (pos a) h = omega (arith, h.1)
place_of-lt n (negsuc a) h = omega (arith, h.1)

pub nat_abs-neg : (z : ℤ) → nat_abs (neg_ℤ z) ≡ nat_abs z
nat_abs-neg (pos zero) = refl
nat_abs-neg (pos (suc n)) = refl
nat_abs-neg (negsuc n) = refl

pub IsLiteral-neg : (n : ℕ) (z : ℤ) → IsLiteral n z → IsLiteral n (neg_ℤ z)
IsLiteral-neg n z h = (omega (arith, nat_abs-neg z, h.0), omega (arith, nat_abs-neg z, h.1))

int_cases : (b : Bool) (x y : ℤ) → int_eq x y ≡ b → (x ≡ y) ⊎ (x ≢ y)
int_cases true x y e = inl ((Decides-int_eq x y).0 e)
int_cases false x y e = inr (λ f. absurd (differ (sym e ∙ (Decides-int_eq x y).1 f)))
  where
    differ : false ≡ true → ⊥
    differ h = cc

pub same_or_not : (x y : ℤ) → (x ≡ y) ⊎ (x ≢ y)
same_or_not x y = int_cases (int_eq x y) x y refl

module _ (n : ℕ) (vs : List (Option Bool)) (z : ℤ) (own other : Option Bool) (h : IsLiteral n z) (long : length vs ≡ 2 * n + 2) where
  abbrev pub both_set : List (Option Bool)
  both_set = set (set vs (place_of z) own) (place_of (neg_ℤ z)) other

  pub length-both_set : length both_set ≡ 2 * n + 2
  length-both_set = length-set (set vs (place_of z) own) (place_of (neg_ℤ z)) other ∙ length-set vs (place_of z) own ∙ long

  pub both_set-neg : get_or both_set (place_of (neg_ℤ z)) None ≡ other
  both_set-neg =
      get_or-set_same (set vs (place_of z) own) (place_of (neg_ℤ z)) other None
      (omega (arith, length-set vs (place_of z) own, long, place_of-lt n (neg_ℤ z) (IsLiteral-neg n z h)))

  pub both_set-own : get_or both_set (place_of z) None ≡ own
  both_set-own =
      get_or-set_other (set vs (place_of z) own) (place_of (neg_ℤ z)) (place_of z) other None (λ e. neg-differs z h.0 (place_of-same z (neg_ℤ z) e))
      ∙ get_or-set_same vs (place_of z) own None (omega (arith, long, place_of-lt n z h))

  pub both_set-others : (y : ℤ) → y ≢ z → y ≢ neg_ℤ z → get_or both_set (place_of y) None ≡ get_or vs (place_of y) None
  both_set-others y d e =
      get_or-set_other (set vs (place_of z) own) (place_of (neg_ℤ z)) (place_of y) other None (λ f. e (place_of-same y (neg_ℤ z) f))
      ∙ get_or-set_other vs (place_of z) (place_of y) own None (λ f. d (place_of-same y z f))

abbrev pub AreValues : ℕ → List (Option Bool) → List ℤ → Type 0
AreValues n vs zs = (z : ℤ) → IsLiteral n z → get_or vs (place_of z) None ≡ value_of zs z

-- the negation of what is not the negation
apart : (y z : ℤ) → y ≢ neg_ℤ z → z ≢ neg_ℤ y
apart y z h e = h (sym (neg_ℤ-neg_ℤ y) ∙ ap neg_ℤ (sym e))

push-cases : (n : ℕ) (vs : List (Option Bool)) (zs : List ℤ) (z : ℤ) (h : IsLiteral n z) (long : length vs ≡ 2 * n + 2) → value_of zs z ≡ None →
    AreValues n vs zs → (y : ℤ) → IsLiteral n y → (y ≡ z) ⊎ (y ≢ z) → (y ≡ neg_ℤ z) ⊎ (y ≢ neg_ℤ z) →
    get_or (both_set n vs z (Some true) (Some false) h long) (place_of y) None ≡ value_of (zs ++ z ∷ []) y
push-cases n vs zs z h long e values y l (inl same) other =
    subst (λ (x : ℤ). get_or (both_set n vs z (Some true) (Some false) h long) (place_of x) None ≡ value_of (zs ++ z ∷ []) x) (sym same)
    (both_set-own n vs z (Some true) (Some false) h long ∙ sym (value_of-push_same zs z e))
push-cases n vs zs z h long e values y l (inr d) (inl same) =
    subst (λ (x : ℤ). get_or (both_set n vs z (Some true) (Some false) h long) (place_of x) None ≡ value_of (zs ++ z ∷ []) x) (sym same)
    (both_set-neg n vs z (Some true) (Some false) h long ∙ sym (value_of-push_neg zs z h.0 e))
push-cases n vs zs z h long e values y l (inr d) (inr f) =
    both_set-others n vs z (Some true) (Some false) h long y d f ∙ values y l
    ∙ sym (value_of-push_other zs z y (λ k. d (sym k)) (apart y z f))

pub AreValues-push : (n : ℕ) (vs : List (Option Bool)) (zs : List ℤ) (z : ℤ) → IsLiteral n z → length vs ≡ 2 * n + 2 → value_of zs z ≡ None →
    AreValues n vs zs → AreValues n (set (set vs (place_of z) (Some true)) (place_of (neg_ℤ z)) (Some false)) (zs ++ z ∷ [])
AreValues-push n vs zs z h long e values y l = push-cases n vs zs z h long e values y l (same_or_not y z) (same_or_not y (neg_ℤ z))

pop-cases : (n : ℕ) (vs : List (Option Bool)) (zs : List ℤ) (z : ℤ) (h : IsLiteral n z) (long : length vs ≡ 2 * n + 2) → value_of zs z ≡ None →
    AreValues n vs (zs ++ z ∷ []) → (y : ℤ) → IsLiteral n y → (y ≡ z) ⊎ (y ≢ z) → (y ≡ neg_ℤ z) ⊎ (y ≢ neg_ℤ z) →
    get_or (both_set n vs z None None h long) (place_of y) None ≡ value_of zs y
pop-cases n vs zs z h long e values y l (inl same) other =
    subst (λ (x : ℤ). get_or (both_set n vs z None None h long) (place_of x) None ≡ value_of zs x) (sym same)
    (both_set-own n vs z None None h long ∙ sym e)
pop-cases n vs zs z h long e values y l (inr d) (inl same) =
    subst (λ (x : ℤ). get_or (both_set n vs z None None h long) (place_of x) None ≡ value_of zs x) (sym same)
    (both_set-neg n vs z None None h long ∙ sym (value_of-unset_neg zs z h.0 e))
pop-cases n vs zs z h long e values y l (inr d) (inr f) =
    both_set-others n vs z None None h long y d f ∙ values y l
    ∙ value_of-push_other zs z y (λ k. d (sym k)) (apart y z f)

pub AreValues-pop : (n : ℕ) (vs : List (Option Bool)) (zs : List ℤ) (z : ℤ) → IsLiteral n z → length vs ≡ 2 * n + 2 → value_of zs z ≡ None →
    AreValues n vs (zs ++ z ∷ []) → AreValues n (set (set vs (place_of z) None) (place_of (neg_ℤ z)) None) zs
AreValues-pop n vs zs z h long e values y l = pop-cases n vs zs z h long e values y l (same_or_not y z) (same_or_not y (neg_ℤ z))

-- a literal more, and a literal less
pub AreSet-push : (n : ℕ) (before zs : List ℤ) (z : ℤ) → AreSet n before zs → IsLiteral n z → value_of (before ++ zs) z ≡ None → AreSet n before (zs ++ z ∷ [])
AreSet-push n before [] z h l e = (l, rw append-nil at e, tt)
AreSet-push n before (y ∷ zs) z h l e =
    (h.0, h.1, AreSet-push n (before ++ y ∷ []) zs z h.2 l (rw append_assoc e))

pub record Last (n : ℕ) (zs : List ℤ) (z : ℤ) : Type 0 where
  pub rest : AreSet n [] zs
  pub literal : IsLiteral n z
  pub unset : value_of zs z ≡ None

record LastAfter (n : ℕ) (before zs : List ℤ) (z : ℤ) : Type 0 where
  rest : AreSet n before zs
  literal : IsLiteral n z
  unset : value_of (before ++ zs) z ≡ None

last_after : (n : ℕ) (before zs : List ℤ) (z : ℤ) → AreSet n before (zs ++ z ∷ []) → LastAfter n before zs z
last_after n before [] z h = record { rest = tt; literal = h.0; unset = rw append-nil h.1 }
last_after n before (y ∷ zs) z h =
    let r = last_after n (before ++ y ∷ []) zs z h.2 in
    record { rest = (h.0, h.1, r.rest); literal = r.literal; unset = rw append_assoc at r.unset }

pub AreSet-last : (n : ℕ) (zs : List ℤ) (z : ℤ) → AreSet n [] (zs ++ z ∷ []) → Last n zs z
AreSet-last n zs z h =
    let r = last_after n [] zs z h in
    record { rest = r.rest; literal = r.literal; unset = r.unset }

-- where the literals stand
place_cases : (zs : List ℤ) (z : ℤ) (i n : ℕ) → i < n + 1 → length zs ≡ n → (i < n) ⊎ (n ≤ i) → (d : ℤ) →
    (get_or (zs ++ z ∷ []) i d ≡ get_or zs i d) ⊎ (get_or (zs ++ z ∷ []) i d ≡ z)
place_cases zs z i n all e (inl lt) d = inl (get_or_append_left zs (z ∷ []) d i (omega arith))
place_cases zs z i n all e (inr le) d = inr (get_or_push zs z d i (omega arith))

set_at : (zs : List ℤ) (i : ℕ) (d z : ℤ) → i < length zs → 0 < nat_abs z → nat_abs (get_or zs i d) ≡ nat_abs z → value_of zs z ≡ None → ⊥
set_at [] i d z lt h e f = omega arith
set_at (y ∷ ys) zero d z lt h e f = first (same_variable y z e)
  where
    first : (y ≡ z) ⊎ (y ≡ neg_ℤ z) → ⊥
    first (inl same) = some≢none true (sym (value_of-after_some (y ∷ []) ys z true (ap (λ (x : ℤ). value_of (y ∷ []) x) (sym same) ∙ value_of-one y)) ∙ f)
    first (inr same) =
        let own : value_of (y ∷ []) z ≡ Some false =
        ap (value_of (y ∷ [])) (sym (neg_ℤ-neg_ℤ z) ∙ ap neg_ℤ (sym same)) ∙ value_of-one_neg y (omega (arith, h, e)) in
        some≢none false (sym (value_of-after_some (y ∷ []) ys z false own) ∙ f)
set_at (y ∷ ys) (suc i) d z lt h e f = set_at ys i d z (omega arith) h e (rest-none (int_eq y z) (int_eq y (neg_ℤ z)) (value_of ys z) f)

stands-cases : (n : ℕ) (ws : List ℕ) (zs : List ℤ) (z : ℤ) (i : ℕ) → AreWhere ws zs → length ws ≡ n + 1 → IsLiteral n z → value_of zs z ≡ None →
    i < length zs + 1 → (i < length zs) ⊎ (length zs ≤ i) →
    get_or (set ws (nat_abs z) (length zs)) (nat_abs (get_or (zs ++ z ∷ []) i (pos 0))) 0 ≡ i
stands-cases n ws zs z i h long l unset all (inl lt) =
    let read = get_or_append_left zs (z ∷ []) (pos 0) i lt in
    let other : nat_abs (get_or zs i (pos 0)) ≢ nat_abs z = λ e. set_at zs i (pos 0) z lt l.0 e unset in
    ap (λ (y : ℤ). get_or (set ws (nat_abs z) (length zs)) (nat_abs y) 0) read
    ∙ get_or-set_other ws (nat_abs z) (nat_abs (get_or zs i (pos 0))) (length zs) 0 other ∙ h i lt
stands-cases n ws zs z i h long l unset all (inr le) =
    let e : length zs ≡ i = omega arith in
    ap (λ (y : ℤ). get_or (set ws (nat_abs z) (length zs)) (nat_abs y) 0) (get_or_push zs z (pos 0) i e)
    ∙ get_or-set_same ws (nat_abs z) (length zs) 0 (omega (arith, l.1, long)) ∙ e

AreWhere-push : (n : ℕ) (ws : List ℕ) (zs : List ℤ) (z : ℤ) → AreWhere ws zs → length ws ≡ n + 1 → IsLiteral n z → value_of zs z ≡ None →
    AreWhere (set ws (nat_abs z) (length zs)) (zs ++ z ∷ [])
AreWhere-push n ws zs z h long l unset i lt =
    stands-cases n ws zs z i h long l unset (omega (arith, lt, length-append zs (z ∷ []))) (cases_lt i (length zs))

AreWhere-front : (ws : List ℕ) (zs : List ℤ) (z : ℤ) → AreWhere ws (zs ++ z ∷ []) → AreWhere ws zs
AreWhere-front ws zs z h i lt =
    ap (λ (y : ℤ). get_or ws (nat_abs y) 0) (sym (get_or_append_left zs (z ∷ []) (pos 0) i lt)) ∙ h i (omega (arith, lt, length-append zs (z ∷ [])))

-- before its place a literal is unset
before_place : (ws : List ℕ) (zs : List ℤ) (z : ℤ) (n : ℕ) → 0 < nat_abs z → AreWhere ws zs → n ≤ get_or ws (nat_abs z) 0 → value_of (take n zs) z ≡ None
before_place ws zs z n l h le = by (value_of (take n zs) z) refl
  where
    by : (o : Option Bool) → value_of (take n zs) z ≡ o → value_of (take n zs) z ≡ None
    by None e = e
    by (Some v) e =
        let at = found_at zs z n v e in
        let stands = h at.place at.within in
        let same : get_or ws (nat_abs z) 0 ≡ at.place = ap (λ (k : ℕ). get_or ws k 0) (sym at.same) ∙ stands in
        absurd (omega (arith, same, le, at.below))

pub place_right : (t : Trail) (n : ℕ) (vs : List (Option Bool)) (ws : List ℕ) (zs : List ℤ) (rs : List (Option ℕ)) (z : ℤ) (p : ℕ) → IsTable n vs ws zs rs →
    (let s : Trail = record { variables = n; literals = zs; reasons = rs } in s ≡ t) → IsLiteral t.variables z → p ≡ get_or ws (nat_abs z) 0 →
    (i : ℕ) → i ≤ p → value_of (take i t.literals) z ≡ None
place_right t n vs ws zs rs z p h is l e i le =
    subst (λ (s : Trail). value_of (take i s.literals) z ≡ None) is (before_place ws zs z i l.0 h.stands (omega (arith, e, le)))

-- a whole table after a push, and before the last one
pub table_pushed : (t : Trail) (n : ℕ) (vs us : List (Option Bool)) (ws xs : List ℕ) (zs ys : List ℤ) (rs ss : List (Option ℕ)) (z : ℤ) (r : Option ℕ) → IsTable n vs ws zs rs →
    (let s : Trail = record { variables = n; literals = zs; reasons = rs } in s ≡ t) →
    IsLiteral t.variables z → value_of t.literals z ≡ None → us ≡ set (set vs (place_of z) (Some true)) (place_of (neg_ℤ z)) (Some false) →
    xs ≡ set ws (nat_abs z) (length zs) → ys ≡ zs ++ z ∷ [] → ss ≡ rs ++ r ∷ [] → IsTable n us xs ys ss
table_pushed t n vs us ws xs zs ys rs ss z r h is lit unset eu ex ey es =
    let l : IsLiteral n z = subst (λ (s : Trail). IsLiteral s.variables z) (sym is) lit in
    let e : value_of zs z ≡ None = subst (λ (s : Trail). value_of s.literals z ≡ None) (sym is) unset in
    record {
      few = h.few;
      places = ap length eu ∙ length-both_set n vs z (Some true) (Some false) l h.places;
      reads = subst (λ (xs : List ℤ). AreValues n us xs) (sym ey)
          (subst (λ (xs : List (Option Bool)). AreValues n xs (zs ++ z ∷ [])) (sym eu) (AreValues-push n vs zs z l h.places e h.reads));
      wheres_long = ap length ex ∙ length-set ws (nat_abs z) (length zs) ∙ h.wheres_long;
      stands = subst (λ (ls : List ℤ). AreWhere xs ls) (sym ey)
          (subst (λ (ks : List ℕ). AreWhere ks (zs ++ z ∷ [])) (sym ex) (AreWhere-push n ws zs z h.stands h.wheres_long l e));
      as_many = omega (arith, ap length es, ap length ey, length-append rs (r ∷ []), length-append zs (z ∷ []), h.as_many);
      set = subst (λ (xs : List ℤ). AreSet n [] xs) (sym ey) (AreSet-push n [] zs z h.set l e);
    }

pub record Popped (n : ℕ) (vs : List (Option Bool)) (ws : List ℕ) (ys : List ℤ) (rs : List (Option ℕ)) (z : ℤ) : Type 0 where
  pub literal : IsLiteral 2147483647 z
  pub own_place : place_of z < length vs
  pub other_place : place_of (neg_ℤ z) < length vs
  pub table : (us : List (Option Bool)) (ss : List (Option ℕ)) → us ≡ set (set vs (place_of z) None) (place_of (neg_ℤ z)) None →
      length ss ≡ length rs - 1 → IsTable n us ws ys ss

pub table_popped : (n : ℕ) (vs : List (Option Bool)) (ws : List ℕ) (zs ys : List ℤ) (rs : List (Option ℕ)) (z : ℤ) → IsTable n vs ws zs rs → zs ≡ ys ++ z ∷ [] →
    Popped n vs ws ys rs z
table_popped n vs ws zs ys rs z h e =
    let last = AreSet-last n ys z (subst (λ (xs : List ℤ). AreSet n [] xs) e h.set) in
    let l = last.literal in
    record {
      literal = (l.0, omega (arith, h.few, l.1));
      own_place = omega (arith, h.places, place_of-lt n z l);
      other_place = omega (arith, h.places, place_of-lt n (neg_ℤ z) (IsLiteral-neg n z l));
      table = λ us ss eu long. record {
        few = h.few;
        places = ap length eu ∙ length-both_set n vs z None None l h.places;
        reads = subst (λ (xs : List (Option Bool)). AreValues n xs ys) (sym eu)
            (AreValues-pop n vs ys z l h.places last.unset (subst (λ (xs : List ℤ). AreValues n vs xs) e h.reads));
        wheres_long = h.wheres_long;
        stands = AreWhere-front ws ys z (subst (λ (xs : List ℤ). AreWhere ws xs) e h.stands);
        as_many = omega (arith, ap length e, length-append ys (z ∷ []), h.as_many);
        set = last.rest;
      };
    }

pub cut_all : (t : Trail) (n : ℕ) → IsAssignment t → length t.literals ≤ n → cut t n ≡ t
cut_all t n h le =
    let e = take_all n t.literals le in let f = take_all n t.reasons (omega (arith, h.as_many)) in
    λ i. record { variables = t.variables; literals = e i; reasons = f i }

pub cut_cut : (t : Trail) (m n : ℕ) → m ≤ n → cut (cut t n) m ≡ cut t m
cut_cut t m n le =
    let e = take-take m n t.literals le in let f = take-take m n t.reasons le in
    λ i. record { variables = t.variables; literals = e i; reasons = f i }
