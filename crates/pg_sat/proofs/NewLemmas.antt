-- A clause of which all literals but one are false before a place where nothing was left to propagate is new.
use Rattle.std.proofs.Common.{◌≡◌, ◌≢◌, ℕ, suc, ◌<◌, Bool, true, false, not, cond, ◌||◌, List, [], ◌∷◌, ◌++◌, map, Option, Some, None, refl, sym, ap, subst, ◌∙◌, arith, ℤ, neg_ℤ, nat_abs, append_assoc}
use Rattle.std.specs.Prelude.{Contains}
use Rattle.std.specs.Ordering.{int_eq}
use Rattle.std.specs.Option.{option_map}
use Rattle.std.specs.List.{list_any, list_all}
use Rattle.std.proofs.Math.IntN.{neg_ℤ-neg_ℤ}
use Rattle.std.proofs.lemmas.Bool.Decides.{Decides-int_eq}
use Rattle.pg_cnf.specs.Literals.{AreClauses}
use Rattle.pg_watch.specs.Trail.{value_of, AreFalse, AreFalseBut, IsOpen, IsQuiet, AreSet}
use Rattle.pg_watch.proofs.Values.{value_of-push_same, value_of-after_some, value_of-neg}
use Rattle.pg_proof.specs.declared.propagation.Reading.TheVariants.{Unit, Neither}
use Rattle.pg_proof.specs.Places.{has}
use Rattle.pg_proof.specs.Reading.{open_of, reading_of, reading}
use Rattle.pg_proof.specs.New.{AreQuiet, IsNew}
use Rattle.pg_proof.specs.Covered.{is_covered}
use Rattle.pg_proof.proofs.NewLemmas.{new_uncovered}
use Rattle.pg_sat.proofs.ReadingLemmas.{false_if, has-first, has-later, by_member}
use Rattle.pg_sat.proofs.CutLemmas.{some-differs, none-differs}

-- what has a value is set
step-value : (x z : ℤ) (xs : List ℤ) (a b : Bool) → int_eq x z ≡ a → int_eq x (neg_ℤ z) ≡ b → (v : Bool) → cond a (Some true) (cond b (Some false) (value_of xs z)) ≡ Some v →
    (value_of xs z ≡ Some v → has xs (cond v z (neg_ℤ z)) ≡ true) → has (x ∷ xs) (cond v z (neg_ℤ z)) ≡ true
step-value x z xs true b e f true h rest = subst (λ (y : ℤ). has (x ∷ xs) y ≡ true) ((Decides-int_eq x z).0 e) (has-first x xs)
step-value x z xs true b e f false h rest = cc
step-value x z xs false true e f true h rest = cc
step-value x z xs false true e f false h rest = subst (λ (y : ℤ). has (x ∷ xs) y ≡ true) ((Decides-int_eq x (neg_ℤ z)).0 f) (has-first x xs)
step-value x z xs false false e f v h rest = has-later x xs (cond v z (neg_ℤ z)) (rest h)

set_by_value : (set : List ℤ) (z : ℤ) (v : Bool) → value_of set z ≡ Some v → has set (cond v z (neg_ℤ z)) ≡ true
set_by_value [] z v e = cc
set_by_value (x ∷ xs) z v e = step-value x z xs (int_eq x z) (int_eq x (neg_ℤ z)) refl refl v e (set_by_value xs z v)

pub set_if_false : (set : List ℤ) (z : ℤ) → value_of set z ≡ Some false → has set (neg_ℤ z) ≡ true
set_if_false set z e = set_by_value set z false e

set_if_true : (set : List ℤ) (z : ℤ) → value_of set z ≡ Some true → has set z ≡ true
set_if_true set z e = set_by_value set z true e

-- and what is set has the value
set-from : (n : ℕ) (before zs : List ℤ) (z : ℤ) → AreSet n before zs → has zs z ≡ true → (value_of (before ++ zs) z ≡ Some true) × (0 < nat_abs z)
set-from n before [] z s h = cc
set-from n before (x ∷ xs) z s h =
    by_member x xs z h
    (λ e.
    let first : value_of (before ++ x ∷ []) x ≡ Some true = value_of-push_same before x s.1 in
    let all : value_of (before ++ x ∷ xs) x ≡ Some true =
    ap (λ (ys : List ℤ). value_of ys x) (sym (append_assoc before (x ∷ []) xs)) ∙ value_of-after_some (before ++ x ∷ []) xs x true first in
    (subst (λ (y : ℤ). value_of (before ++ x ∷ xs) y ≡ Some true) e all, subst (λ (y : ℤ). 0 < nat_abs y) e s.0.0))
    (λ e.
    let rest = set-from n (before ++ x ∷ []) xs z s.2 e in
    (ap (λ (ys : List ℤ). value_of ys z) (sym (append_assoc before (x ∷ []) xs)) ∙ rest.0, rest.1))

module _ (n : ℕ) (set : List ℤ) (are_set : AreSet n [] set) where
  pub true_if_set : (z : ℤ) → has set z ≡ true → value_of set z ≡ Some true
  true_if_set z h = (set-from n [] set z are_set h).0

  false_if_negated : (z : ℤ) → has set (neg_ℤ z) ≡ true → value_of set z ≡ Some false
  false_if_negated z h =
      let p = set-from n [] set (neg_ℤ z) are_set h in
      ap (value_of set) (sym (neg_ℤ-neg_ℤ z)) ∙ value_of-neg set (neg_ℤ z) p.1
      ∙ ap (λ (o : Option Bool). option_map not o) p.0

  pub not_set_both : (z : ℤ) → has set z ≡ true → has set (neg_ℤ z) ≡ false
  not_set_both z h = false_if (has set (neg_ℤ z)) (λ e. some-differs (value_of set z) (true_if_set z h) (false_if_negated z e))

  unset_not_true : (z : ℤ) → value_of set z ≡ None → has set z ≡ false
  unset_not_true z u = false_if (has set z) (λ e. none-differs (value_of set z) true u (true_if_set z e))

  unset_not_false : (z : ℤ) → value_of set z ≡ None → has set (neg_ℤ z) ≡ false
  unset_not_false z u = false_if (has set (neg_ℤ z)) (λ e. none-differs (value_of set z) false u (false_if_negated z e))

  -- a clause with nothing left open is falsified
  none_left : (c : List ℤ) → open_of (has set) c ≡ [] → AreFalse set c
  none_left [] e = tt
  none_left (x ∷ xs) e = by (has set (neg_ℤ x)) refl (none_left xs)
    where
      by : (b : Bool) → has set (neg_ℤ x) ≡ b → (open_of (has set) xs ≡ [] → AreFalse set xs) → AreFalse set (x ∷ xs)
      by true f rest = (false_if_negated x f, rest (ap (λ b. cond (not b) (x ∷ open_of (has set) xs) (open_of (has set) xs)) (sym f) ∙ e))
      by false f rest = absurd (let g : x ∷ open_of (has set) xs ≡ [] = ap (λ b. cond (not b) (x ∷ open_of (has set) xs) (open_of (has set) xs)) (sym f) ∙ e in cc)

  all_but : (c : List ℤ) (z : ℤ) → AreFalse set c → AreFalseBut set z c
  all_but [] z h = tt
  all_but (x ∷ xs) z h = ((λ d. h.0), all_but xs z h.1)

  -- and one with one left open is false but for it
  one_left : (c : List ℤ) (z : ℤ) (zs : List ℤ) → open_of (has set) c ≡ z ∷ zs → zs ≡ [] → AreFalseBut set z c × Contains c z
  one_left [] z zs e f = cc
  one_left (x ∷ xs) z zs e f = by (has set (neg_ℤ x)) refl (λ g. one_left xs z zs g f)
    where
      by : (b : Bool) → has set (neg_ℤ x) ≡ b → (open_of (has set) xs ≡ z ∷ zs → AreFalseBut set z xs × Contains xs z) → AreFalseBut set z (x ∷ xs) × Contains (x ∷ xs) z
      by true g rest =
          let r = rest (ap (λ b. cond (not b) (x ∷ open_of (has set) xs) (open_of (has set) xs)) (sym g) ∙ e) in
          ((λ d. false_if_negated x g, r.0), (suc r.1.0, omega (arith, r.1.1), r.1.2))
      by false g rest =
          let h : x ∷ open_of (has set) xs ≡ z ∷ zs = ap (λ b. cond (not b) (x ∷ open_of (has set) xs) (open_of (has set) xs)) (sym g) ∙ e in
          let s : x ≡ z = cc in
          let k : open_of (has set) xs ≡ [] = cc in
          ((λ d. absurd (d s), all_but xs z (none_left xs k)), (0, omega arith, s))

  first_open : (c : List ℤ) (z : ℤ) (zs : List ℤ) → open_of (has set) c ≡ z ∷ zs → has set (neg_ℤ z) ≡ false
  first_open [] z zs e = cc
  first_open (x ∷ xs) z zs e = by (has set (neg_ℤ x)) refl (first_open xs z zs)
    where
      by : (b : Bool) → has set (neg_ℤ x) ≡ b → (open_of (has set) xs ≡ z ∷ zs → has set (neg_ℤ z) ≡ false) → has set (neg_ℤ z) ≡ false
      by true g rest = rest (ap (λ b. cond (not b) (x ∷ open_of (has set) xs) (open_of (has set) xs)) (sym g) ∙ e)
      by false g rest =
          let h : x ∷ open_of (has set) xs ≡ z ∷ zs = ap (λ b. cond (not b) (x ∷ open_of (has set) xs) (open_of (has set) xs)) (sym g) ∙ e in
          let s : x ≡ z = cc in
          ap (λ y. has set (neg_ℤ y)) (sym s) ∙ g

  no_value : (z : ℤ) (o : Option Bool) → value_of set z ≡ o → has set z ≡ false → has set (neg_ℤ z) ≡ false → value_of set z ≡ None
  no_value z None e f g = e
  no_value z (Some true) e f g = absurd (let h : true ≡ false = sym (set_if_true set z e) ∙ f in cc)
  no_value z (Some false) e f g = absurd (let h : true ≡ false = sym (set_if_false set z e) ∙ g in cc)

  open-one : (c : List ℤ) (x : ℤ) (b : Bool) → IsOpen set c → open_of (has set) c ≡ x ∷ [] → has set x ≡ b → reading_of (has set) (x ∷ []) ≡ Neither
  open-one c x true h e f = ap (λ a. cond a Neither (Unit x)) f
  open-one c x false h e f =
      let l = one_left c x [] e refl in
      absurd (h.not_unit x (record { there = l.1; unset = no_value x (value_of set x) refl f (first_open c x [] e); others = l.0 }))

  open-reading : (c : List ℤ) (o : List ℤ) → IsOpen set c → open_of (has set) c ≡ o → reading (has set) c ≡ Neither
  open-reading c [] h e = absurd (h.not_falsified (none_left c e))
  open-reading c (x ∷ []) h e = ap (reading_of (has set)) e ∙ open-one c x (has set x) h e refl
  open-reading c (x ∷ y ∷ zs) h e = ap (reading_of (has set)) e

  pub quiet-readings : (cs : List (List ℤ)) → IsQuiet cs set → AreQuiet set cs
  quiet-readings [] q = tt
  quiet-readings (c ∷ cs) q = (open-reading c (open_of (has set) c) q.0 refl, quiet-readings cs q.1)

  -- all but one are false, and it is unset
  pub IsNew-quiet : (cs : List (List ℤ)) (lits : List ℤ) (unset : ℤ) → IsQuiet cs set → has lits unset ≡ true → value_of set unset ≡ None →
      ((y : ℤ) → has lits y ≡ true → unset ≢ y → value_of set y ≡ Some false) → IsNew cs lits
  IsNew-quiet cs lits unset q there free others = record {
    trail = set;
    consistent = not_set_both;
    unset = unset;
    among = there;
    not_true = unset_not_true unset free;
    not_false = unset_not_false unset free;
    others = λ z h d. set_if_false set z (others z h d);
    quiet = quiet-readings cs q;
  }

covered-held : (cs : List (List ℤ)) (lits : List ℤ) → is_covered (map Some cs) lits ≡ list_any (λ c. list_all (has lits) c) cs
covered-held [] lits = refl
covered-held (c ∷ cs) lits = ap (λ b. list_all (has lits) c || b) (covered-held cs lits)

pub new_not_covered : (variables : ℕ) (cs : List (List ℤ)) (lits : List ℤ) → AreClauses variables cs → IsNew cs lits → is_covered (map Some cs) lits ≡ false
new_not_covered variables cs lits are new = covered-held cs lits ∙ new_uncovered variables cs lits are new
