-- The step of a cut: its literals in order, and its hints.
use Rattle.std.proofs.Common.{◌≡◌, ◌≢◌, ◌⊎◌, inl, inr, ℕ, zero, suc, ◌+◌, ◌*◌, ◌<◌, ◌≤◌, Bool, true, false, ltb, leb, cond, ◌&&◌, List, [], ◌∷◌, ◌++◌, map, Option, Some, None, is_none, refl, sym, ap, subst, ◌∙◌, arith, ℤ, pos, negsuc, neg_ℤ, nat_abs}
use Rattle.std.specs.List.{list_all}
use Rattle.std.proofs.Math.IntN.{neg_ℤ-neg_ℤ}
use Rattle.std.proofs.lemmas.Bool.{cases_lt}
use Rattle.std.proofs.lemmas.Bool.Decides.{nat_tests}
use Rattle.pg_watch.specs.Trail.{value_of}
use Rattle.pg_watch.proofs.Values.{value_of-neg}
use Rattle.pg_proof.specs.declared.step.Step.{Step}
use Rattle.pg_proof.specs.Places.{has, negations, is_marked, IsWithin, AreWithin}
use Rattle.pg_proof.specs.State.{AreHeldWithin}
use Rattle.pg_proof.specs.Refutation.{are_ascending, walk, fault_of}
use Rattle.pg_proof.specs.Tight.{literals_at, hint_clauses, stands_in, sets_used, is_tight}
use Rattle.pg_proof.proofs.TightLemmas.{AreWithin-literals}
use Rattle.pg_proof.proofs.MarkedLemmas.{nat_abs-neg}
use Rattle.pg_proof.proofs.WithinLemmas.{both, less}
use Rattle.pg_sat.specs.Cut.{AreTrue, Leads, IsCut}
use Rattle.pg_sat.specs.Listed.{listed_at, listed}
use Rattle.pg_sat.specs.Learned.{IsLearned}
use Rattle.pg_sat.proofs.ReadingLemmas.{one_of_two, has-first, has-later, by_member}
use Rattle.pg_sat.proofs.CutLemmas.{both_true}

-- literals that are within places
has_within : (n : ℕ) (c : List ℤ) (y : ℤ) → AreWithin n c → has c y ≡ true → IsWithin n y
has_within n [] y w h = cc
has_within n (x ∷ xs) y w h = by_member x xs y h (λ e. subst (IsWithin n) e w.0) (λ e. has_within n xs y w.1 e)

pub standing_within : (n : ℕ) (held : List (Option (List ℤ))) (hints : List ℕ) (y : ℤ) → AreHeldWithin n held → stands_in (hint_clauses held hints) y ≡ true → IsWithin n y
standing_within n held [] y w h = cc
standing_within n held (h ∷ hs) y w m =
    by (one_of_two (has (literals_at held h) y) (stands_in (hint_clauses held hs) y) m) (standing_within n held hs y w)
  where
    by : (has (literals_at held h) y ≡ true) ⊎ (stands_in (hint_clauses held hs) y ≡ true) → (stands_in (hint_clauses held hs) y ≡ true → IsWithin n y) → IsWithin n y
    by (inl e) rest = has_within n (literals_at held h) y (AreWithin-literals n held h w) e
    by (inr e) rest = rest e

-- the literals in order: those whose flags are up
data At (flags : List Bool) (v : ℕ) : Type 0 where
  positive : is_marked flags (pos v) ≡ true → At flags v
  negative : is_marked flags (pos v) ≡ false → is_marked flags (neg_ℤ (pos v)) ≡ true → At flags v
  neither : is_marked flags (pos v) ≡ false → is_marked flags (neg_ℤ (pos v)) ≡ false → At flags v

at_of : (flags : List Bool) (v : ℕ) → At flags v
at_of flags v = by (is_marked flags (pos v)) (is_marked flags (neg_ℤ (pos v))) refl refl
  where
    by : (a b : Bool) → is_marked flags (pos v) ≡ a → is_marked flags (neg_ℤ (pos v)) ≡ b → At flags v
    by true b e f = positive e
    by false true e f = negative e f
    by false false e f = neither e f

pub listed_positive : (flags : List Bool) (v : ℕ) → is_marked flags (pos v) ≡ true → listed_at flags v ≡ pos v ∷ []
listed_positive flags v e = ap (λ b. cond b (pos v ∷ []) (cond (is_marked flags (neg_ℤ (pos v))) (neg_ℤ (pos v) ∷ []) [])) e

pub listed_negative : (flags : List Bool) (v : ℕ) → is_marked flags (pos v) ≡ false → is_marked flags (neg_ℤ (pos v)) ≡ true → listed_at flags v ≡ neg_ℤ (pos v) ∷ []
listed_negative flags v e f =
    ap (λ b. cond b (pos v ∷ []) (cond (is_marked flags (neg_ℤ (pos v))) (neg_ℤ (pos v) ∷ []) [])) e ∙ ap (λ b. cond b (neg_ℤ (pos v) ∷ []) []) f

pub listed_neither : (flags : List Bool) (v : ℕ) → is_marked flags (pos v) ≡ false → is_marked flags (neg_ℤ (pos v)) ≡ false → listed_at flags v ≡ []
listed_neither flags v e f =
    ap (λ b. cond b (pos v ∷ []) (cond (is_marked flags (neg_ℤ (pos v))) (neg_ℤ (pos v) ∷ []) [])) e ∙ ap (λ b. cond b (neg_ℤ (pos v) ∷ []) []) f

pub step-listed : (flags : List Bool) (v k : ℕ) (xs : List ℤ) → listed_at flags v ≡ xs → listed flags v (suc k) ≡ xs ++ listed flags (v + 1) k
unfolding listed
step-listed flags v k xs e = ap (λ ys. ys ++ listed flags (v + 1) k) e

pub none-listed : (flags : List Bool) (v : ℕ) → listed flags v 0 ≡ []
unfolding listed
none-listed flags v = refl

tests : (above n variables : ℕ) (b : Bool) → above < n → n ≤ variables → b ≡ true → ltb above n && (leb n variables && b) ≡ true
tests above n variables b lt le e = both_true (ltb above n) (leb n variables && b) (grind (arith, nat_tests)) (both_true (leb n variables) b (grind (arith, nat_tests)) e)

ascending-one : (variables above v : ℕ) (z : ℤ) (zs : List ℤ) → nat_abs z ≡ v → above < v → v ≤ variables → are_ascending variables v zs ≡ true →
    are_ascending variables above (z ∷ zs) ≡ true
ascending-one variables above v z zs e lt le h =
    tests above (nat_abs z) variables (are_ascending variables (nat_abs z) zs) (omega (arith, e)) (omega (arith, e)) (ap (λ (n : ℕ). are_ascending variables n zs) e ∙ h)

ascending-listed : (variables : ℕ) (flags : List Bool) (k above v : ℕ) → above < v → v + k ≤ variables + 1 → are_ascending variables above (listed flags v k) ≡ true
ascending-listed variables flags zero above v lt le = ap (are_ascending variables above) (none-listed flags v)
ascending-listed variables flags (suc k) above v lt le =
    by (at_of flags v) (ascending-listed variables flags k v (v + 1) (omega arith) (omega arith)) (ascending-listed variables flags k above (v + 1) (omega arith) (omega arith))
  where
    by : At flags v → are_ascending variables v (listed flags (v + 1) k) ≡ true → are_ascending variables above (listed flags (v + 1) k) ≡ true →
        are_ascending variables above (listed flags v (suc k)) ≡ true
    by (positive e) h g = ap (are_ascending variables above) (step-listed flags v k (pos v ∷ []) (listed_positive flags v e))
        ∙ ascending-one variables above v (pos v) (listed flags (v + 1) k) refl lt (omega arith) h
    by (negative e f) h g = ap (are_ascending variables above) (step-listed flags v k (neg_ℤ (pos v) ∷ []) (listed_negative flags v e f))
        ∙ ascending-one variables above v (neg_ℤ (pos v)) (listed flags (v + 1) k) (nat_abs-neg (pos v)) lt (omega arith) h
    by (neither e f) h g = ap (are_ascending variables above) (step-listed flags v k [] (listed_neither flags v e f)) ∙ g

-- what is listed is marked
listed-marked : (flags : List Bool) (k v : ℕ) (y : ℤ) → has (listed flags v k) y ≡ true → is_marked flags y ≡ true
listed-marked flags zero v y h = let f : has [] y ≡ true = ap (λ (c : List ℤ). has c y) (sym (none-listed flags v)) ∙ h in cc
listed-marked flags (suc k) v y h = by (at_of flags v) (listed-marked flags k (v + 1) y)
  where
    by : At flags v → (has (listed flags (v + 1) k) y ≡ true → is_marked flags y ≡ true) → is_marked flags y ≡ true
    by (positive e) rest =
        by_member (pos v) (listed flags (v + 1) k) y (ap (λ (c : List ℤ). has c y) (sym (step-listed flags v k (pos v ∷ []) (listed_positive flags v e))) ∙ h)
        (λ s. ap (is_marked flags) (sym s) ∙ e) rest
    by (negative e f) rest =
        by_member (neg_ℤ (pos v)) (listed flags (v + 1) k) y
        (ap (λ (c : List ℤ). has c y) (sym (step-listed flags v k (neg_ℤ (pos v) ∷ []) (listed_negative flags v e f))) ∙ h)
        (λ s. ap (is_marked flags) (sym s) ∙ f) rest
    by (neither e f) rest = rest (ap (λ (c : List ℤ). has c y) (sym (step-listed flags v k [] (listed_neither flags v e f))) ∙ h)

-- and what is marked, of a variable of which one literal alone is, is listed
abbrev pub IsAlone : List Bool → Type 0
IsAlone flags = (y : ℤ) → is_marked flags y ≡ true → is_marked flags (neg_ℤ y) ≡ true → ⊥

by_abs : (y : ℤ) (v : ℕ) → nat_abs y ≡ v → (y ≡ pos v) ⊎ (y ≡ neg_ℤ (pos v))
by_abs (pos n) v e = inl (ap pos e)
by_abs (negsuc n) v e = inr (ap (λ (k : ℕ). neg_ℤ (pos k)) e)

equal_or : (a b : ℕ) → (a ≡ b) ⊎ (a ≢ b)
equal_or a b = by (cases_lt a b) (cases_lt b a)
  where
    by : (a < b) ⊎ (b ≤ a) → (b < a) ⊎ (a ≤ b) → (a ≡ b) ⊎ (a ≢ b)
    by (inl h) g = inr (λ e. omega arith)
    by (inr h) (inl g) = inr (λ e. omega arith)
    by (inr h) (inr g) = inl (omega arith)

has-right : (xs ys : List ℤ) (y : ℤ) → has ys y ≡ true → has (xs ++ ys) y ≡ true
has-right [] ys y h = h
has-right (x ∷ xs) ys y h = has-later x (xs ++ ys) y (has-right xs ys y h)

module _ (flags : List Bool) (alone : IsAlone flags) where
  marked_here : (v : ℕ) (y : ℤ) → is_marked flags y ≡ true → (y ≡ pos v) ⊎ (y ≡ neg_ℤ (pos v)) → At flags v → (rest : List ℤ) → has (listed_at flags v ++ rest) y ≡ true
  marked_here v y m (inl e) (positive p) rest = ap (λ (c : List ℤ). has (c ++ rest) y) (listed_positive flags v p) ∙ ap (has (pos v ∷ rest)) e ∙ has-first (pos v) rest
  marked_here v y m (inl e) (negative p q) rest = let f = ap (is_marked flags) e in cc
  marked_here v y m (inl e) (neither p q) rest = let f = ap (is_marked flags) e in cc
  marked_here v y m (inr e) (positive p) rest =
      absurd (alone (pos v) p (ap (is_marked flags) (sym e) ∙ m))
  marked_here v y m (inr e) (negative p q) rest =
      ap (λ (c : List ℤ). has (c ++ rest) y) (listed_negative flags v p q) ∙ ap (has (neg_ℤ (pos v) ∷ rest)) e ∙ has-first (neg_ℤ (pos v)) rest
  marked_here v y m (inr e) (neither p q) rest = let f = ap (is_marked flags) e in cc

  marked-listed : (k v : ℕ) (y : ℤ) → is_marked flags y ≡ true → v ≤ nat_abs y → nat_abs y < v + k → has (listed flags v k) y ≡ true
  marked-listed zero v y m le lt = absurd (omega arith)
  marked-listed (suc k) v y m le lt =
      ap (λ (c : List ℤ). has c y) (step-listed flags v k (listed_at flags v) refl)
      ∙ by (equal_or (nat_abs y) v) (λ d. marked-listed k (v + 1) y m (omega arith) (omega arith))
    where
      by : (nat_abs y ≡ v) ⊎ (nat_abs y ≢ v) → (nat_abs y ≢ v → has (listed flags (v + 1) k) y ≡ true) → has (listed_at flags v ++ listed flags (v + 1) k) y ≡ true
      by (inl e) rest = marked_here v y m (by_abs y v e) (at_of flags v) (listed flags (v + 1) k)
      by (inr d) rest = has-right (listed_at flags v) (listed flags (v + 1) k) y (rest d)

-- fewer variables, if all literals are of these
ascending-fewer : (n m above : ℕ) (c : List ℤ) → are_ascending n above c ≡ true → AreWithin (2 * m + 2) c → are_ascending m above c ≡ true
ascending-fewer n m above [] h w = refl
ascending-fewer n m above (z ∷ zs) h w =
    let p = both (ltb above (nat_abs z)) (leb (nat_abs z) n && are_ascending n (nat_abs z) zs) h in
    let q = both (leb (nat_abs z) n) (are_ascending n (nat_abs z) zs) p.1 in
    tests above (nat_abs z) m (are_ascending m (nat_abs z) zs) (less above (nat_abs z) p.0) (omega (arith, w.0.within)) (ascending-fewer n m (nat_abs z) zs q.1 w.1)

all_within : (n : ℕ) (c : List ℤ) → ((y : ℤ) → has c y ≡ true → IsWithin n y) → AreWithin n c
all_within n [] h = tt
all_within n (x ∷ xs) h = (h x (has-first x xs), all_within n xs (λ y e. h y (has-later x xs y e)))

-- the negations of literals
has-negations : (c : List ℤ) (y : ℤ) → has c y ≡ true → has (negations c) (neg_ℤ y) ≡ true
has-negations [] y h = cc
has-negations (x ∷ xs) y h =
    by_member x xs y h
    (λ e. subst (λ (z : ℤ). has (neg_ℤ x ∷ negations xs) (neg_ℤ z) ≡ true) e (has-first (neg_ℤ x) (negations xs)))
    (λ e. has-later (neg_ℤ x) (negations xs) (neg_ℤ y) (has-negations xs y e))

negations-has : (c : List ℤ) (y : ℤ) → has (negations c) y ≡ true → has c (neg_ℤ y) ≡ true
negations-has [] y h = cc
negations-has (x ∷ xs) y h =
    by_member (neg_ℤ x) (negations xs) y h
    (λ e. subst (λ (z : ℤ). has (x ∷ xs) z ≡ true) (sym (neg_ℤ-neg_ℤ x) ∙ ap neg_ℤ e) (has-first x xs))
    (λ e. has-later x xs (neg_ℤ y) (negations-has xs y e))

is_none_of : {A : Type 0} (o : Option A) → o ≡ None → is_none o ≡ true
is_none_of o e = ap is_none e

fault-none : (variables : ℕ) (held : List (Option (List ℤ))) (step : Step) → are_ascending variables 0 step.lits ≡ true →
    walk held (negations step.lits) step.hints ≡ None → fault_of variables held step ≡ None
unfolding fault_of
fault-none variables held step e w = rw e w

tight-true : (variables : ℕ) (held : List (Option (List ℤ))) (step : Step) → fault_of variables held step ≡ None →
    list_all (stands_in (hint_clauses held step.hints)) step.lits ≡ true → sets_used (negations step.lits) (hint_clauses held step.hints) ≡ true →
    is_tight variables held step ≡ true
unfolding is_tight
tight-true variables held step e a u = rw (e, a, u) refl

all_of : (f : ℤ → Bool) (c : List ℤ) → ((y : ℤ) → has c y ≡ true → f y ≡ true) → list_all f c ≡ true
all_of f [] h = refl
all_of f (x ∷ xs) h = both_true (f x) (list_all f xs) (h x (has-first x xs)) (all_of f xs (λ y e. h y (has-later x xs y e)))

swapped_value : (set : List ℤ) (y : ℤ) → 0 < nat_abs y → value_of set (neg_ℤ y) ≡ Some false → value_of set y ≡ Some true
swapped_value set y lt e =
    ap (value_of set) (sym (neg_ℤ-neg_ℤ y)) ∙ value_of-neg set (neg_ℤ y) (subst (λ (n : ℕ). 0 < n) (sym (nat_abs-neg y)) lt)
    ∙ ap (λ (o : Option Bool). elim o [ None ↦ None | Some b ↦ Some (elim b [ true ↦ false | false ↦ true ]) ]) e

-- a cut's step
module _ (variables within : ℕ) (held : List (Option (List ℤ))) (set : List ℤ) (flags : List Bool) (hints : List ℕ) (step : Step)
    (places : AreHeldWithin (2 * within + 2) held) (le : within ≤ variables) (cut : IsCut held set (is_marked flags) hints)
    (is_lits : step.lits ≡ listed flags 1 variables) (is_hints : step.hints ≡ hints) where
  each_within : (y : ℤ) → is_marked flags y ≡ true → IsWithin (2 * within + 2) y
  each_within y m = standing_within (2 * within + 2) held hints y places (cut.standing y m)

  is_alone : IsAlone flags
  is_alone y m k =
      let e = swapped_value set y (each_within y m).nonzero (cut.are_false (neg_ℤ y) k) in
      let f : Some true ≡ Some false = sym e ∙ cut.are_false y m in cc

  pub marked_of : (y : ℤ) → has step.lits y ≡ true → is_marked flags y ≡ true
  marked_of y h = listed-marked flags variables 1 y (ap (λ (c : List ℤ). has c y) (sym is_lits) ∙ h)

  pub listed_of : (y : ℤ) → is_marked flags y ≡ true → has step.lits y ≡ true
  listed_of y m =
      let w = each_within y m in
      ap (λ (c : List ℤ). has c y) is_lits ∙ marked-listed flags is_alone variables 1 y m (omega (arith, w.nonzero)) (omega (arith, w.within))

  lits_within : AreWithin (2 * within + 2) step.lits
  lits_within = all_within (2 * within + 2) step.lits (λ y h. each_within y (marked_of y h))

  ascending : are_ascending within 0 step.lits ≡ true
  ascending =
      ascending-fewer variables within 0 step.lits
      (ap (are_ascending variables 0) is_lits ∙ ascending-listed variables flags variables 0 1 (omega arith) (omega arith)) lits_within

  true_negations : AreTrue set (negations step.lits)
  true_negations z h =
      let m = marked_of (neg_ℤ z) (negations-has step.lits z h) in
      let w = each_within (neg_ℤ z) m in
      swapped_value set z (subst (λ (n : ℕ). 0 < n) (nat_abs-neg z) w.nonzero) (cut.are_false (neg_ℤ z) m)

  leading : Leads held (negations step.lits) hints
  leading = cut.leads (negations step.lits) true_negations (λ y m. has-negations step.lits y (listed_of y m))

  step_valid : fault_of within held step ≡ None
  step_valid = fault-none within held step ascending (ap (walk held (negations step.lits)) is_hints ∙ leading.walks)

  step_tight : is_tight within held step ≡ true
  step_tight =
      tight-true within held step step_valid
      (all_of (stands_in (hint_clauses held step.hints)) step.lits
      (λ y h. ap (λ (hs : List ℕ). stands_in (hint_clauses held hs) y) is_hints ∙ cut.standing y (marked_of y h)))
      (ap (λ (hs : List ℕ). sets_used (negations step.lits) (hint_clauses held hs)) is_hints ∙ leading.used)

  step_cut : IsCut held set (has step.lits) step.hints
  step_cut = record {
    are_false = λ y h. cut.are_false y (marked_of y h);
    standing = λ y h. ap (λ (hs : List ℕ). stands_in (hint_clauses held hs) y) is_hints ∙ cut.standing y (marked_of y h);
    leads = λ trail t d. subst (λ (hs : List ℕ). Leads held trail hs) (sym is_hints) (cut.leads trail t (λ y m. d y (listed_of y m)));
  }

  pub step_learned : (clauses : List (List ℤ)) → held ≡ map Some clauses → IsLearned within clauses set step
  step_learned clauses e = record {
    valid = ap (λ (h : List (Option (List ℤ))). fault_of within h step) (sym e) ∙ step_valid;
    tight = ap (λ (h : List (Option (List ℤ))). is_tight within h step) (sym e) ∙ step_tight;
    cut = subst (λ (h : List (Option (List ℤ))). IsCut h set (has step.lits) step.hints) e step_cut;
  }
