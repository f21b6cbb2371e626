-- A valid step follows from what is held.
use Rattle.std.proofs.Common.{◌≡◌, ℕ, zero, suc, ◌+◌, ◌*◌, ◌<◌, Bool, true, false, not, cond, ◌||◌, ◌&&◌, ltb, leb, List, [], ◌∷◌, ◌++◌, Option, Some, None, Err, slice_get, refl, sym, ap, subst, ◌∙◌, arith, ℤ, pos, negsuc, neg_ℤ, nat_abs, map, if◌then◌else◌}
use Rattle.std.specs.Ordering.{int_eq}
use Rattle.std.proofs.lemmas.List.Folds.{list_all-append}
use Rattle.std.proofs.lemmas.Bool.Decides.{Decides-int_eq}
use Rattle.pg_cnf.specs.Truth.{literal_true, clause_true, clauses_true}
use Rattle.pg_proof.specs.declared.propagation.Reading.{Reading}
use Rattle.pg_proof.specs.declared.propagation.Reading.TheVariants.{Falsified, Unit, Neither}
use Rattle.pg_proof.specs.declared.step.ProofFault.{ProofFault}
use Rattle.pg_proof.specs.declared.step.ProofFault.TheVariants.{UnknownLit, UnknownHint, NotUnit, NoConflict}
use Rattle.pg_proof.specs.declared.step.Step.{Step}
use Rattle.pg_proof.specs.Places.{has, negations, AreWithin}
use Rattle.pg_proof.specs.Reading.{open_of, reading_of, reading}
use Rattle.pg_proof.specs.State.{State, clause_at, begun, is_empty, with_clause}
use Rattle.pg_proof.specs.Refutation.{are_ascending, is_last, at_reading, at_clause, walk, fault_of, told}
use Rattle.pg_proof.specs.Sound.{held_true, all_held_true, IsSound}
use Rattle.pg_proof.proofs.WithinLemmas.{both, less, AreWithin-ascending}
use Rattle.pg_proof.proofs.MarkedLemmas.{same_clause}

-- each of some literals is true
abbrev AreTrue : List Bool → List ℤ → Type 0
AreTrue a trail = (z : ℤ) → has trail z ≡ true → literal_true a z ≡ true

flipped : (b : Bool) → not b ≡ true → b ≡ false
flipped true e = sym e
flipped false e = refl

unflipped : (b : Bool) → b ≡ true → not b ≡ false
unflipped b e = ap not e

literal_true-negation : (a : List Bool) (z : ℤ) → literal_true a (neg_ℤ z) ≡ true → literal_true a z ≡ false
literal_true-negation a (pos zero) e = refl
literal_true-negation a (pos (suc n)) e = flipped _ e
literal_true-negation a (negsuc n) e = unflipped _ e

negation_true : (a : List Bool) (z : ℤ) → 0 < nat_abs z → literal_true a z ≡ false → literal_true a (neg_ℤ z) ≡ true
negation_true a (pos zero) lt e = absurd (omega arith)
negation_true a (pos (suc n)) lt e = ap not e
negation_true a (negsuc n) lt e = turned _ e
  where
    turned : (b : Bool) → not b ≡ false → b ≡ true
    turned true e = refl
    turned false e = sym e

second : (b c : Bool) → b || c ≡ true → b ≡ false → c ≡ true
second true c h e = cc
second false c h e = h

first : (b c : Bool) → b ≡ true → b || c ≡ true
first true c e = refl
first false c e = cc

later : (b c : Bool) → c ≡ true → b || c ≡ true
later true c e = refl
later false c e = e

neither : (b c : Bool) → b || c ≡ false → (b ≡ false) × (c ≡ false)
neither true c h = cc
neither false c h = (refl, h)

-- a clause that is true has a true literal that is not false
open_step : (f : Bool) (a : List Bool) (z : ℤ) (zs left : List ℤ) → (f ≡ true → literal_true a z ≡ false) →
    literal_true a z || clause_true a zs ≡ true → (clause_true a zs ≡ true → clause_true a left ≡ true) → clause_true a (cond (not f) (z ∷ left) left) ≡ true
open_step true a z zs left n h go = go (second _ _ h (n refl))
open_step false a z zs left n h go = by (literal_true a z) h
  where
    by : (b : Bool) → b || clause_true a zs ≡ true → b || clause_true a left ≡ true
    by true h = refl
    by false h = go h

open_true : (a : List Bool) (trail c : List ℤ) → AreTrue a trail → clause_true a c ≡ true → clause_true a (open_of (has trail) c) ≡ true
open_true a trail [] t h = h
open_true a trail (z ∷ zs) t h =
    open_step (has trail (neg_ℤ z)) a z zs (open_of (has trail) zs) (λ e. literal_true-negation a z (t (neg_ℤ z) e)) h (open_true a trail zs t)

one_reading : (b : Bool) (z : ℤ) → (if b then Neither else Unit z) ≡ Falsified → ⊥
one_reading true z e = cc
one_reading false z e = cc

one_unit : (b : Bool) (z y : ℤ) → (if b then Neither else Unit z) ≡ Unit y → z ≡ y
one_unit true z y e = cc
one_unit false z y e = cc

reading_of-false : (t : ℤ → Bool) (zs : List ℤ) → reading_of t zs ≡ Falsified → zs ≡ []
reading_of-false t [] e = refl
reading_of-false t (z ∷ []) e = absurd (one_reading (t z) z e)
reading_of-false t (z ∷ y ∷ zs) e = cc

pub reading_of-unit : (t : ℤ → Bool) (zs : List ℤ) (y : ℤ) → reading_of t zs ≡ Unit y → zs ≡ y ∷ []
reading_of-unit t [] y e = cc
reading_of-unit t (z ∷ []) y e = ap (λ x. x ∷ []) (one_unit (t z) z y e)
reading_of-unit t (z ∷ x ∷ zs) y e = cc

-- what is held at a place is true
held_true-get : (a : List Bool) (held : List (Option (List ℤ))) (k : ℕ) (c : List ℤ) → slice_get held k ≡ Some (Some c) → all_held_true a held ≡ true →
    clause_true a c ≡ true
held_true-get a [] k c e h = cc
held_true-get a (o ∷ held) zero c e h = let s : o ≡ Some c = cc in subst (λ x. held_true a x ≡ true) s (both _ _ h).0
held_true-get a (o ∷ held) (suc k) c e h = held_true-get a held k c e (both _ _ h).1

held_true-at : (a : List Bool) (held : List (Option (List ℤ))) (n : ℕ) (c : List ℤ) → clause_at held n ≡ Some c → all_held_true a held ≡ true →
    clause_true a c ≡ true
held_true-at a held zero c e h = cc
held_true-at a held (suc k) c e h = held_true-get a held k c (same_clause (slice_get held k) c e) h

AreTrue-more : (a : List Bool) (trail : List ℤ) (z : ℤ) → literal_true a z ≡ true → AreTrue a trail → AreTrue a (z ∷ trail)
AreTrue-more a trail z e t y h = by (int_eq z y) refl h
  where
    by : (b : Bool) → int_eq z y ≡ b → b || has trail y ≡ true → literal_true a y ≡ true
    by true s h = subst (λ x. literal_true a x ≡ true) ((Decides-int_eq z y).0 s) e
    by false s h = t y h

-- the last literal that is left
only : (b : Bool) → b || false ≡ true → b ≡ true
only true e = refl
only false e = e

at_true_clause : (a : List Bool) (trail c : List ℤ) (r : Reading) (last : Bool) (go : ℤ → Option ProofFault) → AreTrue a trail → clause_true a c ≡ true →
    reading (has trail) c ≡ r → ((z : ℤ) → literal_true a z ≡ true → go z ≡ None → ⊥) → at_reading r last go ≡ None → ⊥
at_true_clause a trail c Falsified last go t h e down n =
    let f = open_true a trail c t h in let g = ap (clause_true a) (reading_of-false (has trail) (open_of (has trail) c) e) in cc
at_true_clause a trail c (Unit z) last go t h e down n =
    let f = open_true a trail c t h in let g = ap (clause_true a) (reading_of-unit (has trail) (open_of (has trail) c) z e) in
    down z (only (literal_true a z) (sym g ∙ f)) n
at_true_clause a trail c Neither last go t h e down n = cc

at_held : (a : List Bool) (trail : List ℤ) (o : Option (List ℤ)) (last : Bool) (go : ℤ → Option ProofFault) → AreTrue a trail →
    ((c : List ℤ) → o ≡ Some c → clause_true a c ≡ true) → ((z : ℤ) → literal_true a z ≡ true → go z ≡ None → ⊥) →
    at_clause o (λ c. at_reading (reading (has trail) c) last go) ≡ None → ⊥
at_held a trail None last go t h down n = cc
at_held a trail (Some c) last go t h down n = at_true_clause a trail c (reading (has trail) c) last go t (h c refl) refl down n

-- where all that is held is true, and all that was set, no clause is false at the end
walk_ends : (a : List Bool) (held : List (Option (List ℤ))) (hs : List ℕ) (trail : List ℤ) → all_held_true a held ≡ true → AreTrue a trail →
    walk held trail hs ≡ None → ⊥
unfolding walk
walk_ends a held [] trail h t n = cc
walk_ends a held (k ∷ hs) trail h t n =
    at_held a trail (clause_at held k) (is_last hs) (λ z. walk held (z ∷ trail) hs) t (λ c e. held_true-at a held k c e h)
    (λ z e m. walk_ends a held hs (z ∷ trail) h (AreTrue-more a trail z e t) m) n

-- where no literal of a step is true, each negation is
negations_true : (a : List Bool) (variables above : ℕ) (lits : List ℤ) → are_ascending variables above lits ≡ true → clause_true a lits ≡ false →
    AreTrue a (negations lits)
negations_true a variables above [] asc h = λ y e. cc
negations_true a variables above (z ∷ zs) asc h =
    let p = both (ltb above (nat_abs z)) (leb (nat_abs z) variables && are_ascending variables (nat_abs z) zs) asc in
    let q = both (leb (nat_abs z) variables) (are_ascending variables (nat_abs z) zs) p.1 in
    let lt : above < nat_abs z = less above (nat_abs z) p.0 in
    let n = neither (literal_true a z) (clause_true a zs) h in
    AreTrue-more a (negations zs) (neg_ℤ z) (negation_true a z (omega (arith, lt)) n.0) (negations_true a variables (nat_abs z) zs q.1 n.1)

pub checked : (b : Bool) (w : Option ProofFault) → (if b then w else Some UnknownLit) ≡ None → (b ≡ true) × (w ≡ None)
checked true w e = (refl, e)
checked false w e = cc

pub valid_follows : (variables : ℕ) (held : List (Option (List ℤ))) (step : Step) (a : List Bool) → fault_of variables held step ≡ None →
    all_held_true a held ≡ true → clause_true a step.lits ≡ true
unfolding fault_of
valid_follows variables held step a valid h = by (clause_true a step.lits) refl
  where
    by : (b : Bool) → clause_true a step.lits ≡ b → b ≡ true
    by true e = refl
    by false e =
        let p = checked (are_ascending variables 0 step.lits) (walk held (negations step.lits) step.hints) valid in
        absurd (walk_ends a held step.hints (negations step.lits) h (negations_true a variables 0 step.lits p.0 e) p.1)

conj : (b c : Bool) → b ≡ true → c ≡ true → b && (c && true) ≡ true
conj true true e f = refl
conj true false e f = f
conj false c e f = e

all_held_true-push : (a : List Bool) (held : List (Option (List ℤ))) (c : List ℤ) → all_held_true a held ≡ true → clause_true a c ≡ true →
    all_held_true a (held ++ Some c ∷ []) ≡ true
all_held_true-push a held c h k = list_all-append (held_true a) held (Some c ∷ []) ∙ conj (all_held_true a held) (clause_true a c) h k

closes : (question : List (List ℤ)) (state : State) (lits : List ℤ) (b : Bool) → state.closed ≡ b → IsSound question state →
    ((a : List Bool) → clauses_true a question ≡ true → clause_true a lits ≡ true) → b || is_empty lits ≡ true →
    (a : List Bool) → clauses_true a question ≡ true → ⊥
closes question state lits true e s follows h a q = s.refuted e a q
closes question state [] false e s follows h a q = let f = follows a q in cc
closes question state (z ∷ zs) false e s follows h a q = cc

pub IsSound-added : (question : List (List ℤ)) (state : State) (step : Step) → fault_of state.variables state.held step ≡ None → IsSound question state →
    IsSound question (with_clause state step.lits)
IsSound-added question state step valid s =
    let follows : (a : List Bool) → clauses_true a question ≡ true → clause_true a step.lits ≡ true =
    (λ a q. valid_follows state.variables state.held step a valid (s.follows a q)) in
    record {
      follows = λ a q. all_held_true-push a state.held step.lits (s.follows a q) (follows a q);
      refuted = λ h. closes question state step.lits state.closed refl s follows h;
    }

begun_true : (a : List Bool) (question : List (List ℤ)) → all_held_true a (map Some question) ≡ clauses_true a question
begun_true a [] = refl
begun_true a (c ∷ cs) = ap (λ b. clause_true a c && b) (begun_true a cs)

pub IsSound-begun : (question : List (List ℤ)) → IsSound question (begun question)
IsSound-begun question = record { follows = λ a q. begun_true a question ∙ q; refuted = λ h. cc }

-- a valid step's literals have their places
pub valid_within : (variables : ℕ) (held : List (Option (List ℤ))) (step : Step) → fault_of variables held step ≡ None → AreWithin (2 * variables + 2) step.lits
unfolding fault_of
valid_within variables held step valid =
    AreWithin-ascending variables 0 step.lits (checked (are_ascending variables 0 step.lits) (walk held (negations step.lits) step.hints) valid).0

-- no step is at fault for lack of memory
told_reading : (r : Reading) (last : Bool) (go : ℤ → Option ProofFault) (f : ProofFault) →
    ((z : ℤ) → go z ≡ Some f → told {A = ℕ} (Err f) ≡ Some f) → at_reading r last go ≡ Some f → told {A = ℕ} (Err f) ≡ Some f
told_reading Falsified true go f down e = cc
told_reading Falsified false go f down e = let s : NotUnit ≡ f = cc in subst (λ g. told {A = ℕ} (Err g) ≡ Some g) s refl
told_reading (Unit z) last go f down e = down z e
told_reading Neither last go f down e = let s : NotUnit ≡ f = cc in subst (λ g. told {A = ℕ} (Err g) ≡ Some g) s refl

told_clause : (o : Option (List ℤ)) (t : ℤ → Bool) (last : Bool) (go : ℤ → Option ProofFault) (f : ProofFault) →
    ((z : ℤ) → go z ≡ Some f → told {A = ℕ} (Err f) ≡ Some f) → at_clause o (λ c. at_reading (reading t c) last go) ≡ Some f → told {A = ℕ} (Err f) ≡ Some f
told_clause None t last go f down e = let s : UnknownHint ≡ f = cc in subst (λ g. told {A = ℕ} (Err g) ≡ Some g) s refl
told_clause (Some c) t last go f down e = told_reading (reading t c) last go f down e

told_walk : (held : List (Option (List ℤ))) (hs : List ℕ) (trail : List ℤ) (f : ProofFault) → walk held trail hs ≡ Some f → told {A = ℕ} (Err f) ≡ Some f
unfolding walk
told_walk held [] trail f e = let s : NoConflict ≡ f = cc in subst (λ g. told {A = ℕ} (Err g) ≡ Some g) s refl
told_walk held (h ∷ hs) trail f e =
    told_clause (clause_at held h) (has trail) (is_last hs) (λ z. walk held (z ∷ trail) hs) f (λ z m. told_walk held hs (z ∷ trail) f m) e

told_checked : (b : Bool) (w : Option ProofFault) (f : ProofFault) → (w ≡ Some f → told {A = ℕ} (Err f) ≡ Some f) →
    (if b then w else Some UnknownLit) ≡ Some f → told {A = ℕ} (Err f) ≡ Some f
told_checked true w f down e = down e
told_checked false w f down e = let s : UnknownLit ≡ f = cc in subst (λ g. told {A = ℕ} (Err g) ≡ Some g) s refl

pub told_fault : (variables : ℕ) (held : List (Option (List ℤ))) (step : Step) (f : ProofFault) → Some f ≡ fault_of variables held step →
    fault_of variables held step ≡ told {A = ℕ} (Err f)
unfolding fault_of
told_fault variables held step f e =
    sym e ∙ sym (told_checked (are_ascending variables 0 step.lits) (walk held (negations step.lits) step.hints) f
    (told_walk held step.hints (negations step.lits) f) (sym e))
