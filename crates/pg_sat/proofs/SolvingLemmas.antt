-- What is kept while a question is solved, as the trail grows.
use Rattle.std.proofs.Common.{◌≡◌, ◌⊎◌, inl, inr, ℕ, ◌^◌, ◌<◌, ◌≤◌, List, [], ◌∷◌, ◌++◌, length, get_or, take, Option, Some, None, slice_get, sym, ap, subst, ◌∙◌, arith, ℤ}
use Rattle.std.specs.Prelude.{Result, Ok, Err, OnOk}
use Rattle.std.specs.declared.alloc.AllocError.{AllocError}
use Rattle.pg_watch.specs.declared.fix.Fix.{Fix}
use Rattle.std.proofs.lemmas.Bool.{cases_lt}
use Rattle.std.proofs.lemmas.List.{take-take, take_all, get_or-take, take-append-le, append-nil, length-append}
use Rattle.std.proofs.lemmas.Option.{slice_get-get_or, get_or_from_slice_get, slice_get_within}
use Rattle.pg_cnf.specs.Literals.{IsLiteral, AreLiterals, AreClauses}
use Rattle.pg_watch.specs.Trail.{Trail, IsTrail, IsOpen, IsQuiet, IsSomeNumber, Extends, pushed, cut}
use Rattle.pg_watch.specs.Assigned.{IsAssigned}
use Rattle.pg_watch.proofs.Steps.{length-reasons, IsTrail-push, Extends-longer}
use Rattle.pg_watch.proofs.WatchedLemmas.{assigned-within, assigned-push, assigned-take, Cut}
use Rattle.pg_proof.specs.declared.step.Step.{Step}
use Rattle.pg_proof.specs.State.{variables_of_clause, variables_of}
use Rattle.pg_proof.proofs.KeptLemmas.{AreHeldWithin-begun}
use Rattle.pg_sat_guide.specs.Free.{IsFree}
use Rattle.pg_sat.specs.Jump.{IsJump}
use Rattle.pg_sat.specs.Solving.{AreQuietBefore, IsSolving}
use Rattle.pg_sat.proofs.TraceLemmas.{derived-from}

-- what was propagated was not assigned
some_not_none : (o : Option ℕ) → IsSomeNumber o → o ≡ None → ⊥
some_not_none None h e = h
some_not_none (Some n) h e = cc

module _ (s t : Trail) (extends : Extends s t) where
  old-below : (d : ℕ) → IsAssigned t d → d < length s.reasons → IsAssigned s d
  old-below d a lt =
      slice_get-get_or s.reasons d None lt
      ∙ ap Some (ap (λ (rs : List (Option ℕ)). get_or rs d None) (sym extends.reasons) ∙ get_or-take (length s.reasons) t.reasons d None lt
      ∙ get_or_from_slice_get t.reasons d None None a)

  not-above : (d : ℕ) → IsAssigned t d → length s.reasons ≤ d → ⊥
  not-above d a le =
      some_not_none (get_or t.reasons d None)
      (derived-from t.reasons (length s.reasons) d extends.derived le (slice_get_within t.reasons d None a))
      (get_or_from_slice_get t.reasons d None None a)

  pub assigned_before : (d : ℕ) → IsAssigned t d → IsAssigned s d
  assigned_before d a = by (cases_lt d (length s.reasons))
    where
      by : (d < length s.reasons) ⊎ (length s.reasons ≤ d) → IsAssigned s d
      by (inl lt) = old-below d a lt
      by (inr le) = absurd (not-above d a le)

  same-front : (d : ℕ) → d ≤ length s.literals → take d s.literals ≡ take d t.literals
  same-front d le = ap (take d) (sym extends.literals) ∙ take-take d (length s.literals) t.literals le

  pub quiet_extended : (cs : List (List ℤ)) → IsTrail cs s → AreQuietBefore cs s → AreQuietBefore cs t
  quiet_extended cs right q d a =
      let old = assigned_before d a in
      let lt = assigned-within cs s d right old in
      subst (λ (xs : List ℤ). IsQuiet cs xs) (same-front d (omega (arith, lt))) (q d old)

-- a literal is assigned where nothing is left to propagate
pub quiet_assigned : (cs : List (List ℤ)) (t : Trail) (z : ℤ) → IsTrail cs t → IsQuiet cs t.literals → AreQuietBefore cs t → AreQuietBefore cs (pushed t z None)
quiet_assigned cs t z right here q d a = by (assigned-push t.reasons None d a)
  where
    long : length t.reasons ≡ length t.literals
    long = length-reasons cs [] t.literals t.reasons right.reasoned

    by : (slice_get t.reasons d ≡ Some None) ⊎ (d ≡ length t.reasons) → IsQuiet cs (take d (t.literals ++ z ∷ []))
    by (inl old) =
        let lt = assigned-within cs t d right old in
        subst (λ (xs : List ℤ). IsQuiet cs xs) (sym (take-append-le d t.literals (z ∷ []) (omega (arith, lt)))) (q d old)
    by (inr e) =
        let le : d ≤ length t.literals = omega (arith, e, long) in
        subst (λ (xs : List ℤ). IsQuiet cs xs)
        (sym (take-append-le d t.literals (z ∷ []) le ∙ take_all d t.literals (omega (arith, e, long)))) here

-- a clause more, and the trail cut
quiet-push : (cs : List (List ℤ)) (c : List ℤ) (set : List ℤ) → IsQuiet cs set → IsOpen set c → IsQuiet (cs ++ c ∷ []) set
quiet-push [] c set q o = (o, tt)
quiet-push (d ∷ cs) c set q o = (q.0, quiet-push cs c set q.1 o)

pub quiet_cut : (cs : List (List ℤ)) (t : Trail) (lits : List ℤ) (jump : ℕ) → IsTrail cs t → AreQuietBefore cs t → IsJump t lits jump →
    AreQuietBefore (cs ++ lits ∷ []) (cut t jump)
quiet_cut cs t lits jump right q j d a =
    let old : Cut t.reasons jump d = assigned-take t.reasons jump d a in
    let whole = quiet-push cs lits (take d t.literals) (q d old.before) (j.opened d old.before old.below) in
    subst (λ (xs : List ℤ). IsQuiet (cs ++ lits ∷ []) xs) (sym (take-take d jump t.literals (omega (arith, old.below)))) whole

-- the greatest variable
greatest-in : (n : ℕ) (c : List ℤ) → AreLiterals n c → variables_of_clause c ≤ n
greatest-in n [] h = omega arith
greatest-in n (z ∷ zs) h = omega (arith, h.0.1, greatest-in n zs h.1)

pub greatest-variable : (n : ℕ) (cs : List (List ℤ)) → AreClauses n cs → variables_of cs ≤ n
greatest-variable n [] h = omega arith
greatest-variable n (c ∷ cs) h = omega (arith, greatest-in n c h.0.within, greatest-variable n cs h.1)

-- a literal more is assigned, and what follows is set
pub advanced : (question : List (List ℤ)) (variables : ℕ) (cs ds : List (List ℤ)) (s t : Trail) (z : ℤ) (steps : List Step) → IsSolving question variables cs s steps →
    IsTrail cs s → IsQuiet cs s.literals → IsFree variables s.literals z → ds ≡ cs → Extends (pushed s z None) t → IsSolving question variables ds t steps
advanced question variables cs ds s t z steps h right q free e extends =
    let literal : IsLiteral s.variables z = subst (λ (n : ℕ). IsLiteral n z) (sym h.over.same) free.literal in
    subst (λ (xs : List (List ℤ)). IsSolving question variables xs t steps) (sym e) (record {
      over = record { few = h.over.few; right = h.over.right; same = extends.variables ∙ h.over.same };
      same = h.same;
      greatest = h.greatest;
      places = h.places;
      log = h.log;
      levels = quiet_extended (pushed s z None) t extends cs (IsTrail-push cs s z None right literal free.unset tt) (quiet_assigned cs s z right q h.levels);
    })

pub longer : (s t : Trail) (z : ℤ) → Extends (pushed s z None) t → length s.literals < length t.literals
longer s t z h = omega (arith, Extends-longer (pushed s z None) t h, length-append s.literals (z ∷ []))

-- the first settling
pub started : (question : List (List ℤ)) (variables : ℕ) (cs : List (List ℤ)) (s t : Trail) → variables < 2 ^ 31 → AreClauses variables question → cs ≡ question →
    s.variables ≡ variables → s.reasons ≡ [] → Extends s t → IsSolving question variables cs t []
started question variables cs s t few are e v none extends =
    subst (λ (xs : List (List ℤ)). IsSolving question variables xs t []) (sym e) (record {
      over = record { few = few; right = are; same = extends.variables ∙ v };
      same = sym (append-nil question);
      greatest = greatest-variable variables question are;
      places = AreHeldWithin-begun variables question are;
      log = record { spent = tt; fresh = tt };
      levels = λ d a. absurd (let lt = slice_get_within s.reasons d None (assigned_before s t extends d a) in omega (arith, lt, ap length none));
    })

-- answers that may be out of memory
pub if_done : (r : Result Fix AllocError) (P Q : Type 0) → OnOk r P → (P → Q) → OnOk r Q
if_done (Ok x) P Q h f = f h
if_done (Err x) P Q h f = h
