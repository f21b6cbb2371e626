-- What is kept where a clause was learned and the trail was cut.
use Rattle.std.proofs.Common.{◌≡◌, ℕ, ◌+◌, ◌*◌, ◌<◌, ◌≤◌, Bool, true, false, ltb, leb, ◌&&◌, cond, List, [], ◌∷◌, ◌++◌, map, Option, Some, None, refl, sym, ap, subst, ◌∙◌, arith, ℤ, neg_ℤ, nat_abs, append_assoc}
use Rattle.std.proofs.lemmas.List.{map-append}
use Rattle.pg_cnf.specs.Literals.{AreLiterals, IsAbsent, AreDistinct, IsClause, AreClauses}
use Rattle.pg_watch.specs.Trail.{Trail, IsTrail, Extends, cut}
use Rattle.pg_proof.specs.declared.step.Step.{Step}
use Rattle.pg_proof.specs.declared.step.ProofFault.{ProofFault}
use Rattle.pg_proof.specs.declared.step.ProofFault.TheVariants.{UnknownLit}
use Rattle.pg_proof.specs.Places.{has, negations, AreWithin}
use Rattle.pg_proof.specs.State.{variables_of, is_empty, AreHeldWithin}
use Rattle.pg_proof.specs.Refutation.{are_ascending, walk, fault_of}
use Rattle.pg_proof.specs.Covered.{is_covered}
use Rattle.pg_proof.specs.New.{IsNew}
use Rattle.pg_proof.proofs.SoundLemmas.{valid_within}
use Rattle.pg_proof.proofs.WithinLemmas.{both, less, AreHeldWithin-push}
use Rattle.pg_sat.specs.Jump.{IsJump}
use Rattle.pg_sat.specs.Learned.{IsLearned, IsLearnedWithin, IsAsserting}
use Rattle.pg_sat.specs.Solving.{clauses_of, AreQuietBefore, IsSolving}
use Rattle.pg_sat.proofs.LogLemmas.{log_more, clauses_of-more}
use Rattle.pg_sat.proofs.SolvingLemmas.{quiet_extended, quiet_cut}

-- literals that ascend
absent-above : (n a : ℕ) (z : ℤ) (zs : List ℤ) → are_ascending n a zs ≡ true → nat_abs z ≤ a → IsAbsent z zs
absent-above n a z [] h le = tt
absent-above n a z (y ∷ ys) h le =
    let p = both (ltb a (nat_abs y)) (leb (nat_abs y) n && are_ascending n (nat_abs y) ys) h in
    let q = both (leb (nat_abs y) n) (are_ascending n (nat_abs y) ys) p.1 in
    let more : a < nat_abs y = less a (nat_abs y) p.0 in
    ((λ e. (let same : nat_abs z ≡ nat_abs y = ap nat_abs e in omega arith)), absent-above n (nat_abs y) z ys q.1 (omega arith))

pub distinct-ascending : (n a : ℕ) (zs : List ℤ) → are_ascending n a zs ≡ true → AreDistinct zs
distinct-ascending n a [] h = tt
distinct-ascending n a (y ∷ ys) h =
    let p = both (ltb a (nat_abs y)) (leb (nat_abs y) n && are_ascending n (nat_abs y) ys) h in
    let q = both (leb (nat_abs y) n) (are_ascending n (nat_abs y) ys) p.1 in
    (absent-above n (nat_abs y) y ys q.1 (omega arith), distinct-ascending n (nat_abs y) ys q.1)

true_if : (b : Bool) (o : Option ProofFault) → cond b o (Some UnknownLit) ≡ None → b ≡ true
true_if true o e = refl
true_if false o e = cc

pub ascending_of : (n : ℕ) (held : List (Option (List ℤ))) (step : Step) → fault_of n held step ≡ None → are_ascending n 0 step.lits ≡ true
unfolding fault_of
ascending_of n held step e = true_if (are_ascending n 0 step.lits) (walk held (negations step.lits) step.hints) e

pub literals_of : (n m : ℕ) (zs : List ℤ) → n ≤ m → AreWithin (2 * n + 2) zs → AreLiterals m zs
literals_of n m [] le w = tt
literals_of n m (z ∷ zs) le w = ((w.0.nonzero, omega (arith, w.0.within)), literals_of n m zs le w.1)

pub within-more : (n m : ℕ) (zs : List ℤ) → n ≤ m → AreWithin (2 * n + 2) zs → AreWithin (2 * m + 2) zs
within-more n m [] le w = tt
within-more n m (z ∷ zs) le w = (record { nonzero = w.0.nonzero; within = omega (arith, w.0.within) }, within-more n m zs le w.1)

pub clauses-push : (n : ℕ) (cs : List (List ℤ)) (c : List ℤ) → AreClauses n cs → IsClause n c → AreClauses n (cs ++ c ∷ [])
clauses-push n [] c h k = (k, tt)
clauses-push n (d ∷ cs) c h k = (h.0, clauses-push n cs c h.1 k)

some_there : (lits : List ℤ) (z : ℤ) → has lits z ≡ true → is_empty lits ≡ false
some_there [] z h = cc
some_there (x ∷ xs) z h = refl

-- a step that was learned
module _ (question : List (List ℤ)) (variables : ℕ) (cs : List (List ℤ)) (t : Trail) (steps : List Step) (h : IsSolving question variables cs t steps) where
  abbrev greatest : ℕ
  greatest = variables_of question

  module _ (set : List ℤ) (step : Step) (all : IsLearnedWithin variables cs set step) where
    known : IsLearned (variables_of question) cs set step
    known = all (variables_of question) h.greatest h.places

    step_within : AreWithin (2 * variables_of question + 2) step.lits
    step_within = valid_within (variables_of question) (map Some cs) step known.valid

    pub lits_within : AreWithin (2 * variables + 2) step.lits
    lits_within = within-more (variables_of question) variables step.lits h.greatest step_within

    pub lits_clause : (m : ℕ) → variables ≤ m → IsClause m step.lits
    lits_clause m le = record {
      within = literals_of (variables_of question) m step.lits (omega (arith, h.greatest)) step_within;
      distinct = distinct-ascending (variables_of question) 0 step.lits (ascending_of (variables_of question) (map Some cs) step known.valid);
    }

    -- the clause is held, and the trail cut
    pub backed : (ds : List (List ℤ)) (u : Trail) (jump : ℕ) (z : ℤ) (before : List ℤ) → IsTrail cs t → IsAsserting before z step.lits → IsNew cs step.lits →
        is_covered (map Some cs) step.lits ≡ false → IsJump t step.lits jump → ds ≡ cs ++ step.lits ∷ [] → IsTrail ds (cut t jump) → Extends (cut t jump) u →
        IsSolving question variables ds u (steps ++ step ∷ [])
    backed ds u jump z before right asserts fresh uncovered j e cut_right extends = record {
      over = record {
        few = h.over.few;
        right = subst (λ (xs : List (List ℤ)). AreClauses variables xs) (sym e) (clauses-push variables cs step.lits h.over.right (lits_clause variables (omega arith)));
        same = extends.variables ∙ h.over.same;
      };
      same = e ∙ ap (λ (xs : List (List ℤ)). xs ++ step.lits ∷ []) h.same ∙ append_assoc question (clauses_of steps) (step.lits ∷ [])
          ∙ ap (λ (xs : List (List ℤ)). question ++ xs) (sym (clauses_of-more steps step));
      greatest = h.greatest;
      places = subst (λ (xs : List (Option (List ℤ))). AreHeldWithin (2 * variables_of question + 2) xs)
          (sym (ap (map Some) e ∙ map-append Some cs (step.lits ∷ [])))
          (AreHeldWithin-push (2 * variables_of question + 2) (map Some cs) step.lits h.places step_within);
      log = log_more question steps cs h.same h.log step known.valid (some_there step.lits (neg_ℤ z) asserts.there) known.tight uncovered fresh;
      levels = quiet_extended (cut t jump) u extends ds cut_right
          (subst (λ (xs : List (List ℤ)). AreQuietBefore xs (cut t jump)) (sym e) (quiet_cut cs t step.lits jump right h.levels j));
    }
