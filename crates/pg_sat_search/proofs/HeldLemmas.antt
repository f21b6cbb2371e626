-- The clauses that are held, and their numbers in the log.
use Rattle.std.proofs.Common.{◌≡◌, ◌⊎◌, inl, inr, ℕ, zero, suc, ◌+◌, ◌-◌, ◌*◌, ◌<◌, ◌≤◌, List, [], ◌∷◌, ◌++◌, length, map, get_or, Option, Some, None, refl, sym, ap, subst, ◌∙◌, arith, ℤ, append_assoc}
use Rattle.std.proofs.lemmas.Bool.{cases_lt}
use Rattle.std.proofs.lemmas.List.{append-nil, map-append, length-append, length-map, get_or_at, get_or_append_left}
use Rattle.pg_cnf.specs.Literals.{IsClause, AreClauses}
use Rattle.pg_proof.specs.declared.step.Step.{Step}
use Rattle.pg_proof.specs.Places.{AreWithin}
use Rattle.pg_proof.specs.State.{clause_at, variables_of, AreHeldWithin}
use Rattle.pg_proof.specs.Refutation.{fault_of}
use Rattle.pg_proof.proofs.GivenLemmas.{Numbered, numbered, number_below, clause_at-push, clause_at-last}
use Rattle.pg_proof.proofs.KeptLemmas.{AreHeldWithin-begun}
use Rattle.pg_proof.proofs.SoundLemmas.{valid_within}
use Rattle.pg_proof.proofs.WithinLemmas.{AreHeldWithin-push}
use Rattle.pg_sat.specs.Solving.{clauses_of}
use Rattle.pg_sat.proofs.LogLemmas.{clauses_of-more}
use Rattle.pg_sat.proofs.ConflictLemmas.{ascending_of, distinct-ascending, literals_of, clauses-push}
use Rattle.pg_sat.proofs.TurnLemmas.{count-clauses}
use Rattle.pg_sat_search.specs.Held.{number_in, renumbered, first_numbers, AreNumbered, IsHeld}

number_positive : (held : List (Option (List ℤ))) (h : ℕ) (c : List ℤ) → clause_at held h ≡ Some c → 0 < h
number_positive held zero c e = cc
number_positive held (suc k) c e = omega arith

-- a clause more is held
numbered_more : (log cs : List (List ℤ)) (ns : List ℕ) (c : List ℤ) (n : ℕ) → length ns ≡ length cs → AreNumbered log cs ns →
    clause_at (map Some log) n ≡ Some c → AreNumbered log (cs ++ c ∷ []) (ns ++ n ∷ [])
numbered_more log cs ns c n long old here h d e = by (numbered (map Some cs) c d h (sym (ap (λ hs. clause_at hs h) (map-append Some cs (c ∷ []))) ∙ e))
  where
    by : Numbered (map Some cs) c h d → clause_at (map Some log) (number_in (ns ++ n ∷ []) h) ≡ Some d
    by (Numbered.old f) =
        let lt : h - 1 < length ns =
        omega (arith, long, number_below (map Some cs) h d f, number_positive (map Some cs) h d f, length-map cs (λ (x : List ℤ). Some x)) in
        ap (clause_at (map Some log)) (get_or_append_left ns (n ∷ []) 0 (h - 1) lt) ∙ old h d f
    by (Numbered.new at same) =
        let place : length ns ≡ h - 1 = omega (arith, long, at, length-map cs (λ (x : List ℤ). Some x)) in
        ap (clause_at (map Some log)) (get_or_at ns n [] 0 (h - 1) place) ∙ here ∙ ap Some same

-- the log has a clause more
log_more : (log cs : List (List ℤ)) (ns : List ℕ) (c : List ℤ) → AreNumbered log cs ns → AreNumbered (log ++ c ∷ []) cs ns
log_more log cs ns c old h d e =
    ap (λ hs. clause_at hs (number_in ns h)) (map-append Some log (c ∷ [])) ∙ clause_at-push (map Some log) (Some c) (number_in ns h) d (old h d e)

-- the question alone
pub first_more : (n : ℕ) → first_numbers (n + 1) ≡ first_numbers n ++ (n + 1) ∷ []
first_more n =
    let one : suc n ≡ n + 1 = omega arith in
    subst (λ (m : ℕ). first_numbers m ≡ first_numbers n ++ m ∷ []) one refl

pub length-first : (n : ℕ) → length (first_numbers n) ≡ n
length-first zero = refl
length-first (suc n) = omega (arith, length-append (first_numbers n) (suc n ∷ []), length-first n)

number-first : (n k : ℕ) → k < n → get_or (first_numbers n) k 0 ≡ k + 1
number-first zero k lt = absurd (omega (arith, lt))
number-first (suc n) k lt = by (number-first n k) (cases_lt k n)
  where
    by : (k < n → get_or (first_numbers n) k 0 ≡ k + 1) → (k < n) ⊎ (n ≤ k) → get_or (first_numbers n ++ suc n ∷ []) k 0 ≡ k + 1
    by down (inl less) =
        get_or_append_left (first_numbers n) (suc n ∷ []) 0 k (omega (arith, less, length-first n)) ∙ down less
    by down (inr le) =
        let e : length (first_numbers n) ≡ k = omega (arith, le, lt, length-first n) in
        get_or_at (first_numbers n) (suc n) [] 0 k e ∙ omega (arith, le, lt)

front_clause : (xs : List (Option (List ℤ))) (ys : List (List ℤ)) (h : ℕ) (c : List ℤ) → clause_at xs h ≡ Some c →
    clause_at (xs ++ map Some ys) h ≡ Some c
front_clause xs [] h c e = ap (λ zs. clause_at zs h) (append-nil xs) ∙ e
front_clause xs (y ∷ ys) h c e =
    ap (λ zs. clause_at zs h) (sym (append_assoc xs (Some y ∷ []) (map Some ys)))
    ∙ front_clause (xs ++ Some y ∷ []) ys h c (clause_at-push xs (Some y) h c e)

begun_numbered : (question more : List (List ℤ)) → AreNumbered (question ++ more) question (first_numbers (length question))
begun_numbered question more h c e =
    let le : h ≤ length question = omega (arith, number_below (map Some question) h c e, length-map question (λ (x : List ℤ). Some x)) in
    let some : 0 < h = number_positive (map Some question) h c e in
    let same : number_in (first_numbers (length question)) h ≡ h =
    number-first (length question) (h - 1) (omega (arith, le, some)) ∙ omega (arith, some) in
    ap (clause_at (map Some (question ++ more))) same
    ∙ ap (λ zs. clause_at zs h) (map-append Some question more)
    ∙ front_clause (map Some question) more h c e

pub begun_held : (question : List (List ℤ)) (variables : ℕ) (steps : List Step) (cs : List (List ℤ)) (ns : List ℕ) → AreClauses variables question →
    cs ≡ question → ns ≡ first_numbers (length question) → IsHeld question variables steps cs ns
begun_held question variables steps cs ns are e f =
    subst (λ x. x) (λ i. IsHeld question variables steps (sym e i) (sym f i))
    (record {
      learned = [];
      same = sym (append-nil question);
      right = are;
      places = AreHeldWithin-begun variables question are;
      as_many = length-first (length question);
      numbered = begun_numbered question (clauses_of steps);
      few = omega arith;
    })

-- a clause that is held, with its number
module _ (question : List (List ℤ)) (variables : ℕ) (steps : List Step) (cs ds : List (List ℤ)) (ns ms : List ℕ)
    (h : IsHeld question variables steps cs ns) (k : IsHeld question variables steps ds ms) (c : List ℤ) (n : ℕ)
    (right : IsClause variables c) (within : AreWithin (2 * variables_of question + 2) c)
    (stands : clause_at (map Some (question ++ clauses_of steps)) n ≡ Some c) (room : length ds < length cs) where
  with_one : IsHeld question variables steps (ds ++ c ∷ []) (ms ++ n ∷ [])
  with_one = record {
    learned = k.learned ++ c ∷ [];
    same = ap (λ (xs : List (List ℤ)). xs ++ c ∷ []) k.same ∙ append_assoc question k.learned (c ∷ []);
    right = clauses-push variables ds c k.right right;
    places = subst (λ (xs : List (Option (List ℤ))). AreHeldWithin (2 * variables_of question + 2) xs)
        (sym (map-append Some ds (c ∷ [])))
        (AreHeldWithin-push (2 * variables_of question + 2) (map Some ds) c k.places within);
    as_many = omega (arith, k.as_many, length-append ms (n ∷ []), length-append ds (c ∷ []));
    numbered = numbered_more (question ++ clauses_of steps) ds ms c n k.as_many k.numbered stands;
    few = omega (arith, h.few, room, length-append ds (c ∷ []));
  }

held_at : (cs : List (List ℤ)) (k : ℕ) → k < length cs → clause_at (map Some cs) (suc k) ≡ Some (get_or cs k [])
held_at [] k lt = absurd (omega (arith, lt))
held_at (c ∷ cs) zero lt = refl
held_at (c ∷ cs) (suc k) lt = held_at cs k (omega (arith, lt))

pub clause_right : (v : ℕ) (cs : List (List ℤ)) (k : ℕ) → AreClauses v cs → k < length cs → IsClause v (get_or cs k [])
clause_right v [] k h lt = absurd (omega (arith, lt))
clause_right v (c ∷ cs) zero h lt = h.0
clause_right v (c ∷ cs) (suc k) h lt = clause_right v cs k h.1 (omega (arith, lt))

clause_within : (n : ℕ) (cs : List (List ℤ)) (k : ℕ) → AreHeldWithin n (map Some cs) → k < length cs → AreWithin n (get_or cs k [])
clause_within n [] k h lt = absurd (omega (arith, lt))
clause_within n (c ∷ cs) zero h lt = h.0
clause_within n (c ∷ cs) (suc k) h lt = clause_within n cs k h.1 (omega (arith, lt))

pub held_clause : (question : List (List ℤ)) (variables : ℕ) (steps : List Step) (cs : List (List ℤ)) (ns : List ℕ) (k : ℕ) →
    IsHeld question variables steps cs ns → k < length cs → IsClause variables (get_or cs k [])
held_clause question variables steps cs ns k h lt = clause_right variables cs k h.right lt

-- one of the clauses that are held, made anew
pub carried : (question : List (List ℤ)) (variables : ℕ) (steps : List Step) (cs ds es : List (List ℤ)) (ns ms os : List ℕ) (c : List ℤ) (n k : ℕ) →
    IsHeld question variables steps cs ns → IsHeld question variables steps ds ms → k < length cs → length ds ≤ k →
    c ≡ get_or cs k [] → n ≡ get_or ns k 0 → es ≡ ds ++ c ∷ [] → os ≡ ms ++ n ∷ [] → IsHeld question variables steps es os
carried question variables steps cs ds es ns ms os c n k h j lt le ce ne ee oe =
    let back : k ≡ suc k - 1 = omega arith in
    let stands : clause_at (map Some (question ++ clauses_of steps)) n ≡ Some c =
    ap (clause_at (map Some (question ++ clauses_of steps))) (ne ∙ ap (λ (m : ℕ). get_or ns m 0) back)
    ∙ h.numbered (suc k) (get_or cs k []) (held_at cs k lt) ∙ ap Some (sym ce) in
    subst (λ x. x) (λ i. IsHeld question variables steps (sym ee i) (sym oe i))
    (with_one question variables steps cs ds ns ms h j c n
    (subst (IsClause variables) (sym ce) (clause_right variables cs k h.right lt))
    (subst (AreWithin (2 * variables_of question + 2)) (sym ce) (clause_within (2 * variables_of question + 2) cs k h.places lt))
    stands (omega (arith, lt, le)))

-- what a step that is valid over the clauses held says of its literals
pub lits_within : (n : ℕ) (held : List (Option (List ℤ))) (step : Step) → fault_of n held step ≡ None → AreWithin (2 * n + 2) step.lits
lits_within n held step e = valid_within n held step e

pub lits_clause : (n m : ℕ) (held : List (Option (List ℤ))) (step : Step) → n ≤ m → fault_of n held step ≡ None → IsClause m step.lits
lits_clause n m held step le e = record {
  within = literals_of n m step.lits le (valid_within n held step e);
  distinct = distinct-ascending n 0 step.lits (ascending_of n held step e);
}

-- a step that was learned, and its clause
pub held_more : (question : List (List ℤ)) (variables : ℕ) (steps : List Step) (cs : List (List ℤ)) (ns : List ℕ) (step : Step) (number : ℕ) →
    variables_of question ≤ variables → IsHeld question variables steps cs ns → fault_of (variables_of question) (map Some cs) step ≡ None →
    number ≡ length question + length steps + 1 →
    IsHeld question variables (steps ++ renumbered ns step ∷ []) (cs ++ step.lits ∷ []) (ns ++ number ∷ [])
held_more question variables steps cs ns step number greatest h e at =
    let log : List (List ℤ) = question ++ clauses_of steps in
    let grown : question ++ clauses_of (steps ++ renumbered ns step ∷ []) ≡ log ++ step.lits ∷ [] =
    ap (λ (xs : List (List ℤ)). question ++ xs) (clauses_of-more steps (renumbered ns step))
    ∙ sym (append_assoc question (clauses_of steps) (step.lits ∷ [])) in
    let counted : length (map Some log) ≡ length question + length steps =
    omega (arith, length-map log (λ (x : List ℤ). Some x), length-append question (clauses_of steps), count-clauses steps) in
    let last : clause_at (map Some (log ++ step.lits ∷ [])) number ≡ Some step.lits =
    ap (λ hs. clause_at hs number) (map-append Some log (step.lits ∷ []))
    ∙ clause_at-last (map Some log) step.lits number (omega (arith, at, counted)) in
    record {
      learned = h.learned ++ step.lits ∷ [];
      same = ap (λ (xs : List (List ℤ)). xs ++ step.lits ∷ []) h.same ∙ append_assoc question h.learned (step.lits ∷ []);
      right = clauses-push variables cs step.lits h.right (lits_clause (variables_of question) variables (map Some cs) step greatest e);
      places = subst (λ (xs : List (Option (List ℤ))). AreHeldWithin (2 * variables_of question + 2) xs)
          (sym (map-append Some cs (step.lits ∷ [])))
          (AreHeldWithin-push (2 * variables_of question + 2) (map Some cs) step.lits h.places (valid_within (variables_of question) (map Some cs) step e));
      as_many = omega (arith, h.as_many, length-append ns (number ∷ []), length-append cs (step.lits ∷ []));
      numbered = subst (λ (xs : List (List ℤ)). AreNumbered xs (cs ++ step.lits ∷ []) (ns ++ number ∷ [])) (sym grown)
          (numbered_more (log ++ step.lits ∷ []) cs ns step.lits number h.as_many (log_more log cs ns step.lits h.numbered) last);
      few = omega (arith, h.few, length-append cs (step.lits ∷ []), length-append steps (renumbered ns step ∷ []));
    }

-- the question alone, before any clause that is kept
pub begun_with : (question : List (List ℤ)) (variables : ℕ) (steps : List Step) → AreClauses variables question →
    IsHeld question variables steps (question ++ []) (first_numbers (length question) ++ [])
begun_with question variables steps are =
    begun_held question variables steps (question ++ []) (first_numbers (length question) ++ []) are (append-nil question)
    (append-nil (first_numbers (length question)))

-- as many numbers as clauses that are kept
pub kept_as_many : (question : List (List ℤ)) (variables : ℕ) (steps : List Step) (cs : List (List ℤ)) (ns : List ℕ) →
    IsHeld question variables steps (question ++ cs) (first_numbers (length question) ++ ns) → length ns ≡ length cs
kept_as_many question variables steps cs ns h =
    omega (arith, h.as_many, length-append question cs, length-append (first_numbers (length question)) ns, length-first (length question))
