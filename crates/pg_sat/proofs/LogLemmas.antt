-- A log with one step more.
use Rattle.std.proofs.Common.{◌≡◌, ℕ, suc, Bool, true, false, ◌||◌, arith, cond, List, [], ◌∷◌, ◌++◌, length, map, Option, Some, None, is_none, refl, sym, ap, subst, ◌∙◌, ℤ, append_assoc}
use Rattle.std.specs.Prelude.{IsTrue, IsSomeAnd}
use Rattle.std.specs.Option.{option_and_then}
use Rattle.std.proofs.lemmas.List.{append-nil, map-append, length-append}
use Rattle.pg_proof.specs.declared.step.Step.{Step}
use Rattle.pg_proof.specs.declared.step.Act.{Act}
use Rattle.pg_proof.specs.declared.step.Act.TheVariants.{Add}
use Rattle.pg_proof.specs.State.{State, begun, is_empty, with_clause, variables_of}
use Rattle.pg_proof.specs.Refutation.{fault_of}
use Rattle.pg_proof.specs.Tight.{is_tight}
use Rattle.pg_proof.specs.Covered.{is_covered}
use Rattle.pg_proof.specs.Log.{after_act, after_acts_from, after_acts, IsClosedLog, IsWorth, IsSpentFrom}
use Rattle.pg_proof.specs.New.{IsNew}
use Rattle.pg_sat.proofs.ReadingLemmas.{second_of_two}
use Rattle.pg_sat.specs.Solving.{clauses_of, AreNew, IsLog}

-- the state after steps
pub logged : State → List Step → State
logged state [] = state
logged state (s ∷ ss) = logged (with_clause state s.lits) ss

pub logged-variables : (state : State) (ss : List Step) → (logged state ss).variables ≡ state.variables
unfolding logged
logged-variables state [] = refl
logged-variables state (s ∷ ss) = logged-variables (with_clause state s.lits) ss

pub logged-held : (state : State) (ss : List Step) → (logged state ss).held ≡ state.held ++ map Some (clauses_of ss)
unfolding logged
logged-held state [] = sym (append-nil state.held)
logged-held state (s ∷ ss) = logged-held (with_clause state s.lits) ss ∙ append_assoc state.held (Some s.lits ∷ []) (map Some (clauses_of ss))

spent-more : (state : State) (ss : List Step) (step : Step) → IsSpentFrom state (length ss) (map Add ss) → IsWorth (logged state ss) step →
    IsSpentFrom state (suc (length ss)) (map Add (ss ++ step ∷ []))
unfolding logged
spent-more state [] step h w = (w, tt)
spent-more state (s ∷ ss) step h w = (h.0, spent-more (with_clause state s.lits) ss step h.1 w)

pub accepted : (state : State) (s : Step) → fault_of state.variables state.held s ≡ None → after_act state (Add s) ≡ Some (with_clause state s.lits)
accepted state s e = ap (λ (o : Option _). cond (is_none o) (Some (with_clause state s.lits)) None) e

after-steps : (state : State) (ss : List Step) (rest : List Act) → IsSpentFrom state (length ss) (map Add ss) →
    after_acts_from state (map Add ss ++ rest) ≡ after_acts_from (logged state ss) rest
unfolding logged
after-steps state [] rest h = refl
after-steps state (s ∷ ss) rest h =
    ap (λ (o : Option State). option_and_then (λ after. after_acts_from after (map Add ss ++ rest)) o) (accepted state s h.0.valid)
    ∙ after-steps (with_clause state s.lits) ss rest h.1

new-more : (cs : List (List ℤ)) (ss : List Step) (step : Step) → AreNew cs ss → IsNew (cs ++ clauses_of ss) step.lits → AreNew cs (ss ++ step ∷ [])
new-more cs [] step h w = (subst (λ (ds : List (List ℤ)). IsNew ds step.lits) (append-nil cs) w, tt)
new-more cs (s ∷ ss) step h w = (
  h.0,
  new-more (cs ++ s.lits ∷ []) ss step h.1
      (subst (λ (ds : List (List ℤ)). IsNew ds step.lits) (sym (append_assoc cs (s.lits ∷ []) (clauses_of ss))) w),
)

pub clauses_of-more : (ss : List Step) (step : Step) → clauses_of (ss ++ step ∷ []) ≡ clauses_of ss ++ step.lits ∷ []
clauses_of-more [] step = refl
clauses_of-more (s ∷ ss) step = ap (λ cs. s.lits ∷ cs) (clauses_of-more ss step)

module _ (question : List (List ℤ)) (ss : List Step) (cs : List (List ℤ)) (same : cs ≡ question ++ clauses_of ss) where
  held-of : (logged (begun question) ss).held ≡ map Some cs
  held-of = logged-held (begun question) ss ∙ sym (map-append Some question (clauses_of ss)) ∙ ap (map Some) (sym same)

  valid-of : (step : Step) → fault_of (variables_of question) (map Some cs) step ≡ None →
      fault_of (logged (begun question) ss).variables (logged (begun question) ss).held step ≡ None
  valid-of step e =
      ap (λ (n : ℕ). fault_of n (logged (begun question) ss).held step) (logged-variables (begun question) ss)
      ∙ ap (λ (h : List (Option (List ℤ))). fault_of (variables_of question) h step) held-of ∙ e

-- a step that is worth its place, and one that ends the log
module _ (question : List (List ℤ)) (ss : List Step) (cs : List (List ℤ)) (same : cs ≡ question ++ clauses_of ss) (log : IsLog question ss) where
  worth-of : (step : Step) → fault_of (variables_of question) (map Some cs) step ≡ None → is_empty step.lits ≡ false →
      is_tight (variables_of question) (map Some cs) step ≡ true → is_covered (map Some cs) step.lits ≡ false → IsWorth (logged (begun question) ss) step
  worth-of step v e t f = record {
    valid = valid-of question ss cs same step v;
    some = e;
    tight = ap (λ (n : ℕ). is_tight n (logged (begun question) ss).held step) (logged-variables (begun question) ss)
        ∙ ap (λ (h : List (Option (List ℤ))). is_tight (variables_of question) h step) (held-of question ss cs same) ∙ t;
    fresh = ap (λ (h : List (Option (List ℤ))). is_covered h step.lits) (held-of question ss cs same) ∙ f;
  }

  pub log_more : (step : Step) → fault_of (variables_of question) (map Some cs) step ≡ None → is_empty step.lits ≡ false →
      is_tight (variables_of question) (map Some cs) step ≡ true → is_covered (map Some cs) step.lits ≡ false → IsNew cs step.lits → IsLog question (ss ++ step ∷ [])
  log_more step v e t f n =
      let long : length (ss ++ step ∷ []) ≡ suc (length ss) = omega (arith, length-append ss (step ∷ [])) in
      record {
        spent = subst (λ (k : ℕ). IsSpentFrom (begun question) k (map Add (ss ++ step ∷ []))) (sym long)
            (spent-more (begun question) ss step log.spent (worth-of step v e t f));
        fresh = new-more question ss step log.fresh (subst (λ (ds : List (List ℤ)). IsNew ds step.lits) same n);
      }

  closed-state : (step : Step) → step.lits ≡ [] → (b : Bool) → IsTrue (b || is_empty step.lits)
  closed-state step e b = second_of_two b (is_empty step.lits) (ap is_empty e)

  pub log_closed : (step : Step) → fault_of (variables_of question) (map Some cs) step ≡ None → step.lits ≡ [] → IsClosedLog question (map Add (ss ++ step ∷ []))
  log_closed step v e =
      let last = logged (begun question) ss in
      let whole : after_acts question (map Add (ss ++ step ∷ [])) ≡ Some (with_clause last step.lits) =
      ap (after_acts question) (map-append Add ss (step ∷ []))
      ∙ after-steps (begun question) ss (Add step ∷ []) log.spent
      ∙ ap (λ (o : Option State). option_and_then (λ after. after_acts_from after []) o) (accepted last step (valid-of question ss cs same step v)) in
      subst (λ (o : Option State). IsSomeAnd o (λ after. IsTrue after.closed)) (sym whole) (closed-state step e last.closed)
