-- Logs whose steps are valid, and steps under other numbers.
use Rattle.std.proofs.Common.{◌≡◌, ℕ, cond, List, [], ◌∷◌, ◌++◌, map, Option, Some, None, is_none, refl, sym, ap, subst, ◌∙◌, ℤ, append_assoc}
use Rattle.std.specs.Prelude.{IsTrue, IsSomeAnd}
use Rattle.std.specs.Option.{option_and_then}
use Rattle.std.proofs.lemmas.List.{append-nil, map-append}
use Rattle.pg_proof.specs.declared.step.Step.{Step}
use Rattle.pg_proof.specs.declared.step.Act.{Act}
use Rattle.pg_proof.specs.declared.step.Act.TheVariants.{Add}
use Rattle.pg_proof.specs.State.{State, begun, is_empty, with_clause, variables_of}
use Rattle.pg_proof.specs.Refutation.{fault_of}
use Rattle.pg_proof.specs.Numbering.{AreValid}
use Rattle.pg_proof.specs.Log.{after_act, after_acts_from, after_acts, IsClosedLog}
use Rattle.pg_proof.proofs.GivenLemmas.{AreMapped, fault_of-mapped}
use Rattle.pg_sat.specs.Solving.{clauses_of}
use Rattle.pg_sat.proofs.ReadingLemmas.{second_of_two}
use Rattle.pg_sat_search.specs.Held.{number_in, renumbered, AreNumbered}

-- a valid step more
pub valid_more : (v : ℕ) (held : List (Option (List ℤ))) (ss : List Step) (step : Step) → AreValid v held (map Add ss) →
    fault_of v (held ++ map Some (clauses_of ss)) step ≡ None → AreValid v held (map Add (ss ++ step ∷ []))
valid_more v held [] step h e = (ap (λ hs. fault_of v hs step) (sym (append-nil held)) ∙ e, tt)
valid_more v held (s ∷ ss) step h e = (
  h.0,
  valid_more v (held ++ Some s.lits ∷ []) ss step h.1
      (ap (λ hs. fault_of v hs step) (append_assoc held (Some s.lits ∷ []) (map Some (clauses_of ss))) ∙ e),
)

-- the state after steps
after : State → List Step → State
after state [] = state
after state (s ∷ ss) = after (with_clause state s.lits) ss

after-variables : (state : State) (ss : List Step) → (after state ss).variables ≡ state.variables
unfolding after
after-variables state [] = refl
after-variables state (s ∷ ss) = after-variables (with_clause state s.lits) ss

after-held : (state : State) (ss : List Step) → (after state ss).held ≡ state.held ++ map Some (clauses_of ss)
unfolding after
after-held state [] = sym (append-nil state.held)
after-held state (s ∷ ss) = after-held (with_clause state s.lits) ss ∙ append_assoc state.held (Some s.lits ∷ []) (map Some (clauses_of ss))

taken : (state : State) (s : Step) → fault_of state.variables state.held s ≡ None → after_act state (Add s) ≡ Some (with_clause state s.lits)
taken state s e = ap (λ (o : Option _). cond (is_none o) (Some (with_clause state s.lits)) None) e

after-steps : (state : State) (ss : List Step) (rest : List Act) → AreValid state.variables state.held (map Add ss) →
    after_acts_from state (map Add ss ++ rest) ≡ after_acts_from (after state ss) rest
unfolding after
after-steps state [] rest h = refl
after-steps state (s ∷ ss) rest h =
    ap (λ (o : Option State). option_and_then (λ next. after_acts_from next (map Add ss ++ rest)) o) (taken state s h.0)
    ∙ after-steps (with_clause state s.lits) ss rest h.1

-- the empty clause closes the log
pub closed_by : (question : List (List ℤ)) (ss : List Step) (step : Step) → AreValid (variables_of question) (map Some question) (map Add ss) →
    fault_of (variables_of question) (map Some (question ++ clauses_of ss)) step ≡ None → step.lits ≡ [] → IsClosedLog question (map Add (ss ++ step ∷ []))
closed_by question ss step h e empty =
    let last = after (begun question) ss in
    let valid : fault_of last.variables last.held step ≡ None =
    ap (λ (n : ℕ). fault_of n last.held step) (after-variables (begun question) ss)
    ∙ ap (λ (hs : List (Option (List ℤ))). fault_of (variables_of question) hs step)
    (after-held (begun question) ss ∙ sym (map-append Some question (clauses_of ss)))
    ∙ e in
    let whole : after_acts question (map Add (ss ++ step ∷ [])) ≡ Some (with_clause last step.lits) =
    ap (after_acts question) (map-append Add ss (step ∷ []))
    ∙ after-steps (begun question) ss (Add step ∷ []) h
    ∙ ap (λ (o : Option State). option_and_then (λ next. after_acts_from next []) o) (taken last step valid) in
    subst (λ (o : Option State). IsSomeAnd o (λ next. IsTrue next.closed)) (sym whole)
    (second_of_two last.closed (is_empty step.lits) (ap is_empty empty))

-- a step over the clauses that are held is one over the log
all_mapped : (log clauses : List (List ℤ)) (numbers hs : List ℕ) → AreNumbered log clauses numbers →
    AreMapped (map Some clauses) (map Some log) (number_in numbers) hs
all_mapped log clauses numbers [] n = tt
all_mapped log clauses numbers (h ∷ hs) n = (n h, all_mapped log clauses numbers hs n)

pub renumbered_valid : (v : ℕ) (log clauses : List (List ℤ)) (numbers : List ℕ) (step : Step) → AreNumbered log clauses numbers →
    fault_of v (map Some clauses) step ≡ None → fault_of v (map Some log) (renumbered numbers step) ≡ None
renumbered_valid v log clauses numbers step n e =
    fault_of-mapped v (map Some clauses) (map Some log) (number_in numbers) step.lits step.hints (all_mapped log clauses numbers step.hints n) e
