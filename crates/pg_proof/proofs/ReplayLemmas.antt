-- A log that is replayed act by act.
use Rattle.std.proofs.Common.{◌≡◌, ◌≢◌, ℕ, ◌+◌, ◌<◌, ◌≤◌, List, [], ◌∷◌, length, get_or, drop, Option, Some, None, Err, is_none, if◌then◌else◌, refl, sym, ap, subst, ◌∙◌, arith, ℤ, IsTrue}
use Rattle.std.specs.Prelude.{◌↔◌, ⊤, Result, Ok, OnOk, OnErr, IfErr, IsSomeAnd}
use Rattle.std.specs.Option.{option_and_then, option_map}
use Rattle.std.proofs.lemmas.List.{drop_more, drop_all, length-map, length-append}
use Rattle.std.proofs.lemmas.Option.{same_Some}
use Rattle.pg_proof.specs.declared.step.ProofFault.{ProofFault}
use Rattle.pg_proof.specs.declared.step.ProofFault.TheVariants.{UnknownLit, UnknownHint, NotUnit, NoConflict, UnknownClause, Memory}
use Rattle.pg_proof.specs.declared.step.Step.{Step}
use Rattle.pg_proof.specs.declared.step.Act.{Act}
use Rattle.pg_proof.specs.declared.step.Act.TheVariants.{Add, Remove}
use Rattle.pg_proof.specs.State.{State, begun, with_clause}
use Rattle.pg_proof.specs.Refutation.{fault_of, told}
use Rattle.pg_proof.specs.Removal.{without, after_removal}
use Rattle.pg_proof.specs.Sound.{IsSound}
use Rattle.pg_proof.specs.Log.{act_fault, after_act, after_acts_from, after_acts, IsClosedLog}
use Rattle.pg_proof.proofs.SoundLemmas.{IsSound-begun}
use Rattle.pg_proof.proofs.RemovalLemmas.{length-without}

-- where the replay stands
pub record IsReplayed (question : List (List ℤ)) (acts : List Act) (state : State) (i : ℕ) : Type 0 where
  pub rest : after_acts_from state (drop i acts) ≡ after_acts question acts
  pub sound : IsSound question state
  pub few : length state.held ≤ length question + i

pub IsReplayed-begun : (question : List (List ℤ)) (acts : List Act) (state : State) → state ≡ begun question → IsReplayed question acts state 0
IsReplayed-begun question acts state e =
    subst (λ s. IsReplayed question acts s 0) (sym e)
    (record { rest = refl; sound = IsSound-begun question; few = omega (arith, length-map question (λ c. Some c)) })

pub IsReplayed-next : (question : List (List ℤ)) (acts : List Act) (state after : State) (i : ℕ) (act : Act) → i < length acts → act ≡ get_or acts i act →
    after_act state act ≡ Some after → IsSound question after → length after.held ≤ length state.held + 1 → IsReplayed question acts state i →
    IsReplayed question acts after (i + 1)
IsReplayed-next question acts state after i act lt is e s few h =
    let d : drop i acts ≡ act ∷ drop (i + 1) acts = drop_more acts i act lt ∙ ap (λ a. a ∷ drop (i + 1) acts) (sym is) in
    record {
      rest = sym (ap (option_and_then (λ x. after_acts_from x (drop (i + 1) acts))) e) ∙ ap (after_acts_from state) (sym d) ∙ h.rest;
      sound = s;
      few = omega (arith, few, h.few);
    }

-- the fault that a removal tells
judged_by : (A : Type 0) (r : Result A ProofFault) (o : Option State) (after : State) → OnOk r (o ≡ Some after) →
    IfErr r (λ fault. (fault ≡ UnknownClause) × (o ≡ None)) → (if is_none o then Some UnknownClause else None) ≡ told r
judged_by A (Ok a) o after h e = ap (λ (x : Option State). if is_none x then Some UnknownClause else None) h
judged_by A (Err fault) o after h e =
    ap (λ (x : Option State). if is_none x then Some UnknownClause else None) e.1 ∙ subst (λ (f : ProofFault). Some UnknownClause ≡ told {A = A} (Err f)) (sym e.0) refl

pub judged_removal : (A : Type 0) (r : Result A ProofFault) (state after : State) (act : Act) (ns : List ℕ) → act ≡ Remove ns →
    OnOk r (after_removal state ns ≡ Some after) → IfErr r (λ fault. (fault ≡ UnknownClause) × (after_removal state ns ≡ None)) → act_fault state act ≡ told r
judged_removal A r state after act ns is h e = ap (act_fault state) is ∙ judged_by A r (after_removal state ns) after h e

not_closed : (o : Option State) → o ≡ None → IsSomeAnd o (λ after. IsTrue after.closed) → ⊥
not_closed None e h = h
not_closed (Some x) e h = cc

pub refused_log : (question : List (List ℤ)) (acts : List Act) (state : State) (i : ℕ) (act : Act) → i < length acts → act ≡ get_or acts i act →
    after_act state act ≡ None → IsReplayed question acts state i → IsClosedLog question acts → ⊥
refused_log question acts state i act lt is e h c =
    let d : drop i acts ≡ act ∷ drop (i + 1) acts = drop_more acts i act lt ∙ ap (λ a. a ∷ drop (i + 1) acts) (sym is) in
    let none : after_acts question acts ≡ None =
    sym h.rest ∙ ap (after_acts_from state) d ∙ ap (option_and_then (λ x. after_acts_from x (drop (i + 1) acts))) e in
    not_closed (after_acts question acts) none c

pub replayed_log : (question : List (List ℤ)) (acts : List Act) (state : State) (i : ℕ) → length acts ≤ i → IsReplayed question acts state i →
    IsTrue state.closed ↔ IsClosedLog question acts
replayed_log question acts state i le h =
    let reached : after_acts question acts ≡ Some state = sym h.rest ∙ ap (after_acts_from state) (drop_all i acts le) in
    let same : IsClosedLog question acts ≡ IsTrue state.closed = ap (λ o. IsSomeAnd o (λ after. IsTrue after.closed)) reached in
    ((λ c. subst (λ x. x) (sym same) c), (λ c. subst (λ x. x) same c))

-- one act, by what `add` and `remove` tell
told_some : (f : ProofFault) → f ≢ Memory → told {A = ℕ} (Err f) ≡ Some f
told_some UnknownLit n = refl
told_some UnknownHint n = refl
told_some NotUnit n = refl
told_some NoConflict n = refl
told_some UnknownClause n = refl
told_some Memory n = absurd (n refl)

pub refused_step : (state : State) (step : Step) (f : ProofFault) → fault_of state.variables state.held step ≡ told {A = ℕ} (Err f) → f ≢ Memory →
    after_act state (Add step) ≡ None
refused_step state step f e n = ap (λ o. if is_none o then Some (with_clause state step.lits) else None) (e ∙ told_some f n)

pub added_step : (state after : State) (step : Step) → fault_of state.variables state.held step ≡ None → after ≡ with_clause state step.lits →
    after_act state (Add step) ≡ Some after
added_step state after step e m = ap (λ o. if is_none o then Some (with_clause state step.lits) else None) e ∙ ap Some (sym m)

pub few_added : (state after : State) (lits : List ℤ) → after ≡ with_clause state lits → length after.held ≤ length state.held + 1
few_added state after lits m = omega (arith, ap (λ (x : State). length x.held) m, length-append state.held (Some lits ∷ []))

removed_held : (o : Option (List (Option (List ℤ)))) (state after : State) (n : ℕ) → ((held : List (Option (List ℤ))) → o ≡ Some held → length held ≡ n) →
    option_map (λ held. record state { held = held }) o ≡ Some after → length after.held ≡ n
removed_held None state after n l e = cc
removed_held (Some held) state after n l e =
    ap (λ (x : State). length x.held) (sym (same_Some (record state { held = held }) after e)) ∙ l held refl

pub few_removed : (state after : State) (ns : List ℕ) → after_removal state ns ≡ Some after → length after.held ≤ length state.held + 1
few_removed state after ns e =
    let same : length after.held ≡ length state.held =
    removed_held (without state.held ns) state after (length state.held) (λ held w. length-without ns state.held held w) e in
    omega (arith, same)

pub few_either : (r : Result ⊤ ProofFault) (state after : State) (ns : List ℕ) → OnOk r (after_removal state ns ≡ Some after) → OnErr r (after ≡ state) →
    length after.held ≤ length state.held + 1
few_either (Ok u) state after ns ok err = few_removed state after ns ok
few_either (Err f) state after ns ok err = omega (arith, ap (λ (x : State). length x.held) err)
