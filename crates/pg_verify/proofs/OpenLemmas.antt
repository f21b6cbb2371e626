-- A line below a header keeps what stands.
use Rattle.std.proofs.Common.{◌≡◌, ℕ, suc, Bool, true, false, if◌then◌else◌, List, [], ◌∷◌, ◌++◌, length, Option, None, Some, Result, Ok, refl, sym, ap, subst, ◌∙◌, append_assoc, IsTrue}
use Rattle.pg_ast.specs.declared.tree.Desc.{Desc}
use Rattle.pg_proof.specs.declared.step.Step.{Step}
use Rattle.pg_proof.specs.declared.step.Act.TheVariants as act
use Rattle.pg_proof.specs.State.{State as Log}
use Rattle.pg_proof.specs.Removal.{after_removal}
use Rattle.pg_ask.specs.Question.{question}
use Rattle.pg_cert.specs.declared.cert.Family.{Family}
use Rattle.pg_cert.specs.declared.line.Line.{Line}
use Rattle.pg_cert.specs.declared.line.Line.TheVariants as line
use Rattle.pg_cert.specs.Lines.{are_removed}
use Rattle.pg_cert.specs.Texts.{instr_of, kind_of, name_of}
use Rattle.pg_verify.specs.declared.fault.VerifyFault.{VerifyFault}
use Rattle.pg_verify.specs.Reader.{Pair, Open, Fresh, Between, Refuting, Showing, Spending, Ended, Mark, Progress}
use Rattle.pg_verify.specs.Taking.{then_take, with_open, reopened, with_step, with_spent_step, after_step, held_after, after_remove, shown_on, after_state_line, misplaced}
use Rattle.pg_verify.proofs.Standing.{IsBody, IsOpenAt, IsAt, AreDrawn, Stands}
use Rattle.pg_verify.proofs.StepLemmas.{same_ok, no_ok, taken, step_added, act_added, refuting_more, step_spent, spending_more, IsPairOn, showing_more}

module _ (d : Desc) (family : Family) (removes : Bool) (marks : List Mark) (lines : List Line) where
  -- the body of what is open has one line more
  more : (o p : Open) (l : Line) (h : IsOpenAt d family removes marks lines o) →
      IsBody h.heading (question d h.instr (kind_of family (length marks))) p h.found (h.body ++ l ∷ []) →
      IsOpenAt d family removes marks (lines ++ l ∷ []) p
  more o p l h b = record {
    heading = h.heading;
    findings = h.findings;
    before = h.before;
    instr = h.instr;
    found = h.found;
    body = h.body ++ l ∷ [];
    front = h.front;
    instr_is = h.instr_is;
    body_is = b;
    lines_are = ap (λ ls. ls ++ l ∷ []) h.lines_are
        ∙ append_assoc h.before (line.Header (name_of d (instr_of family (length marks)))
        (kind_of family (length marks)) h.found ∷ h.body) (l ∷ []);
  }

  abbrev At : List Line → Open → Type 0
  At ls o = IsAt d family removes marks ls o

  at_same : (ls : List Line) (o p : Open) → ◌≡◌ {A = Result Open VerifyFault} (Ok o) (Ok p) → At ls o → At ls p
  at_same ls o p e h = subst (λ x. At ls x) (same_ok o p e) h

  pub step_kept : (n : ℕ) (step : Step) (o p : Open) → after_step n step o ≡ Ok p → At lines o →
      At (lines ++ line.Step step ∷ []) p
  unfolding after_step
  step_kept n step Fresh p e h = no_ok _ p e
  step_kept n step Between p e h = no_ok _ p e
  step_kept n step (Refuting header log) p e h =
      let t = taken (with_step n log step) (λ after. Ok (Refuting header after)) p e in
      let a = act_added log step t.value (step_added n log step t.value t.was) in
      at_same (lines ++ line.Step step ∷ []) (Refuting header t.value) p t.gives
      (more (Refuting header log) (Refuting header t.value) (line.Step step) h
      (refuting_more h.heading (question d h.instr (kind_of family (length marks))) log t.value h.found h.body
      (act.Add step) a tt h.body_is))
  step_kept n step (Showing header pair) p e h = no_ok _ p e
  step_kept n step (Spending header budget count log) p e h =
      let t = taken (with_spent_step n budget count log step) (λ after. Ok (Spending header budget (suc count) after)) p
      e in
      let s = step_spent n budget count log step t.value t.was in
      at_same (lines ++ line.Step step ∷ []) (Spending header budget (suc count) t.value) p t.gives
      (more (Spending header budget count log) (Spending header budget (suc count) t.value) (line.Step step) h
      (spending_more (question d h.instr (kind_of family (length marks))) budget count log t.value h.found h.body step s
      h.body_is))
  step_kept n step Ended p e h = no_ok _ p e

  held_is : (n : ℕ) (o : Option Log) (after : Log) → held_after n o ≡ Ok after → o ≡ Some after
  held_is n None after e = no_ok _ after e
  held_is n (Some x) after e = ap (λ (y : Log). Some y) (same_ok x after e)

  pub removal_kept : (n : ℕ) (numbers : List ℕ) (o p : Open) → IsTrue (are_removed numbers) →
      after_remove n removes numbers o ≡ Ok p → At lines o → At (lines ++ line.Remove numbers ∷ []) p
  unfolding after_remove
  removal_kept n numbers Fresh p r e h = no_ok _ p e
  removal_kept n numbers Between p r e h = no_ok _ p e
  removal_kept n numbers (Refuting header log) p r e h = by removes refl e
    where
      by : (b : Bool) → removes ≡ b →
          (if b then then_take (held_after n (after_removal log numbers)) (λ after. Ok (Refuting header after))
          else misplaced n) ≡ Ok p → At (lines ++ line.Remove numbers ∷ []) p
      by true f g =
          let t = taken (held_after n (after_removal log numbers)) (λ after. Ok (Refuting header after)) p g in
          let a = held_is n (after_removal log numbers) t.value t.was in
          at_same (lines ++ line.Remove numbers ∷ []) (Refuting header t.value) p t.gives
          (more (Refuting header log) (Refuting header t.value) (line.Remove numbers) h
          (refuting_more h.heading (question d h.instr (kind_of family (length marks))) log t.value h.found h.body
          (act.Remove numbers) a (sym h.front.removes_is ∙ f, r) h.body_is))
      by false f g = no_ok _ p g
  removal_kept n numbers (Showing header pair) p r e h = no_ok _ p e
  removal_kept n numbers (Spending header budget count log) p r e h = no_ok _ p e
  removal_kept n numbers Ended p r e h = no_ok _ p e

  pub state_kept : (n : ℕ) (l : Line) (go : Pair → Option Pair) (o p : Open) →
      ((x y : Pair) → go x ≡ Some y → AreDrawn x → IsPairOn x y l) → after_state_line n go o ≡ Ok p → At lines o →
      At (lines ++ l ∷ []) p
  unfolding after_state_line
  state_kept n l go Fresh p on e h = no_ok _ p e
  state_kept n l go Between p on e h = no_ok _ p e
  state_kept n l go (Refuting header log) p on e h = no_ok _ p e
  state_kept n l go (Showing header pair) p on e h = by (go pair) refl e
    where
      by : (o : Option Pair) → go pair ≡ o → shown_on n header o ≡ Ok p → At (lines ++ l ∷ []) p
      by None f g = no_ok _ p g
      by (Some next) f g =
          at_same (lines ++ l ∷ []) (Showing header next) p g
          (more (Showing header pair) (Showing header next) l h
          (showing_more pair next l h.found h.body (on pair next f h.body_is.drawn) h.body_is))
  state_kept n l go (Spending header budget count log) p on e h = no_ok _ p e
  state_kept n l go Ended p on e h = no_ok _ p e

-- only what is open changes
pub reopened_stands : (p q : Progress) (next : Result Open VerifyFault) (lines : List Line) → reopened p next ≡ Ok q →
    ((o : Open) → next ≡ Ok o → IsAt p.desc p.family p.removes p.marks lines o) → Stands p q lines
reopened_stands p q next lines e h =
    let t = taken next (λ (o : Open). Ok (with_open p o)) q e in
    subst (λ x. Stands p x lines) (same_ok (with_open p t.value) q t.gives)
    (record {
      keeps = record { desc = refl; family = refl; lines = refl; fed = refl; rest = refl };
      at =
          h t.value t.was;
    })
