-- What a trace shows that left one literal of those from a place on.
use Rattle.std.proofs.Common.{◌≡◌, ◌≢◌, ◌⊎◌, inl, inr, ℕ, zero, suc, ◌+◌, ◌-◌, ◌<◌, ◌≤◌, Bool, true, false, List, length, get_or, map, reverse, take, Some, None, refl, sym, ap, subst, ◌∙◌, arith, ℤ, pos, neg_ℤ}
use Rattle.std.proofs.lemmas.List.{take_more}
use Rattle.pg_watch.specs.Trail.{Trail, value_of, IsTrail, IsQuiet}
use Rattle.pg_watch.proofs.Values.{value_of-unset_neg}
use Rattle.pg_watch.proofs.WatchedLemmas.{IsTrail-cut}
use Rattle.pg_proof.specs.declared.step.Step.{Step}
use Rattle.pg_proof.specs.Places.{has, is_marked}
use Rattle.pg_proof.specs.New.{IsNew}
use Rattle.pg_sat.specs.Cut.{IsCut}
use Rattle.pg_sat_guide.specs.Over.{IsOver}
use Rattle.pg_sat.specs.Trace.{AreDown, IsLone, IsThin, AreFewer}
use Rattle.pg_sat.specs.Listed.{listed}
use Rattle.pg_sat.specs.Learned.{IsAsserting, IsTaught}
use Rattle.pg_sat.proofs.CutLemmas.{IsCut-passed, before_push}
use Rattle.pg_sat.proofs.StepLemmas.{marked_of, listed_of}
use Rattle.pg_sat.proofs.NewLemmas.{IsNew-quiet, new_not_covered}
use Rattle.pg_sat.proofs.TrailLemmas.{IsAt, AreSet-at}
use Rattle.pg_sat.proofs.JumpLemmas.{unset_front, cases_le}
use Rattle.pg_sat.proofs.LearnLemmas.{learned, held_within, never_false}

-- one place further down
pub down-more : (flags : List Bool) (literals : List ℤ) (low place at : ℕ) → is_marked flags (neg_ℤ (get_or literals place (pos 0))) ≡ false → AreDown flags literals (place + 1) at → AreDown flags literals place at
down-more flags literals low place at e h k le lt = by (cases_le place k le)
  where
    by : (place ≡ k) ⊎ (place + 1 ≤ k) → is_marked flags (neg_ℤ (get_or literals k (pos 0))) ≡ false
    by (inl s) = subst (λ (j : ℕ). is_marked flags (neg_ℤ (get_or literals j (pos 0))) ≡ false) s e
    by (inr l) = h k l lt

-- the literal that is left
module _ (variables : ℕ) (cs : List (List ℤ)) (t : Trail) (last place : ℕ) (flags : List Bool) (hints : List ℕ) (over : IsOver variables cs t) (right : IsTrail cs t)
    (quiet : IsQuiet cs (take last t.literals)) (lone : IsLone variables cs t.literals last place flags hints) where
  abbrev literal : ℕ → ℤ
  literal k = get_or t.literals k (pos 0)

  abbrev Cut : List ℤ → Type 0
  Cut set = IsCut (map Some cs) set (is_marked flags) (reverse hints)

  at_place : (k : ℕ) → k < length t.literals → IsAt t.variables (take k t.literals) (literal k)
  at_place k lt = AreSet-at t.variables t.literals k (pos 0) right.set lt

  passed : (k : ℕ) → k < length t.literals → is_marked flags (neg_ℤ (literal k)) ≡ false → Cut (take (k + 1) t.literals) → Cut (take k t.literals)
  passed k lt n cut =
      IsCut-passed (map Some cs) (take k t.literals) (literal k) (at_place k lt).literal.0 (at_place k lt).unset (is_marked flags) (reverse hints)
      (subst (λ (set : List ℤ). Cut set) (take_more t.literals k (pos 0) lt) cut) n

  lowered : (k : ℕ) → last + k ≤ place → Cut (take (last + k) t.literals) → Cut (take last t.literals)
  lowered zero le cut = subst (λ (n : ℕ). Cut (take n t.literals)) (let e : last + 0 ≡ last = omega arith in e) cut
  lowered (suc k) le cut =
      lowered k (omega arith)
      (passed (last + k) (omega (arith, lone.there)) (lone.alone (last + k) (omega arith) (omega arith))
      (subst (λ (n : ℕ). Cut (take n t.literals)) (let e : last + suc k ≡ last + k + 1 = omega arith in e) cut))

  is_there : (b : Bool) → is_marked flags (neg_ℤ (literal place)) ≡ b → b ≡ true
  is_there true e = refl
  is_there false e =
      let s : last + (place - last) ≡ place = omega (arith, lone.from) in
      absurd (never_false t.variables cs (take last t.literals) (is_marked flags) (reverse hints) (IsTrail-cut cs t last right).set quiet
      (lowered (place - last) (omega (arith, s)) (subst (λ (n : ℕ). Cut (take n t.literals)) (sym s) (passed place lone.there e lone.traced.cut))))

  pub there : is_marked flags (neg_ℤ (literal place)) ≡ true
  there = is_there (is_marked flags (neg_ℤ (literal place))) refl

  pub unset : value_of (take last t.literals) (neg_ℤ (literal place)) ≡ None
  unset =
      value_of-unset_neg (take last t.literals) (literal place) (at_place place lone.there).literal.0
      (unset_front t.literals last place (literal place) lone.from (at_place place lone.there).unset)

  -- what was false before the literal at the place was before the others
  earlier : (y : ℤ) → is_marked flags y ≡ true → (k : ℕ) → last + k ≤ place → value_of (take (last + k) t.literals) y ≡ Some false → value_of (take last t.literals) y ≡ Some false
  earlier y h zero le f = subst (λ (n : ℕ). value_of (take n t.literals) y ≡ Some false) (let e : last + 0 ≡ last = omega arith in e) f
  earlier y h (suc k) le f =
      let lt : last + k < length t.literals = omega (arith, lone.there) in
      earlier y h k (omega arith)
      (before_push (map Some cs) (take (last + k) t.literals) (literal (last + k)) (at_place (last + k) lt).literal.0 (at_place (last + k) lt).unset y
      (λ e. (let g : true ≡ false = sym h ∙ ap (is_marked flags) e ∙ lone.alone (last + k) (omega arith) (omega arith) in cc))
      (subst (λ (set : List ℤ). value_of set y ≡ Some false) (take_more t.literals (last + k) (pos 0) lt)
      (subst (λ (n : ℕ). value_of (take n t.literals) y ≡ Some false) (let e : last + suc k ≡ last + k + 1 = omega arith in e) f)))

  pub others : (y : ℤ) → is_marked flags y ≡ true → neg_ℤ (literal place) ≢ y → value_of (take last t.literals) y ≡ Some false
  others y h d =
      let s : last + (place - last) ≡ place = omega (arith, lone.from) in
      earlier y h (place - last) (omega (arith, s))
      (subst (λ (n : ℕ). value_of (take n t.literals) y ≡ Some false) (sym s)
      (before_push (map Some cs) (take place t.literals) (literal place) (at_place place lone.there).literal.0 (at_place place lone.there).unset y (λ e. d (sym e))
      (subst (λ (set : List ℤ). value_of set y ≡ Some false) (take_more t.literals place (pos 0) lone.there) (lone.traced.cut.are_false y h))))

  -- with fewer literals left
  module _ (after : List Bool) (more : List ℕ) (step : Step) (thin : IsThin variables cs t.literals 0 after more)
      (fewer : AreFewer flags after (neg_ℤ (literal place))) (is_lits : step.lits ≡ listed after 1 variables) (is_hints : step.hints ≡ reverse more) where
    marked-has : (y : ℤ) → has step.lits y ≡ true → is_marked after y ≡ true
    marked-has y h =
        marked_of variables variables (map Some cs) thin.rest after (reverse more) step (held_within variables cs over.right) (omega arith) thin.traced.cut is_lits is_hints y h

    has-marked : (y : ℤ) → is_marked after y ≡ true → has step.lits y ≡ true
    has-marked y h =
        listed_of variables variables (map Some cs) thin.rest after (reverse more) step (held_within variables cs over.right) (omega arith) thin.traced.cut is_lits is_hints y h

    asserting : IsAsserting (take last t.literals) (literal place) step.lits
    asserting = record {
      there = has-marked (neg_ℤ (literal place)) (fewer.kept there);
      unset = unset;
      others = λ y h d. others y (fewer.fewer y (marked-has y h)) d;
    }

    fresh : IsNew cs step.lits
    fresh =
        IsNew-quiet t.variables (take last t.literals) (IsTrail-cut cs t last right).set cs step.lits (neg_ℤ (literal place)) quiet asserting.there asserting.unset
        asserting.others

    pub taught : IsTaught variables cs t.literals last place step
    taught = record {
      from = lone.from;
      there = lone.there;
      set = thin.rest;
      learned = learned variables cs thin.rest after more step thin.traced is_lits is_hints;
      asserting = asserting;
      fresh = fresh;
      uncovered = new_not_covered variables cs step.lits over.right fresh;
    }
