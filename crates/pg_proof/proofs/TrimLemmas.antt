-- The end of a log that is kept: what is left to show of it once all was read.
use Rattle.std.proofs.Common.{◌≡◌, ℕ, suc, ◌+◌, ◌<◌, ◌≤◌, Bool, true, false, not, cond, ◌||◌, if◌then◌else◌, List, [], ◌∷◌, ◌++◌, length, map, get_or, take, drop, Some, None, refl, sym, ap, subst, ◌∙◌, arith, ℤ, ⊎_elim, ◌⊎◌, IsTrue}
use Rattle.std.specs.Prelude.{IsSomeAnd}
use Rattle.std.specs.List.{list_any, position_or_len}
use Rattle.std.proofs.lemmas.List.{length-append, take-append-drop, length-take-le, take_all, drop_all}
use Rattle.pg_proof.specs.declared.step.Step.{Step}
use Rattle.pg_proof.specs.declared.step.Act.{Act}
use Rattle.pg_proof.specs.declared.step.Act.TheVariants.{Add, Remove}
use Rattle.pg_proof.specs.State.{variables_of, is_empty}
use Rattle.pg_proof.specs.Refutation.{fault_of}
use Rattle.pg_proof.specs.Trimmed.{full, shown, IsPart, AddsEmpty, EndsEmpty, step_count, is_named}
use Rattle.pg_proof.specs.Numbering.{adds_empty, are_up, AreUsed, AreEarlier, AreValid, new_number, renumbered, is_next_used, with_kept, with_number, AreNeeded, is_used_hint}
use Rattle.pg_proof.specs.Drafts.{IsDraft, IsPicked, AreKept, ArePending, AreReached}
use Rattle.pg_proof.proofs.UseLemmas.{step_count-take, step_count-append, count_next}
use Rattle.std.proofs.lemmas.Bool.{false≢true}
use Rattle.pg_proof.proofs.DraftLemmas.{IsPart-more, shown-append, new_number-new, IsDraft-begun, IsDraft-step, valid_at, used_at, draft_keep, kept_reached, or_second}
use Rattle.pg_proof.proofs.NamedLemmas.{needed_later, ArePending-skip, ArePending-keep, AreReached-skip, AreReached-keep}

kept_few : (b : Bool) (made : List Act) (act : Act) → length (if b then made ++ act ∷ [] else made) ≤ length made + 1
kept_few true made act = omega (arith, length-append made (act ∷ []))
kept_few false made act = omega arith

with_kept-few : (q : ℕ) (flags : List Bool) (numbers : List ℕ) (made : List Act) (act : Act) → length (with_kept q flags numbers made act) ≤ length made + 1
with_kept-few q flags numbers made (Add step) = kept_few (is_next_used q flags numbers) made (Add (renumbered q numbers step))
with_kept-few q flags numbers made (Remove ns) = omega arith

with_number-few : (q : ℕ) (flags : List Bool) (numbers : List ℕ) (made : List Act) (act : Act) → length (with_number q flags numbers made act) ≤ length numbers + 1
with_number-few q flags numbers made (Add step) = omega (arith, length-append numbers ((if is_next_used q flags numbers then q + length made + 1 else 0) ∷ []))
with_number-few q flags numbers made (Remove ns) = omega arith

-- what is pending, with an act more
both_next : (b : Bool) (q : ℕ) (flags : List Bool) (last : ℕ) (numbers : List ℕ) (made rest : List Act) (step : Step) → is_next_used q flags numbers ≡ b →
    (get_or flags (q + length numbers + 1) false ≡ true →
    (q + length numbers + 1 ≡ last) ⊎ (is_used_hint flags (q + length numbers + 1) (q + length numbers + 1) rest ≡ true)) →
    ArePending q flags last numbers made (Add step ∷ rest) → AreReached q flags numbers made →
    ArePending q flags last (numbers ++ (if b then q + length made + 1 else 0) ∷ []) (if b then made ++ Add (renumbered q numbers step) ∷ [] else made) rest
    × AreReached q flags (numbers ++ (if b then q + length made + 1 else 0) ∷ []) (if b then made ++ Add (renumbered q numbers step) ∷ [] else made)
both_next true q flags last numbers made rest step e here p r =
    (ArePending-keep q flags last numbers made rest step (here e) p, AreReached-keep q flags last numbers made rest step e r)
both_next false q flags last numbers made rest step e here p r =
    (ArePending-skip q flags last numbers made rest step e p, AreReached-skip q flags last numbers made rest step r)

act_next : (act : Act) (q : ℕ) (flags : List Bool) (last : ℕ) (log : List Act) (k : ℕ) (numbers : List ℕ) (made : List Act) → k < length log →
    drop k log ≡ act ∷ drop (k + 1) log → AreEarlier q log → AreNeeded flags last q log → length numbers ≡ step_count (take k log) →
    ArePending q flags last numbers made (drop k log) → AreReached q flags numbers made →
    ArePending q flags last (with_number q flags numbers made act) (with_kept q flags numbers made act) (drop (k + 1) log)
    × AreReached q flags (with_number q flags numbers made act) (with_kept q flags numbers made act)
act_next (Add step) q flags last log k numbers made lt e early needed counted p r =
    let next = count_next log k (Add step) lt e in
    let one : step_count (Add step ∷ []) ≡ 1 = refl in
    let at : q + length numbers + 1 ≡ q + step_count (take (k + 1) log) = omega (arith, next, counted) in
    both_next (is_next_used q flags numbers) q flags last numbers made (drop (k + 1) log) step refl
    (λ up. subst (λ m. (q + length numbers + 1 ≡ last) ⊎ (is_used_hint flags (q + length numbers + 1) m (drop (k + 1) log) ≡ true)) (sym at)
    (needed_later log flags q (k + 1) (q + length numbers + 1) last early needed at up))
    (subst (ArePending q flags last numbers made) e p) r
act_next (Remove ns) q flags last log k numbers made lt e early needed counted p r = (subst (ArePending q flags last numbers made) e p, r)

pub AreKept-next : (question : List (List ℤ)) (flags : List Bool) (log made after : List Act) (numbers more : List ℕ) (k : ℕ) (act : Act) → k < length log →
    drop k log ≡ act ∷ drop (k + 1) log → AreValid (variables_of question) (map Some question) log → AreUsed flags (length question) log →
    AreEarlier (length question) log → AreNeeded flags (length question + step_count log) (length question) log →
    after ≡ with_kept (length question) flags numbers made act → more ≡ with_number (length question) flags numbers made act →
    AreKept question flags log numbers made k → AreKept question flags log more after (k + 1)
AreKept-next question flags log made after numbers more k act lt e v u early needed made_is more_is h =
    let both_parts = act_next act (length question) flags (length question + step_count log) log k numbers made lt e early needed h.draft.counted h.pending h.reached in
    record {
      draft = subst (λ x. x) (λ i. IsDraft question flags (take (k + 1) log) (sym more_is i) (sym made_is i)) (IsDraft-step question flags log made numbers k act lt e v u h.draft);
      few_made = omega (arith, ap length made_is, with_kept-few (length question) flags numbers made act, h.few_made);
      few_numbers = omega (arith, ap length more_is, with_number-few (length question) flags numbers made act, h.few_numbers);
      pending = subst (λ x. x) (λ i. ArePending (length question) flags (length question + step_count log) (sym more_is i) (sym made_is i) (drop (k + 1) log)) both_parts.0;
      reached = subst (λ x. x) (λ i. AreReached (length question) flags (sym more_is i) (sym made_is i)) both_parts.1;
    }

pub AreKept-begun : (question : List (List ℤ)) (flags : List Bool) (log made : List Act) (numbers : List ℕ) → made ≡ [] → numbers ≡ [] →
    AreKept question flags log numbers made 0
AreKept-begun question flags log made numbers e f =
    subst (λ x. x) (λ i. AreKept question flags log (sym f i) (sym e i) 0)
    (record {
      draft = IsDraft-begun question flags;
      few_made = omega arith;
      few_numbers = omega arith;
      pending = λ h past le up. absurd (omega (arith, past, le));
      reached = λ p lt. absurd (omega (arith, lt));
    })

-- with nothing left to be read, each but the last is named
named_end : (q : ℕ) (flags : List Bool) (last : ℕ) (numbers : List ℕ) (made : List Act) → ArePending q flags last numbers made [] → AreReached q flags numbers made →
    new_number q numbers last ≡ q + length made → (p : ℕ) → suc p < length made → is_named (q + p + 1) made ≡ true
named_end q flags last numbers made pending reached at p lt =
    let r = reached p (omega (arith, lt)) in
    ⊎_elim
    (λ e. ap (λ m. is_named m made) (sym r.4) ∙ e)
    (λ e. ⊎_elim
    (λ f. let g : q + p + 1 ≡ q + length made = sym r.4 ∙ ap (new_number q numbers) f ∙ at in absurd (omega (arith, g, lt)))
    (λ f. absurd (false≢true f)) e)
    (pending r.0 r.1 r.2 r.3)

EndsEmpty-last : (acts : List Act) (act : Act) → AddsEmpty act → EndsEmpty (acts ++ act ∷ [])
EndsEmpty-last [] act h = h
EndsEmpty-last (a ∷ []) act h = h
EndsEmpty-last (a ∷ b ∷ acts) act h = EndsEmpty-last (b ∷ acts) act h

no_literals : (lits : List ℤ) → is_empty lits ≡ true → lits ≡ []
no_literals [] e = refl
no_literals (z ∷ zs) e = cc

-- with the step that adds the empty clause the log is done
module _ (question : List (List ℤ)) (flags : List Bool) (acts made : List Act) (numbers : List ℕ) (k : ℕ) (step : Step) (lt : k < length acts)
    (here : drop k (take (k + 1) acts) ≡ Add step ∷ drop (k + 1) (take (k + 1) acts)) (empty : is_empty step.lits ≡ true)
    (valid : AreValid (variables_of question) (map Some question) (take (k + 1) acts)) (used : AreUsed flags (length question) (take (k + 1) acts))
    (last : get_or flags (length question + step_count (take (k + 1) acts)) false ≡ true)
    (early : AreEarlier (length question) (take (k + 1) acts)) (needed : AreNeeded flags (length question + step_count (take (k + 1) acts)) (length question) (take (k + 1) acts))
    (kept_so : AreKept question flags (take (k + 1) acts) numbers made k) where
  d : IsDraft question flags (take k (take (k + 1) acts)) numbers made
  d = kept_so.draft

  within : k < length (take (k + 1) acts)
  within = rw (length-take-le (k + 1) acts (omega arith)) (omega arith)

  split : take (k + 1) acts ≡ take k (take (k + 1) acts) ++ Add step ∷ []
  split = sym (take_all (k + 1) (take (k + 1) acts) (omega (arith, length-take-le (k + 1) acts (omega arith)))) ∙ step_count-take (take (k + 1) acts) k (Add step) within here

  at_last : length question + length numbers + 1 ≡ length question + step_count (take (k + 1) acts)
  at_last = omega (arith, kept_so.draft.counted, ap step_count split, step_count-append (take k (take (k + 1) acts)) (Add step ∷ []))

  next_used : is_next_used (length question) flags numbers ≡ true
  next_used =
      let n : length question + length numbers + 1 ≡ length question + step_count (take (k + 1) acts) =
      omega (arith, d.counted, ap step_count split, step_count-append (take k (take (k + 1) acts)) (Add step ∷ [])) in
      ap (λ x. get_or flags x false) n ∙ last

  step_valid : fault_of (variables_of question) (full (map Some question) (take k (take (k + 1) acts))) step ≡ None
  step_valid = (valid_at (take (k + 1) acts) k (variables_of question) (map Some question) (Add step) within here valid).0

  hints_up : are_up flags step.hints ≡ true
  hints_up =
      (used_at (take (k + 1) acts) k (length question) flags (Add step) within here used).0
      (ap (λ n. get_or flags (length question + n + 1) false) (sym d.counted) ∙ next_used)

  kept_last : with_kept (length question) flags numbers made (Add step) ≡ made ++ Add (renumbered (length question) numbers step) ∷ []
  kept_last = ap (λ b. if b then made ++ Add (renumbered (length question) numbers step) ∷ [] else made) next_used

  number_last : with_number (length question) flags numbers made (Add step) ≡ numbers ++ (length question + length made + 1) ∷ []
  number_last = ap (λ b. numbers ++ (if b then length question + length made + 1 else 0) ∷ []) next_used

  all_kept : AreKept question flags (take (k + 1) acts) (numbers ++ (length question + length made + 1) ∷ []) (made ++ Add (renumbered (length question) numbers step) ∷ []) (k + 1)
  all_kept =
      AreKept-next question flags (take (k + 1) acts) made (made ++ Add (renumbered (length question) numbers step) ∷ []) numbers
      (numbers ++ (length question + length made + 1) ∷ []) k (Add step) within here valid used early needed (sym kept_last) (sym number_last) kept_so

  named_all : (p : ℕ) → suc p < step_count (made ++ Add (renumbered (length question) numbers step) ∷ []) →
      is_named (length question + p + 1) (made ++ Add (renumbered (length question) numbers step) ∷ []) ≡ true
  named_all p more =
      named_end (length question) flags (length question + step_count (take (k + 1) acts)) (numbers ++ (length question + length made + 1) ∷ [])
      (made ++ Add (renumbered (length question) numbers step) ∷ [])
      (subst (ArePending (length question) flags (length question + step_count (take (k + 1) acts)) (numbers ++ (length question + length made + 1) ∷ [])
      (made ++ Add (renumbered (length question) numbers step) ∷ [])) (drop_all (k + 1) (take (k + 1) acts) (omega (arith, length-take-le (k + 1) acts (omega arith)))) all_kept.pending)
      all_kept.reached
      (new_number-new (length question) numbers (length question + length made + 1) (length question + step_count (take (k + 1) acts)) (sym at_last)
      ∙ omega (arith, length-append made (Add (renumbered (length question) numbers step) ∷ [])))
      p (omega (arith, more, all_kept.draft.as_many))

  done : IsPicked question acts (made ++ Add (renumbered (length question) numbers step) ∷ [])
  done =
      let kept = draft_keep question flags (take k (take (k + 1) acts)) made numbers step d step_valid hints_up in
      let reached = kept_reached question flags (take k (take (k + 1) acts)) made numbers step d step_valid hints_up in
      record {
        closed = subst (λ o. IsSomeAnd o (λ after. IsTrue after.closed)) (sym reached) (or_second d.closed (is_empty step.lits) empty);
        part = subst (IsPart (shown (map Some question) (made ++ Add (renumbered (length question) numbers step) ∷ [])))
            (sym (ap (shown (map Some question)) (sym (take-append-drop (k + 1) acts)) ∙ shown-append (take (k + 1) acts) (drop (k + 1) acts) (map Some question)))
            (IsPart-more (shown (map Some question) (made ++ Add (renumbered (length question) numbers step) ∷ [])) (shown (map Some question) (take (k + 1) acts))
            (shown (full (map Some question) (take (k + 1) acts)) (drop (k + 1) acts))
            (subst (λ x. IsPart (shown (map Some question) (made ++ Add (renumbered (length question) numbers step) ∷ [])) (shown (map Some question) x)) (sym split) kept.part));
        last = EndsEmpty-last made (Add (renumbered (length question) numbers step)) (no_literals step.lits empty);
        named = named_all;
        steps = all_kept.draft.as_many;
        few = omega (arith, all_kept.few_made, lt);
      }

  pub picked_last : (after : List Act) → after ≡ with_kept (length question) flags numbers made (Add step) → IsPicked question acts after
  picked_last after e = subst (IsPicked question acts) (sym (e ∙ kept_last)) done

-- the act at the first place of an empty clause
empty_act : (act : Act) → adds_empty act ≡ true → (step : Step) × (act ≡ Add step) × (is_empty step.lits ≡ true)
empty_act (Add step) e = (step, refl, e)
empty_act (Remove ns) e = cc

first_place : (b : Bool) (acts : List Act) → b || list_any adds_empty acts ≡ true → (list_any adds_empty acts ≡ true → position_or_len adds_empty acts < length acts) →
    cond (not b) (1 + position_or_len adds_empty acts) 0 < suc (length acts)
first_place true acts e down = omega arith
first_place false acts e down = let r = down e in omega (arith, r)

pub any_place : (acts : List Act) → list_any adds_empty acts ≡ true → position_or_len adds_empty acts < length acts
any_place [] e = cc
any_place (act ∷ acts) e = first_place (adds_empty act) acts e (any_place acts)

pub picked_end : (question : List (List ℤ)) (flags : List Bool) (acts made after : List Act) (numbers : List ℕ) (k : ℕ) (act : Act) → k < length acts →
    drop k (take (k + 1) acts) ≡ act ∷ drop (k + 1) (take (k + 1) acts) → adds_empty act ≡ true →
    AreValid (variables_of question) (map Some question) (take (k + 1) acts) → AreUsed flags (length question) (take (k + 1) acts) →
    get_or flags (length question + step_count (take (k + 1) acts)) false ≡ true →
    AreEarlier (length question) (take (k + 1) acts) → AreNeeded flags (length question + step_count (take (k + 1) acts)) (length question) (take (k + 1) acts) →
    AreKept question flags (take (k + 1) acts) numbers made k →
    after ≡ with_kept (length question) flags numbers made act → IsPicked question acts after
picked_end question flags acts made after numbers k act lt here empty valid used last early needed kept_so made_is =
    let p = empty_act act empty in
    picked_last question flags acts made numbers k p.0 lt (here ∙ ap (λ a. a ∷ drop (k + 1) (take (k + 1) acts)) p.1) p.2 valid used last early needed kept_so after
    (made_is ∙ ap (with_kept (length question) flags numbers made) p.1)
