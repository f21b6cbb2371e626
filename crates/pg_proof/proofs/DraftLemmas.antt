-- A log that is kept step by step: what it shows is part of what was given, and its steps are valid under their new numbers.
use Rattle.std.proofs.Common.{◌≡◌, ℕ, zero, suc, ◌+◌, ◌-◌, ◌<◌, ◌≤◌, Bool, true, false, ◌||◌, leb, if◌then◌else◌, List, [], ◌∷◌, ◌++◌, length, map, get_or, take, drop, Option, Some, None, is_none, unwrap_or, refl, sym, ap, subst, ◌∙◌, arith, ℤ, inl, inr}
use Rattle.std.specs.Option.{option_and_then}
use Rattle.std.proofs.lemmas.List.{length-append, length-map, get_or_at, get_or_append_left, append-nil}
use Rattle.std.proofs.lemmas.Option.{same_Some}
use Rattle.std.proofs.lemmas.Bool.Decides.{nat_tests}
use Rattle.pg_proof.specs.declared.step.ProofFault.{ProofFault}
use Rattle.pg_proof.specs.declared.step.Step.{Step}
use Rattle.pg_proof.specs.declared.step.Act.{Act}
use Rattle.pg_proof.specs.declared.step.Act.TheVariants.{Add, Remove}
use Rattle.pg_proof.specs.State.{State, clause_at, variables_of, begun, is_empty}
use Rattle.pg_proof.specs.Refutation.{fault_of}
use Rattle.pg_proof.specs.Tight.{literals_at, hint_clauses}
use Rattle.pg_proof.specs.Kept.{state_of}
use Rattle.pg_proof.specs.Log.{after_act, after_acts_from, after_acts}
use Rattle.pg_proof.specs.Trimmed.{full, shown, IsPart, step_count}
use Rattle.pg_proof.specs.Numbering.{are_up, AreUsed, AreEarlier, AreValid, new_number, renumbered, is_next_used, with_kept, with_number}
use Rattle.pg_proof.specs.Drafts.{Maps, IsDraft}
use Rattle.pg_proof.proofs.WithinLemmas.{both}
use Rattle.pg_proof.proofs.GivenLemmas.{AreMapped, AreKnown, Numbered, numbered, clause_at-push, clause_at-last, number_below, fault_of-mapped, known_hints}
use Rattle.pg_proof.proofs.UseLemmas.{step_count-take, step_count-append}

-- parts of lists, as both grow at the end
IsPart-skip : {A : Type 0} (xs ys : List A) (y : A) → IsPart xs ys → IsPart xs (ys ++ y ∷ [])
IsPart-skip [] ys y h = tt
IsPart-skip (x ∷ xs) [] y h = absurd h
IsPart-skip (x ∷ xs) (z ∷ ys) y (inl p) = inl (p.0, IsPart-skip xs ys y p.1)
IsPart-skip (x ∷ xs) (z ∷ ys) y (inr p) = inr (IsPart-skip (x ∷ xs) ys y p)

IsPart-both : {A : Type 0} (xs ys : List A) (x y : A) → x ≡ y → IsPart xs ys → IsPart (xs ++ x ∷ []) (ys ++ y ∷ [])
IsPart-both [] [] x y e h = inl (e, tt)
IsPart-both [] (z ∷ ys) x y e h = inr (IsPart-both [] ys x y e tt)
IsPart-both (w ∷ xs) [] x y e h = absurd h
IsPart-both (w ∷ xs) (z ∷ ys) x y e (inl p) = inl (p.0, IsPart-both xs ys x y e p.1)
IsPart-both (w ∷ xs) (z ∷ ys) x y e (inr p) = inr (IsPart-both (w ∷ xs) ys x y e p)

pub IsPart-more : {A : Type 0} (xs ys zs : List A) → IsPart xs ys → IsPart xs (ys ++ zs)
IsPart-more [] ys zs h = tt
IsPart-more (x ∷ xs) [] zs h = absurd h
IsPart-more (x ∷ xs) (y ∷ ys) zs (inl p) = inl (p.0, IsPart-more xs ys zs p.1)
IsPart-more (x ∷ xs) (y ∷ ys) zs (inr p) = inr (IsPart-more (x ∷ xs) ys zs p)

-- acts one after another
full-append : (front more : List Act) (all : List (Option (List ℤ))) → full all (front ++ more) ≡ full (full all front) more
full-append [] more all = refl
full-append (Add step ∷ front) more all = full-append front more (all ++ Some step.lits ∷ [])
full-append (Remove ns ∷ front) more all = full-append front more all

pub shown-append : (front more : List Act) (all : List (Option (List ℤ))) → shown all (front ++ more) ≡ shown all front ++ shown (full all front) more
shown-append [] more all = refl
shown-append (Add step ∷ front) more all = ap (λ xs. (step.lits, hint_clauses all step.hints) ∷ xs) (shown-append front more (all ++ Some step.lits ∷ []))
shown-append (Remove ns ∷ front) more all = shown-append front more all

length-full : (acts : List Act) (all : List (Option (List ℤ))) → length (full all acts) ≡ length all + step_count acts
length-full [] all = omega arith
length-full (Add step ∷ acts) all = length-full acts (all ++ Some step.lits ∷ []) ∙ ap (λ n. n + step_count acts) (length-append all (Some step.lits ∷ [])) ∙ omega arith
length-full (Remove ns ∷ acts) all = length-full acts all

onward : (o : Option State) (front more : List Act) (middle : State) →
    ((state : State) → after_acts_from state front ≡ Some middle → after_acts_from state (front ++ more) ≡ after_acts_from middle more) →
    option_and_then (λ after. after_acts_from after front) o ≡ Some middle → option_and_then (λ after. after_acts_from after (front ++ more)) o ≡ after_acts_from middle more
onward None front more middle down e = cc
onward (Some state) front more middle down e = down state e

after-append : (front more : List Act) (state middle : State) → after_acts_from state front ≡ Some middle → after_acts_from state (front ++ more) ≡ after_acts_from middle more
after-append [] more state middle e = ap (λ s. after_acts_from s more) (same_Some state middle e)
after-append (act ∷ front) more state middle e = onward (after_act state act) front more middle (λ s f. after-append front more s middle f) e

-- new numbers, once one more is noted
at_most_question : (b : Bool) (q : ℕ) (numbers : List ℕ) (x h : ℕ) → leb h q ≡ b → h ≤ q + length numbers →
    (if b then h else get_or (numbers ++ x ∷ []) (h - q - 1) 0) ≡ (if b then h else get_or numbers (h - q - 1) 0)
at_most_question true q numbers x h e le = refl
at_most_question false q numbers x h e le =
    let past : q < h = grind (arith, nat_tests) in
    get_or_append_left numbers (x ∷ []) 0 (h - q - 1) (omega (arith, past, le))

pub new_number-old : (q : ℕ) (numbers : List ℕ) (x h : ℕ) → h ≤ q + length numbers → new_number q (numbers ++ x ∷ []) h ≡ new_number q numbers h
new_number-old q numbers x h le = at_most_question (leb h q) q numbers x h refl le

past_question : (q h : ℕ) → q < h → leb h q ≡ false
past_question q h lt = grind (arith, nat_tests)

pub new_number-new : (q : ℕ) (numbers : List ℕ) (x h : ℕ) → h ≡ q + length numbers + 1 → new_number q (numbers ++ x ∷ []) h ≡ x
new_number-new q numbers x h e =
    let past : q < h = omega arith in
    let place : length numbers ≡ h - q - 1 = omega arith in
    ap (λ b. if b then h else get_or (numbers ++ x ∷ []) (h - q - 1) 0) (past_question q h past) ∙ get_or_at numbers x [] 0 (h - q - 1) place

pub or_second : (b c : Bool) → c ≡ true → b || c ≡ true
or_second true c e = refl
or_second false c e = e

neither : (b c : Bool) → b ≡ false → c ≡ false → b || c ≡ true → ⊥
neither true c e f h = cc
neither false c e f h = cc

Maps-skip : (q : ℕ) (flags : List Bool) (numbers : List ℕ) (all kept : List (Option (List ℤ))) (lits : List ℤ) → length all ≡ q + length numbers →
    get_or flags (q + length numbers + 1) false ≡ false → Maps q flags numbers all kept → Maps q flags (numbers ++ 0 ∷ []) (all ++ Some lits ∷ []) kept
Maps-skip q flags numbers all kept lits l down m h c u e = by (numbered all lits c h e)
  where
    by : Numbered all lits h c → clause_at kept (new_number q (numbers ++ 0 ∷ []) h) ≡ Some c
    by (Numbered.old f) =
        let le : h ≤ q + length numbers = omega (arith, l, number_below all h c f) in
        ap (clause_at kept) (new_number-old q numbers 0 h le) ∙ m h c u f
    by (Numbered.new n s) =
        let at : h ≡ q + length numbers + 1 = omega (arith, n, l) in
        absurd (neither (leb h q) (get_or flags h false) (past_question q h (omega arith)) (ap (λ x. get_or flags x false) at ∙ down) u)

Maps-keep : (q k : ℕ) (flags : List Bool) (numbers : List ℕ) (all kept : List (Option (List ℤ))) (lits : List ℤ) → length all ≡ q + length numbers →
    length kept ≡ q + k → Maps q flags numbers all kept → Maps q flags (numbers ++ (q + k + 1) ∷ []) (all ++ Some lits ∷ []) (kept ++ Some lits ∷ [])
Maps-keep q k flags numbers all kept lits l lk m h c u e = by (numbered all lits c h e)
  where
    by : Numbered all lits h c → clause_at (kept ++ Some lits ∷ []) (new_number q (numbers ++ (q + k + 1) ∷ []) h) ≡ Some c
    by (Numbered.old f) =
        let le : h ≤ q + length numbers = omega (arith, l, number_below all h c f) in
        ap (clause_at (kept ++ Some lits ∷ [])) (new_number-old q numbers (q + k + 1) h le) ∙ clause_at-push kept (Some lits) (new_number q numbers h) c (m h c u f)
    by (Numbered.new n s) =
        let at : h ≡ q + length numbers + 1 = omega (arith, n, l) in
        ap (clause_at (kept ++ Some lits ∷ [])) (new_number-new q numbers (q + k + 1) h at)
        ∙ clause_at-last kept lits (q + k + 1) (omega (arith, lk)) ∙ ap Some s

mapped_hints : (q : ℕ) (flags : List Bool) (numbers : List ℕ) (all kept : List (Option (List ℤ))) (hs : List ℕ) → Maps q flags numbers all kept → are_up flags hs ≡ true →
    AreMapped all kept (new_number q numbers) hs
mapped_hints q flags numbers all kept [] m u = tt
mapped_hints q flags numbers all kept (h ∷ hs) m u =
    let p = both (get_or flags h false) (are_up flags hs) u in
    ((λ c e. m h c (or_second (leb h q) (get_or flags h false) p.0) e), mapped_hints q flags numbers all kept hs m p.1)

same_hints : (all kept : List (Option (List ℤ))) (at : ℕ → ℕ) (hs : List ℕ) → AreMapped all kept at hs → AreKnown all hs → hint_clauses kept (map at hs) ≡ hint_clauses all hs
same_hints all kept at [] m k = refl
same_hints all kept at (h ∷ hs) m k =
    let one : literals_at kept (at h) ≡ literals_at all h =
    ap (λ o. unwrap_or o []) (m.0 k.0.0 k.0.1) ∙ sym (ap (λ o. unwrap_or o []) k.0.1) in
    let rest = same_hints all kept at hs m.1 k.1 in
    λ i. one i ∷ rest i

pub IsDraft-begun : (question : List (List ℤ)) (flags : List Bool) → IsDraft question flags [] [] []
IsDraft-begun question flags = record {
  closed = false;
  reached = refl;
  part = tt;
  maps = λ h c u e. by h c e (leb h (length question)) refl;
  counted = refl;
  as_many = refl;
}
  where
    by : (h : ℕ) (c : List ℤ) → clause_at (map Some question) h ≡ Some c → (b : Bool) → leb h (length question) ≡ b →
        clause_at (map Some question) (if b then h else get_or [] (h - length question - 1) 0) ≡ Some c
    by h c e true f = e
    by h c e false f =
        let past : length question < h = grind (arith, nat_tests) in
        absurd (omega (arith, past, number_below (map Some question) h c e, length-map question (λ d. Some d)))

pub valid_added : (o : Option ProofFault) (state after : State) → o ≡ None → (if is_none o then Some after else None) ≡ Some after
valid_added o state after e = ap (λ x. if is_none x then Some after else None) e

-- one step more, which is left out or kept
module _ (question : List (List ℤ)) (flags : List Bool) (pre made : List Act) (numbers : List ℕ) (step : Step) (d : IsDraft question flags pre numbers made)
    (valid : fault_of (variables_of question) (full (map Some question) pre) step ≡ None) where
  all_counted : length (full (map Some question) pre) ≡ length question + length numbers
  all_counted =
      length-full pre (map Some question) ∙ ap (λ n. n + step_count pre) (length-map question (λ c. Some c)) ∙ ap (λ n. length question + n) (sym d.counted)

  kept_counted : length (full (map Some question) made) ≡ length question + length made
  kept_counted =
      length-full made (map Some question) ∙ ap (λ n. n + step_count made) (length-map question (λ c. Some c)) ∙ ap (λ n. length question + n) d.as_many

  all_next : full (map Some question) (pre ++ Add step ∷ []) ≡ full (map Some question) pre ++ Some step.lits ∷ []
  all_next = full-append pre (Add step ∷ []) (map Some question)

  shown_next : shown (map Some question) (pre ++ Add step ∷ []) ≡ shown (map Some question) pre ++ (step.lits, hint_clauses (full (map Some question) pre) step.hints) ∷ []
  shown_next = shown-append pre (Add step ∷ []) (map Some question)

  count_more : (x : ℕ) → length (numbers ++ x ∷ []) ≡ step_count (pre ++ Add step ∷ [])
  count_more x = length-append numbers (x ∷ []) ∙ ap (λ n. n + 1) d.counted ∙ sym (step_count-append pre (Add step ∷ []))

  draft_skip : get_or flags (length question + length numbers + 1) false ≡ false → IsDraft question flags (pre ++ Add step ∷ []) (numbers ++ 0 ∷ []) made
  draft_skip down = record {
    closed = d.closed;
    reached = d.reached;
    part = subst (IsPart (shown (map Some question) made)) (sym shown_next)
        (IsPart-skip (shown (map Some question) made) (shown (map Some question) pre) (step.lits, hint_clauses (full (map Some question) pre) step.hints) d.part);
    maps = subst (λ x. Maps (length question) flags (numbers ++ 0 ∷ []) x (full (map Some question) made)) (sym all_next)
        (Maps-skip (length question) flags numbers (full (map Some question) pre) (full (map Some question) made) step.lits all_counted down d.maps);
    counted = count_more 0;
    as_many = d.as_many;
  }

  module _ (up : are_up flags step.hints ≡ true) where
    mapped : AreMapped (full (map Some question) pre) (full (map Some question) made) (new_number (length question) numbers) step.hints
    mapped = mapped_hints (length question) flags numbers (full (map Some question) pre) (full (map Some question) made) step.hints d.maps up

    kept_valid : fault_of (variables_of question) (full (map Some question) made) (renumbered (length question) numbers step) ≡ None
    kept_valid =
        fault_of-mapped (variables_of question) (full (map Some question) pre) (full (map Some question) made) (new_number (length question) numbers) step.lits step.hints mapped valid

    kept_next : full (map Some question) (made ++ Add (renumbered (length question) numbers step) ∷ []) ≡ full (map Some question) made ++ Some step.lits ∷ []
    kept_next = full-append made (Add (renumbered (length question) numbers step) ∷ []) (map Some question)

    pub kept_reached : after_acts question (made ++ Add (renumbered (length question) numbers step) ∷ [])
        ≡ Some (state_of (variables_of question) (full (map Some question) (made ++ Add (renumbered (length question) numbers step) ∷ [])) (d.closed || is_empty step.lits))
    kept_reached =
        after-append made (Add (renumbered (length question) numbers step) ∷ []) (begun question) (state_of (variables_of question) (full (map Some question) made) d.closed) d.reached
        ∙ ap (λ o. option_and_then (λ after. after_acts_from after []) o)
        (valid_added (fault_of (variables_of question) (full (map Some question) made) (renumbered (length question) numbers step))
        (state_of (variables_of question) (full (map Some question) made) d.closed)
        (state_of (variables_of question) (full (map Some question) made ++ Some step.lits ∷ []) (d.closed || is_empty step.lits)) kept_valid)
        ∙ ap (λ x. Some (state_of (variables_of question) x (d.closed || is_empty step.lits))) (sym kept_next)

    pub draft_keep : IsDraft question flags (pre ++ Add step ∷ []) (numbers ++ (length question + length made + 1) ∷ []) (made ++ Add (renumbered (length question) numbers step) ∷ [])
    draft_keep = record {
      closed = d.closed || is_empty step.lits;
      reached = kept_reached;
      part = subst (λ x. x) (λ i. IsPart (sym (shown-append made (Add (renumbered (length question) numbers step) ∷ []) (map Some question)) i) (sym shown_next i))
          (IsPart-both (shown (map Some question) made) (shown (map Some question) pre)
          (step.lits, hint_clauses (full (map Some question) made) (map (new_number (length question) numbers) step.hints))
          (step.lits, hint_clauses (full (map Some question) pre) step.hints)
          (ap (λ x. (step.lits, x))
          (same_hints (full (map Some question) pre) (full (map Some question) made) (new_number (length question) numbers) step.hints mapped
          (known_hints (variables_of question) (full (map Some question) pre) step valid)))
          d.part);
      maps = subst (λ x. x) (λ i. Maps (length question) flags (numbers ++ (length question + length made + 1) ∷ []) (sym all_next i) (sym kept_next i))
          (Maps-keep (length question) (length made) flags numbers (full (map Some question) pre) (full (map Some question) made) step.lits all_counted kept_counted d.maps);
      counted = count_more (length question + length made + 1);
      as_many = step_count-append made (Add (renumbered (length question) numbers step) ∷ []) ∙ ap (λ n. n + 1) d.as_many ∙ sym (length-append made (Add (renumbered (length question) numbers step) ∷ []));
    }

  draft_step : (b : Bool) → is_next_used (length question) flags numbers ≡ b → (get_or flags (length question + length numbers + 1) false ≡ true → are_up flags step.hints ≡ true) →
      IsDraft question flags (pre ++ Add step ∷ []) (numbers ++ (if b then length question + length made + 1 else 0) ∷ [])
      (if b then made ++ Add (renumbered (length question) numbers step) ∷ [] else made)
  draft_step true e u = draft_keep (u e)
  draft_step false e u = draft_skip e

pub IsDraft-next : (question : List (List ℤ)) (flags : List Bool) (pre made : List Act) (numbers : List ℕ) (act : Act) → IsDraft question flags pre numbers made →
    AreValid (variables_of question) (full (map Some question) pre) (act ∷ []) → AreUsed flags (length question + step_count pre) (act ∷ []) →
    IsDraft question flags (pre ++ act ∷ []) (with_number (length question) flags numbers made act) (with_kept (length question) flags numbers made act)
IsDraft-next question flags pre made numbers (Add step) d v u =
    draft_step question flags pre made numbers step d v.0 (is_next_used (length question) flags numbers) refl
    (subst (λ n. get_or flags (length question + n + 1) false ≡ true → are_up flags step.hints ≡ true) (sym d.counted) u.0)
IsDraft-next question flags pre made numbers (Remove ns) d v u = record {
  closed = d.closed;
  reached = d.reached;
  part = subst (IsPart (shown (map Some question) made)) (sym (shown-append pre (Remove ns ∷ []) (map Some question) ∙ append-nil (shown (map Some question) pre))) d.part;
  maps = subst (λ x. Maps (length question) flags numbers x (full (map Some question) made)) (sym (full-append pre (Remove ns ∷ []) (map Some question))) d.maps;
  counted = d.counted ∙ sym (step_count-append pre (Remove ns ∷ []) ∙ omega arith);
  as_many = d.as_many;
}

-- what holds of a whole log holds at each place
pub valid_at : (acts : List Act) (k variables : ℕ) (all : List (Option (List ℤ))) (act : Act) → k < length acts → drop k acts ≡ act ∷ drop (k + 1) acts →
    AreValid variables all acts → AreValid variables (full all (take k acts)) (act ∷ [])
valid_at [] k variables all act lt e v = absurd (omega arith)
valid_at (Add step ∷ acts) zero variables all act lt e v = let s : Add step ≡ act = cc in subst (λ x. AreValid variables all (x ∷ [])) s (v.0, tt)
valid_at (Remove ns ∷ acts) zero variables all act lt e v = let s : Remove ns ≡ act = cc in subst (λ x. AreValid variables all (x ∷ [])) s tt
valid_at (Add step ∷ acts) (suc k) variables all act lt e v =
    let n : suc k + 1 ≡ suc (k + 1) = omega arith in
    valid_at acts k variables (all ++ Some step.lits ∷ []) act (omega arith) (e ∙ ap (λ m. act ∷ drop m (Add step ∷ acts)) n) v.1
valid_at (Remove ns ∷ acts) (suc k) variables all act lt e v =
    let n : suc k + 1 ≡ suc (k + 1) = omega arith in
    valid_at acts k variables all act (omega arith) (e ∙ ap (λ m. act ∷ drop m (Remove ns ∷ acts)) n) v

pub used_at : (acts : List Act) (k n : ℕ) (flags : List Bool) (act : Act) → k < length acts → drop k acts ≡ act ∷ drop (k + 1) acts →
    AreUsed flags n acts → AreUsed flags (n + step_count (take k acts)) (act ∷ [])
used_at [] k n flags act lt e u = absurd (omega arith)
used_at (Add step ∷ acts) zero n flags act lt e u =
    let s : Add step ≡ act = cc in let m : n ≡ n + 0 = omega arith in
    subst (λ x. x) (λ i. AreUsed flags (m i) (s i ∷ [])) (u.0, tt)
used_at (Remove ns ∷ acts) zero n flags act lt e u = let s : Remove ns ≡ act = cc in subst (λ x. AreUsed flags (n + 0) (x ∷ [])) s tt
used_at (Add step ∷ acts) (suc k) n flags act lt e u =
    let p : suc k + 1 ≡ suc (k + 1) = omega arith in
    let m : (n + 1) + step_count (take k acts) ≡ n + suc (step_count (take k acts)) = omega arith in
    subst (λ x. AreUsed flags x (act ∷ [])) m (used_at acts k (n + 1) flags act (omega arith) (e ∙ ap (λ q. act ∷ drop q (Add step ∷ acts)) p) u.1)
used_at (Remove ns ∷ acts) (suc k) n flags act lt e u =
    let p : suc k + 1 ≡ suc (k + 1) = omega arith in
    used_at acts k n flags act (omega arith) (e ∙ ap (λ q. act ∷ drop q (Remove ns ∷ acts)) p) u

-- one act of the loop
pub IsDraft-step : (question : List (List ℤ)) (flags : List Bool) (log made : List Act) (numbers : List ℕ) (k : ℕ) (act : Act) → k < length log →
    drop k log ≡ act ∷ drop (k + 1) log → AreValid (variables_of question) (map Some question) log → AreUsed flags (length question) log →
    IsDraft question flags (take k log) numbers made →
    IsDraft question flags (take (k + 1) log) (with_number (length question) flags numbers made act) (with_kept (length question) flags numbers made act)
IsDraft-step question flags log made numbers k act lt e v u d =
    subst (λ x. IsDraft question flags x (with_number (length question) flags numbers made act) (with_kept (length question) flags numbers made act))
    (sym (step_count-take log k act lt e))
    (IsDraft-next question flags (take k log) made numbers act d (valid_at log k (variables_of question) (map Some question) act lt e v)
    (used_at log k (length question) flags act lt e u))

-- the front of a log
pub valid_take : (k variables : ℕ) (acts : List Act) (all : List (Option (List ℤ))) → AreValid variables all acts → AreValid variables all (take k acts)
valid_take zero variables acts all v = tt
valid_take (suc k) variables [] all v = tt
valid_take (suc k) variables (Add step ∷ acts) all v = (v.0, valid_take k variables acts (all ++ Some step.lits ∷ []) v.1)
valid_take (suc k) variables (Remove ns ∷ acts) all v = valid_take k variables acts all v

pub earlier_take : (k n : ℕ) (acts : List Act) → AreEarlier n acts → AreEarlier n (take k acts)
earlier_take zero n acts h = tt
earlier_take (suc k) n [] h = tt
earlier_take (suc k) n (Add step ∷ acts) h = (h.0, earlier_take k (n + 1) acts h.1)
earlier_take (suc k) n (Remove ns ∷ acts) h = earlier_take k n acts h
