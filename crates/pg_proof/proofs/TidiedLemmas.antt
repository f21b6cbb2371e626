-- A log with clauses taken away behind their last use shows what it did, and is accepted as before.
use Rattle.std.proofs.Common.{◌≡◌, ℕ, suc, ◌+◌, ◌<◌, ◌≤◌, Bool, true, false, not, ◌&&◌, ◌||◌, ltb, eqb, if◌then◌else◌, List, [], ◌∷◌, ◌++◌, length, get_or, map, reverse, set, Option, Some, None, refl, sym, ap, subst, ◌∙◌, arith, ℤ, ⊎_elim, IsTrue}
use Rattle.std.specs.Prelude.{⊤, IsSomeAnd}
use Rattle.std.specs.Option.{option_and_then, option_map}
use Rattle.std.proofs.lemmas.List.{length-append, length-map, append-nil, reverse-append, map-id}
use Rattle.std.proofs.lemmas.Option.{same_Some}
use Rattle.std.proofs.lemmas.Bool.{false≢true}
use Rattle.std.proofs.lemmas.Bool.Decides.{nat_tests}
use Rattle.pg_proof.specs.declared.step.Step.{Step}
use Rattle.pg_proof.specs.declared.step.Act.{Act}
use Rattle.pg_proof.specs.declared.step.Act.TheVariants.{Add, Remove}
use Rattle.pg_proof.specs.State.{State, clause_at, variables_of, begun, is_empty}
use Rattle.pg_proof.specs.Refutation.{fault_of}
use Rattle.pg_proof.specs.Removal.{without, after_removal}
use Rattle.pg_proof.specs.Kept.{state_of}
use Rattle.pg_proof.specs.Log.{after_acts_from}
use Rattle.pg_proof.specs.Tight.{hint_clauses}
use Rattle.pg_proof.specs.Trimmed.{shown, IsPart, EndsEmpty, IsTrimmed, step_count, has_hint, is_named, AreServing, AreAscending, IsTidyFrom}
use Rattle.pg_proof.specs.Numbering.{adds_empty, AreAtMost, AreEarlier, AreValid}
use Rattle.pg_proof.specs.Drafts.{IsPicked}
use Rattle.pg_proof.specs.Tidied.{is_fresh, fresh, ascending, named_flags, with_removal, backward, tidied}
use Rattle.pg_proof.proofs.GivenLemmas.{AreMapped, AreKnown, Numbered, numbered, clause_at-push, clause_at-last, fault_of-mapped, known_hints, given_log, number_below, closed_after, IsSub-without}
use Rattle.pg_proof.proofs.RemovalLemmas.{length-without}
use Rattle.pg_proof.proofs.WithinLemmas.{both}
use Rattle.std.specs.List.{list_any}
use Rattle.pg_proof.proofs.DraftLemmas.{valid_added}
use Rattle.pg_proof.proofs.UseLemmas.{or_first, or_later}
use Rattle.pg_proof.proofs.AscendingLemmas.{AreFrom, ascending-from, without-ascending}
use Rattle.pg_proof.proofs.SpentLemmas.{either, up_or_down, AreGone, AreHeld, gone, length-named_flags, named_up, up_named}

-- acts in order: a step, a removal, and what is made of the others
abbrev removal : List ℕ → List Act
removal [] = []
removal (n ∷ ns) = Remove (n ∷ ns) ∷ []

abbrev gap : ℕ → ℕ → Step → List Act → List Act
gap q places step [] = []
gap q places step (next ∷ acts) = removal (ascending (fresh q (named_flags places (next ∷ acts)) step.hints))

with_removal-some : (made : List Act) (ns : List ℕ) → 0 < length made → with_removal made ns ≡ made ++ removal ns
with_removal-some [] ns lt = absurd (omega (arith, lt))
with_removal-some (act ∷ made) [] lt = sym (append-nil (act ∷ made))
with_removal-some (act ∷ made) (n ∷ ns) lt = refl

some_last : (acts : List Act) (act : Act) → 0 < length (acts ++ act ∷ [])
some_last acts act = omega (arith, length-append acts (act ∷ []))

backward-some : (q places : ℕ) (act : Act) (acts : List Act) → 0 < length (backward q places (act ∷ acts))
backward-some q places (Add step) acts = some_last (with_removal (backward q places acts) (ascending (fresh q (named_flags places acts) step.hints))) (Add step)
backward-some q places (Remove ns) acts = some_last (backward q places acts) (Remove ns)

reverse-removal : (ns : List ℕ) → reverse (removal ns) ≡ removal ns
reverse-removal [] = refl
reverse-removal (n ∷ ns) = refl

tidied-step : (q places : ℕ) (step : Step) (acts : List Act) → tidied q places (Add step ∷ acts) ≡ Add step ∷ (gap q places step acts ++ tidied q places acts)
tidied-step q places step [] = refl
tidied-step q places step (next ∷ acts) =
    let back = backward q places (next ∷ acts) in
    let ns = ascending (fresh q (named_flags places (next ∷ acts)) step.hints) in
    reverse-append (with_removal back ns) (Add step ∷ [])
    ∙ ap (λ x. Add step ∷ x)
    (ap reverse (with_removal-some back ns (backward-some q places next acts)) ∙ reverse-append back (removal ns) ∙ ap (λ x. x ++ reverse back) (reverse-removal ns))

tidied-removal : (q places : ℕ) (ns : List ℕ) (acts : List Act) → tidied q places (Remove ns ∷ acts) ≡ Remove ns ∷ tidied q places acts
tidied-removal q places ns acts = reverse-append (backward q places acts) (Remove ns ∷ [])

-- what no removal changes
removal-skip : {A : Type 0} (f : List Act → A) (ns : List ℕ) (xs : List Act) → ((ms : List ℕ) → f (Remove ms ∷ xs) ≡ f xs) → f (removal ns ++ xs) ≡ f xs
removal-skip f [] xs skip = refl
removal-skip f (n ∷ ns) xs skip = skip (n ∷ ns)

gap-skip : {A : Type 0} (f : List Act → A) (q places : ℕ) (step : Step) (acts xs : List Act) → ((ms : List ℕ) → f (Remove ms ∷ xs) ≡ f xs) → f (gap q places step acts ++ xs) ≡ f xs
gap-skip f q places step [] xs skip = refl
gap-skip f q places step (next ∷ acts) xs skip = removal-skip f (ascending (fresh q (named_flags places (next ∷ acts)) step.hints)) xs skip

named-tidied : (acts : List Act) (q places h : ℕ) → is_named h (tidied q places acts) ≡ is_named h acts
named-tidied [] q places h = refl
named-tidied (Add step ∷ acts) q places h =
    ap (is_named h) (tidied-step q places step acts)
    ∙ ap (λ b. has_hint step.hints h || b) (gap-skip (is_named h) q places step acts (tidied q places acts) (λ ms. refl) ∙ named-tidied acts q places h)
named-tidied (Remove ns ∷ acts) q places h = ap (is_named h) (tidied-removal q places ns acts) ∙ named-tidied acts q places h

count-tidied : (acts : List Act) (q places : ℕ) → step_count (tidied q places acts) ≡ step_count acts
count-tidied [] q places = refl
count-tidied (Add step ∷ acts) q places =
    ap step_count (tidied-step q places step acts)
    ∙ ap suc (gap-skip step_count q places step acts (tidied q places acts) (λ ms. refl) ∙ count-tidied acts q places)
count-tidied (Remove ns ∷ acts) q places = ap step_count (tidied-removal q places ns acts) ∙ count-tidied acts q places

shown-tidied : (acts : List Act) (q places : ℕ) (all : List (Option (List ℤ))) → shown all (tidied q places acts) ≡ shown all acts
shown-tidied [] q places all = refl
shown-tidied (Add step ∷ acts) q places all =
    ap (shown all) (tidied-step q places step acts)
    ∙ ap (λ xs. (step.lits, hint_clauses all step.hints) ∷ xs)
    (gap-skip (shown (all ++ Some step.lits ∷ [])) q places step acts (tidied q places acts) (λ ms. refl) ∙ shown-tidied acts q places (all ++ Some step.lits ∷ []))
shown-tidied (Remove ns ∷ acts) q places all = ap (shown all) (tidied-removal q places ns acts) ∙ shown-tidied acts q places all

EndsEmpty-more : (front acts : List Act) → EndsEmpty acts → EndsEmpty (front ++ acts)
EndsEmpty-more [] acts e = e
EndsEmpty-more (a ∷ []) [] e = absurd e
EndsEmpty-more (a ∷ []) (b ∷ acts) e = e
EndsEmpty-more (a ∷ b ∷ front) acts e = EndsEmpty-more (b ∷ front) acts e

ends-tidied : (acts : List Act) (q places : ℕ) → EndsEmpty acts → EndsEmpty (tidied q places acts)
ends-tidied [] q places e = absurd e
ends-tidied (Add step ∷ []) q places e = e
ends-tidied (Remove ns ∷ []) q places e = absurd e
ends-tidied (Add step ∷ next ∷ acts) q places e =
    subst EndsEmpty (sym (tidied-step q places step (next ∷ acts)))
    (EndsEmpty-more (Add step ∷ gap q places step (next ∷ acts)) (tidied q places (next ∷ acts)) (ends-tidied (next ∷ acts) q places e))
ends-tidied (Remove ns ∷ next ∷ acts) q places e =
    subst EndsEmpty (sym (tidied-removal q places ns (next ∷ acts)))
    (EndsEmpty-more (Remove ns ∷ []) (tidied q places (next ∷ acts)) (ends-tidied (next ∷ acts) q places e))

past_of : (a b : ℕ) (c : Bool) → ltb a b && c ≡ true → a < b
past_of a b c e = let t = (both (ltb a b) c e).0 in grind (arith, nat_tests, t)

one_fresh : (b : Bool) (q : ℕ) (flags : List Bool) (h : ℕ) (ns : List ℕ) → is_fresh q flags h ≡ b → AreFrom (q + 1) ns → AreFrom (q + 1) ((if b then h ∷ [] else []) ++ ns)
one_fresh true q flags h ns e of = let p = past_of q h (not (get_or flags h false)) e in (omega (arith, p), of)
one_fresh false q flags h ns e of = of

fresh-of_steps : (hs : List ℕ) (q : ℕ) (flags : List Bool) → AreFrom (q + 1) (fresh q flags hs)
fresh-of_steps [] q flags = tt
fresh-of_steps (h ∷ hs) q flags = one_fresh (is_fresh q flags h) q flags h (fresh q (set flags h true) hs) refl (fresh-of_steps hs q (set flags h true))

-- acts that are accepted from a state on, and tidy there
abbrev Runs : ℕ → State → List Act → Type 0
Runs q state acts = ((final : State) × (after_acts_from state acts ≡ Some final)) × IsTidyFrom q state acts

removal_runs : (q variables : ℕ) (closed : Bool) (held after : List (Option (List ℤ))) (ns : List ℕ) (acts : List Act) → without held ns ≡ Some after → AreAscending (q + 1) ns →
    Runs q (state_of variables after closed) acts → Runs q (state_of variables held closed) (removal ns ++ acts)
removal_runs q variables closed held after [] acts e of r = subst (λ x. Runs q (state_of variables x closed) acts) (sym (same_Some held after e)) r
removal_runs q variables closed held after (n ∷ ns) acts e of r =
    let state = state_of variables held closed in
    let gone_so : after_removal state (n ∷ ns) ≡ Some (state_of variables after closed) = ap (option_map (λ x. record state { held = x })) e in (
      (r.0.0, ap (option_and_then (λ s. after_acts_from s acts)) gone_so ∙ r.0.1),
      (
        omega arith,
        of,
        λ s f. subst (λ x. IsTidyFrom q x acts) (same_Some (state_of variables after closed) s (sym gone_so ∙ f)) r.1,
      ),
    )

-- hints of a step
mapped_by : (all held : List (Option (List ℤ))) (hs : List ℕ) → ((h : ℕ) (c : List ℤ) → has_hint hs h ≡ true → clause_at all h ≡ Some c → clause_at held h ≡ Some c) →
    AreMapped all held (λ h. h) hs
mapped_by all held [] m = tt
mapped_by all held (h ∷ hs) m = (
  (λ c e. m h c (or_first (eqb h h) (has_hint hs h) (itself h)) e),
  mapped_by all held hs (λ k c has e. m k c (or_later (eqb h k) (has_hint hs k) has) e),
)
  where
    itself : (a : ℕ) → eqb a a ≡ true
    itself a = grind (arith, nat_tests)

known_one : (held : List (Option (List ℤ))) (hs : List ℕ) (h : ℕ) → AreKnown held hs → has_hint hs h ≡ true → (c : List ℤ) × (clause_at held h ≡ Some c)
known_one held [] h k has = absurd (false≢true has)
known_one held (m ∷ hs) h k has =
    ⊎_elim (λ e. (k.0.0, ap (clause_at held) (sym (same m h e)) ∙ k.0.1)) (λ t. known_one held hs h k.1 t) (either (eqb m h) (has_hint hs h) has)
  where
    same : (a b : ℕ) → eqb a b ≡ true → a ≡ b
    same a b e = grind (arith, nat_tests)

no_later_hint : (n h : ℕ) (hs : List ℕ) → AreAtMost n hs → n < h → has_hint hs h ≡ true → ⊥
no_later_hint n h [] a lt has = false≢true has
no_later_hint n h (m ∷ hs) a lt has = ⊎_elim (λ e. other m h e (omega (arith, a.0, lt))) (λ t. no_later_hint n h hs a.1 lt t) (either (eqb m h) (has_hint hs h) has)
  where
    other : (a b : ℕ) → eqb a b ≡ true → a < b → ⊥
    other a b e lt = grind (arith, nat_tests)

-- acts that are steps
abbrev AreSteps : List Act → Type 0
AreSteps [] = ⊤
AreSteps (Add step ∷ acts) = AreSteps acts
AreSteps (Remove ns ∷ acts) = ⊥

few_steps : (acts : List Act) → step_count acts ≤ length acts
few_steps [] = omega arith
few_steps (Add step ∷ acts) = let r = few_steps acts in omega (arith, r)
few_steps (Remove ns ∷ acts) = let r = few_steps acts in omega (arith, r)

only_steps : (acts : List Act) → step_count acts ≡ length acts → AreSteps acts
only_steps [] e = tt
only_steps (Add step ∷ acts) e = only_steps acts (omega (arith, e))
only_steps (Remove ns ∷ acts) e = let r = few_steps acts in absurd (omega (arith, r, e))

-- what is held serves the acts to come, all that they name is held, and each but the last is named
record IsServed (q : ℕ) (all held : List (Option (List ℤ))) (acts : List Act) : Type 0 where
  same : length held ≡ length all
  keeps : (h : ℕ) (c : List ℤ) → is_named h acts ≡ true → clause_at all h ≡ Some c → clause_at held h ≡ Some c
  serves : AreServing q held acts
  names : (p : ℕ) → suc p < length acts → is_named (length all + p + 1) acts ≡ true

-- one step, and the removal behind it
module _ (q places variables : ℕ) (all held : List (Option (List ℤ))) (closed : Bool) (step : Step) (next : Act) (more : List Act)
    (valid : fault_of variables held step ≡ None) (early : AreAtMost (length all) step.hints) (later : AreEarlier (length all + 1) (next ∷ more))
    (room : length all + 1 + length (next ∷ more) ≤ places) (past : q ≤ length all) (s : IsServed q all held (Add step ∷ next ∷ more)) where
  abbrev acts : List Act
  acts = next ∷ more

  abbrev flags : List Bool
  flags = named_flags places acts

  abbrev longer : List (Option (List ℤ))
  longer = held ++ Some step.lits ∷ []

  count : (xs : List (Option (List ℤ))) → length (xs ++ Some step.lits ∷ []) ≡ length xs + 1
  count xs = length-append xs (Some step.lits ∷ [])

  wanted : AreHeld q flags step.hints longer
  wanted h has down lt =
      let k = known_one held step.hints h (known_hints variables held step valid) has in
      (k.0, clause_at-push held (Some step.lits) h k.0 k.1)

  left : (after : List (Option (List ℤ))) × AreGone q flags step.hints longer after
  left = gone step.hints q (length all) flags longer early (rw (length-named_flags acts places) (omega (arith, room))) wanted

  own : is_named (length all + 1) acts ≡ true
  own =
      let n : length all + 0 + 1 ≡ length all + 1 = omega arith in
      ⊎_elim (λ e. absurd (no_later_hint (length all) (length all + 1) step.hints early (omega arith) e)) (λ e. e)
      (either (has_hint step.hints (length all + 1)) (is_named (length all + 1) acts)
      (ap (λ m. is_named m (Add step ∷ acts)) (sym n) ∙ s.names 0 (omega arith)))

  keeps_next : (h : ℕ) (c : List ℤ) → is_named h acts ≡ true → clause_at (all ++ Some step.lits ∷ []) h ≡ Some c → clause_at left.0 h ≡ Some c
  keeps_next h c named e = left.1.stays h (named_up acts places (length all + 1) h later room named) ∙ by (numbered all step.lits c h e)
    where
      by : Numbered all step.lits h c → clause_at longer h ≡ Some c
      by (Numbered.old f) = clause_at-push held (Some step.lits) h c (s.keeps h c (or_later (has_hint step.hints h) (is_named h acts) named) f)
      by (Numbered.new n f) = clause_at-last held step.lits h (n ∙ ap (λ m. m + 1) (sym s.same)) ∙ ap Some f

  serves_next : AreServing q left.0 acts
  serves_next h c lt there = by (is_named h acts) refl (numbered held step.lits c h (IsSub-without (fresh q flags step.hints) longer left.0 longer left.1.removed (λ m d f. f) h c there))
    where
      low : is_named h acts ≡ false → get_or flags h false ≡ false
      low e = ⊎_elim (λ u. absurd (false≢true (sym e ∙ up_named acts places h u))) (λ d. d) (up_or_down (get_or flags h false))

      by : (b : Bool) → is_named h acts ≡ b → Numbered held step.lits h c → b ≡ true
      by true e n = refl
      by false e (Numbered.old f) =
          ⊎_elim (λ has. absurd (left.1.spent h c lt (low e) has there)) (λ named. sym e ∙ named)
          (either (has_hint step.hints h) (is_named h acts) (s.serves h c lt f))
      by false e (Numbered.new n f) = sym e ∙ ap (λ m. is_named m acts) (n ∙ ap (λ m. m + 1) s.same) ∙ own

  names_next : (p : ℕ) → suc p < length acts → is_named (length (all ++ Some step.lits ∷ []) + p + 1) acts ≡ true
  names_next p lt =
      let n : length all + suc p + 1 ≡ length (all ++ Some step.lits ∷ []) + p + 1 = omega (arith, count all) in
      ap (λ m. is_named m acts) (sym n)
      ∙ ⊎_elim (λ e. absurd (no_later_hint (length all) (length all + suc p + 1) step.hints early (omega arith) e)) (λ e. e)
      (either (has_hint step.hints (length all + suc p + 1)) (is_named (length all + suc p + 1) acts) (s.names (suc p) (omega (arith, lt))))

  served_next : IsServed q (all ++ Some step.lits ∷ []) left.0 acts
  served_next = record {
    same = length-without (fresh q flags step.hints) longer left.0 left.1.removed ∙ count held ∙ ap (λ m. m + 1) s.same ∙ sym (count all);
    keeps = keeps_next;
    serves = serves_next;
    names = names_next;
  }

  gap_runs : (tail : List Act) → Runs q (state_of variables left.0 (closed || is_empty step.lits)) tail →
      Runs q (state_of variables longer (closed || is_empty step.lits)) (gap q places step acts ++ tail)
  gap_runs tail r = removal_runs q variables (closed || is_empty step.lits) longer left.0 (ascending (fresh q flags step.hints)) tail
      (without-ascending (fresh q flags step.hints) longer ∙ left.1.removed) (ascending-from (q + 1) (fresh q flags step.hints) (fresh-of_steps step.hints q flags)) r

step_runs : (q variables : ℕ) (held : List (Option (List ℤ))) (closed : Bool) (step : Step) (tail : List Act) → fault_of variables held step ≡ None →
    AreServing q held (Add step ∷ tail) → Runs q (state_of variables (held ++ Some step.lits ∷ []) (closed || is_empty step.lits)) tail →
    Runs q (state_of variables held closed) (Add step ∷ tail)
step_runs q variables held closed step tail valid serves r = (
  (
    r.0.0,
    ap (option_and_then (λ s. after_acts_from s tail))
        (valid_added (fault_of variables held step) (state_of variables held closed) (state_of variables (held ++ Some step.lits ∷ []) (closed || is_empty step.lits)) valid)
        ∙ r.0.1,
  ),
  (serves, r.1),
)

still_valid : (variables : ℕ) (all held : List (Option (List ℤ))) (step : Step) (acts : List Act) →
    ((h : ℕ) (c : List ℤ) → is_named h (Add step ∷ acts) ≡ true → clause_at all h ≡ Some c → clause_at held h ≡ Some c) →
    fault_of variables all step ≡ None → fault_of variables held step ≡ None
still_valid variables all held step acts keeps e =
    ap (λ hs. fault_of variables held (record { lits = step.lits; hints = hs })) (sym (map-id step.hints))
    ∙ fault_of-mapped variables all held (λ h. h) step.lits step.hints
    (mapped_by all held step.hints (λ h c has f. keeps h c (or_first (has_hint step.hints h) (is_named h acts) has) f)) e

tidied_runs : (acts : List Act) (q places variables : ℕ) (all held : List (Option (List ℤ))) (closed : Bool) → AreSteps acts → AreValid variables all acts →
    AreEarlier (length all) acts → length all + length acts ≤ places → q ≤ length all → IsServed q all held acts → Runs q (state_of variables held closed) (tidied q places acts)
tidied_runs [] q places variables all held closed steps v early room past s = ((state_of variables held closed, refl), tt)
tidied_runs (Remove ns ∷ acts) q places variables all held closed steps v early room past s = absurd steps
tidied_runs (Add step ∷ []) q places variables all held closed steps v early room past s =
    step_runs q variables held closed step [] (still_valid variables all held step [] s.keeps v.0) s.serves
    ((state_of variables (held ++ Some step.lits ∷ []) (closed || is_empty step.lits), refl), tt)
tidied_runs (Add step ∷ next ∷ more) q places variables all held closed steps v early room past s =
    let valid = still_valid variables all held step (next ∷ more) s.keeps v.0 in
    let count : length (all ++ Some step.lits ∷ []) ≡ length all + 1 = length-append all (Some step.lits ∷ []) in
    let room_next : length all + 1 + length (next ∷ more) ≤ places = omega (arith, room) in
    let tail = tidied q places (next ∷ more) in
    let r = tidied_runs (next ∷ more) q places variables (all ++ Some step.lits ∷ [])
    (left q places variables all held closed step next more valid early.0 early.1 room_next past s).0 (closed || is_empty step.lits) steps v.1
    (subst (λ n. AreEarlier n (next ∷ more)) (sym count) early.1) (rw count room_next) (rw count (omega (arith, past)))
    (served_next q places variables all held closed step next more valid early.0 early.1 room_next past s) in
    let named : (h : ℕ) → is_named h (Add step ∷ next ∷ more) ≡ is_named h (Add step ∷ (gap q places step (next ∷ more) ++ tail)) =
    λ h. sym (named-tidied (Add step ∷ next ∷ more) q places h) ∙ ap (is_named h) (tidied-step q places step (next ∷ more)) in
    subst (Runs q (state_of variables held closed)) (sym (tidied-step q places step (next ∷ more)))
    (step_runs q variables held closed step (gap q places step (next ∷ more) ++ tail) valid (λ h c lt e. sym (named h) ∙ s.serves h c lt e)
    (gap_runs q places variables all held closed step next more valid early.0 early.1 room_next past s tail r))

-- the log of a question with clauses taken away
empty-tidied : (acts : List Act) (q places : ℕ) → list_any adds_empty (tidied q places acts) ≡ list_any adds_empty acts
empty-tidied [] q places = refl
empty-tidied (Add step ∷ acts) q places =
    ap (list_any adds_empty) (tidied-step q places step acts)
    ∙ ap (λ b. is_empty step.lits || b) (gap-skip (list_any adds_empty) q places step acts (tidied q places acts) (λ ms. refl) ∙ empty-tidied acts q places)
empty-tidied (Remove ns ∷ acts) q places = ap (list_any adds_empty) (tidied-removal q places ns acts) ∙ empty-tidied acts q places

served_begun : (question : List (List ℤ)) (acts : List Act) → step_count acts ≡ length acts →
    ((p : ℕ) → suc p < step_count acts → is_named (length question + p + 1) acts ≡ true) → IsServed (length question) (map Some question) (map Some question) acts
served_begun question acts steps names = record {
  same = refl;
  keeps = λ h c named e. e;
  serves = λ h c lt e. absurd (omega (arith, lt, number_below (map Some question) h c e, length-map question (λ d. Some d)));
  names = λ p lt. ap (λ n. is_named (n + p + 1) acts) (length-map question (λ d. Some d)) ∙ names p (omega (arith, lt, steps));
}

pub trimmed : (question : List (List ℤ)) (given acts log : List Act) (places : ℕ) → log ≡ tidied (length question) places acts → places ≡ length question + length acts + 1 →
    IsPicked question given acts → IsTrimmed question given log
trimmed question given acts log places made p picked =
    let q = length question in
    let known = given_log question acts picked.closed in
    let count : length (map Some question) ≡ q = length-map question (λ c. Some c) in
    let runs : Runs q (begun question) (tidied q places acts) =
    tidied_runs acts q places (variables_of question) (map Some question) (map Some question) false (only_steps acts picked.steps) known.valid
    (subst (λ n. AreEarlier n acts) (sym count) known.earlier) (omega (arith, count, p)) (omega (arith, count)) (served_begun question acts picked.steps picked.named) in
    let closed : runs.0.0.closed ≡ true =
    closed_after (tidied q places acts) (begun question) runs.0.0 runs.0.1 ∙ empty-tidied acts q places ∙ known.ends in
    subst (IsTrimmed question given) (sym made)
    (record {
      closed = subst (λ o. IsSomeAnd o (λ after. IsTrue after.closed)) (sym runs.0.1) closed;
      part = subst (λ x. IsPart x (shown (map Some question) given)) (sym (shown-tidied acts q places (map Some question))) picked.part;
      last = ends-tidied acts q places picked.last;
      named = λ k lt. named-tidied acts q places (q + k + 1) ∙ picked.named k (omega (arith, lt, count-tidied acts q places));
      tidy = runs.1;
    })
