-- Hints that are named for the last time, and what is held without their clauses.
use Rattle.std.proofs.Common.{◌≡◌, ◌≢◌, ℕ, zero, suc, ◌+◌, ◌-◌, ◌<◌, ◌≤◌, Bool, true, false, not, ◌&&◌, ◌||◌, ltb, eqb, if◌then◌else◌, List, [], ◌∷◌, ◌++◌, length, get_or, set, Option, Some, None, is_some, slice_get, refl, sym, ap, subst, ◌∙◌, arith, ℤ, ◌⊎◌, inl, inr, ⊎_elim}
use Rattle.std.specs.Option.{option_and_then}
use Rattle.std.proofs.lemmas.List.{length-set, length-replicate, get_or-set_same, get_or-set_other}
use Rattle.std.proofs.lemmas.Bool.{false≢true}
use Rattle.std.proofs.lemmas.Bool.Decides.{nat_tests}
use Rattle.pg_proof.specs.declared.step.Act.{Act}
use Rattle.pg_proof.specs.declared.step.Act.TheVariants.{Add, Remove}
use Rattle.pg_proof.specs.State.{clause_at}
use Rattle.pg_proof.specs.Removal.{without}
use Rattle.pg_proof.specs.Trimmed.{has_hint, is_named}
use Rattle.pg_proof.specs.Numbering.{raised, are_up, AreAtMost, AreEarlier}
use Rattle.pg_proof.specs.Tidied.{is_fresh, fresh, named_flags}
use Rattle.pg_proof.proofs.WithinLemmas.{both}
use Rattle.pg_proof.proofs.MarkedLemmas.{none_up}
use Rattle.pg_proof.proofs.GivenLemmas.{IsSub-without}
use Rattle.pg_proof.proofs.UseLemmas.{set_up, set_from, raised_keeps, raised_itself, raised_from, length-raised, or_first, or_later}

-- a clause that is taken away, and the others
pub get-set_other : (held : List (Option (List ℤ))) (j k : ℕ) → k ≢ j → slice_get (set held j None) k ≡ slice_get held k
get-set_other [] j k ne = refl
get-set_other (d ∷ held) zero zero ne = absurd (ne refl)
get-set_other (d ∷ held) zero (suc k) ne = refl
get-set_other (d ∷ held) (suc j) zero ne = refl
get-set_other (d ∷ held) (suc j) (suc k) ne = get-set_other held j k (λ e. ne (ap suc e))

pub clause_at-set_other : (held : List (Option (List ℤ))) (n h : ℕ) → 0 < n → h ≢ n → clause_at (set held (n - 1) None) h ≡ clause_at held h
clause_at-set_other held n zero lt ne = refl
clause_at-set_other held n (suc k) lt ne = ap (option_and_then (λ c. c)) (get-set_other held (n - 1) k (λ e. ne (omega (arith, e, lt))))

get-set_same : (held : List (Option (List ℤ))) (j : ℕ) → option_and_then (λ c. c) (slice_get (set held j None) j) ≡ None
get-set_same [] j = refl
get-set_same (d ∷ held) zero = refl
get-set_same (d ∷ held) (suc j) = get-set_same held j

clause_at-set_same : (held : List (Option (List ℤ))) (n : ℕ) → clause_at (set held (n - 1) None) n ≡ None
clause_at-set_same held zero = refl
clause_at-set_same held (suc k) =
    let p : suc k - 1 ≡ k = omega arith in ap (λ j. option_and_then (λ c. c) (slice_get (set held j None) k)) p ∙ get-set_same held k

-- tests
pub either : (b c : Bool) → b || c ≡ true → (b ≡ true) ⊎ (c ≡ true)
either true c e = inl refl
either false c e = inr e

pub up_or_down : (b : Bool) → (b ≡ true) ⊎ (b ≡ false)
up_or_down true = inl refl
up_or_down false = inr refl

eq_of : (a b : ℕ) → eqb a b ≡ true → a ≡ b
eq_of a b e = grind (arith, nat_tests)

eq_itself : (a : ℕ) → eqb a a ≡ true
eq_itself a = grind (arith, nat_tests)

lt_of : (a b : ℕ) → ltb a b ≡ true → a < b
lt_of a b e = grind (arith, nat_tests)

lt_test : (a b : ℕ) → a < b → ltb a b ≡ true
lt_test a b e = grind (arith, nat_tests)

down_of : (b : Bool) → not b ≡ true → b ≡ false
down_of true e = cc
down_of false e = refl

fresh_test : (a b : Bool) → a ≡ true → b ≡ false → a && not b ≡ true
fresh_test true false e f = refl
fresh_test true true e f = cc
fresh_test false b e f = cc

-- what is held once the clauses of fresh hints are taken away
pub record AreGone (question : ℕ) (flags : List Bool) (hints : List ℕ) (held after : List (Option (List ℤ))) : Type 0 where
  pub removed : without held (fresh question flags hints) ≡ Some after
  pub stays : (h : ℕ) → get_or flags h false ≡ true → clause_at after h ≡ clause_at held h
  pub spent : (h : ℕ) (c : List ℤ) → question < h → get_or flags h false ≡ false → has_hint hints h ≡ true → clause_at after h ≡ Some c → ⊥

abbrev pub AreHeld : ℕ → List Bool → List ℕ → List (Option (List ℤ)) → Type 0
AreHeld question flags hints held =
    (h : ℕ) → has_hint hints h ≡ true → get_or flags h false ≡ false → question < h → (c : List ℤ) × (clause_at held h ≡ Some c)

module _ (question : ℕ) (flags : List Bool) (held : List (Option (List ℤ))) (h : ℕ) (hs : List ℕ) (room : h < length flags) where
  other : (k : ℕ) → get_or (set flags h true) k false ≡ false → k ≢ h
  other k down e = false≢true (sym down ∙ ap (λ x. get_or (set flags h true) x false) e ∙ get_or-set_same flags h true false room)

  was_down : (k : ℕ) → get_or (set flags h true) k false ≡ false → get_or flags k false ≡ false
  was_down k down = sym (get_or-set_other flags h k true false (other k down)) ∙ down

  still_down : (k : ℕ) → k ≢ h → get_or flags k false ≡ false → get_or (set flags h true) k false ≡ false
  still_down k ne down = get_or-set_other flags h k true false ne ∙ down

  -- one that is not fresh
  not_spent : (k : ℕ) → is_fresh question flags h ≡ false → question < k → get_or flags k false ≡ false → k ≢ h
  not_spent k e lt down same =
      false≢true (sym e ∙ fresh_test (ltb question h) (get_or flags h false) (lt_test question h (omega (arith, lt, same))) (sym (ap (λ x. get_or flags x false) same) ∙ down))

  gone_skip : is_fresh question flags h ≡ false → AreHeld question flags (h ∷ hs) held →
      (AreHeld question (set flags h true) hs held → (after : List (Option (List ℤ))) × AreGone question (set flags h true) hs held after) →
      (after : List (Option (List ℤ))) × AreGone question flags (h ∷ hs) held after
  gone_skip e all rest =
      let r = rest (λ k has down lt. all k (or_later (eqb h k) (has_hint hs k) has) (was_down k down) lt) in (
        r.0,
        record {
          removed = ap (λ b. without held ((if b then h ∷ [] else []) ++ fresh question (set flags h true) hs)) e ∙ r.1.removed;
          stays = λ k up. r.1.stays k (set_up flags h k (eqb k h) refl up);
          spent = λ k c lt down has there.
              let ne = not_spent k e lt down in
              ⊎_elim (λ s. ne (sym (eq_of h k s))) (λ t. r.1.spent k c lt (still_down k ne down) t there) (either (eqb h k) (has_hint hs k) has);
        },
      )

  -- one that is
  gone_take : is_fresh question flags h ≡ true → AreHeld question flags (h ∷ hs) held →
      (AreHeld question (set flags h true) hs (set held (h - 1) None) →
      (after : List (Option (List ℤ))) × AreGone question (set flags h true) hs (set held (h - 1) None) after) →
      (after : List (Option (List ℤ))) × AreGone question flags (h ∷ hs) held after
  gone_take e all rest =
      let p = both (ltb question h) (not (get_or flags h false)) e in
      let past : question < h = lt_of question h p.0 in
      let some : 0 < h = omega (arith, past) in
      let down : get_or flags h false ≡ false = down_of (get_or flags h false) p.1 in
      let here = all h (or_first (eqb h h) (has_hint hs h) (eq_itself h)) down past in
      let r = rest (λ k has low lt.
      let w = all k (or_later (eqb h k) (has_hint hs k) has) (was_down k low) lt in (w.0, clause_at-set_other held h k some (other k low) ∙ w.1)) in (
        r.0,
        record {
          removed = ap (λ b. without held ((if b then h ∷ [] else []) ++ fresh question (set flags h true) hs)) e
              ∙ ap (λ o. if is_some o then without (set held (h - 1) None) (fresh question (set flags h true) hs) else None) here.1 ∙ r.1.removed;
          stays = λ k up.
              r.1.stays k (set_up flags h k (eqb k h) refl up)
              ∙ clause_at-set_other held h k some (λ s. false≢true (sym down ∙ sym (ap (λ x. get_or flags x false) s) ∙ up));
          spent = λ k c lt low has there.
              ⊎_elim
              (λ s. no_clause (clause_at (set held (h - 1) None) k) c (ap (clause_at (set held (h - 1) None)) (sym (eq_of h k s)) ∙ clause_at-set_same held h)
              (IsSub-without (fresh question (set flags h true) hs) (set held (h - 1) None) r.0 (set held (h - 1) None) r.1.removed (λ m d f. f) k c there))
              (λ t. ⊎_elim
              (λ up. no_clause (clause_at (set held (h - 1) None) k) c
              (ap (clause_at (set held (h - 1) None)) (same_or_up k low up) ∙ clause_at-set_same held h)
              (IsSub-without (fresh question (set flags h true) hs) (set held (h - 1) None) r.0 (set held (h - 1) None) r.1.removed (λ m d f. f) k c there))
              (λ f. r.1.spent k c lt f t there)
              (up_or_down (get_or (set flags h true) k false)))
              (either (eqb h k) (has_hint hs k) has);
        },
      )
    where
      no_clause : (o : Option (List ℤ)) (c : List ℤ) → o ≡ None → o ≡ Some c → ⊥
      no_clause None c e f = cc
      no_clause (Some d) c e f = cc

      same_or_up : (k : ℕ) → get_or flags k false ≡ false → get_or (set flags h true) k false ≡ true → k ≡ h
      same_or_up k low up = ⊎_elim (λ m. absurd (false≢true (sym low ∙ m))) (λ m. sym m) (set_from flags h k up)

  gone_by : (b : Bool) → is_fresh question flags h ≡ b → AreHeld question flags (h ∷ hs) held →
      ((left : List (Option (List ℤ))) → AreHeld question (set flags h true) hs left → (after : List (Option (List ℤ))) × AreGone question (set flags h true) hs left after) →
      (after : List (Option (List ℤ))) × AreGone question flags (h ∷ hs) held after
  gone_by true e all rest = gone_take e all (rest (set held (h - 1) None))
  gone_by false e all rest = gone_skip e all (rest held)

pub gone : (hs : List ℕ) (question n : ℕ) (flags : List Bool) (held : List (Option (List ℤ))) → AreAtMost n hs → n < length flags → AreHeld question flags hs held →
    (after : List (Option (List ℤ))) × AreGone question flags hs held after
gone [] question n flags held a lt all = (held, record { removed = refl; stays = λ h up. refl; spent = λ h c past down has there. false≢true has })
gone (h ∷ hs) question n flags held a lt all =
    gone_by question flags held h hs (omega (arith, a.0)) (is_fresh question flags h) refl all
    (λ left wanted. gone hs question n (set flags h true) left a.1 (subst (λ m. n < m) (sym (length-set flags h true)) lt) wanted)

-- the flags of the hints of some acts
up_of : (ps : List ℕ) (flags : List Bool) (h : ℕ) → are_up flags ps ≡ true → has_hint ps h ≡ true → get_or flags h false ≡ true
up_of [] flags h u has = absurd (false≢true has)
up_of (p ∷ ps) flags h u has =
    let b = both (get_or flags p false) (are_up flags ps) u in
    ⊎_elim (λ e. ap (λ x. get_or flags x false) (sym (eq_of p h e)) ∙ b.0) (λ t. up_of ps flags h b.1 t) (either (eqb p h) (has_hint ps h) has)

pub length-named_flags : (acts : List Act) (places : ℕ) → length (named_flags places acts) ≡ places
length-named_flags [] places = length-replicate places false
length-named_flags (Add step ∷ acts) places = length-raised step.hints (named_flags places acts) ∙ length-named_flags acts places
length-named_flags (Remove ns ∷ acts) places = length-named_flags acts places

pub named_up : (acts : List Act) (places n h : ℕ) → AreEarlier n acts → n + length acts ≤ places → is_named h acts ≡ true → get_or (named_flags places acts) h false ≡ true
named_up [] places n h a le u = absurd (false≢true u)
named_up (Add step ∷ acts) places n h a le u =
    let room : n < length (named_flags places acts) = rw (length-named_flags acts places) (omega arith) in
    ⊎_elim
    (λ e. up_of step.hints (raised (named_flags places acts) step.hints) h (raised_itself step.hints (named_flags places acts) n a.0 room) e)
    (λ e. raised_keeps step.hints (named_flags places acts) h (named_up acts places (n + 1) h a.1 (omega arith) e))
    (either (has_hint step.hints h) (is_named h acts) u)
named_up (Remove ns ∷ acts) places n h a le u = named_up acts places n h a (omega arith) u

pub up_named : (acts : List Act) (places h : ℕ) → get_or (named_flags places acts) h false ≡ true → is_named h acts ≡ true
up_named [] places h u = absurd (false≢true (sym (none_up places h) ∙ u))
up_named (Add step ∷ acts) places h u =
    ⊎_elim
    (λ e. or_later (has_hint step.hints h) (is_named h acts) (up_named acts places h e))
    (λ e. or_first (has_hint step.hints h) (is_named h acts) e)
    (raised_from step.hints (named_flags places acts) h u)
up_named (Remove ns ∷ acts) places h u = up_named acts places h u
