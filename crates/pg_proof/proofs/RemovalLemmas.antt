-- Clauses that are taken away one after another, and by flags.
use Rattle.std.proofs.Common.{◌≡◌, ℕ, zero, suc, ◌+◌, ◌-◌, ◌<◌, ◌≤◌, Bool, true, false, List, [], ◌∷◌, length, get_or, set, drop, replicate, Option, Some, None, is_some, slice_get, refl, sym, ap, subst, ◌∙◌, arith, ℤ, ◌&&◌, if◌then◌else◌, IsTrue}
use Rattle.std.specs.Option.{option_and_then}
use Rattle.std.proofs.lemmas.List.{drop_more, drop_all, length-set, length-replicate}
use Rattle.pg_proof.specs.State.{State, clause_at, AreHeldWithin}
use Rattle.pg_proof.specs.Removal.{without}
use Rattle.pg_proof.specs.Sound.{held_true, all_held_true, IsSound}
use Rattle.pg_proof.proofs.WithinLemmas.{both}

-- what is held without the clauses whose flags are up
abbrev pub unflagged : List (Option (List ℤ)) → List Bool → List (Option (List ℤ))
unflagged [] flags = []
unflagged (c ∷ held) [] = c ∷ held
unflagged (c ∷ held) (b ∷ flags) = (if b then None else c) ∷ unflagged held flags

-- no flag up, or one more
pub unflagged-none : (held : List (Option (List ℤ))) (n : ℕ) → unflagged held (replicate n false) ≡ held
unflagged-none [] n = refl
unflagged-none (c ∷ held) zero = refl
unflagged-none (c ∷ held) (suc n) = ap (λ h. c ∷ h) (unflagged-none held n)

pub unflagged-set : (held : List (Option (List ℤ))) (flags : List Bool) (k : ℕ) → k < length flags → unflagged held (set flags k true) ≡ set (unflagged held flags) k None
unflagged-set [] flags k lt = refl
unflagged-set (c ∷ held) [] k lt = absurd (omega arith)
unflagged-set (c ∷ held) (b ∷ flags) zero lt = refl
unflagged-set (c ∷ held) (b ∷ flags) (suc k) lt = ap (λ h. (if b then None else c) ∷ h) (unflagged-set held flags k (omega arith))

pub slice_get-unflagged-up : (held : List (Option (List ℤ))) (flags : List Bool) (k : ℕ) → get_or flags k false ≡ true →
    option_and_then (λ c. c) (slice_get (unflagged held flags) k) ≡ None
slice_get-unflagged-up [] flags k e = refl
slice_get-unflagged-up (c ∷ held) [] k e = cc
slice_get-unflagged-up (c ∷ held) (b ∷ flags) zero e = ap (λ x. (if x then None else c)) e
slice_get-unflagged-up (c ∷ held) (b ∷ flags) (suc k) e = slice_get-unflagged-up held flags k e

pub slice_get-unflagged-down : (held : List (Option (List ℤ))) (flags : List Bool) (k : ℕ) → get_or flags k false ≡ false →
    option_and_then (λ c. c) (slice_get (unflagged held flags) k) ≡ option_and_then (λ c. c) (slice_get held k)
slice_get-unflagged-down [] flags k e = refl
slice_get-unflagged-down (c ∷ held) [] k e = refl
slice_get-unflagged-down (c ∷ held) (b ∷ flags) zero e = ap (λ x. (if x then None else c)) e
slice_get-unflagged-down (c ∷ held) (b ∷ flags) (suc k) e = slice_get-unflagged-down held flags k e

slice_get-unflagged-gone : (held : List (Option (List ℤ))) (flags : List Bool) (k : ℕ) → option_and_then (λ c. c) (slice_get held k) ≡ None →
    option_and_then (λ c. c) (slice_get (unflagged held flags) k) ≡ None
slice_get-unflagged-gone [] flags k e = refl
slice_get-unflagged-gone (c ∷ held) [] k e = e
slice_get-unflagged-gone (c ∷ held) (true ∷ flags) zero e = refl
slice_get-unflagged-gone (c ∷ held) (false ∷ flags) zero e = e
slice_get-unflagged-gone (c ∷ held) (b ∷ flags) (suc k) e = slice_get-unflagged-gone held flags k e

clause_at-unflagged-up : (held : List (Option (List ℤ))) (flags : List Bool) (n : ℕ) → get_or flags (n - 1) false ≡ true → clause_at (unflagged held flags) n ≡ None
clause_at-unflagged-up held flags zero e = refl
clause_at-unflagged-up held flags (suc k) e =
    let p : suc k - 1 ≡ k = omega arith in slice_get-unflagged-up held flags k (subst (λ m. get_or flags m false ≡ true) p e)

clause_at-unflagged-down : (held : List (Option (List ℤ))) (flags : List Bool) (n : ℕ) → get_or flags (n - 1) false ≡ false →
    clause_at (unflagged held flags) n ≡ clause_at held n
clause_at-unflagged-down held flags zero e = refl
clause_at-unflagged-down held flags (suc k) e =
    let p : suc k - 1 ≡ k = omega arith in slice_get-unflagged-down held flags k (subst (λ m. get_or flags m false ≡ false) p e)

clause_at-unflagged-gone : (held : List (Option (List ℤ))) (flags : List Bool) (n : ℕ) → clause_at held n ≡ None → clause_at (unflagged held flags) n ≡ None
clause_at-unflagged-gone held flags zero e = refl
clause_at-unflagged-gone held flags (suc k) e = slice_get-unflagged-gone held flags k e

-- a clause that is held has a place
in_bounds : (held : List (Option (List ℤ))) (k : ℕ) → IsTrue (is_some (option_and_then (λ c. c) (slice_get held k))) → k < length held
in_bounds [] k h = cc
in_bounds (c ∷ held) zero h = omega arith
in_bounds (c ∷ held) (suc k) h = let r : k < length held = in_bounds held k h in omega arith

pub clause_at-bounds : (held : List (Option (List ℤ))) (n : ℕ) → is_some (clause_at held n) ≡ true → (0 < n) × (n - 1 < length held)
clause_at-bounds held zero h = cc
clause_at-bounds held (suc k) h = let r : k < length held = in_bounds held k h in (omega arith, omega arith)

-- one number, at a place of the list of numbers
pub without-drop : (held : List (Option (List ℤ))) (ns : List ℕ) (i : ℕ) → i < length ns →
    without held (drop i ns) ≡ (if is_some (clause_at held (get_or ns i 0)) then without (set held (get_or ns i 0 - 1) None) (drop (i + 1) ns) else None)
without-drop held ns i lt = ap (without held) (drop_more ns i 0 lt)

none_there : (o : Option (List ℤ)) → is_some o ≡ false → o ≡ None
none_there None e = refl
none_there (Some c) e = cc

-- what is seen so far, by flags
pub record AreSeen (held : List (Option (List ℤ))) (flags : List Bool) (ns : List ℕ) (i : ℕ) : Type 0 where
  pub rest : is_some (without (unflagged held flags) (drop i ns)) ≡ is_some (without held ns)
  pub places : length held ≤ length flags

pub AreSeen-begun : (held : List (Option (List ℤ))) (flags : List Bool) (ns : List ℕ) (n : ℕ) → flags ≡ replicate n false → length held ≤ n →
    AreSeen held flags ns 0
AreSeen-begun held flags ns n e le =
    record {
      rest = ap (λ fs. is_some (without (unflagged held fs) ns)) e ∙ ap (λ h. is_some (without h ns)) (unflagged-none held n);
      places = subst (λ m. length held ≤ m) (sym (ap length e ∙ length-replicate n false)) le;
    }

module _ (held : List (Option (List ℤ))) (flags : List Bool) (ns : List ℕ) (i : ℕ) (lt : i < length ns) (h : AreSeen held flags ns i) where
  pub AreSeen-gone : is_some (clause_at held (get_or ns i 0)) ≡ false → false ≡ is_some (without held ns)
  AreSeen-gone e =
      sym (ap is_some (without-drop (unflagged held flags) ns i lt
      ∙ ap (λ b. (if b then without (set (unflagged held flags) (get_or ns i 0 - 1) None) (drop (i + 1) ns) else None))
      (ap is_some (clause_at-unflagged-gone held flags (get_or ns i 0) (none_there (clause_at held (get_or ns i 0)) e)))))
      ∙ h.rest

  pub AreSeen-twice : get_or flags (get_or ns i 0 - 1) false ≡ true → false ≡ is_some (without held ns)
  AreSeen-twice e =
      sym (ap is_some (without-drop (unflagged held flags) ns i lt
      ∙ ap (λ b. (if b then without (set (unflagged held flags) (get_or ns i 0 - 1) None) (drop (i + 1) ns) else None))
      (ap is_some (clause_at-unflagged-up held flags (get_or ns i 0) e))))
      ∙ h.rest

  pub AreSeen-room : is_some (clause_at held (get_or ns i 0)) ≡ true → get_or ns i 0 - 1 < length flags
  AreSeen-room some = let bounds = clause_at-bounds held (get_or ns i 0) some in omega (arith, bounds.1, h.places)

  pub AreSeen-next : (after : List Bool) → is_some (clause_at held (get_or ns i 0)) ≡ true → get_or flags (get_or ns i 0 - 1) false ≡ false →
      after ≡ set flags (get_or ns i 0 - 1) true → AreSeen held after ns (i + 1)
  AreSeen-next after some down made =
      let n = get_or ns i 0 in
      let bounds = clause_at-bounds held n some in
      let here : is_some (clause_at (unflagged held flags) n) ≡ true = ap is_some (clause_at-unflagged-down held flags n down) ∙ some in
      let step : without (unflagged held flags) (drop i ns) ≡ without (set (unflagged held flags) (n - 1) None) (drop (i + 1) ns) =
      (without-drop (unflagged held flags) ns i lt
      ∙ ap (λ b. (if b then without (set (unflagged held flags) (n - 1) None) (drop (i + 1) ns) else None)) here) in
      let room : n - 1 < length flags = omega (arith, bounds.1, h.places) in
      let made_held : unflagged held after ≡ set (unflagged held flags) (n - 1) None = ap (unflagged held) made ∙ unflagged-set held flags (n - 1) room in
      record {
        rest = ap (λ x. is_some (without x (drop (i + 1) ns))) made_held ∙ ap is_some (sym step) ∙ h.rest;
        places = subst (λ m. length held ≤ m) (sym (ap length made ∙ length-set flags (n - 1) true)) h.places;
      }

pub AreSeen-end : (held : List (Option (List ℤ))) (flags : List Bool) (ns : List ℕ) (i : ℕ) → length ns ≤ i → AreSeen held flags ns i → true ≡ is_some (without held ns)
AreSeen-end held flags ns i le h = ap (λ x. is_some (without (unflagged held flags) x)) (sym (drop_all i ns le)) ∙ h.rest

-- what is left to be taken away
pub record AreTaken (start held : List (Option (List ℤ))) (ns : List ℕ) (i : ℕ) : Type 0 where
  pub rest : without held (drop i ns) ≡ without start ns
  pub some : is_some (without start ns) ≡ true

tested : (b : Bool) (o : Option (List (Option (List ℤ)))) → is_some (if b then o else None) ≡ true → b ≡ true
tested true o h = refl
tested false o h = cc

module _ (start held : List (Option (List ℤ))) (ns : List ℕ) (i : ℕ) (lt : i < length ns) (h : AreTaken start held ns i) where
  here : is_some (clause_at held (get_or ns i 0)) ≡ true
  here = tested _ (without (set held (get_or ns i 0 - 1) None) (drop (i + 1) ns)) (ap is_some (sym (without-drop held ns i lt) ∙ h.rest) ∙ h.some)

  pub AreTaken-bounds : (0 < get_or ns i 0) × (get_or ns i 0 - 1 < length held)
  AreTaken-bounds = clause_at-bounds held (get_or ns i 0) here

  pub AreTaken-next : (after : List (Option (List ℤ))) → after ≡ set held (get_or ns i 0 - 1) None → AreTaken start after ns (i + 1)
  AreTaken-next after made =
      record {
        rest = ap (λ x. without x (drop (i + 1) ns)) made
            ∙ sym (without-drop held ns i lt ∙ ap (λ b. (if b then without (set held (get_or ns i 0 - 1) None) (drop (i + 1) ns) else None)) here)
            ∙ h.rest;
        some = h.some;
      }

pub AreTaken-end : (start held : List (Option (List ℤ))) (ns : List ℕ) (i : ℕ) → length ns ≤ i → AreTaken start held ns i → without start ns ≡ Some held
AreTaken-end start held ns i le h = sym h.rest ∙ ap (without held) (drop_all i ns le)

-- what is within stays so, and what is true
AreHeldWithin-set : (n : ℕ) (held : List (Option (List ℤ))) (k : ℕ) → AreHeldWithin n held → AreHeldWithin n (set held k None)
AreHeldWithin-set n [] k h = tt
AreHeldWithin-set n (None ∷ held) zero h = h
AreHeldWithin-set n (Some c ∷ held) zero h = h.1
AreHeldWithin-set n (None ∷ held) (suc k) h = AreHeldWithin-set n held k h
AreHeldWithin-set n (Some c ∷ held) (suc k) h = (h.0, AreHeldWithin-set n held k h.1)

all_held_true-set : (a : List Bool) (held : List (Option (List ℤ))) (k : ℕ) → all_held_true a held ≡ true → all_held_true a (set held k None) ≡ true
all_held_true-set a [] k h = refl
all_held_true-set a (c ∷ held) zero h = (both _ _ h).1
all_held_true-set a (c ∷ held) (suc k) h =
    let p = both (held_true a c) (all_held_true a held) h in
    ap (λ b. b && all_held_true a (set held k None)) p.0 ∙ all_held_true-set a held k p.1

pub one_of : (b : Bool) (o : Option (List (Option (List ℤ)))) (after : List (Option (List ℤ))) → (if b then o else None) ≡ Some after → o ≡ Some after
one_of true o after e = e
one_of false o after e = cc

pub AreHeldWithin-without : (n : ℕ) (ns : List ℕ) (held after : List (Option (List ℤ))) → without held ns ≡ Some after → AreHeldWithin n held → AreHeldWithin n after
AreHeldWithin-without n [] held after e h = let s : held ≡ after = cc in subst (AreHeldWithin n) s h
AreHeldWithin-without n (m ∷ ns) held after e h =
    AreHeldWithin-without n ns (set held (m - 1) None) after (one_of _ _ after e) (AreHeldWithin-set n held (m - 1) h)

pub length-without : (ns : List ℕ) (held after : List (Option (List ℤ))) → without held ns ≡ Some after → length after ≡ length held
length-without [] held after e = let s : held ≡ after = cc in ap length (sym s)
length-without (m ∷ ns) held after e = length-without ns (set held (m - 1) None) after (one_of _ _ after e) ∙ length-set held (m - 1) None

all_held_true-without : (a : List Bool) (ns : List ℕ) (held after : List (Option (List ℤ))) → without held ns ≡ Some after → all_held_true a held ≡ true →
    all_held_true a after ≡ true
all_held_true-without a [] held after e h = let s : held ≡ after = cc in subst (λ x. all_held_true a x ≡ true) s h
all_held_true-without a (m ∷ ns) held after e h =
    all_held_true-without a ns (set held (m - 1) None) after (one_of _ _ after e) (all_held_true-set a held (m - 1) h)

pub IsSound-without : (question : List (List ℤ)) (state : State) (ns : List ℕ) (after : List (Option (List ℤ))) → without state.held ns ≡ Some after →
    IsSound question state → IsSound question (record state { held = after })
IsSound-without question state ns after e s =
    record { follows = λ a q. all_held_true-without a ns state.held after e (s.follows a q); refuted = s.refuted }
