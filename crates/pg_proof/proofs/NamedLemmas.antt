-- Each step that is kept, but the last, is a hint of another.
use Rattle.std.proofs.Common.{◌≡◌, ℕ, zero, suc, ◌+◌, ◌<◌, ◌≤◌, ◌⊎◌, Bool, true, false, ◌&&◌, ◌||◌, eqb, leb, List, [], ◌∷◌, ◌++◌, length, map, get_or, take, drop, refl, sym, ap, ◌∙◌, arith, inl, inr}
use Rattle.std.proofs.lemmas.List.{length-append, take-append-drop}
use Rattle.std.proofs.lemmas.Bool.Decides.{nat_tests}
use Rattle.pg_proof.specs.declared.step.Step.{Step}
use Rattle.pg_proof.specs.declared.step.Act.{Act}
use Rattle.pg_proof.specs.declared.step.Act.TheVariants.{Add, Remove}
use Rattle.pg_proof.specs.Trimmed.{step_count, has_hint, is_named}
use Rattle.pg_proof.specs.Numbering.{AreEarlier, AreAtMost, AreNeeded, is_used_hint, new_number, renumbered}
use Rattle.pg_proof.specs.Drafts.{IsPending, ArePending, AreReached}
use Rattle.pg_proof.proofs.UseLemmas.{or_first, or_later}
use Rattle.pg_proof.proofs.DraftLemmas.{new_number-old, new_number-new}

-- hints of steps one after another
used_hint-append : (front rest : List Act) (flags : List Bool) (h n : ℕ) →
    is_used_hint flags h n (front ++ rest) ≡ is_used_hint flags h n front || is_used_hint flags h (n + step_count front) rest
used_hint-append [] rest flags h n = let e : n ≡ n + 0 = omega arith in ap (λ m. is_used_hint flags h m rest) e
used_hint-append (Add step ∷ front) rest flags h n =
    let e : (n + 1) + step_count front ≡ n + suc (step_count front) = omega arith in
    ap (λ b. (get_or flags (n + 1) false && has_hint step.hints h) || b) (used_hint-append front rest flags h (n + 1))
    ∙ sym (or_assoc (get_or flags (n + 1) false && has_hint step.hints h) (is_used_hint flags h (n + 1) front) (is_used_hint flags h ((n + 1) + step_count front) rest))
    ∙ ap (λ m. ((get_or flags (n + 1) false && has_hint step.hints h) || is_used_hint flags h (n + 1) front) || is_used_hint flags h m rest) e
  where
    or_assoc : (a b c : Bool) → (a || b) || c ≡ a || (b || c)
    or_assoc true b c = refl
    or_assoc false b c = refl
used_hint-append (Remove ns ∷ front) rest flags h n = used_hint-append front rest flags h n

apart : (a b : ℕ) → a < b → eqb a b ≡ false
apart a b lt = grind (arith, nat_tests)

no_hint : (hs : List ℕ) (m h : ℕ) → AreAtMost m hs → m < h → has_hint hs h ≡ false
no_hint [] m h a lt = refl
no_hint (p ∷ hs) m h a lt = ap (λ b. b || has_hint hs h) (apart p h (omega (arith, a.0))) ∙ no_hint hs m h a.1 lt

and_false : (b : Bool) → b && false ≡ false
and_false true = refl
and_false false = refl

-- an earlier step has no hint of a later number
not_before : (acts : List Act) (flags : List Bool) (m h : ℕ) → AreEarlier m acts → m + step_count acts ≤ h → is_used_hint flags h m acts ≡ false
not_before [] flags m h e le = refl
not_before (Add step ∷ acts) flags m h e le =
    ap (λ b. (get_or flags (m + 1) false && b) || is_used_hint flags h (m + 1) acts) (no_hint step.hints m h e.0 (omega arith))
    ∙ ap (λ b. b || is_used_hint flags h (m + 1) acts) (and_false (get_or flags (m + 1) false)) ∙ not_before acts flags (m + 1) h e.1 (omega arith)
not_before (Remove ns ∷ acts) flags m h e le = not_before acts flags m h e le

earlier_front : (k n : ℕ) (acts : List Act) → AreEarlier n acts → AreEarlier n (take k acts)
earlier_front zero n acts h = tt
earlier_front (suc k) n [] h = tt
earlier_front (suc k) n (Add step ∷ acts) h = (h.0, earlier_front k (n + 1) acts h.1)
earlier_front (suc k) n (Remove ns ∷ acts) h = earlier_front k n acts h

-- so a clause that is needed is needed by what comes after its step
pub needed_later : (log : List Act) (flags : List Bool) (q k h last : ℕ) → AreEarlier q log → AreNeeded flags last q log → h ≡ q + step_count (take k log) →
    get_or flags h false ≡ true → (h ≡ last) ⊎ (is_used_hint flags h (q + step_count (take k log)) (drop k log) ≡ true)
needed_later log flags q k h last early needed at up = by (needed h up)
  where
    by : (h ≡ last) ⊎ (is_used_hint flags h q log ≡ true) → (h ≡ last) ⊎ (is_used_hint flags h (q + step_count (take k log)) (drop k log) ≡ true)
    by (inl e) = inl e
    by (inr u) =
        inr (sym (ap (λ b. b || is_used_hint flags h (q + step_count (take k log)) (drop k log)) (not_before (take k log) flags q h (earlier_front k q log early) (omega (arith, at))))
        ∙ sym (used_hint-append (take k log) (drop k log) flags h q) ∙ ap (is_used_hint flags h q) (take-append-drop k log) ∙ u)

named-append : (acts more : List Act) (n : ℕ) → is_named n (acts ++ more) ≡ is_named n acts || is_named n more
named-append [] more n = refl
named-append (Add step ∷ acts) more n = ap (λ b. has_hint step.hints n || b) (named-append acts more n) ∙ grouped (has_hint step.hints n) (is_named n acts) (is_named n more)
  where
    grouped : (a b c : Bool) → a || (b || c) ≡ (a || b) || c
    grouped true b c = refl
    grouped false b c = refl
named-append (Remove ns ∷ acts) more n = named-append acts more n

same_eq : (a b : ℕ) → a ≡ b → eqb a b ≡ true
same_eq a b e = grind (arith, nat_tests)

eq_same : (a b : ℕ) → eqb a b ≡ true → a ≡ b
eq_same a b e = grind (arith, nat_tests)

mapped_one : (at : ℕ → ℕ) (p h : ℕ) (rest more b : Bool) → eqb p h ≡ b → b || rest ≡ true → (rest ≡ true → more ≡ true) → eqb (at p) (at h) || more ≡ true
mapped_one at p h rest more true e f down = or_first (eqb (at p) (at h)) more (same_eq (at p) (at h) (ap at (eq_same p h e)))
mapped_one at p h rest more false e f down = or_later (eqb (at p) (at h)) more (down f)

mapped_hint : (at : ℕ → ℕ) (hs : List ℕ) (h : ℕ) → has_hint hs h ≡ true → has_hint (map at hs) (at h) ≡ true
mapped_hint at [] h e = e
mapped_hint at (p ∷ hs) h e = mapped_one at p h (has_hint hs h) (has_hint (map at hs) (at h)) (eqb p h) refl e (mapped_hint at hs h)

and_second : (a b c : Bool) → a ≡ false → (a && b) || c ≡ true → c ≡ true
and_second true b c e f = cc
and_second false b c e f = f

either : (a b c : Bool) (Q : Type 0) → (b ≡ true → Q) → (c ≡ true → Q) → (a && b) || c ≡ true → Q
either true true c Q f g e = f refl
either true false c Q f g e = g e
either false b c Q f g e = g e

last_or_less : (h n : ℕ) → h ≤ n + 1 → (h ≤ n) ⊎ (h ≡ n + 1)
last_or_less h n le = by (leb h n) refl
  where
    by : (b : Bool) → leb h n ≡ b → (h ≤ n) ⊎ (h ≡ n + 1)
    by true e = let r : h ≤ n = grind (arith, nat_tests) in inl r
    by false e = let r : n < h = grind (arith, nat_tests) in inr (omega (arith, r, le))

-- an act more that is left out, and one that is kept
module _ (q : ℕ) (flags : List Bool) (last : ℕ) (numbers : List ℕ) (made rest : List Act) (step : Step) where
  more_numbers : (x : ℕ) → q + length (numbers ++ x ∷ []) ≡ q + length numbers + 1
  more_numbers x = omega (arith, length-append numbers (x ∷ []))

  pub ArePending-skip : get_or flags (q + length numbers + 1) false ≡ false → ArePending q flags last numbers made (Add step ∷ rest) →
      ArePending q flags last (numbers ++ 0 ∷ []) made rest
  ArePending-skip down pending h past le up = by (last_or_less h (q + length numbers) (omega (arith, le, more_numbers 0)))
    where
      old : h ≤ q + length numbers → IsPending q flags last numbers made (Add step ∷ rest) h → IsPending q flags last (numbers ++ 0 ∷ []) made rest h
      old l (inl e) = inl (ap (λ m. is_named m made) (new_number-old q numbers 0 h l) ∙ e)
      old l (inr (inl e)) = inr (inl e)
      old l (inr (inr e)) =
          inr (inr (ap (λ m. is_used_hint flags h m rest) (more_numbers 0)
          ∙ and_second (get_or flags (q + length numbers + 1) false) (has_hint step.hints h) (is_used_hint flags h (q + length numbers + 1) rest) down e))

      by : (h ≤ q + length numbers) ⊎ (h ≡ q + length numbers + 1) → IsPending q flags last (numbers ++ 0 ∷ []) made rest h
      by (inl l) = old l (pending h past l up)
      by (inr e) = let f = ap (λ m. get_or flags m false) e in cc

  pub ArePending-keep : ((q + length numbers + 1 ≡ last) ⊎ (is_used_hint flags (q + length numbers + 1) (q + length numbers + 1) rest ≡ true)) →
      ArePending q flags last numbers made (Add step ∷ rest) →
      ArePending q flags last (numbers ++ (q + length made + 1) ∷ []) (made ++ Add (renumbered q numbers step) ∷ []) rest
  ArePending-keep here pending h past le up = by (last_or_less h (q + length numbers) (omega (arith, le, more_numbers (q + length made + 1))))
    where
      kept : List Act
      kept = made ++ Add (renumbered q numbers step) ∷ []

      as_before : (m : ℕ) → is_named m made ≡ true → is_named m (made ++ Add (renumbered q numbers step) ∷ []) ≡ true
      as_before m e = named-append made (Add (renumbered q numbers step) ∷ []) m ∙ or_first (is_named m made) (is_named m (Add (renumbered q numbers step) ∷ [])) e

      in_step : has_hint step.hints h ≡ true → is_named (new_number q numbers h) (made ++ Add (renumbered q numbers step) ∷ []) ≡ true
      in_step e =
          named-append made (Add (renumbered q numbers step) ∷ []) (new_number q numbers h)
          ∙ or_later (is_named (new_number q numbers h) made) (is_named (new_number q numbers h) (Add (renumbered q numbers step) ∷ []))
          (or_first (has_hint (map (new_number q numbers) step.hints) (new_number q numbers h)) false (mapped_hint (new_number q numbers) step.hints h e))

      old : h ≤ q + length numbers → IsPending q flags last numbers made (Add step ∷ rest) h →
          IsPending q flags last (numbers ++ (q + length made + 1) ∷ []) (made ++ Add (renumbered q numbers step) ∷ []) rest h
      old l (inl e) =
          inl (ap (λ m. is_named m (made ++ Add (renumbered q numbers step) ∷ [])) (new_number-old q numbers (q + length made + 1) h l) ∙ as_before (new_number q numbers h) e)
      old l (inr (inl e)) = inr (inl e)
      old l (inr (inr e)) =
          either (get_or flags (q + length numbers + 1) false) (has_hint step.hints h) (is_used_hint flags h (q + length numbers + 1) rest)
          (IsPending q flags last (numbers ++ (q + length made + 1) ∷ []) (made ++ Add (renumbered q numbers step) ∷ []) rest h)
          (λ f. inl (ap (λ m. is_named m (made ++ Add (renumbered q numbers step) ∷ [])) (new_number-old q numbers (q + length made + 1) h l) ∙ in_step f))
          (λ f. inr (inr (ap (λ m. is_used_hint flags h m rest) (more_numbers (q + length made + 1)) ∙ f))) e

      own : h ≡ q + length numbers + 1 → (q + length numbers + 1 ≡ last) ⊎ (is_used_hint flags (q + length numbers + 1) (q + length numbers + 1) rest ≡ true) →
          IsPending q flags last (numbers ++ (q + length made + 1) ∷ []) (made ++ Add (renumbered q numbers step) ∷ []) rest h
      own e (inl f) = inr (inl (e ∙ f))
      own e (inr f) = inr (inr ((λ i. is_used_hint flags (e i) (more_numbers (q + length made + 1) i) rest) ∙ f))

      by : (h ≤ q + length numbers) ⊎ (h ≡ q + length numbers + 1) → IsPending q flags last (numbers ++ (q + length made + 1) ∷ []) (made ++ Add (renumbered q numbers step) ∷ []) rest h
      by (inl l) = old l (pending h past l up)
      by (inr e) = own e here

  pub AreReached-skip : AreReached q flags numbers made → AreReached q flags (numbers ++ 0 ∷ []) made
  AreReached-skip reached p lt =
      let r = reached p lt in
      (r.0, r.1, omega (arith, r.2, more_numbers 0), r.3, new_number-old q numbers 0 r.0 r.2 ∙ r.4)

  pub AreReached-keep : get_or flags (q + length numbers + 1) false ≡ true → AreReached q flags numbers made →
      AreReached q flags (numbers ++ (q + length made + 1) ∷ []) (made ++ Add (renumbered q numbers step) ∷ [])
  AreReached-keep up reached p lt = by (last_or_less (p + 1) (length made) (omega (arith, lt, length-append made (Add (renumbered q numbers step) ∷ []))))
    where
      by : (p + 1 ≤ length made) ⊎ (p + 1 ≡ length made + 1) →
          (h : ℕ) × (q < h) × (h ≤ q + length (numbers ++ (q + length made + 1) ∷ [])) × (get_or flags h false ≡ true) × (new_number q (numbers ++ (q + length made + 1) ∷ []) h ≡ q + p + 1)
      by (inl l) =
          let r = reached p (omega (arith, l)) in
          (r.0, r.1, omega (arith, r.2, more_numbers (q + length made + 1)), r.3, new_number-old q numbers (q + length made + 1) r.0 r.2 ∙ r.4)
      by (inr e) = (
        q + length numbers + 1,
        omega arith,
        omega (arith, more_numbers (q + length made + 1)),
        up,
        new_number-new q numbers (q + length made + 1) (q + length numbers + 1) refl ∙ omega (arith, e),
      )
