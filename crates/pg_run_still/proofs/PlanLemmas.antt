-- The plan of rounds: what it gives each guest, and on what of it depends.
use Rattle.std.proofs.Common.{◌≡◌, ℕ, zero, suc, ◌+◌, ◌-◌, ◌*◌, ◌/◌, ◌<◌, ◌≤◌, ◌⊎◌, inl, inr, ◌==◌, Bool, true, false, min, if◌then◌else◌, List, [], ◌∷◌, ◌++◌, length, Option, None, Some, slice_get, refl, sym, ◌∙◌, ap, arith}
use Rattle.std.proofs.lemmas.Bool.{eqb-true, eqb-false, le-leb}
use Rattle.std.proofs.lemmas.Nat.{div-mul-add}
use Rattle.pg_mon_control.specs.Plans.{turns_for}
use Rattle.pg_monitor.specs.Settling.{first_of}
use Rattle.pg_run_still.specs.declared.rounds.Rest.{Rest}
use Rattle.pg_run_still.specs.Rounds.{goes_on, round_behind, rounds_until, turns_until}
use Rattle.pg_run_still.specs.Resting.{firsts}

-- ---- one round

pub round-append : (done turns k : ℕ) (fs gs : List (Option ℕ)) → round_behind done turns k (fs ++ gs) ≡ round_behind done turns k fs ++ round_behind done turns (k + length fs) gs
round-append done turns k [] gs = let here : k ≡ k + 0 = omega arith in ap (λ i. round_behind done turns i gs) here
round-append done turns k (f ∷ fs) gs = by (goes_on done f) (round-append done turns (suc k) fs gs)
  where
    here : suc k + length fs ≡ k + suc (length fs)
    here = omega arith

    by : (b : Bool) → round_behind done turns (suc k) (fs ++ gs) ≡ round_behind done turns (suc k) fs ++ round_behind done turns (suc k + length fs) gs →
        (if b then (k, turns) ∷ round_behind done turns (suc k) (fs ++ gs) else round_behind done turns (suc k) (fs ++ gs))
        ≡ (if b then (k, turns) ∷ round_behind done turns (suc k) fs else round_behind done turns (suc k) fs) ++ round_behind done turns (k + suc (length fs)) gs
    by true rest = ap (λ l. (k, turns) ∷ l) (rest ∙ ap (λ i. round_behind done turns (suc k) fs ++ round_behind done turns i gs) here)
    by false rest = rest ∙ ap (λ i. round_behind done turns (suc k) fs ++ round_behind done turns i gs) here

if-own : (k j turns : ℕ) (b : Bool) → (k == j) ≡ b → k ≡ j → (if b then turns else 0) ≡ turns
if-own k j turns true e same = refl
if-own k j turns false e same = absurd (eqb-false k j e same)

if-other : (k j turns : ℕ) (b : Bool) → (k == j) ≡ b → (k ≡ j → ⊥) → (if b then turns else 0) ≡ 0
if-other k j turns true e other = absurd (other (eqb-true k j e))
if-other k j turns false e other = refl

-- a guest that is none of the round's has no turn in it
pub turns_for-outside : (done turns k j : ℕ) (fs : List (Option ℕ)) → (j < k) ⊎ (k + length fs ≤ j) → turns_for j (round_behind done turns k fs) ≡ 0
turns_for-outside done turns k j [] outside = refl
turns_for-outside done turns k j (f ∷ fs) outside = by (goes_on done f) (turns_for-outside done turns (suc k) j fs (behind outside)) (if-other k j turns (k == j) refl (other outside))
  where
    behind : (j < k) ⊎ (k + suc (length fs) ≤ j) → (j < suc k) ⊎ (suc k + length fs ≤ j)
    behind (inl before) = inl (omega (arith, before))
    behind (inr after) = inr (omega (arith, after))

    other : (j < k) ⊎ (k + suc (length fs) ≤ j) → k ≡ j → ⊥
    other (inl before) same = omega (arith, before, same)
    other (inr after) same = omega (arith, after, same)

    by : (b : Bool) → turns_for j (round_behind done turns (suc k) fs) ≡ 0 → (if k == j then turns else 0) ≡ 0 →
        turns_for j (if b then (k, turns) ∷ round_behind done turns (suc k) fs else round_behind done turns (suc k) fs) ≡ 0
    by true rest none = omega (arith, rest, none)
    by false rest none = rest

-- one of it has the turns, where it goes on
pub turns_for-at : (done turns k j : ℕ) (fs : List (Option ℕ)) (f : Option ℕ) → slice_get fs j ≡ Some f → turns_for (k + j) (round_behind done turns k fs) ≡ (if goes_on done f then turns else 0)
turns_for-at done turns k j [] f is = absurd (let wrong : ⊥ = cc in wrong)
turns_for-at done turns k zero (x ∷ fs) f is =
    let same : x ≡ f = cc in
    by (goes_on done x) (if-own k (k + 0) turns (k == k + 0) refl (omega arith)) (turns_for-outside done turns (suc k) (k + 0) fs (inl (omega arith)))
    ∙ ap (λ g. if goes_on done g then turns else 0) same
  where
    by : (b : Bool) → (if k == k + 0 then turns else 0) ≡ turns → turns_for (k + 0) (round_behind done turns (suc k) fs) ≡ 0 →
        turns_for (k + 0) (if b then (k, turns) ∷ round_behind done turns (suc k) fs else round_behind done turns (suc k) fs) ≡ (if b then turns else 0)
    by true own none = omega (arith, own, none)
    by false own none = none
turns_for-at done turns k (suc j) (x ∷ fs) f is =
    let rest : slice_get fs j ≡ Some f = is in
    let here : suc k + j ≡ k + suc j = omega arith in
    by (goes_on done x) (if-other k (k + suc j) turns (k == k + suc j) refl (λ same. omega (arith, same)))
    (ap (λ i. turns_for i (round_behind done turns (suc k) fs)) (sym here) ∙ turns_for-at done turns (suc k) j fs f rest)
  where
    by : (b : Bool) → (if k == k + suc j then turns else 0) ≡ 0 → turns_for (k + suc j) (round_behind done turns (suc k) fs) ≡ (if goes_on done f then turns else 0) →
        turns_for (k + suc j) (if b then (k, turns) ∷ round_behind done turns (suc k) fs else round_behind done turns (suc k) fs) ≡ (if goes_on done f then turns else 0)
    by true none others = omega (arith, none, others)
    by false none others = others

pub turns_for-append : (j : ℕ) (p q : List (ℕ × ℕ)) → turns_for j (p ++ q) ≡ turns_for j p + turns_for j q
turns_for-append j [] q = omega arith
turns_for-append j (turn ∷ p) q = omega (arith, turns_for-append j p q)

-- ---- what a plan depends on

-- up to so many turns, one goes on where the other does
abbrev pub AgreeOne : ℕ → Option ℕ → Option ℕ → Type 0
AgreeOne most f g = (m : ℕ) → m ≤ most → goes_on m f ≡ goes_on m g

abbrev pub Agree : ℕ → List (Option ℕ) → List (Option ℕ) → Type 0
Agree most [] [] = Unit {0}
Agree most [] (g ∷ gs) = ⊥
Agree most (f ∷ fs) [] = ⊥
Agree most (f ∷ fs) (g ∷ gs) = AgreeOne most f g × Agree most fs gs

round-agree : (most done turns k : ℕ) (fs gs : List (Option ℕ)) → done ≤ most → Agree most fs gs → round_behind done turns k fs ≡ round_behind done turns k gs
round-agree most done turns k [] [] within agree = refl
round-agree most done turns k [] (g ∷ gs) within agree = absurd agree
round-agree most done turns k (f ∷ fs) [] within agree = absurd agree
round-agree most done turns k (f ∷ fs) (g ∷ gs) within agree =
    ap (λ b. if b then (k, turns) ∷ round_behind done turns (suc k) fs else round_behind done turns (suc k) fs) (agree.0 done within)
    ∙ ap (λ l. if goes_on done g then (k, turns) ∷ l else l) (round-agree most done turns (suc k) fs gs within agree.1)

-- the rounds that began by then
pub rounds-agree : (most slice steps : ℕ) (fs gs : List (Option ℕ)) (rounds : ℕ) → rounds * slice ≤ most → Agree most fs gs →
    rounds_until slice steps fs rounds ≡ rounds_until slice steps gs rounds
rounds-agree most slice steps fs gs zero within agree = refl
rounds-agree most slice steps fs gs (suc r) within agree =
    let before : r * slice ≤ most = omega (arith, within) in
    ap (λ p. p ++ round_behind (r * slice) (min slice (steps - r * slice)) 0 fs) (rounds-agree most slice steps fs gs r before agree)
    ∙ ap (λ p. rounds_until slice steps gs r ++ p) (round-agree most (r * slice) (min slice (steps - r * slice)) 0 fs gs before agree)

-- what is told of guests before and after a round that began by then
pub agree-of : (most : ℕ) (before after : List Rest) → length after ≡ length before →
    ((j : ℕ) (x y : Rest) → slice_get before j ≡ Some x → slice_get after j ≡ Some y → AgreeOne most x.still y.still) → Agree most (firsts before) (firsts after)
agree-of most [] [] long each = tt
agree-of most [] (y ∷ ys) long each = absurd (omega (arith, long))
agree-of most (x ∷ xs) [] long each = absurd (omega (arith, long))
agree-of most (x ∷ xs) (y ∷ ys) long each = (each 0 x y refl refl, agree-of most xs ys (omega (arith, long)) (λ j. each (suc j)))

-- one that was found still behind so many turns goes on up to then
pub goes_on-first : (done : ℕ) (told : Option ℕ) → AgreeOne done None (first_of None done told)
goes_on-first done None m within = refl
goes_on-first done (Some n) m within = sym (le-leb m (done + n) (omega (arith, within)))

-- ---- how many turns a guest has

-- one that is found still in a slice has the turns up to its end
pub turns_until-end : (slice steps rounds m : ℕ) → rounds * slice < steps → m < min slice (steps - rounds * slice) →
    turns_until slice steps (Some (rounds * slice + m)) ≡ rounds * slice + min slice (steps - rounds * slice)
turns_until-end slice steps r m before within =
    let at : (r * slice + m) / slice ≡ r = div-mul-add r slice m (omega (arith, within)) in
    let end : slice * (r + 1) ≡ r * slice + slice = grind arith in
    ap (λ n. min steps (slice * (n + 1))) at ∙ ap (min steps) end ∙ omega (arith, before)
