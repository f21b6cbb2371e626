-- Turns by slices: what a schedule gives each guest.
use Rattle.std.proofs.Common.{◌≡◌, ℕ, zero, suc, ◌+◌, ◌*◌, ◌/◌, ◌%◌, ◌<◌, ◌≤◌, inl, inr, Bool, true, false, ◌==◌, if◌then◌else◌, List, [], ◌∷◌, ◌++◌, length, map, Option, None, Some, slice_get, refl, sym, ◌∙◌, ap, arith, append_assoc}
use Rattle.std.specs.Option.{option_map}
use Rattle.std.proofs.lemmas.Bool.{eqb-true, eqb-false}
use Rattle.std.proofs.lemmas.List.{append-nil}
use Rattle.std.proofs.lemmas.Nat.{div-add-mod'}
use Rattle.std.proofs.lemmas.Option.{slice_get-map, slice_get_cases}
use Rattle.pg_ast.specs.declared.tree.Desc.{Desc}
use Rattle.pg_lang_meaning.specs.States.{State}
use Rattle.pg_lang_meaning.specs.Steps.{steps}
use Rattle.pg_mon_control.specs.declared.guest.Guest.{Guest}
use Rattle.pg_mon_control.specs.Plans.{moved, turns_of, turns_for, Count, after_plan, count_of, count_turns}
use Rattle.pg_mon_control.specs.Schedules.{round_of, rounds_of, schedule, each_count}
use Rattle.pg_mon_control.proofs.PlanLemmas.{AddsUp, after_plan-at, turns_of-append}

-- ---- rounds, one guest and one round more

pub round_of-more : (k count turns : ℕ) → round_of k (suc count) turns ≡ round_of k count turns ++ (k + count, turns) ∷ []
round_of-more k zero turns = let here : k ≡ k + 0 = omega arith in ap (λ (i : ℕ). let l : List (ℕ × ℕ) = (i, turns) ∷ [] in l) here
round_of-more k (suc count) turns =
    let here : suc k + count ≡ k + suc count = omega arith in
    ap (λ l. (k, turns) ∷ l) (round_of-more (suc k) count turns ∙ ap (λ (i : ℕ). round_of (suc k) count turns ++ (i, turns) ∷ []) here)

pub rounds_of-more : (count slice rounds : ℕ) → rounds_of count slice (suc rounds) ≡ rounds_of count slice rounds ++ round_of 0 count slice
rounds_of-more count slice zero = append-nil (round_of 0 count slice)
rounds_of-more count slice (suc rounds) =
    ap (λ l. round_of 0 count slice ++ l) (rounds_of-more count slice rounds)
    ∙ sym (append_assoc (round_of 0 count slice) (rounds_of count slice rounds) (round_of 0 count slice))

-- ---- the turns of each guest

turns_for-append : (j : ℕ) (p q : List (ℕ × ℕ)) → turns_for j (p ++ q) ≡ turns_for j p + turns_for j q
turns_for-append j [] q = omega arith
turns_for-append j (turn ∷ p) q = omega (arith, turns_for-append j p q)

if-own : (k j turns : ℕ) (b : Bool) → (k == j) ≡ b → k ≡ j → (if b then turns else 0) ≡ turns
if-own k j turns true e same = refl
if-own k j turns false e same = absurd (eqb-false k j e same)

if-other : (k j turns : ℕ) (b : Bool) → (k == j) ≡ b → (k ≡ j → ⊥) → (if b then turns else 0) ≡ 0
if-other k j turns true e other = absurd (other (eqb-true k j e))
if-other k j turns false e other = refl

-- no guest before the first of a round has turns in it
turns_for-before : (j k count turns : ℕ) → j < k → turns_for j (round_of k count turns) ≡ 0
turns_for-before j k zero turns before = refl
turns_for-before j k (suc count) turns before =
    omega (arith, if-other k j turns (k == j) refl (λ same. absurd (omega arith)), turns_for-before j (suc k) count turns (omega arith))

-- the first guest of a round, or one behind it
turns_for-first : (j k count turns : ℕ) (b : Bool) → (k == j) ≡ b → k ≤ j →
    ((suc k ≤ j) → turns_for j (round_of (suc k) count turns) ≡ turns) → turns_for j (round_of k (suc count) turns) ≡ turns
turns_for-first j k count turns true e from behind =
    let same = eqb-true k j e in
    omega (arith, if-own k j turns (k == j) refl same, turns_for-before j (suc k) count turns (omega (arith, same)))
turns_for-first j k count turns false e from behind =
    let other = eqb-false k j e in
    omega (arith, if-other k j turns (k == j) refl other, behind (omega (arith, other)))

turns_for-round : (j k count turns : ℕ) → k ≤ j → j < k + count → turns_for j (round_of k count turns) ≡ turns
turns_for-round j k zero turns from below = absurd (omega arith)
turns_for-round j k (suc count) turns from below =
    turns_for-first j k count turns (k == j) refl from (λ behind. turns_for-round j (suc k) count turns behind (omega arith))

turns_for-rounds : (j count slice rounds : ℕ) → j < count → turns_for j (rounds_of count slice rounds) ≡ rounds * slice
turns_for-rounds j count slice zero below = omega arith
turns_for-rounds j count slice (suc rounds) below =
    turns_for-append j (round_of 0 count slice) (rounds_of count slice rounds)
    ∙ omega (arith, turns_for-round j 0 count slice (omega arith) (omega arith), turns_for-rounds j count slice rounds below)

pub turns_for-schedule : (count slice n j : ℕ) → j < count → turns_for j (schedule count slice n) ≡ n
turns_for-schedule count slice n j below =
    turns_for-append j (rounds_of count slice (n / slice)) (round_of 0 count (n % slice))
    ∙ omega (arith, turns_for-rounds j count slice (n / slice) below, turns_for-round j 0 count (n % slice) (omega arith) (omega arith), div-add-mod' n slice)

-- ---- all turns

turns_of-round : (k count turns : ℕ) → turns_of (round_of k count turns) ≡ count * turns
turns_of-round k zero turns = omega arith
turns_of-round k (suc count) turns = omega (arith, turns_of-round (suc k) count turns)

turns_of-rounds : (count slice rounds : ℕ) → turns_of (rounds_of count slice rounds) ≡ count * (rounds * slice)
turns_of-rounds count slice zero = omega arith
turns_of-rounds count slice (suc rounds) =
    turns_of-append (round_of 0 count slice) (rounds_of count slice rounds)
    ∙ grind (arith, turns_of-round 0 count slice, turns_of-rounds count slice rounds)

pub turns_of-schedule : (count slice n : ℕ) → turns_of (schedule count slice n) ≡ count * n
turns_of-schedule count slice n =
    turns_of-append (rounds_of count slice (n / slice)) (round_of 0 count (n % slice))
    ∙ grind (arith, turns_of-rounds count slice (n / slice), turns_of-round 0 count (n % slice), div-add-mod' n slice)

-- ---- the states

same_elements : {X : Type 0} (xs ys : List X) → ((j : ℕ) → slice_get xs j ≡ slice_get ys j) → xs ≡ ys
same_elements [] [] same = refl
same_elements [] (y ∷ ys) same = let first = same 0 in absurd (let wrong : ⊥ = cc in wrong)
same_elements (x ∷ xs) [] same = let first = same 0 in absurd (let wrong : ⊥ = cc in wrong)
same_elements (x ∷ xs) (y ∷ ys) same =
    let first = same 0 in
    let one : x ≡ y = cc in
    ap (λ z. z ∷ xs) one ∙ ap (λ zs. y ∷ zs) (same_elements xs ys (λ j. same (suc j)))

-- behind a schedule each guest stands where n turns of its own lead
pub after_plan-schedule : (d : Desc) (slice n : ℕ) (ss : List State) → after_plan d (schedule (length ss) slice n) ss ≡ map (steps d n) ss
after_plan-schedule d slice n ss =
    let plan = schedule (length ss) slice n in
    let at : (j : ℕ) → option_map (steps d (turns_for j plan)) (slice_get ss j) ≡ option_map (steps d n) (slice_get ss j) =
    λ j. elim ((slice_get_cases ss j).1) [
      | inl h ↦ ap (λ m. option_map (steps d m) (slice_get ss j)) (turns_for-schedule (length ss) slice n j (omega (arith, h.1)))
      | inr h ↦ ap (option_map (steps d (turns_for j plan))) h.1 ∙ sym (ap (option_map (steps d n)) h.1)
    ] in
    same_elements (after_plan d plan ss) (map (steps d n) ss)
    (λ j. after_plan-at d plan ss j ∙ at j ∙ sym (slice_get-map (steps d n) ss j))

-- ---- what is counted of the turns of each guest

-- the count among so many turns of each guest, of which each has a number of its own
abbrev count_by : Count → List Guest → (ℕ → ℕ) → List State → ℕ
count_by c [] f ss = 0
count_by c (g ∷ gs) f [] = 0
count_by c (g ∷ gs) f (s ∷ ss) = c g.base (f 0) s + count_by c gs (λ j. f (suc j)) ss

count_by-same : (c : Count) (gs : List Guest) (f h : ℕ → ℕ) (ss : List State) → ((j : ℕ) → j < length gs → f j ≡ h j) → count_by c gs f ss ≡ count_by c gs h ss
count_by-same c [] f h ss same = refl
count_by-same c (g ∷ gs) f h [] same = refl
count_by-same c (g ∷ gs) f h (s ∷ ss) same =
    ap (λ n. c g.base n s + count_by c gs (λ j. f (suc j)) ss) (same 0 (omega arith))
    ∙ ap (λ n. c g.base (h 0) s + n) (count_by-same c gs (λ j. f (suc j)) (λ j. h (suc j)) ss (λ j below. same (suc j) (omega arith)))

count_by-none : (d : Desc) (c : Count) → AddsUp d c → (gs : List Guest) (ss : List State) → count_by c gs (λ j. 0) ss ≡ 0
count_by-none d c adds [] ss = refl
count_by-none d c adds (g ∷ gs) [] = refl
count_by-none d c adds (g ∷ gs) (s ∷ ss) = omega (arith, adds.none g.base s, count_by-none d c adds gs ss)

count_by-each : (c : Count) (gs : List Guest) (n : ℕ) (ss : List State) → count_by c gs (λ j. n) ss ≡ each_count c gs n ss
count_by-each c [] n ss = refl
count_by-each c (g ∷ gs) n [] = refl
count_by-each c (g ∷ gs) n (s ∷ ss) = ap (λ m. c g.base n s + m) (count_by-each c gs n ss)

no_state : (c : Count) (g : Option Guest) (n : ℕ) → count_turns c g None n ≡ 0
no_state c None n = refl
no_state c (Some g) n = refl

-- a turn of guest k is one of guest k + 1 behind another guest
if-behind : (k j turns : ℕ) → (if k == j then turns else 0) ≡ (if suc k == suc j then turns else 0)
if-behind k j turns = by_test (k == j) refl
  where
    by_test : (b : Bool) → (k == j) ≡ b → (if k == j then turns else 0) ≡ (if suc k == suc j then turns else 0)
    by_test true e =
        let same = eqb-true k j e in
        if-own k j turns (k == j) refl same ∙ sym (if-own (suc k) (suc j) turns (suc k == suc j) refl (ap suc same))
    by_test false e =
        let other = eqb-false k j e in
        if-other k j turns (k == j) refl other ∙ sym (if-other (suc k) (suc j) turns (suc k == suc j) refl (λ same. absurd (other (let e : k ≡ j = omega arith in e))))

-- turns of guest k before those of all
count_by-turns : (d : Desc) (c : Count) → AddsUp d c → (gs : List Guest) (k n : ℕ) (f : ℕ → ℕ) (ss : List State) →
    count_turns c (slice_get gs k) (slice_get ss k) n + count_by c gs f (moved d k n ss) ≡ count_by c gs (λ j. (if k == j then n else 0) + f j) ss
count_by-turns d c adds [] k n f ss = refl
count_by-turns d c adds (g ∷ gs) k n f [] = omega (arith, no_state c (slice_get (g ∷ gs) k) n)
count_by-turns d c adds (g ∷ gs) zero n f (s ∷ ss) =
    let first : n + f 0 ≡ (if 0 == 0 then n else 0) + f 0 = omega (arith, if-own 0 0 n (0 == 0) refl refl) in
    let others = count_by-same c gs (λ j. f (suc j)) (λ j. (if 0 == suc j then n else 0) + f (suc j)) ss
    (λ j below. omega (arith, if-other 0 (suc j) n (0 == suc j) refl (λ same. absurd (omega arith)))) in
    let own = adds.more g.base n (f 0) s in
    let sum : c g.base n s + (c g.base (f 0) (steps d n s) + count_by c gs (λ j. f (suc j)) ss) ≡ c g.base (n + f 0) s + count_by c gs (λ j. f (suc j)) ss =
    omega (arith, own) in
    sum ∙ ap (λ m. c g.base m s + count_by c gs (λ j. f (suc j)) ss) first
    ∙ ap (λ m. c g.base ((if 0 == 0 then n else 0) + f 0) s + m) others
count_by-turns d c adds (g ∷ gs) (suc k) n f (s ∷ ss) =
    let first : f 0 ≡ (if suc k == 0 then n else 0) + f 0 = omega (arith, if-other (suc k) 0 n (suc k == 0) refl (λ same. absurd (omega arith))) in
    let own : c g.base (f 0) s ≡ c g.base ((if suc k == 0 then n else 0) + f 0) s = ap (λ m. c g.base m s) first in
    let others = count_by-turns d c adds gs k n (λ j. f (suc j)) ss
    ∙ count_by-same c gs (λ j. (if k == j then n else 0) + f (suc j)) (λ j. (if suc k == suc j then n else 0) + f (suc j)) ss (λ j below. ap (λ m. m + f (suc j)) (if-behind k j n)) in
    let turns = count_turns c (slice_get gs k) (slice_get ss k) n in
    let moves = count_by c gs (λ j. f (suc j)) (moved d k n ss) in
    let sum : turns + (c g.base (f 0) s + moves) ≡ c g.base ((if suc k == 0 then n else 0) + f 0) s + (turns + moves) = omega (arith, own) in
    sum ∙ ap (λ m. c g.base ((if suc k == 0 then n else 0) + f 0) s + m) others

count_of-each : (d : Desc) (c : Count) → AddsUp d c → (gs : List Guest) (plan : List (ℕ × ℕ)) (ss : List State) → count_of d c gs plan ss ≡ count_by c gs (λ j. turns_for j plan) ss
count_of-each d c adds gs [] ss = sym (count_by-none d c adds gs ss)
count_of-each d c adds gs (turn ∷ plan) ss =
    ap (λ m. count_turns c (slice_get gs turn.0) (slice_get ss turn.0) turn.1 + m) (count_of-each d c adds gs plan (moved d turn.0 turn.1 ss))
    ∙ count_by-turns d c adds gs turn.0 turn.1 (λ j. turns_for j plan) ss

pub count_of-schedule : (d : Desc) (c : Count) → AddsUp d c → (gs : List Guest) (slice n : ℕ) (ss : List State) → count_of d c gs (schedule (length gs) slice n) ss ≡ each_count c gs n ss
count_of-schedule d c adds gs slice n ss =
    count_of-each d c adds gs (schedule (length gs) slice n) ss
    ∙ count_by-same c gs (λ j. turns_for j (schedule (length gs) slice n)) (λ j. n) ss (λ j below. turns_for-schedule (length gs) slice n j below)
    ∙ count_by-each c gs n ss
