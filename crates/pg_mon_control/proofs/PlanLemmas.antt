-- Turns by a plan, one pair after another: cells, counts and states.
use Rattle.std.proofs.Common.{◌≡◌, ℕ, zero, suc, ◌+◌, ◌-◌, ◌<◌, ◌≤◌, ◌⊎◌, inl, inr, Bool, true, false, ◌==◌, if◌then◌else◌, List, [], ◌∷◌, ◌++◌, length, take, drop, All, Option, None, Some, slice_set, slice_get, get_or, refl, sym, ◌∙◌, ap, subst, arith}
use Rattle.std.specs.Option.{option_map}
use Rattle.std.proofs.lemmas.Bool.{eqb-true, eqb-false}
use Rattle.std.proofs.lemmas.List.{length-take-le, length-append, length-set, length-map, get_or-set_other, get_or_append_left, get_or-append_right, get_or-take, get_or-drop}
use Rattle.std.proofs.lemmas.List.Elements.{All-nil, All-cons, All-head, All-tail}
use Rattle.std.proofs.lemmas.Option.{slice_get-get_or, slice_get_past, slice_get_cases}
use Rattle.pg_ast.specs.declared.tree.Desc.{Desc}
use Rattle.pg_lang_meaning.specs.States.{State}
use Rattle.pg_lang_meaning.specs.Steps.{steps}
use Rattle.pg_lang_meaning.proofs.StepLaws.{steps-add}
use Rattle.pg_routine.specs.Granting.{with_grant}
use Rattle.pg_routine.proofs.StateLaws.{with_grant-length}
use Rattle.pg_mon_control.specs.declared.guest.Guest.{Guest}
use Rattle.pg_mon_control.specs.Guests.{grants_of}
use Rattle.pg_mon_control.specs.Plans.{moved, after_plan, turns_of, turns_for, Count, count_of, count_turns}

-- ---- cells outside the grants

same_cell : (xs ys : List ℕ) (k : ℕ) → length xs ≡ length ys → ((e : ℕ) → get_or xs k e ≡ get_or ys k e) → slice_get xs k ≡ slice_get ys k
same_cell xs ys k len same = elim ((slice_get_cases ys k).1) [
  | inl h ↦ slice_get-get_or xs k h.0 (omega (arith, len, h.1)) ∙ ap Some (same h.0 ∙ h.3) ∙ sym h.2
  | inr h ↦ slice_get_past xs k (omega (arith, len, h.0)) ∙ sym h.1
]

-- a cell outside a grant is as it was
pub granted-outside : (cells new : List ℕ) (base k : ℕ) → base + length new ≤ length cells → (k < base) ⊎ (base + length new ≤ k) →
    slice_get (with_grant cells base new) k ≡ slice_get cells k
granted-outside cells new base k within place =
    same_cell (with_grant cells base new) cells k (with_grant-length cells new base within) (λ e. by_place e place)
  where
    by_place : (e : ℕ) → (k < base) ⊎ (base + length new ≤ k) → get_or (with_grant cells base new) k e ≡ get_or cells k e
    by_place e (inl below) =
        let front = length-take-le base cells (omega arith) in
        let both = length-append (take base cells) new in
        get_or_append_left (take base cells ++ new) (drop (base + length new) cells) e k (omega (arith, front, both))
        ∙ get_or_append_left (take base cells) new e k (omega (arith, front)) ∙ get_or-take base cells k e below
    by_place e (inr above) =
        let front = length-take-le base cells (omega arith) in
        let both : length (take base cells ++ new) ≡ base + length new = length-append (take base cells) new ∙ omega (arith, front) in
        let at : base + length new + (k - (base + length new)) ≡ k = omega arith in
        get_or-append_right (take base cells ++ new) (drop (base + length new) cells) (base + length new) k e both above
        ∙ get_or-drop (base + length new) cells (k - (base + length new)) e ∙ ap (λ i. get_or cells i e) at

pub first_outside : (xs : List ℕ) (k w : ℕ) → 1 ≤ k → slice_get (slice_set xs 0 w) k ≡ slice_get xs k
first_outside xs k w some =
    same_cell (slice_set xs 0 w) xs k (length-set xs 0 w) (λ e. get_or-set_other xs 0 k w e (λ is. absurd (omega arith)))

-- ---- the same grants

abbrev pub outside_of : ℕ → Guest → Type 0
outside_of at g = (at < g.base) ⊎ (g.base + g.size ≤ at)

pub grants-outside : (at : ℕ) (gs hs : List Guest) → grants_of hs ≡ grants_of gs → All (outside_of at) gs → All (outside_of at) hs
grants-outside at [] [] e all = All-nil (outside_of at)
grants-outside at [] (h ∷ hs) e all = absurd (let wrong : ⊥ = cc in wrong)
grants-outside at (g ∷ gs) [] e all = All-nil (outside_of at)
grants-outside at (g ∷ gs) (h ∷ hs) e all =
    let first : (h.base, h.size) ≡ (g.base, g.size) = cc in
    let rest : grants_of hs ≡ grants_of gs = cc in
    let base : h.base ≡ g.base = ap (λ (p : ℕ × ℕ). p.0) first in
    let size : h.size ≡ g.size = ap (λ (p : ℕ × ℕ). p.1) first in
    All-cons (outside_of at) h hs
    (subst (λ n. (at < h.base) ⊎ (h.base + n ≤ at)) (sym size) (subst (λ n. (at < n) ⊎ (n + g.size ≤ at)) (sym base) (All-head (outside_of at) g gs all)))
    (grants-outside at gs hs rest (All-tail (outside_of at) g gs all))

pub grants-length : (gs hs : List Guest) → grants_of hs ≡ grants_of gs → length hs ≡ length gs
grants-length gs hs e = sym (length-map hs (λ (g : Guest). (g.base, g.size))) ∙ ap length e ∙ length-map gs (λ (g : Guest). (g.base, g.size))

-- ---- counts

-- a count that adds up: that of turns and of the turns behind them is that of all
pub record AddsUp (d : Desc) (f : Count) : Type 0 where
  pub none : (base : ℕ) (s : State) → f base 0 s ≡ 0
  pub more : (base m n : ℕ) (s : State) → f base (m + n) s ≡ f base m s + f base n (steps d m s)

turns-base : (f : Count) (g h : Guest) (s : Option State) (n : ℕ) → h.base ≡ g.base → count_turns f (Some h) s n ≡ count_turns f (Some g) s n
turns-base f g h None n e = refl
turns-base f g h (Some s) n e = ap (λ b. f b n s) e

count_turns-grants : (f : Count) (gs hs : List Guest) (k : ℕ) (s : Option State) (n : ℕ) → grants_of hs ≡ grants_of gs →
    count_turns f (slice_get hs k) s n ≡ count_turns f (slice_get gs k) s n
count_turns-grants f [] [] k s n e = refl
count_turns-grants f [] (h ∷ hs) k s n e = absurd (let wrong : ⊥ = cc in wrong)
count_turns-grants f (g ∷ gs) [] k s n e = absurd (let wrong : ⊥ = cc in wrong)
count_turns-grants f (g ∷ gs) (h ∷ hs) zero s n e =
    let first : (h.base, h.size) ≡ (g.base, g.size) = cc in turns-base f g h s n (ap (λ (p : ℕ × ℕ). p.0) first)
count_turns-grants f (g ∷ gs) (h ∷ hs) (suc k) s n e =
    let rest : grants_of hs ≡ grants_of gs = cc in count_turns-grants f gs hs k s n rest

-- it depends on the grants alone, and not on the program status words
pub count_of-grants : (d : Desc) (f : Count) (gs hs : List Guest) (plan : List (ℕ × ℕ)) (ss : List State) → grants_of hs ≡ grants_of gs →
    count_of d f hs plan ss ≡ count_of d f gs plan ss
count_of-grants d f gs hs [] ss e = refl
count_of-grants d f gs hs (turn ∷ plan) ss e =
    ap (λ k. k + count_of d f hs plan (moved d turn.0 turn.1 ss)) (count_turns-grants f gs hs turn.0 (slice_get ss turn.0) turn.1 e)
    ∙ ap (λ k. count_turns f (slice_get gs turn.0) (slice_get ss turn.0) turn.1 + k) (count_of-grants d f gs hs plan (moved d turn.0 turn.1 ss) e)

count_turns-most : (f : Count) (g : Option Guest) (s : Option State) (n : ℕ) → ((base m : ℕ) (t : State) → f base m t ≤ m) → count_turns f g s n ≤ n
count_turns-most f None s n most = omega arith
count_turns-most f (Some g) None n most = omega arith
count_turns-most f (Some g) (Some s) n most = most g.base n s

-- no more are counted than there are turns
pub count_of-most : (d : Desc) (f : Count) (gs : List Guest) (plan : List (ℕ × ℕ)) (ss : List State) → ((base n : ℕ) (s : State) → f base n s ≤ n) →
    count_of d f gs plan ss ≤ turns_of plan
count_of-most d f gs [] ss most = omega arith
count_of-most d f gs (turn ∷ plan) ss most =
    omega (arith, count_turns-most f (slice_get gs turn.0) (slice_get ss turn.0) turn.1 most, count_of-most d f gs plan (moved d turn.0 turn.1 ss) most)

-- ---- the turns of one guest

pub moved-own : (d : Desc) (j n : ℕ) (ss : List State) → slice_get (moved d j n ss) j ≡ option_map (steps d n) (slice_get ss j)
moved-own d j n [] = refl
moved-own d zero n (s ∷ ss) = refl
moved-own d (suc j) n (s ∷ ss) = moved-own d j n ss

moved-other : (d : Desc) (k n j : ℕ) (ss : List State) → (k ≡ j → ⊥) → slice_get (moved d k n ss) j ≡ slice_get ss j
moved-other d k n j [] other = refl
moved-other d zero n zero (s ∷ ss) other = absurd (other refl)
moved-other d zero n (suc j) (s ∷ ss) other = refl
moved-other d (suc k) n zero (s ∷ ss) other = refl
moved-other d (suc k) n (suc j) (s ∷ ss) other = moved-other d k n j ss (λ same. other (ap suc same))

on-none : (d : Desc) (o : Option State) → option_map (steps d 0) o ≡ o
unfolding steps
on-none d None = refl
on-none d (Some s) = refl

on-more : (d : Desc) (m n : ℕ) (o : Option State) → option_map (steps d n) (option_map (steps d m) o) ≡ option_map (steps d (m + n)) o
on-more d m n None = refl
on-more d m n (Some s) = ap Some (steps-add d m n s)

-- the state of each guest is moved by the turns of its own
moved-at : (d : Desc) (k n j : ℕ) (ss : List State) (b : Bool) → (k == j) ≡ b →
    slice_get (moved d k n ss) j ≡ option_map (steps d (if b then n else 0)) (slice_get ss j)
moved-at d k n j ss true e = ap (λ i. slice_get (moved d i n ss) j) (eqb-true k j e) ∙ moved-own d j n ss
moved-at d k n j ss false e = moved-other d k n j ss (eqb-false k j e) ∙ sym (on-none d (slice_get ss j))

-- each guest stands behind a plan at the state of its own number of turns
pub after_plan-at : (d : Desc) (plan : List (ℕ × ℕ)) (ss : List State) (j : ℕ) → slice_get (after_plan d plan ss) j ≡ option_map (steps d (turns_for j plan)) (slice_get ss j)
after_plan-at d [] ss j = sym (on-none d (slice_get ss j))
after_plan-at d (turn ∷ plan) ss j =
    after_plan-at d plan (moved d turn.0 turn.1 ss) j
    ∙ ap (option_map (steps d (turns_for j plan))) (moved-at d turn.0 turn.1 j ss (turn.0 == j) refl)
    ∙ on-more d (if turn.0 == j then turn.1 else 0) (turns_for j plan) (slice_get ss j)

-- ---- a plan behind another

pub after_plan-append : (d : Desc) (p q : List (ℕ × ℕ)) (ss : List State) → after_plan d (p ++ q) ss ≡ after_plan d q (after_plan d p ss)
after_plan-append d [] q ss = refl
after_plan-append d (turn ∷ p) q ss = after_plan-append d p q (moved d turn.0 turn.1 ss)

pub turns_of-append : (p q : List (ℕ × ℕ)) → turns_of (p ++ q) ≡ turns_of p + turns_of q
turns_of-append [] q = omega arith
turns_of-append (turn ∷ p) q = omega (arith, turns_of-append p q)

pub count_of-append : (d : Desc) (f : Count) (gs : List Guest) (p q : List (ℕ × ℕ)) (ss : List State) →
    count_of d f gs (p ++ q) ss ≡ count_of d f gs p ss + count_of d f gs q (after_plan d p ss)
count_of-append d f gs [] q ss = omega arith
count_of-append d f gs (turn ∷ p) q ss = omega (arith, count_of-append d f gs p q (moved d turn.0 turn.1 ss))
