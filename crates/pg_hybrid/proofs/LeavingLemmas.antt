-- What turns leave beside the guests: one turn of each kind, turns after turns, and plans.
use Rattle.std.proofs.Common.{◌≡◌, ℕ, zero, suc, ◌+◌, Bool, true, false, ◌==◌, if◌then◌else◌, length, List, [], ◌∷◌, ◌++◌, Option, None, Some, slice_get, refl, sym, ◌∙◌, ap, arith, add-zero, add-suc}
use Rattle.std.specs.Bool.{then_some}
use Rattle.std.proofs.lemmas.Bool.{eq-eqb}
use Rattle.pg_word.specs.declared.psw.Psw.{Psw}
use Rattle.pg_word.specs.declared.psw.Mode.{Mode}
use Rattle.pg_word.specs.declared.psw.Mode.TheVariants.{S, U}
use Rattle.pg_word.specs.Psw.{power_on_psw}
use Rattle.pg_ast.specs.declared.tree.Desc.{Desc}
use Rattle.pg_lang_meaning.specs.States.{State}
use Rattle.pg_lang_meaning.specs.Steps.{step, steps}
use Rattle.pg_lang_meaning.proofs.StepLaws.{steps-add}
use Rattle.pg_hw.specs.Bursts.{is_user}
use Rattle.pg_hw.specs.Tallies.{raised_by}
use Rattle.pg_hw.proofs.TallyLaws.{raised_by-zero, raised_by-add}
use Rattle.pg_routine.specs.Composing.{composed}
use Rattle.pg_mon_control.specs.declared.guest.Guest.{Guest}
use Rattle.pg_mon_control.specs.Guests.{grants_of}
use Rattle.pg_mon_control.specs.Current.{is_current, change_to}
use Rattle.pg_mon_control.specs.Direct.{is_direct}
use Rattle.pg_mon_control.specs.Plans.{moved, after_plan}
use Rattle.pg_mon_control.specs.Traps.{trap_word}
use Rattle.pg_hybrid.specs.Leaving.{without, Left, left_by, left_among, left_turns, left_behind}

-- ---- one turn, by the mode in which it begins and by whether it is direct

abbrev pub left_by_mode : Desc → ℕ → ℕ → State → Left → Mode → Bool → Left
left_by_mode d k base s left m direct = record {
  current = if is_user m then then_some direct k else without k left.current;
  loads = raised_by (if is_user m then change_to k left.current else 0) left.loads;
  cell_0 = if is_user m then (if direct then left.cell_0 else trap_word d base s) else left.cell_0;
  psw = if is_user m then (if direct then composed (step d s).psw base (length s.cells) else power_on_psw d.size) else left.psw;
}

pub by_mode : (d : Desc) (k base : ℕ) (s : State) (left : Left) (m : Mode) (direct : Bool) → s.psw.mode ≡ m → is_direct d base s ≡ direct →
    left_by d k base s left ≡ left_by_mode d k base s left m direct
by_mode d k base s left m direct mode is =
    ap (λ x. left_by_mode d k base s left x (is_direct d base s)) mode ∙ ap (left_by_mode d k base s left m) is

abbrev pub of_four : Option ℕ → ℕ → ℕ → Psw → Left
of_four current loads cell psw = record { current = current; loads = loads; cell_0 = cell; psw = psw }

pub same-left : (c c' : Option ℕ) (l l' w w' : ℕ) (p p' : Psw) → c ≡ c' → l ≡ l' → w ≡ w' → p ≡ p' → of_four c l w p ≡ of_four c' l' w' p'
same-left c c' l l' w w' p p' current loads cell psw =
    ap (λ x. of_four x l w p) current ∙ ap (λ x. of_four c' x w p) loads ∙ ap (λ x. of_four c' l' x p) cell ∙ ap (of_four c' l' w') psw

-- one that is interpreted
pub left-supervisor : (d : Desc) (k base : ℕ) (s : State) (left : Left) → s.psw.mode ≡ S → left_among d k base 1 s left ≡ record left { current = without k left.current }
unfolding left_among steps
left-supervisor d k base s left mode =
    by_mode d k base s left S (is_direct d base s) mode refl ∙ ap (λ n. of_four (without k left.current) n left.cell_0 left.psw) (raised_by-zero left.loads)

no_change : (k : ℕ) → change_to k (Some k) ≡ 0
no_change k = ap (λ b. if b then 0 else 1) (eq-eqb k k refl)

no_loads : (k l : ℕ) → raised_by (change_to k (Some k)) l ≡ l
no_loads k l = ap (λ n. raised_by n l) (no_change k) ∙ raised_by-zero l

-- a direct one of the current guest
pub left-direct : (d : Desc) (k base : ℕ) (s : State) (l w : ℕ) (p : Psw) → s.psw.mode ≡ U → is_direct d base s ≡ true →
    left_by d k base s (of_four (Some k) l w p) ≡ of_four (Some k) l w (composed (step d s).psw base (length s.cells))
left-direct d k base s l w p mode is =
    by_mode d k base s (of_four (Some k) l w p) U true mode is ∙ ap (λ n. of_four (Some k) n w (composed (step d s).psw base (length s.cells))) (no_loads k l)

-- one of it that trapped
pub left-trapped : (d : Desc) (k base : ℕ) (s : State) (l w : ℕ) (p : Psw) → s.psw.mode ≡ U → is_direct d base s ≡ false →
    left_by d k base s (of_four (Some k) l w p) ≡ of_four None l (trap_word d base s) (power_on_psw d.size)
left-trapped d k base s l w p mode is =
    by_mode d k base s (of_four (Some k) l w p) U false mode is ∙ ap (λ n. of_four None n (trap_word d base s) (power_on_psw d.size)) (no_loads k l)

-- turns from user mode leave the same where their guest was made the current one before, under whatever PSW
entered_once : (d : Desc) (k base : ℕ) (s : State) (left : Left) (p : Psw) (direct : Bool) → s.psw.mode ≡ U → is_direct d base s ≡ direct →
    left_by d k base s left ≡ left_by d k base s (of_four (Some k) (raised_by (change_to k left.current) left.loads) left.cell_0 p)
entered_once d k base s left p true mode is =
    by_mode d k base s left U true mode is ∙ sym (left-direct d k base s (raised_by (change_to k left.current) left.loads) left.cell_0 p mode is)
entered_once d k base s left p false mode is =
    by_mode d k base s left U false mode is ∙ sym (left-trapped d k base s (raised_by (change_to k left.current) left.loads) left.cell_0 p mode is)

pub left-entered : (d : Desc) (k base n : ℕ) (s : State) (left : Left) (p : Psw) → s.psw.mode ≡ U →
    left_among d k base (suc n) s left ≡ left_among d k base (suc n) s (of_four (Some k) (raised_by (change_to k left.current) left.loads) left.cell_0 p)
unfolding left_among steps
left-entered d k base zero s left p mode = entered_once d k base s left p (is_direct d base s) mode refl
left-entered d k base (suc n) s left p mode = ap (left_by d k base (steps d (suc n) s)) (left-entered d k base n s left p mode)

-- ---- turns after turns

pub left_among-none : (d : Desc) (k base : ℕ) (s : State) (left : Left) → left_among d k base 0 s left ≡ left
unfolding left_among
left_among-none d k base s left = refl

pub left_among-next : (d : Desc) (k base n : ℕ) (s : State) (left : Left) → left_among d k base (suc n) s left ≡ left_by d k base (steps d n s) (left_among d k base n s left)
unfolding left_among
left_among-next d k base n s left = refl

pub left_among-add : (d : Desc) (k base m n : ℕ) (s : State) (left : Left) →
    left_among d k base (m + n) s left ≡ left_among d k base n (steps d m s) (left_among d k base m s left)
unfolding left_among
left_among-add d k base m zero s left = rw add-zero refl
left_among-add d k base m (suc n) s left = rw (add-suc, left_among-add d k base m n s left, steps-add d m n s) refl

-- ---- plans

turns-base : (d : Desc) (k : ℕ) (g h : Guest) (s : Option State) (n : ℕ) (left : Left) → h.base ≡ g.base → left_turns d k (Some h) s n left ≡ left_turns d k (Some g) s n left
turns-base d k g h None n left e = refl
turns-base d k g h (Some s) n left e = ap (λ b. left_among d k b n s left) e

turns-grants : (d : Desc) (gs hs : List Guest) (j k : ℕ) (s : Option State) (n : ℕ) (left : Left) → grants_of hs ≡ grants_of gs →
    left_turns d j (slice_get hs k) s n left ≡ left_turns d j (slice_get gs k) s n left
turns-grants d [] [] j k s n left e = refl
turns-grants d [] (h ∷ hs) j k s n left e = absurd (let wrong : ⊥ = cc in wrong)
turns-grants d (g ∷ gs) [] j k s n left e = absurd (let wrong : ⊥ = cc in wrong)
turns-grants d (g ∷ gs) (h ∷ hs) j zero s n left e =
    let first : (h.base, h.size) ≡ (g.base, g.size) = cc in turns-base d j g h s n left (ap (λ (p : ℕ × ℕ). p.0) first)
turns-grants d (g ∷ gs) (h ∷ hs) j (suc k) s n left e =
    let rest : grants_of hs ≡ grants_of gs = cc in turns-grants d gs hs j k s n left rest

-- the same of guests with the same grants
pub left_behind-grants : (d : Desc) (gs hs : List Guest) (plan : List (ℕ × ℕ)) (ss : List State) (left : Left) → grants_of hs ≡ grants_of gs →
    left_behind d hs plan ss left ≡ left_behind d gs plan ss left
left_behind-grants d gs hs [] ss left e = refl
left_behind-grants d gs hs (turn ∷ plan) ss left e =
    ap (left_behind d hs plan (moved d turn.0 turn.1 ss)) (turns-grants d gs hs turn.0 turn.0 (slice_get ss turn.0) turn.1 left e)
    ∙ left_behind-grants d gs hs plan (moved d turn.0 turn.1 ss) (left_turns d turn.0 (slice_get gs turn.0) (slice_get ss turn.0) turn.1 left) e

-- a plan behind another
pub left_behind-append : (d : Desc) (gs : List Guest) (p q : List (ℕ × ℕ)) (ss : List State) (left : Left) →
    left_behind d gs (p ++ q) ss left ≡ left_behind d gs q (after_plan d p ss) (left_behind d gs p ss left)
left_behind-append d gs [] q ss left = refl
left_behind-append d gs (turn ∷ p) q ss left =
    left_behind-append d gs p q (moved d turn.0 turn.1 ss) (left_turns d turn.0 (slice_get gs turn.0) (slice_get ss turn.0) turn.1 left)

-- ---- loads, from whatever count they begin

abbrev pub raised : ℕ → Left → Left
raised l left = record left { loads = raised_by left.loads l }

raised-once : (d : Desc) (k base l : ℕ) (s : State) (left : Left) → left_by d k base s (raised l left) ≡ raised l (left_by d k base s left)
raised-once d k base l s left =
    ap (λ n. record (left_by d k base s left) { loads = n }) (by_loads (if is_user s.psw.mode then change_to k left.current else 0) left.loads)
  where
    by_loads : (m n : ℕ) → raised_by m (raised_by n l) ≡ raised_by (raised_by m n) l
    by_loads m n = omega arith

raised-among : (d : Desc) (k base n l : ℕ) (s : State) (left : Left) → left_among d k base n s (raised l left) ≡ raised l (left_among d k base n s left)
unfolding left_among
raised-among d k base zero l s left = refl
raised-among d k base (suc n) l s left =
    ap (left_by d k base (steps d n s)) (raised-among d k base n l s left) ∙ raised-once d k base l (steps d n s) (left_among d k base n s left)

raised-turns : (d : Desc) (k : ℕ) (g : Option Guest) (s : Option State) (n l : ℕ) (left : Left) → left_turns d k g s n (raised l left) ≡ raised l (left_turns d k g s n left)
raised-turns d k None s n l left = refl
raised-turns d k (Some g) None n l left = refl
raised-turns d k (Some g) (Some s) n l left = raised-among d k g.base n l s left

-- a plan does as many loads whatever the count is
pub raised-behind : (d : Desc) (gs : List Guest) (plan : List (ℕ × ℕ)) (ss : List State) (l : ℕ) (left : Left) →
    left_behind d gs plan ss (raised l left) ≡ raised l (left_behind d gs plan ss left)
raised-behind d gs [] ss l left = refl
raised-behind d gs (turn ∷ plan) ss l left =
    ap (left_behind d gs plan (moved d turn.0 turn.1 ss)) (raised-turns d turn.0 (slice_get gs turn.0) (slice_get ss turn.0) turn.1 l left)
    ∙ raised-behind d gs plan (moved d turn.0 turn.1 ss) l (left_turns d turn.0 (slice_get gs turn.0) (slice_get ss turn.0) turn.1 left)
