-- A control program that takes one state after another.
use Rattle.std.proofs.Common.{◌≡◌, ℕ, zero, suc, ◌+◌, ◌^◌, ◌<◌, All, ◌≤◌, List, [], ◌∷◌, ◌++◌, length, take, None, Some, get_or, sym, ◌∙◌, ap, subst, arith}
use Rattle.std.proofs.lemmas.List.{take_more}
use Rattle.std.proofs.lemmas.List.Elements.{All-get_or}
use Rattle.std.proofs.lemmas.Option.{same_Some}
use Rattle.pg_ast.specs.declared.tree.Desc.{Desc}
use Rattle.pg_mach_ready.specs.declared.machine.Machine.{Machine}
use Rattle.pg_lang_meaning.specs.States.{State, IsState}
use Rattle.pg_lang_meaning.specs.Steps.{power_on}
use Rattle.pg_hw.specs.Machinery.{Machinery}
use Rattle.pg_alloc.specs.Fit.{free_base}
use Rattle.pg_alloc.specs.Grants.{Granted, and_grant}
use Rattle.pg_mon_control.specs.Admitting.{Kept, place_for, StateTaken}
use Rattle.pg_run_guests.specs.Setting.{HaveRoom, loaded_from}
use Rattle.pg_run_guests.specs.Runs.{cells_in, guests_from, switched_on}
use Rattle.pg_run_guests.specs.Begun.{IsBegun, HoldsNoMore}
use Rattle.pg_mon_control.specs.Standing.{Stands}
use Rattle.pg_mon_control.specs.Guests.{grants_of}
use Rattle.pg_mon_control.specs.Loading.{with_words}
use Rattle.pg_run_guests.proofs.FromLemmas.{cells-push, free-behind, granted-push, guest_of, guests-push, loaded-push}
use Rattle.pg_run_guests.proofs.ReachedLemmas.{switched_on-at, switched_on-cells, switched_on-within}

-- ---- the states before one, and it

pub cells-before : (states : List State) (i : ℕ) (e : State) → i < length states → cells_in (take i states) + length (get_or states i e).cells ≤ cells_in states
cells-before states i e within =
    (let more = cells-most states (i + 1) in let one = ap cells_in (take_more states i e within) ∙ cells-push (take i states) (get_or states i e) in omega (arith, more, one))
  where
    cells-most : (states : List State) (n : ℕ) → cells_in (take n states) ≤ cells_in states
    cells-most [] zero = omega arith
    cells-most [] (suc n) = omega arith
    cells-most (x ∷ xs) zero = omega arith
    cells-most (x ∷ xs) (suc n) = omega (arith, cells-most xs n)

pub begun-base : (states : List State) (size : ℕ) (m : Kept) (h : Machinery) → IsBegun 2 states m h → HoldsNoMore m → 1 ≤ size → 2 + cells_in states + size ≤ m.machine.desc.size →
    place_for m size ≡ Some (2 + cells_in states)
begun-base states size m h begun no_more some room =
    ap (λ gs. free_base m.machine.desc.size gs size) (no_more.granted ∙ ap grants_of begun.guests) ∙ free-behind m.machine.desc.size size states some room

module _ (states : List State) (s : State) (before after : Kept) (old new : Machinery) where
  -- what is known of a state more that was loaded
  pub record IsNext : Type 0 where
    pub begun : IsBegun 2 states before old
    pub no_more : HoldsNoMore before
    pub least : 2 ≤ length s.cells
    pub room : 2 + cells_in states + length s.cells ≤ before.machine.desc.size
    pub admitted : StateTaken s before after old new
    pub stands : Stands before.machine.desc new.state after.guests after.current

  module _ (h : IsNext) where
    at : h.admitted.base ≡ 2 + cells_in states
    at = same_Some h.admitted.base (2 + cells_in states) (sym h.admitted.placed.first ∙ begun-base states (length s.cells) before old h.begun h.no_more (let low = h.least in omega (arith, low)) h.room)

    pub next-poked : new ≡ with_words (2 + cells_in states) s.cells old
    next-poked = h.admitted.poked ∙ ap (λ b. with_words b s.cells old) at

    guests : after.guests ≡ guests_from 2 (states ++ s ∷ [])
    guests =
        h.admitted.guests ∙ ap (λ b. before.guests ++ guest_of b s ∷ []) at ∙ ap (λ gs. gs ++ guest_of (2 + cells_in states) s ∷ []) h.begun.guests
        ∙ sym (guests-push 2 states s)

    pub next-begun : IsBegun 2 (states ++ s ∷ []) after new
    next-begun = record {
      guests = guests;
      current = h.admitted.placed.current ∙ h.begun.current;
      stands = subst (λ (m : Machine). Stands m.desc new.state after.guests after.current) (sym h.admitted.placed.machine) h.stands;
      states = h.admitted.states ∙ ap (λ ss. ss ++ s ∷ []) h.begun.states;
    }

    pub next-no_more : HoldsNoMore after
    next-no_more = record {
      granted = ap (λ (x : Granted). x.grants) h.admitted.placed.granted ∙ ap (λ b. and_grant (b, length s.cells) before.granted.grants) at
          ∙ ap (and_grant (2 + cells_in states, length s.cells)) (h.no_more.granted ∙ ap grants_of h.begun.guests) ∙ granted-push states s ∙ ap grants_of (sym guests);
    }

-- ---- one of the states

-- a state that is to be loaded has room behind those before it
pub state-room : (d : Desc) (states : List State) (i : ℕ) (s : State) → HaveRoom d 2 states → i < length states → s ≡ get_or states i s →
    (2 ≤ length s.cells) × (2 + cells_in (take i states) + length s.cells ≤ d.size)
state-room d states i s fit within is =
    let one = subst (IsState d) (sym is) (All-get_or (IsState d) states i s within fit.each) in
    let more = cells-before states i s within in
    let same = ap (λ (t : State). length t.cells) is in
    (one.size_least, omega (arith, more, same, fit.room))

module _ (d : Desc) (states : List State) (i : ℕ) (s : State) (before after : Kept) (first old new : Machinery) where
  pub record IsOne : Type 0 where
    pub desc : before.machine.desc ≡ d
    pub fit : HaveRoom d 2 states
    pub within : i < length states
    pub is : s ≡ get_or states i s
    pub begun : IsBegun 2 (take i states) before old
    pub no_more : HoldsNoMore before
    pub made : old ≡ loaded_from 2 (take i states) first
    pub admitted : StateTaken s before after old new
    pub stands : Stands before.machine.desc new.state after.guests after.current

  module _ (h : IsOne) where
    next : IsNext (take i states) s before after old new
    next =
        let room = state-room d states i s h.fit h.within h.is in
        record {
          begun = h.begun;
          no_more = h.no_more;
          least = room.0;
          room = subst (λ (e : Desc). 2 + cells_in (take i states) + length s.cells ≤ e.size) (sym h.desc) room.1;
          admitted = h.admitted;
          stands = h.stands;
        }

    more : take i states ++ s ∷ [] ≡ take (i + 1) states
    more = ap (λ x. take i states ++ x ∷ []) h.is ∙ sym (take_more states i s h.within)

    pub one-begun : IsBegun 2 (take (i + 1) states) after new
    one-begun = subst (λ l. IsBegun 2 l after new) more (next-begun (take i states) s before after old new next)

    pub one-no_more : HoldsNoMore after
    one-no_more = next-no_more (take i states) s before after old new next

    pub one-made : new ≡ loaded_from 2 (take (i + 1) states) first
    one-made =
        next-poked (take i states) s before after old new next ∙ ap (with_words (2 + cells_in (take i states)) s.cells) h.made
        ∙ sym (loaded-push 2 (take i states) s first) ∙ ap (λ l. loaded_from 2 l first) more

-- no state is refused for want of room
pub one-fits : (d : Desc) (states : List State) (i : ℕ) (s : State) (before : Kept) (h : Machinery) → before.machine.desc ≡ d → HaveRoom d 2 states → i < length states →
    s ≡ get_or states i s → IsBegun 2 (take i states) before h → HoldsNoMore before → place_for before (length s.cells) ≡ None → ⊥
one-fits d states i s before h desc fit within is begun no_more none =
    let room = state-room d states i s fit within is in
    let fits = subst (λ (e : Desc). 2 + cells_in (take i states) + length s.cells ≤ e.size) (sym desc) room.1 in
    let some : 1 ≤ length s.cells = (let low = room.0 in omega (arith, low)) in
    let wrong : None ≡ Some (2 + cells_in (take i states)) = sym none ∙ begun-base (take i states) (length s.cells) before h begun no_more some fits in
    cc

-- ---- an image that is one of the states

pub image-least : (d : Desc) (images : List (List ℕ)) (i : ℕ) (image : List ℕ) → HaveRoom d 2 (switched_on images) → i < length images → image ≡ get_or images i image → 2 ≤ length image
image-least d images i image fit within is =
    let room = state-room d (switched_on images) i (power_on image (length image)) fit (switched_on-within images i within) (switched_on-at images i image within is) in
    let same = ap length (switched_on-cells image) in
    (let low = room.0 in omega (arith, low, same))

pub image-words : (d e : Desc) (images : List (List ℕ)) (i : ℕ) (image : List ℕ) → HaveRoom d 2 (switched_on images) → i < length images → image ≡ get_or images i image → e ≡ d →
    All (λ w. w < 2 ^ e.word) image
image-words d e images i image fit within is same =
    let s = power_on image (length image) in
    let one : IsState d s = subst (IsState d) (sym (switched_on-at images i image within is)) (All-get_or (IsState d) (switched_on images) i s (switched_on-within images i within) fit.each) in
    subst (λ (x : Desc). All (λ w. w < 2 ^ x.word) image) (sym same) (subst (All (λ w. w < 2 ^ d.word)) (switched_on-cells image) one.words)
