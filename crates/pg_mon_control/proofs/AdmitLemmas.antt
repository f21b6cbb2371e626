-- A state that a control program takes as a new guest's.
use Rattle.std.proofs.Common.{◌≡◌, ℕ, suc, zero, ◌+◌, ◌<◌, ◌≤◌, ◌⊎◌, inl, inr, ◌^◌, List, [], ◌∷◌, ◌++◌, length, map, take, drop, All, Option, None, Some, IsSomeAnd, slice_get, slice_index, refl, sym, ◌∙◌, ap, subst, arith, pow_mono}
use Rattle.std.proofs.lemmas.List.Elements.{All-nil, All-cons, All-head, All-tail, All-append, All-weaker}
use Rattle.pg_word.specs.declared.psw.Psw.{Psw}
use Rattle.pg_word.specs.Psw.{IsPsw, packed, power_on_psw}
use Rattle.pg_ast.specs.declared.tree.Desc.{Desc}
use Rattle.pg_word.specs.declared.sparse.Sparse.{Sparse}
use Rattle.pg_word.specs.Sparse.{storage_of}
use Rattle.pg_word.proofs.SparseLemmas.{length-storage_of}
use Rattle.pg_lang_meaning.specs.States.{State, IsState}
use Rattle.pg_lang_valid.specs.Valid.{IsValid}
use Rattle.pg_lang_valid.proofs.StepSound.{power_on-state}
use Rattle.pg_lang_valid.proofs.ValidFacts.{IsShape-of_valid}
use Rattle.pg_type.specs.Listed.{state_of}
use Rattle.pg_hw.specs.Machinery.{Machinery}
use Rattle.pg_routine.specs.Composing.{composed}
use Rattle.pg_routine.specs.Granting.{with_grant}
use Rattle.pg_routine.proofs.GrantLaws.{guest-before, guest-after}
use Rattle.pg_routine.proofs.StateLaws.{with_grant-length}
use Rattle.pg_mon_control.specs.declared.guest.Guest.{Guest}
use Rattle.pg_mon_control.specs.Guests.{virtual, virtuals, IsGrant, AreApart, AreDisjoint, guest_in, AreOwned}
use Rattle.pg_mon_control.specs.Loading.{with_words}
use Rattle.pg_alloc.specs.Fit.{free_base}
use Rattle.pg_alloc.proofs.FitLemmas.{free_base-free}
use Rattle.pg_mon_control.specs.Admitting.{Kept, keeping, GrantMade, StateTaken}
use Rattle.pg_mach_ready.specs.declared.machine.Machine.{Machine}
use Rattle.pg_alloc.specs.Grants.{Granted}
use Rattle.pg_mon_control.specs.Standing.{IsUnder, Stands}
use Rattle.pg_mon_control.proofs.CellLemmas.{with_grant-before, cell_of}
use Rattle.pg_mon_control.proofs.GuestLemmas.{LeavesOthers, virtuals-apart}
use Rattle.pg_mon_control.proofs.LoadLemmas.{power_on-whole}
use Rattle.pg_mon_control.proofs.OwnLemmas.{free-apart}
use Rattle.pg_mon_control.proofs.RunLemmas.{virtual-own}
use Rattle.pg_mon_control.proofs.StateLemmas.{granted-state}

-- ---- one more at the end of a list

map-push : {X Y : Type 0} (f : X → Y) (xs : List X) (x : X) → map f (xs ++ x ∷ []) ≡ map f xs ++ f x ∷ []
map-push f [] x = refl
map-push f (y ∷ ys) x = ap (λ l. f y ∷ l) (map-push f ys x)

get-push : {X : Type 0} (xs : List X) (x : X) (k : ℕ) (y : X) → slice_get xs k ≡ Some y → slice_get (xs ++ x ∷ []) k ≡ Some y
get-push [] x k y is = absurd (let wrong : ⊥ = cc in wrong)
get-push (z ∷ zs) x zero y is = is
get-push (z ∷ zs) x (suc k) y is = get-push zs x k y is

disjoint-push : (gs : List Guest) (g : Guest) → AreDisjoint gs → All (λ h. AreApart h g) gs → AreDisjoint (gs ++ g ∷ [])
disjoint-push [] g disjoint apart = (All-nil (AreApart g), tt)
disjoint-push (x ∷ xs) g disjoint apart = (
  All-append (AreApart x) xs (g ∷ []) disjoint.0 (All-cons (AreApart x) g [] (All-head (λ h. AreApart h g) x xs apart) (All-nil (AreApart x))),
  disjoint-push xs g disjoint.1 (All-tail (λ h. AreApart h g) x xs apart),
)

under-push : (old now : State) (gs : List Guest) (g : Guest) (current : Option ℕ) → now.psw ≡ old.psw → IsUnder old gs current → IsUnder now (gs ++ g ∷ []) current
under-push old now gs g None same under = tt
under-push old now gs g (Some k) same under = by_guest (slice_get gs k) refl under
  where
    by_guest : (o : Option Guest) → slice_get gs k ≡ o → IsSomeAnd o (λ x. old.psw ≡ composed x.psw x.base x.size) →
        IsSomeAnd (slice_get (gs ++ g ∷ []) k) (λ x. now.psw ≡ composed x.psw x.base x.size)
    by_guest None is under = absurd under
    by_guest (Some x) is under =
        subst (λ o. IsSomeAnd o (λ y. now.psw ≡ composed y.psw y.base y.size)) (sym (get-push gs g k x is)) (same ∙ under)

-- ---- the others

-- cells that were put into a grant leave every guest beside it
pub grant-others : (q base : ℕ) (cells now new : List ℕ) (psw : Psw) → now ≡ with_grant cells base new → base + length new ≤ length cells →
    LeavesOthers q cells now (guest_in base (length new) psw)
grant-others q base cells now new psw is within x grant apart =
    ap (λ xs. virtual xs x) is ∙ ap (λ xs. let t : State = record { cells = xs; psw = x.psw } in t) (by_place apart)
  where
    by_place : AreApart x (guest_in base (length new) psw) → take x.size (drop x.base (with_grant cells base new)) ≡ take x.size (drop x.base cells)
    by_place (inl before) = guest-before cells new base x.base x.size within before
    by_place (inr after) = guest-after cells new base x.base x.size within after

abbrev pub IsFreeOf : ℕ → ℕ → Guest → Type 0
IsFreeOf base size g = (base + size ≤ g.base) ⊎ (g.base + g.size ≤ base)

turned : (base size : ℕ) (psw : Psw) (g : Guest) → IsFreeOf base size g → AreApart g (guest_in base size psw)
turned base size psw g (inl before) = inr before
turned base size psw g (inr after) = inl after

module _ (d : Desc) (old now : State) (gs hs : List Guest) (before after : Option ℕ) (s : State) (base : ℕ) where
  -- what is known of a state that was put into the cells from a base on
  pub record IsPut : Type 0 where
    pub stands : Stands d old gs before
    pub state : IsState d s
    pub above : 2 ≤ base
    pub within : base + length s.cells ≤ d.size
    pub beside : All (IsFreeOf base (length s.cells)) gs
    pub cells : now.cells ≡ with_grant old.cells base s.cells
    pub psw : now.psw ≡ old.psw
    pub guests : hs ≡ gs ++ guest_in base (length s.cells) s.psw ∷ []
    pub current : after ≡ before

  module _ (h : IsPut) where
    abbrev newcomer : Guest
    newcomer = guest_in base (length s.cells) s.psw

    fits : base + length s.cells ≤ length old.cells
    fits = omega (arith, h.stands.stands.size, h.within)

    own : virtual now.cells newcomer ≡ s
    own = virtual-own old.cells now.cells base (length s.cells) s h.cells (omega (arith, fits)) refl

    others : virtuals now.cells gs ≡ virtuals old.cells gs
    others = virtuals-apart d.size old.cells now.cells newcomer gs (grant-others d.size base old.cells now.cells s.cells s.psw h.cells fits) h.stands.stands.grants
        (All-weaker (IsFreeOf base (length s.cells)) (AreApart newcomer) (λ g free. free) gs h.beside)

    pub put-states : virtuals now.cells hs ≡ virtuals old.cells gs ++ s ∷ []
    put-states =
        ap (virtuals now.cells) h.guests ∙ map-push (virtual now.cells) gs newcomer ∙ ap (λ l. l ++ virtual now.cells newcomer ∷ []) others
        ∙ ap (λ x. virtuals old.cells gs ++ x ∷ []) own

    same_size : length now.cells ≡ length old.cells
    same_size = ap length h.cells ∙ with_grant-length old.cells s.cells base fits

    in_list : Stands d now (gs ++ newcomer ∷ []) before
    in_list = record {
      stands = record {
        size = same_size ∙ h.stands.stands.size;
        grants = All-append (IsGrant d.size) gs (newcomer ∷ []) h.stands.stands.grants
            (All-cons (IsGrant d.size) newcomer [] (record { above = h.above; least = h.state.size_least; within = h.within }) (All-nil (IsGrant d.size)));
        disjoint = disjoint-push gs newcomer h.stands.stands.disjoint
            (All-weaker (IsFreeOf base (length s.cells)) (λ g. AreApart g newcomer) (turned base (length s.cells) s.psw) gs h.beside);
        guests = refl;
        control = cell_of old.cells now.cells 1 (packed d.address (power_on_psw d.size)) same_size
            (ap (λ xs. slice_index xs 1) h.cells ∙ with_grant-before old.cells s.cells base 1 (omega (arith, fits)) (omega (arith, h.above))) h.stands.stands.control;
        under = under-push old now gs newcomer before h.psw h.stands.stands.under;
      };
      real_state = granted-state d old s base now h.stands.real_state h.state fits h.cells (subst (IsPsw d.address) (sym h.psw) h.stands.real_state.fields);
      virtual_states = subst (All (IsState d)) (sym (ap (virtuals now.cells) (sym h.guests) ∙ put-states))
          (All-append (IsState d) (virtuals old.cells gs) (s ∷ []) h.stands.virtual_states (All-cons (IsState d) s [] h.state (All-nil (IsState d))));
    }

    pub put-stands : Stands d now hs after
    put-stands = subst (λ l. Stands d now l after) (sym h.guests) (subst (λ o. Stands d now (gs ++ newcomer ∷ []) o) (sym h.current) in_list)

-- ---- a control program that takes it

module _ (s : State) (before after : Kept) (old new : Machinery) (base : ℕ) where
  pub record IsAdmitted : Type 0 where
    pub owned : AreOwned before.machine.desc.size before.granted before.guests
    pub stands : Stands before.machine.desc old.state before.guests before.current
    pub state : IsState before.machine.desc s
    pub placed : GrantMade (length s.cells) base before after
    pub guests : after.guests ≡ before.guests ++ guest_in base (length s.cells) s.psw ∷ []
    pub poked : new ≡ with_words base s.cells old

  module _ (h : IsAdmitted) where
    put : IsPut before.machine.desc old.state new.state before.guests after.guests before.current after.current s base
    put =
        let free = free_base-free before.machine.desc.size before.granted.grants (length s.cells) base h.placed.first in
        record {
          stands = h.stands;
          state = h.state;
          above = free.above;
          within = free.within;
          beside = free-apart before.machine.desc.size (length s.cells) base before.granted before.guests h.owned h.placed.first;
          cells = ap (λ (x : Machinery). x.state.cells) h.poked;
          psw = ap (λ (x : Machinery). x.state.psw) h.poked;
          guests = h.guests;
          current = h.placed.current;
        }

    pub admits : StateTaken s before after old new
    admits = record {
      base = base;
      placed = h.placed;
      guests = h.guests;
      states = put-states before.machine.desc old.state new.state before.guests after.guests before.current after.current s base put;
      poked = h.poked;
    }

    pub admits-stands : Stands before.machine.desc new.state after.guests after.current
    admits-stands = put-stands before.machine.desc old.state new.state before.guests after.guests before.current after.current s base put

-- where it is placed it has room
pub placed-within : (d : Desc) (real : State) (gs : List Guest) (current : Option ℕ) (grants : List (ℕ × ℕ)) (size base : ℕ) → Stands d real gs current → free_base d.size grants size ≡ Some base →
    base + size ≤ length real.cells
placed-within d real gs current grants size base stands first =
    (let free = free_base-free d.size grants size base first in omega (arith, free.within, stands.stands.size))

pub placed-fits : (d : Desc) (grants : List (ℕ × ℕ)) (size base : ℕ) → IsValid d → free_base d.size grants size ≡ Some base → base + size < 2 ^ 32
placed-fits d grants size base valid first =
    let free = free_base-free d.size grants size base first in
    let shape = IsShape-of_valid d valid in
    let most : 2 ^ d.address ≤ 2 ^ 20 = pow_mono shape.address_most in
    omega (arith, most, shape.size_most, free.within)

-- an image that is switched on
pub image-admitted : (image words : List ℕ) (psw : Psw) (before after : Kept) (old new : Machinery) (base : ℕ) → words ≡ image → psw ≡ power_on_psw (length words) →
    AreOwned before.machine.desc.size before.granted before.guests → Stands before.machine.desc old.state before.guests before.current → 2 ≤ length image → All (λ w. w < 2 ^ before.machine.desc.word) image → GrantMade (length words) base before after →
    after.guests ≡ before.guests ++ guest_in base (length words) psw ∷ [] → new ≡ with_words base words old →
    IsAdmitted (record { cells = image; psw = power_on_psw (length image) }) before after old new base
image-admitted image words psw before after old new base same psw_is owned stands least fits placed guests poked =
    let d = before.machine.desc in
    let free = free_base-free d.size before.granted.grants (length words) base placed.first in
    let small : length image ≤ d.size = (let len = ap length same in omega (arith, free.within, len)) in
    record {
      owned = owned;
      stands = stands;
      state = subst (IsState d) (power_on-whole image) (power_on-state d image (length image) before.machine.valid least small (omega arith) fits);
      placed = subst (λ xs. GrantMade (length xs) base before after) same placed;
      guests = guests ∙ ap (λ (x : Psw). before.guests ++ guest_in base (length words) x ∷ []) psw_is
          ∙ ap (λ xs. before.guests ++ guest_in base (length xs) (power_on_psw (length xs)) ∷ []) same;
      poked = poked ∙ ap (λ xs. with_words base xs old) same;
    }

-- a state that goes on
pub state-admitted : (state : Sparse) (before after : Kept) (old new : Machinery) (base : ℕ) →
    AreOwned before.machine.desc.size before.granted before.guests → Stands before.machine.desc old.state before.guests before.current → IsState before.machine.desc (state_of state) → GrantMade state.size base before after →
    after.guests ≡ before.guests ++ guest_in base state.size state.psw ∷ [] → new ≡ with_words base (storage_of state.size state.cells) old →
    IsAdmitted (state_of state) before after old new base
state-admitted state before after old new base owned stands fits placed guests poked =
    let len = sym (length-storage_of state.size state.cells) in
    record {
      owned = owned;
      stands = stands;
      state = fits;
      placed = subst (λ n. GrantMade n base before after) len placed;
      guests = guests ∙ ap (λ n. before.guests ++ guest_in base n state.psw ∷ []) len;
      poked = poked;
    }

-- ---- whichever guest is current

pub Stands-alone : (d : Desc) (real : State) (gs : List Guest) (current : Option ℕ) → Stands d real gs current → Stands d real gs None
Stands-alone d real gs current s = record {
  stands = record {
    size = s.stands.size;
    grants = s.stands.grants;
    disjoint = s.stands.disjoint;
    guests = refl;
    control = s.stands.control;
    under = tt;
  };
  real_state = s.real_state;
  virtual_states = s.virtual_states;
}

-- an image that is taken while no guest is current is taken while any is
pub taken-beside : (s : State) (m : Machine) (granted now : Granted) (gs hs : List Guest) (current : Option ℕ) (old new : Machinery) →
    StateTaken s (keeping m granted gs None) (keeping m now hs None) old new → StateTaken s (keeping m granted gs current) (keeping m now hs current) old new
taken-beside s m granted now gs hs current old new taken = record {
  base = taken.base;
  placed = record { first = taken.placed.first; granted = taken.placed.granted; machine = refl; current = refl };
  guests = taken.guests;
  states = taken.states;
  poked = taken.poked;
}
