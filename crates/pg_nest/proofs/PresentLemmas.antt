-- A monitor of one guest: what it presents, and what calls leave of that.
use Rattle.std.proofs.Common.{◌≡◌, ℕ, zero, suc, ◌+◌, ◌<◌, ◌≤◌, List, [], ◌∷◌, length, take, drop, replicate, All, Option, None, Some, IsSomeAnd, slice_get, slice_set, refl, sym, ◌∙◌, ap, subst, arith}
use Rattle.std.proofs.lemmas.Option.{same_Some}
use Rattle.std.proofs.lemmas.List.Elements.{All-nil, All-cons}
use Rattle.pg_word.specs.declared.psw.Psw.{Psw}
use Rattle.pg_word.specs.Psw.{power_on_psw}
use Rattle.pg_ast.specs.declared.tree.Desc.{Desc}
use Rattle.pg_lang_meaning.specs.States.{State, IsState}
use Rattle.pg_lang_meaning.specs.Steps.{power_on, steps}
use Rattle.pg_lang_valid.specs.Valid.{IsValid}
use Rattle.pg_type.specs.Accepting.{IsAccepted}
use Rattle.pg_alloc.specs.Fit.{kept_cells}
use Rattle.pg_hw.specs.Bursts.{BottomRises}
use Rattle.pg_hw.specs.Machinery.{Machinery}
use Rattle.pg_hw.specs.Serving.{blank}
use Rattle.pg_hw.proofs.ServingLaws.{blank-power_on}
use Rattle.pg_routine.proofs.GrantLaws.{guest-length}
use Rattle.pg_mon_control.specs.declared.guest.Guest.{Guest}
use Rattle.pg_mon_control.specs.Counting.{BottomTurns}
use Rattle.pg_mon_control.specs.Current.{Holds, with_psw}
use Rattle.pg_mon_control.specs.Direct.{direct_among}
use Rattle.pg_mon_control.specs.Guests.{virtual, virtuals, IsGrant, AreApart, AreDisjoint, grants_of, guest_in}
use Rattle.pg_mon_control.specs.Plans.{moved}
use Rattle.pg_mon_control.specs.Standing.{Stands}
use Rattle.pg_mon_control.proofs.DirectLemmas.{Holds-length, Holds-within}
use Rattle.pg_mon_control.proofs.GuestLemmas.{Holds-of}
use Rattle.pg_monitor.specs.Reaching.{with_cell, under_psw, changed_at}
use Rattle.pg_monitor.specs.Turns.{Turned}
use Rattle.pg_monitor.proofs.ReadyLemmas.{dark, dark-is}
use Rattle.pg_nest.specs.Presenting.{first_guest, first_state, Presents}
use Rattle.pg_nest.proofs.DirectCounts.{bottom-rises}

-- ---- the only guest

pub alone-first : (gs : List Guest) → gs ≡ first_guest gs ∷ [] → slice_get gs 0 ≡ Some (first_guest gs)
alone-first gs alone = ap (λ l. slice_get l 0) alone

pub alone-length : (gs : List Guest) → gs ≡ first_guest gs ∷ [] → 0 < length gs
alone-length gs alone = let one : length gs ≡ 1 = ap length alone in omega (arith, one)

-- the same with its grant, after turns
alone-kept : (old new : List Guest) → old ≡ first_guest old ∷ [] → grants_of new ≡ grants_of old → new ≡ first_guest new ∷ []
alone-kept old [] alone same = let e = same ∙ ap grants_of alone in absurd (let wrong : ⊥ = cc in wrong)
alone-kept old (h ∷ []) alone same = refl
alone-kept old (h ∷ k ∷ rest) alone same = let e = same ∙ ap grants_of alone in absurd (let wrong : ⊥ = cc in wrong)

first_base : List (ℕ × ℕ) → ℕ
first_base [] = 0
first_base (x ∷ xs) = x.0

base-kept : (old new : List Guest) → old ≡ first_guest old ∷ [] → new ≡ first_guest new ∷ [] → grants_of new ≡ grants_of old → (first_guest new).base ≡ (first_guest old).base
unfolding first_base
base-kept old new alone alone' same = ap first_base (sym (ap grants_of alone') ∙ same ∙ ap grants_of alone)

-- ---- presented, and standing

pub presents-stands : (d : Desc) (real : State) (gs : List Guest) (current : Option ℕ) → Presents d real gs current → Stands d real gs current
presents-stands d real gs current p =
    let g = first_guest gs in
    record {
      stands = record {
        size = p.holds.size;
        grants = subst (All (IsGrant d.size)) (sym p.alone) (All-cons (IsGrant d.size) g [] p.holds.grant (All-nil (IsGrant d.size)));
        disjoint = subst AreDisjoint (sym p.alone) (All-nil (AreApart g), tt);
        guests = refl;
        control = p.holds.control;
        under = p.under;
      };
      real_state = p.holds.real_state;
      virtual_states = subst (λ l. All (IsState d) (virtuals real.cells l)) (sym p.alone) (All-cons (IsState d) (virtual real.cells g) [] p.holds.virtual_state (All-nil (IsState d)));
    }

pub presents-of : (d : Desc) (real : State) (gs : List Guest) (current : Option ℕ) → Stands d real gs current → gs ≡ first_guest gs ∷ [] → (first_guest gs).base ≡ kept_cells → Presents d real gs current
presents-of d real gs current stands alone base = record {
  alone = alone;
  base = base;
  holds = Holds-of d real gs current 0 (first_guest gs) stands (alone-first gs alone);
  under = stands.stands.under;
}

states-alone : (cells : List ℕ) (gs : List Guest) → gs ≡ first_guest gs ∷ [] → virtuals cells gs ≡ first_state cells gs ∷ []
states-alone cells gs alone = ap (virtuals cells) alone

heads : (s t : State) → (let xs : List State = s ∷ [] in xs) ≡ t ∷ [] → s ≡ t
heads s t e = same_Some s t (ap (λ (l : List State). slice_get l 0) e)

-- a change of the first of states, where there is one guest
pub changed-first : (change : State → State) (old new : List ℕ) (gs hs : List Guest) → gs ≡ first_guest gs ∷ [] → hs ≡ first_guest hs ∷ [] →
    virtuals new hs ≡ changed_at 0 change (virtuals old gs) → first_state new hs ≡ change (first_state old gs)
changed-first change old new gs hs alone alone' is =
    heads (first_state new hs) (change (first_state old gs)) (sym (states-alone new hs alone') ∙ is ∙ ap (changed_at 0 change) (states-alone old gs alone))

-- ---- turns of the guest

module _ (d : Desc) (n : ℕ) (old new : Machinery) (gs hs : List Guest) (c c' : Option ℕ) (p : Presents d old.state gs c) (turned : Turned d 0 n old new gs hs c c') where
  still-alone : hs ≡ first_guest hs ∷ []
  still-alone = alone-kept gs hs p.alone turned.grants

  pub turned-presents : Stands d new.state hs c' → Presents d new.state hs c'
  turned-presents stands = presents-of d new.state hs c' stands still-alone (base-kept gs hs p.alone still-alone turned.grants ∙ p.base)

  pub turned-state : first_state new.state.cells hs ≡ steps d n (first_state old.state.cells gs)
  turned-state =
      heads (first_state new.state.cells hs) (steps d n (first_state old.state.cells gs))
      (sym (states-alone new.state.cells hs still-alone) ∙ turned.states ∙ ap (moved d 0 n) (states-alone old.state.cells gs p.alone))

  pub turned-bottom : ∥ IsAccepted d ∥₁ → IsValid d → BottomRises d n (first_state old.state.cells gs) old.bottom new.bottom
  turned-bottom accepted valid =
      let g = first_guest gs in
      let same : turned.guest ≡ g = same_Some turned.guest g (sym turned.is_guest ∙ alone-first gs p.alone) in
      let len = Holds-length d old.state g p.holds in
      bottom-rises d g.base n (first_state old.state.cells gs) old.bottom new.bottom accepted valid p.holds.virtual_state (omega (arith, len, p.holds.grant.within))
      (subst (λ (x : Guest). BottomTurns n (direct_among d x.base n (virtual old.state.cells x)) old.bottom new.bottom) same turned.bottom)

-- ---- a guest that was just switched on

pub started-first : (size : ℕ) (gs : List Guest) → gs ≡ guest_in kept_cells size (power_on_psw size) ∷ [] → first_guest gs ≡ guest_in kept_cells size (power_on_psw size)
started-first size gs is = ap first_guest is

pub started-alone : (size : ℕ) (gs : List Guest) → gs ≡ guest_in kept_cells size (power_on_psw size) ∷ [] → gs ≡ first_guest gs ∷ []
started-alone size gs is = is ∙ ap (λ (g : Guest). let l : List Guest = g ∷ [] in l) (sym (started-first size gs is))

pub started-blank : (size : ℕ) (cells : List ℕ) (gs : List Guest) → gs ≡ guest_in kept_cells size (power_on_psw size) ∷ [] → virtuals cells gs ≡ power_on (replicate size 0) size ∷ [] →
    first_state cells gs ≡ blank size
unfolding blank
started-blank size cells gs is states =
    heads (first_state cells gs) (power_on (replicate size 0) size) (sym (states-alone cells gs (started-alone size gs is)) ∙ states) ∙ sym (dark-is size)

pub started-base : (size : ℕ) (gs : List Guest) → gs ≡ guest_in kept_cells size (power_on_psw size) ∷ [] → (first_guest gs).base ≡ kept_cells
started-base size gs is = ap (λ (g : Guest). g.base) (started-first size gs is)

pub started-blank-of : (had size : ℕ) (cells : List ℕ) (gs : List Guest) → had ≡ size → gs ≡ guest_in kept_cells had (power_on_psw had) ∷ [] → virtuals cells gs ≡ power_on (replicate had 0) had ∷ [] →
    first_state cells gs ≡ blank size
started-blank-of had size cells gs same is states = started-blank had cells gs is states ∙ ap blank same
