-- A guest whose program status word is set from outside.
use Rattle.std.proofs.Common.{◌≡◌, ℕ, zero, suc, ◌<◌, ◌^◌, Bool, true, false, if◌then◌else◌, ◌==◌, List, [], ◌∷◌, length, All, Option, None, Some, IsSomeAnd, slice_get, slice_set, refl, sym, ◌∙◌, ap, subst, arith}
use Rattle.std.proofs.lemmas.Bool.{eqb-true, eqb-false}
use Rattle.std.proofs.lemmas.List.Elements.{All-set}
use Rattle.pg_word.specs.declared.psw.Psw.{Psw}
use Rattle.pg_word.specs.Psw.{IsPsw}
use Rattle.pg_ast.specs.declared.tree.Desc.{Desc}
use Rattle.pg_lang_meaning.specs.States.{IsState}
use Rattle.pg_lang_valid.specs.Valid.{IsValid}
use Rattle.pg_hw.specs.Machinery.{Machinery, loaded_with}
use Rattle.pg_routine.specs.Composing.{composed}
use Rattle.pg_mon_control.specs.declared.guest.Guest.{Guest}
use Rattle.pg_mon_control.specs.Guests.{virtual, virtuals, IsGrant}
use Rattle.pg_mon_control.specs.Current.{Holds, is_current, with_psw}
use Rattle.pg_monitor.specs.Reaching.{under_psw, changed_at, entered_if_current}
use Rattle.pg_mon_control.specs.Standing.{IsUnder, Stands}
use Rattle.pg_monitor.proofs.ReachLemmas.{virtuals-changed, changed-all}
use Rattle.pg_mon_control.proofs.GuestLemmas.{disjoint-set, Holds-of}
use Rattle.pg_mon_control.proofs.StateLemmas.{composed-fits}

-- ---- a program status word

set-other : (gs : List Guest) (k j : ℕ) (h : Guest) → ¬ (j ≡ k) → slice_get (slice_set gs k h) j ≡ slice_get gs j
set-other [] k j h other = refl
set-other (x ∷ xs) zero zero h other = absurd (other refl)
set-other (x ∷ xs) zero (suc j) h other = refl
set-other (x ∷ xs) (suc k) zero h other = refl
set-other (x ∷ xs) (suc k) (suc j) h other = set-other xs k j h (λ same. other (ap suc same))

set-at : (gs : List Guest) (k : ℕ) (g h : Guest) → slice_get gs k ≡ Some g → slice_get (slice_set gs k h) k ≡ Some h
set-at [] k g h is = absurd (let wrong : ⊥ = cc in wrong)
set-at (x ∷ xs) zero g h is = refl
set-at (x ∷ xs) (suc k) g h is = set-at xs k g h is

module _ (d : Desc) (old new : Machinery) (gs : List Guest) (current : Option ℕ) (k : ℕ) (g : Guest) (psw : Psw) where
  pub record IsReset : Type 0 where
    pub valid : IsValid d
    pub stands : Stands d old.state gs current
    pub guest : slice_get gs k ≡ Some g
    pub fields : IsPsw d.address psw
    pub entered : new ≡ entered_if_current k current g psw old

  module _ (h : IsReset) where
    held : Holds d old.state g
    held = Holds-of d old.state gs current k g h.stands h.guest

    abbrev IsEntered : Bool → Type 0
    IsEntered b = new ≡ (if b then loaded_with (composed psw g.base g.size) old else old)

    kept-cells : (b : Bool) → IsEntered b → new.state.cells ≡ old.state.cells
    kept-cells true e = ap (λ (x : Machinery). x.state.cells) e
    kept-cells false e = ap (λ (x : Machinery). x.state.cells) e

    cells : new.state.cells ≡ old.state.cells
    cells = kept-cells (is_current k current) h.entered

    pub reset-states : virtuals new.state.cells (slice_set gs k (with_psw g psw)) ≡ changed_at k (under_psw psw) (virtuals old.state.cells gs)
    reset-states = virtuals-changed (under_psw psw) d.size old.state.cells new.state.cells gs k g psw h.guest h.stands.stands.grants h.stands.stands.disjoint
        (λ x grant apart. ap (λ xs. virtual xs x) cells) (ap (λ xs. virtual xs (with_psw g psw)) cells)

    fits : IsPsw d.address (composed psw g.base g.size)
    fits = composed-fits d psw g.base g.size h.valid held.grant.within h.fields

    fields-kept : (b : Bool) → IsEntered b → IsPsw d.address new.state.psw
    fields-kept true e = subst (IsPsw d.address) (sym (ap (λ (x : Machinery). x.state.psw) e)) fits
    fields-kept false e = subst (IsPsw d.address) (sym (ap (λ (x : Machinery). x.state.psw) e)) h.stands.real_state.fields

    abbrev IsUnderOne : Psw → Option Guest → Type 0
    IsUnderOne real o = IsSomeAnd o (λ x. real ≡ composed x.psw x.base x.size)

    same_psw : (real now : Psw) (o : Option Guest) → now ≡ real → IsUnderOne real o → IsUnderOne now o
    same_psw real now None same under = absurd under
    same_psw real now (Some x) same under = same ∙ under

    under : (c : Option ℕ) → IsUnder old.state gs c → new ≡ entered_if_current k c g psw old → IsUnder new.state (slice_set gs k (with_psw g psw)) c
    under None before e = tt
    under (Some j) before e = by_test (j == k) refl e
      where
        by_test : (b : Bool) → (j == k) ≡ b → IsEntered b → IsUnderOne new.state.psw (slice_get (slice_set gs k (with_psw g psw)) j)
        by_test true is e =
            let here : slice_get (slice_set gs k (with_psw g psw)) j ≡ Some (with_psw g psw) =
            ap (slice_get (slice_set gs k (with_psw g psw))) (eqb-true j k is) ∙ set-at gs k g (with_psw g psw) h.guest in
            subst (IsUnderOne new.state.psw) (sym here) (ap (λ (x : Machinery). x.state.psw) e)
        by_test false is e =
            subst (IsUnderOne new.state.psw) (sym (set-other gs k j (with_psw g psw) (eqb-false j k is)))
            (same_psw old.state.psw new.state.psw (slice_get gs j) (ap (λ (x : Machinery). x.state.psw) e) before)

    pub reset-stands : Stands d new.state (slice_set gs k (with_psw g psw)) current
    reset-stands = record {
      stands = record {
        size = ap length cells ∙ h.stands.stands.size;
        grants = All-set (IsGrant d.size) gs k (with_psw g psw) (record { above = held.grant.above; least = held.grant.least; within = held.grant.within }) h.stands.stands.grants;
        disjoint = disjoint-set gs k g psw h.guest h.stands.stands.disjoint;
        guests = refl;
        control = ap (λ xs. slice_get xs 1) cells ∙ h.stands.stands.control;
        under = under current h.stands.stands.under h.entered;
      };
      real_state = record {
        size_least = (let same = ap length cells in let low = h.stands.real_state.size_least in omega (arith, same, low));
        size_most = (let same = ap length cells in let high = h.stands.real_state.size_most in omega (arith, same, high));
        words = subst (All (λ c. c < 2 ^ d.word)) (sym cells) h.stands.real_state.words;
        fields = fields-kept (is_current k current) h.entered;
      };
      virtual_states = subst (All (IsState d)) (sym reset-states)
          (changed-all (IsState d) (under_psw psw) k (virtuals old.state.cells gs)
          (λ s is. record { size_least = is.size_least; size_most = is.size_most; words = is.words; fields = h.fields }) h.stands.virtual_states);
    }
