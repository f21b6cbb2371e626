-- What a run of guests leaves on a hardware is one state: no cell and no field of the program status word is left to chance.
use Rattle.std.proofs.Common.{◌≡◌, ℕ, zero, suc, ◌+◌, ◌-◌, ◌≤◌, ◌<◌, ◌⊎◌, inl, inr, List, [], ◌∷◌, drop, Some, slice_get, get_or, sym, ◌∙◌, ap, ap₂, arith}
use Rattle.std.proofs.lemmas.Bool.{cases_lt}
use Rattle.std.proofs.lemmas.List.{ext_get_or, get_or-drop, get_or-take}
use Rattle.std.proofs.lemmas.List.Elements.{All-cons, All-nil}
use Rattle.std.proofs.lemmas.Option.{get_or_from_slice_get}
use Rattle.pg_hw.specs.Machinery.{Machinery}
use Rattle.pg_lang_meaning.specs.States.{State}
use Rattle.pg_mon_control.specs.declared.guest.Guest.{Guest}
use Rattle.pg_mon_control.specs.Plans.{IsOutside}
use Rattle.pg_report.specs.Spans.{span}
use Rattle.pg_run_guests.specs.UnderMonitor.{RanGuests}
use Rattle.pg_run_guests.specs.Runs.{GuestRun, granted, guests_of}

abbrev first : List (List ℕ) → List ℕ
first [] = []
first (x ∷ xs) = x

abbrev rest : List (List ℕ) → List (List ℕ)
rest [] = []
rest (x ∷ xs) = xs

-- where spans hold the same, each cell of them does
same-span : (base size at : ℕ) (xs ys : List ℕ) → span base size xs ≡ span base size ys → base ≤ at → at < base + size → get_or xs at 0 ≡ get_or ys at 0
same-span base size at xs ys same from below = there xs ∙ ap (λ s. get_or s (at - base) 0) same ∙ sym (there ys)
  where
    there : (l : List ℕ) → get_or l at 0 ≡ get_or (span base size l) (at - base) 0
    there l =
        let place : at ≡ base + (at - base) = omega (arith, from) in
        ap (λ i. get_or l i 0) place ∙ sym (get_or-drop base l (at - base) 0) ∙ sym (get_or-take size (drop base l) (at - base) 0 (omega (arith, from, below)))

abbrev is_outside : ℕ → Guest → Type 0
is_outside at g = (at < g.base) ⊎ (g.base + g.size ≤ at)

-- a cell is in one of the grants, or outside of them
same-granted : (gs : List Guest) (at : ℕ) (xs ys : List ℕ) → granted gs xs ≡ granted gs ys → (IsOutside gs at → get_or xs at 0 ≡ get_or ys at 0) →
    get_or xs at 0 ≡ get_or ys at 0
same-granted [] at xs ys same outside = outside (record { outside = All-nil (is_outside at) })
same-granted (g ∷ gs) at xs ys same outside =
    below (cases_lt at g.base) (λ out. same-granted gs at xs ys (ap rest same) (λ others. outside (record { outside = All-cons (is_outside at) g gs out others.outside })))
  where
    above : g.base ≤ at → (at < g.base + g.size) ⊎ (g.base + g.size ≤ at) → (is_outside at g → get_or xs at 0 ≡ get_or ys at 0) → get_or xs at 0 ≡ get_or ys at 0
    above from (inl within) beside = same-span g.base g.size at xs ys (ap first same) from within
    above from (inr past) beside = beside (inr past)

    below : (at < g.base) ⊎ (g.base ≤ at) → (is_outside at g → get_or xs at 0 ≡ get_or ys at 0) → get_or xs at 0 ≡ get_or ys at 0
    below (inl under) beside = beside (inl under)
    below (inr from) beside = above from (cases_lt at (g.base + g.size)) beside

same-get : (xs ys : List ℕ) (at x : ℕ) → slice_get xs at ≡ Some x → slice_get ys at ≡ Some x → get_or xs at 0 ≡ get_or ys at 0
same-get xs ys at x h k = get_or_from_slice_get xs at x 0 h ∙ sym (get_or_from_slice_get ys at x 0 k)

module _ (r : GuestRun) (old one other : Machinery) (h : RanGuests r old one) (k : RanGuests r old other) where
  same_cell : (at : ℕ) → at < r.desc.size → get_or one.state.cells at 0 ≡ get_or other.state.cells at 0
  same_cell zero within = h.cell_0 ∙ sym k.cell_0
  same_cell (suc zero) within = same-get one.state.cells other.state.cells 1 _ h.control k.control
  same_cell (suc (suc n)) within =
      same-granted (guests_of r) (suc (suc n)) one.state.cells other.state.cells (h.grants ∙ sym k.grants)
      (λ out. same-get one.state.cells other.state.cells (suc (suc n)) 0 (h.outside (suc (suc n)) (omega arith) within out) (k.outside (suc (suc n)) (omega arith) within out))

  pub one_state : one.state ≡ other.state
  one_state =
      let cells : one.state.cells ≡ other.state.cells =
      ext_get_or 0 one.state.cells other.state.cells (h.size ∙ sym k.size) (λ at within. same_cell at (omega (arith, within, h.size))) in
      let of_parts : List ℕ → _ → State = λ cells psw. record { cells = cells; psw = psw } in
      ap₂ of_parts cells (h.psw ∙ sym k.psw)
