-- A monitor that is made ready before there is a hardware.
use Rattle.std.proofs.Common.{◌≡◌, ℕ, ◌+◌, ◌-◌, ◌^◌, ◌≤◌, ◌<◌, lit<, refl, take, drop, slice_set, ◌⊎◌, inl, inr, ◌∙◌, ap, sym, subst, arith, List, [], ◌∷◌, ◌++◌, length, replicate, Option, Some, None}
use Rattle.std.proofs.lemmas.Bool.{cases_order}
use Rattle.std.proofs.lemmas.Option.{same_Some}
use Rattle.std.proofs.lemmas.List.{length-replicate, drop-replicate, take-replicate, drop-set-lt}
use Rattle.std.proofs.lemmas.List.Elements.{All-nil, All-replicate}
use Rattle.std.proofs.lemmas.Nat.{pow_pos}
use Rattle.pg_word.specs.declared.psw.Psw.{Psw}
use Rattle.pg_word.specs.Psw.{power_on_psw}
use Rattle.pg_ast.specs.declared.tree.Desc.{Desc}
use Rattle.pg_lang_meaning.specs.States.{State, IsState}
use Rattle.pg_lang_meaning.specs.Steps.{power_on}
use Rattle.pg_lang_valid.specs.Valid.{IsValid}
use Rattle.pg_mach_ready.specs.declared.machine.Machine.{Machine}
use Rattle.pg_lang_valid.proofs.StepSound.{power_on-state}
use Rattle.pg_hw.specs.Serving.{blank}
use Rattle.pg_routine.specs.Granting.{with_grant}
use Rattle.pg_routine.proofs.GrantLaws.{with_grant-same}
use Rattle.pg_alloc.specs.Fit.{kept_cells, free_base}
use Rattle.pg_alloc.specs.Grants.{Granted, and_grant}
use Rattle.pg_alloc.proofs.FitLemmas.{free_base-first, free_base-free}
use Rattle.pg_mon_control.specs.declared.guest.Guest.{Guest}
use Rattle.pg_monitor.specs.declared.monitor.Monitor.{Monitor}
use Rattle.pg_mon_control.specs.Standing.{Stands}
use Rattle.pg_mon_control.proofs.AdmitLemmas.{IsPut, IsFreeOf}
use Rattle.pg_mon_control.proofs.LoadLemmas.{power_on-whole}
use Rattle.pg_monitor.specs.Monitors.{desc_of, base_for, GrantsOne, IsReady}
use Rattle.pg_mon_control.specs.Guests.{guest_in}

-- the first base is the one behind the cells that are kept
first-base : (q size base : ℕ) → free_base q [] size ≡ Some base → base ≡ kept_cells
first-base q size base first =
    let free = free_base-free q [] size base first in
    same_Some base 2 (sym first ∙ free_base-first q size (let low = free.above in let high = free.within in omega (arith, low, high)))

pub ready-of : (size : ℕ) (before after : Monitor) (psw : Psw) (base : ℕ) → before.granted.grants ≡ [] → before.guests ≡ [] → before.current ≡ None → psw ≡ power_on_psw size → 2 ≤ size →
    GrantsOne size base before after → after.guests ≡ before.guests ++ guest_in base size psw ∷ [] → IsReady size after
ready-of size before after psw base grants guests current psw_is least placed made =
    let q = (desc_of before).size in
    let first : free_base q [] size ≡ Some base = ap (λ gs. free_base q gs size) (sym grants) ∙ placed.first in
    let at = first-base q size base first in
    let free = free_base-free q [] size base first in
    let same : (desc_of after).size ≡ q = ap (λ (m : Machine). m.desc.size) placed.machine in
    record {
      least = least;
      within = omega (arith, same, free.within, at);
      granted = ap (λ (x : Granted). x.grants) placed.granted ∙ ap (and_grant (base, size)) grants ∙ ap (λ (b : ℕ). let l : List (ℕ × ℕ) = (b, size) ∷ [] in l) at;
      guests = made ∙ ap (λ (gs : List Guest). gs ++ guest_in base size psw ∷ []) guests
          ∙ ap (λ b. guest_in b size psw ∷ []) at ∙ ap (λ (x : Psw). guest_in kept_cells size x ∷ []) psw_is;
      current = placed.current ∙ current;
    }

-- where there is no base there is no room
pub room-found : (size : ℕ) (m : Monitor) → m.granted.grants ≡ [] → (machine : Machine) → m.accepted.machine.now ≡ machine → base_for m size ≡ None → machine.desc.size < kept_cells + size
room-found size m grants machine same none = by_order (cases_order machine.desc.size (2 + size))
  where
    some : 2 + size ≤ machine.desc.size → ⊥
    some room =
        let q : (desc_of m).size ≡ machine.desc.size = ap (λ (x : Machine). x.desc.size) same in
        let found : base_for m size ≡ Some 2 = ap (λ gs. free_base (desc_of m).size gs size) grants ∙ free_base-first (desc_of m).size size (omega (arith, q, room)) in
        let wrong : None ≡ Some 2 = sym none ∙ found in cc

    by_order : (machine.desc.size ≡ 2 + size) ⊎ ((machine.desc.size < 2 + size) ⊎ (2 + size < machine.desc.size)) → machine.desc.size < kept_cells + size
    by_order (inl equal) = absurd (some (omega (arith, equal)))
    by_order (inr (inl less)) = less
    by_order (inr (inr more)) = absurd (some (omega (arith, more)))

-- ---- a monitor that starts on a hardware that was just installed

pub installed-size : (n : ℕ) (s : State) → s ≡ blank n → length s.cells ≡ n
unfolding blank
installed-size n s is = ap (λ (x : State). length x.cells) is ∙ length-replicate {A = ℕ} n 0

-- the cells behind those that are kept are zeros
zeros : (n size word : ℕ) (old now : State) → old ≡ blank n → now.cells ≡ slice_set old.cells 1 word → 2 + size ≤ n → take size (drop 2 now.cells) ≡ replicate size 0
unfolding blank
zeros n size word old now is set room =
    ap (λ xs. take size (drop 2 xs)) (set ∙ ap (λ (x : State). slice_set x.cells 1 word) is)
    ∙ ap (take size) (drop-set-lt 2 (replicate n 0) 1 word (lit< tt) ∙ drop-replicate {X = ℕ} 2 n 0)
    ∙ take-replicate {X = ℕ} size (n - 2) 0 (omega arith)

-- the state of cells of zero that is switched on
abbrev pub dark : ℕ → State
dark size = record { cells = replicate size 0; psw = power_on_psw size }

pub dark-is : (size : ℕ) → dark size ≡ power_on (replicate size 0) size
dark-is size =
    let len = length-replicate {A = ℕ} size 0 in
    sym (ap (power_on (replicate size 0)) (sym len) ∙ power_on-whole (replicate size 0) ∙ ap (λ n. let s : State = record { cells = replicate size 0; psw = power_on_psw n } in s) len)

pub started : (d : Desc) (size word : ℕ) (old now : State) (hs : List Guest) (current : Option ℕ) → IsValid d → 2 ≤ size → 2 + size ≤ d.size → old ≡ blank d.size →
    now ≡ record old { cells = slice_set old.cells 1 word } → Stands d now [] None → hs ≡ guest_in 2 size (power_on_psw size) ∷ [] → current ≡ None →
    IsPut d now now [] hs None current (dark size) 2
started d size word old now hs current valid least room is poked stands guests none =
    let len = length-replicate {A = ℕ} size 0 in
    let here : size ≡ length (replicate {A = ℕ} size 0) = sym len in
    let zero = zeros d.size size word old now is (ap (λ (x : State). x.cells) poked) room in
    record {
      stands = stands;
      state = subst (IsState d) (sym (dark-is size))
          (power_on-state d (replicate size 0) size valid least (omega arith) (omega (arith, len)) (All-replicate (λ w. w < 2 ^ d.word) size 0 (pow_pos d.word)));
      above = omega arith;
      within = omega (arith, len, room);
      beside = All-nil (IsFreeOf 2 (length (dark size).cells));
      cells = sym (ap (with_grant now.cells 2) (sym zero) ∙ with_grant-same now.cells 2 size (omega (arith, room, stands.stands.size)));
      psw = refl;
      guests = guests ∙ ap (λ n. guest_in 2 n (power_on_psw size) ∷ []) here;
      current = none;
    }
