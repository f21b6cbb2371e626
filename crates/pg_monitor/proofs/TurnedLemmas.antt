-- Turns of a guest in a list, with its change of guest.
use Rattle.std.proofs.Common.{◌≡◌, ℕ, zero, suc, ◌<◌, inl, inr, true, List, length, Option, Some, slice_set, slice_index, slice_get, refl, sym, ◌∙◌, ap, subst, arith}
use Rattle.std.proofs.lemmas.Option.{slice_get_cases}
use Rattle.pg_ast.specs.declared.tree.Desc.{Desc}
use Rattle.pg_lang_meaning.specs.States.{State}
use Rattle.pg_lang_meaning.specs.Steps.{step, steps}
use Rattle.pg_lang_valid.specs.Valid.{IsValid}
use Rattle.pg_type.specs.Accepting.{IsAccepted}
use Rattle.pg_hw.specs.declared.counts.Counts.{Counts}
use Rattle.pg_hw.specs.Tallies.{Bottom, raised_by}
use Rattle.pg_hw.specs.Machinery.{Machinery}
use Rattle.pg_routine.specs.Composing.{composed}
use Rattle.pg_routine.specs.Granting.{with_grant}
use Rattle.pg_routine.proofs.GrantLaws.{with_grant-same}
use Rattle.pg_mon_control.specs.declared.guest.Guest.{Guest}
use Rattle.pg_mon_control.specs.Guests.{virtual, virtuals}
use Rattle.pg_mon_control.specs.Direct.{is_direct, direct_among}
use Rattle.pg_mon_control.specs.Standing.{Stands}
use Rattle.pg_mon_control.specs.Plans.{moved}
use Rattle.pg_mon_control.specs.Traps.{trap_cell}
use Rattle.pg_monitor.specs.Turns.{storage_after, Turned}
use Rattle.pg_mon_control.specs.Current.{change_to, with_psw}
use Rattle.pg_mon_control.specs.Advancing.{Advanced}
use Rattle.pg_monitor.specs.Current.{Went}
use Rattle.pg_mon_control.proofs.AdvanceLemmas.{kept-outside, Moved, Moved-of, Stands-advanced, under-own}
use Rattle.pg_mon_control.proofs.CellLemmas.{set_same}
use Rattle.pg_mon_control.proofs.DirectLemmas.{Holds-within, Holds-length, accepted-alike}
use Rattle.pg_mon_control.proofs.GuestLemmas.{Holds-of, Runs-of, direct-kept, moved-none}
use Rattle.pg_mon_control.proofs.CountLemmas.{BottomTurns-none}
use Rattle.pg_monitor.proofs.WentLemmas.{CountsTurns-none}

-- ---- the guest that runs, and the others

Went-advanced : (d : Desc) (k n : ℕ) (old : State) (between new : Machinery) (gs : List Guest) (current : Option ℕ) (g h : Guest) →
    Stands d old gs current → slice_get gs k ≡ Some g → between.state.cells ≡ old.cells → Went d n between new g h → Advanced d n old new.state g h
Went-advanced d k n old between new gs current g h stands is same went =
    let mid = between.state in
    let now = new.state in
    let held = Holds-of d old gs current k g stands is in
    let size : length (steps d n (virtual mid.cells g)).cells ≡ g.size =
    ap (λ (x : State). length x.cells) (sym went.state) ∙ Holds-length d now h went.runs.holds ∙ ap (λ (x : Guest). x.size) went.guest in
    let storage : now.cells ≡ slice_set (with_grant old.cells g.base (steps d n (virtual mid.cells g)).cells) 0 (trap_cell d g.base n (virtual mid.cells g) (slice_index mid.cells 0)) =
    went.storage ∙ ap (λ xs. slice_set (with_grant xs g.base (steps d n (virtual mid.cells g)).cells) 0 (trap_cell d g.base n (virtual mid.cells g) (slice_index mid.cells 0))) same in
    record {
      holds = went.runs.holds;
      guest = went.guest ∙ ap (λ xs. with_psw g (steps d n (virtual xs g)).psw) same;
      state = went.state ∙ ap (λ xs. steps d n (virtual xs g)) same;
      outside = kept-outside old.cells now.cells _ g _ storage size (Holds-within d old g held);
    }

Moved-by : (d : Desc) (k n : ℕ) (old : State) (between new : Machinery) (gs : List Guest) (current : Option ℕ) (g h : Guest) →
    Stands d old gs current → slice_get gs k ≡ Some g → between.state.cells ≡ old.cells → Went d n between new g h → Moved d k n old new.state gs h
Moved-by d k n old between new gs current g h stands is same went =
    Moved-of d k n old new.state gs current g h stands is (Went-advanced d k n old between new gs current g h stands is same went)

pub Stands-went : (d : Desc) (k n : ℕ) (old : State) (between new : Machinery) (gs : List Guest) (current : Option ℕ) (g h : Guest) →
    IsValid d → Stands d old gs current → slice_get gs k ≡ Some g → between.state.cells ≡ old.cells → Went d n between new g h → Stands d new.state (slice_set gs k h) (Some k)
Stands-went d k n old between new gs current g h valid stands is same went =
    Stands-advanced d k n old new.state gs current (Some k) g h valid stands is (Went-advanced d k n old between new gs current g h stands is same went)
    (under-own d new.state gs k g h is went.runs)

-- a hardware on which a guest was entered, where it was not the current one
pub record Entered (k : ℕ) (current : Option ℕ) (old new : Machinery) : Type 0 where
  pub cells : new.state.cells ≡ old.state.cells
  pub tally : new.tally ≡ record old.tally { loads = raised_by (change_to k current) old.tally.loads }
  pub bottom : new.bottom ≡ old.bottom

pub Turned-went : (d : Desc) (k n : ℕ) (old between new : Machinery) (gs : List Guest) (current : Option ℕ) (g h : Guest) →
    Stands d old.state gs current → slice_get gs k ≡ Some g → Entered k current old between → Went d (suc n) between new g h →
    Turned d k (suc n) old new gs (slice_set gs k h) current (Some k)
Turned-went d k n old between new gs current g h stands is entered went =
    let mid = between.state in
    let move = Moved-by d k (suc n) old.state between new gs current g h stands is entered.cells went in
    let counted = entered.tally in
    let direct : direct_among d g.base (suc n) (virtual mid.cells g) ≡ direct_among d g.base (suc n) (virtual old.state.cells g) =
    ap (λ xs. direct_among d g.base (suc n) (virtual xs g)) entered.cells in
    record {
      guest = g;
      is_guest = is;
      states = move.states;
      grants = move.grants;
      current = refl;
      storage = went.storage ∙ ap (λ xs. storage_after d g.base (suc n) (virtual xs g) xs) entered.cells;
      psw = went.runs.under ∙ ap (λ (x : Guest). composed x.psw x.base x.size) went.guest
          ∙ ap (λ xs. composed (steps d (suc n) (virtual xs g)).psw g.base g.size) entered.cells;
      tally = record {
        steps = omega (arith, went.tally.steps, ap (λ (c : Counts). c.steps) counted);
        untrapped = omega (arith, went.tally.untrapped, ap (λ (c : Counts). c.untrapped) counted, direct);
        loads = omega (arith, went.tally.loads, ap (λ (c : Counts). c.loads) counted, direct);
        pokes = record {
          at_least = omega (arith, went.tally.pokes.at_least, ap (λ (c : Counts). c.pokes) counted);
          at_most = omega (arith, went.tally.pokes.at_most, ap (λ (c : Counts). c.pokes) counted, direct);
        };
      };
      bottom = record {
        steps = omega (arith, went.bottom.steps, ap (λ (c : Bottom). c.steps) entered.bottom);
        untrapped = omega (arith, went.bottom.untrapped, ap (λ (c : Bottom). c.untrapped) entered.bottom, direct);
      };
    }

-- no turn changes nothing
pub Turned-none : (d : Desc) (k : ℕ) (h : Machinery) (gs : List Guest) (current : Option ℕ) (g : Guest) →
    Stands d h.state gs current → slice_get gs k ≡ Some g → Turned d k 0 h h gs gs current current
unfolding steps direct_among trap_cell
Turned-none d k h gs current g stands is =
    let real = h.state in
    let held = Holds-of d real gs current k g stands is in
    record {
      guest = g;
      is_guest = is;
      states = sym (moved-none d k (virtuals real.cells gs));
      grants = refl;
      current = refl;
      storage = sym (ap (λ xs. slice_set xs 0 (slice_index real.cells 0)) (with_grant-same real.cells g.base g.size (Holds-within d real g held)) ∙ set_same real.cells);
      psw = refl;
      tally = CountsTurns-none h.tally;
      bottom = BottomTurns-none h.bottom;
    }

-- the same, of turns one at least
pub Turned-some : (d : Desc) (k n : ℕ) (old between new : Machinery) (gs hs : List Guest) (current after : Option ℕ) (g h : Guest) →
    0 < n → Stands d old.state gs current → slice_get gs k ≡ Some g → Entered k current old between → hs ≡ slice_set gs k h → after ≡ Some k →
    Went d n between new g h → Turned d k n old new gs hs current after
Turned-some d k zero old between new gs hs current after g h some stands is entered set now_is went = absurd (omega arith)
Turned-some d k (suc n) old between new gs hs current after g h some stands is entered set now_is went =
    subst (λ l. Turned d k (suc n) old new gs l current after) (sym set)
    (subst (λ o. Turned d k (suc n) old new gs (slice_set gs k h) current o) (sym now_is)
    (Turned-went d k n old between new gs current g h stands is entered went))

pub Stands-some : (d : Desc) (k n : ℕ) (old : State) (between new : Machinery) (gs hs : List Guest) (current after : Option ℕ) (g h : Guest) →
    IsValid d → Stands d old gs current → slice_get gs k ≡ Some g → between.state.cells ≡ old.cells → hs ≡ slice_set gs k h → after ≡ Some k →
    Went d n between new g h → Stands d new.state hs after
Stands-some d k n old between new gs hs current after g h valid stands is same set now_is went =
    subst (λ l. Stands d new.state l after) (sym set) (subst (λ o. Stands d new.state (slice_set gs k h) o) (sym now_is)
    (Stands-went d k n old between new gs current g h valid stands is same went))

pub Turned-zero : (d : Desc) (k n : ℕ) (h : Machinery) (gs : List Guest) (current : Option ℕ) →
    Stands d h.state gs current → k < length gs → n ≡ 0 → Turned d k n h h gs gs current current
Turned-zero d k n h gs current stands within none = elim ((slice_get_cases gs k).1) [
  | inl x ↦ subst (λ m. Turned d k m h h gs gs current current) (sym none) (Turned-none d k h gs current x.0 stands x.2)
  | inr x ↦ absurd (omega (arith, x.0))
]

pub turn-kept : (d : Desc) (k : ℕ) (old mid now : State) (gs : List Guest) (current : Option ℕ) (g h : Guest) → ∥ IsAccepted d ∥₁ → IsValid d → Stands d old gs current →
    slice_get gs k ≡ Some g → slice_get gs k ≡ Some h → current ≡ Some k → mid ≡ old → (is_direct d g.base (virtual mid.cells g) ≡ true → now ≡ step d mid) →
    is_direct d h.base (virtual old.cells h) ≡ true → now.psw ≡ record old.psw { p = now.psw.p }
turn-kept d k old mid now gs current g h accepted valid stands is is' current_is same moved direct =
    let who : h ≡ g = some_same (sym is' ∙ is) in
    let runs = Runs-of d old gs current k g stands is current_is in
    let here : is_direct d g.base (virtual old.cells g) ≡ true = subst (λ x. is_direct d x.base (virtual old.cells x) ≡ true) who direct in
    let now_is : now ≡ step d old = moved (ap (λ (t : State). is_direct d g.base (virtual t.cells g)) same ∙ here) ∙ ap (step d) same in
    ap (λ (t : State). t.psw) now_is ∙ direct-kept d old g (accepted-alike d g.psw.mode accepted) valid runs here ∙ ap (λ (t : State). record old.psw { p = t.psw.p }) (sym now_is)
  where
    some_same : Some h ≡ Some g → h ≡ g
    some_same e = cc

-- ---- the same machine

pub Went-machine : (d e : Desc) (n : ℕ) (old new : Machinery) (g h : Guest) → e ≡ d → Went e n old new g h → Went d n old new g h
Went-machine d e n old new g h same went = subst (λ x. Went x n old new g h) same went

pub moved-machine : (d e : Desc) (mid now : State) (g : Guest) → e ≡ d → (is_direct e g.base (virtual mid.cells g) ≡ true → now ≡ step e mid) →
    is_direct d g.base (virtual mid.cells g) ≡ true → now ≡ step d mid
moved-machine d e mid now g same moved = subst (λ x. is_direct x g.base (virtual mid.cells g) ≡ true → now ≡ step x mid) same moved
