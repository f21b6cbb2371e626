-- Turns of one guest: what they leave of its state, of the others' and of the storage, whatever did them.
use Rattle.std.proofs.Common.{◌≡◌, ℕ, zero, suc, ◌+◌, ◌<◌, ◌≤◌, ◌⊎◌, inl, inr, Bool, true, false, List, [], ◌∷◌, length, take, drop, All, Option, None, Some, IsSomeAnd, slice_set, slice_index, slice_get, get_or, refl, sym, ◌∙◌, ap, subst, arith}
use Rattle.std.proofs.lemmas.List.Elements.{All-set}
use Rattle.std.proofs.lemmas.List.{length-set, get_or-take, get_or-drop}
use Rattle.std.proofs.lemmas.Option.{slice_get-get_or, slice_get_within, get_or_from_slice_get, slice_get_cases}
use Rattle.pg_word.specs.Psw.{IsPsw}
use Rattle.pg_ast.specs.declared.tree.Desc.{Desc}
use Rattle.pg_lang_meaning.specs.States.{State, IsState}
use Rattle.pg_lang_meaning.specs.Steps.{step, steps}
use Rattle.pg_lang_valid.specs.Valid.{IsValid}
use Rattle.pg_lang_meaning.proofs.StepLaws.{steps-add}
use Rattle.pg_lang_valid.proofs.StepSound.{step-state, step-length, steps-state}
use Rattle.pg_routine.specs.Composing.{composed}
use Rattle.pg_routine.specs.Granting.{with_grant}
use Rattle.pg_routine.proofs.StateLaws.{with_grant-length}
use Rattle.pg_mon_control.specs.declared.guest.Guest.{Guest}
use Rattle.pg_mon_control.specs.Guests.{virtual, virtuals, IsGrant, AreApart, AreDisjoint, grants_of}
use Rattle.pg_mon_control.specs.Standing.{IsUnder, Stands}
use Rattle.pg_mon_control.specs.Plans.{moved}
use Rattle.pg_mon_control.specs.Traps.{trap_word}
use Rattle.pg_mon_control.specs.Current.{Holds, Runs, is_current, with_psw}
use Rattle.pg_mon_control.specs.Advancing.{Advanced}
use Rattle.pg_mon_control.proofs.BurstLemmas.{Halted, steps-once}
use Rattle.pg_mon_control.proofs.CellLemmas.{set_same, with_grant-before}
use Rattle.pg_mon_control.proofs.DirectLemmas.{Holds-within, Holds-length}
use Rattle.pg_mon_control.proofs.GuestLemmas.{LeavesOthers, Holds-of, disjoint-set, moved-states, slice_get-set, virtuals-set, grants_of-set}
use Rattle.pg_mon_control.proofs.PlanLemmas.{first_outside, granted-outside}
use Rattle.pg_mon_control.proofs.RunLemmas.{Holds-next, virtual-own, Directly}
use Rattle.pg_mon_control.proofs.StateLemmas.{granted-state}

-- ---- cells outside a grant

-- no cell outside a grant has changed
abbrev IsKept : Guest → List ℕ → List ℕ → Type 0
IsKept g cells now = (at : ℕ) → 1 ≤ at → (at < g.base) ⊎ (g.base + g.size ≤ at) → slice_get now at ≡ slice_get cells at

-- where the grant has other cells, and cell 0 another word
pub kept-outside : (cells now new : List ℕ) (g : Guest) (word : ℕ) → now ≡ slice_set (with_grant cells g.base new) 0 word → length new ≡ g.size → g.base + g.size ≤ length cells → IsKept g cells now
kept-outside cells now new g word is len within = λ at some place.
    ap (λ xs. slice_get xs at) is ∙ first_outside (with_grant cells g.base new) at word some
    ∙ granted-outside cells new g.base at (omega (arith, len, within)) (subst (λ n. (at < g.base) ⊎ (g.base + n ≤ at)) (sym len) place)

-- where the grant alone has
pub kept-beside : (cells now new : List ℕ) (g : Guest) → now ≡ with_grant cells g.base new → length new ≡ g.size → g.base + g.size ≤ length cells → IsKept g cells now
kept-beside cells now new g is len within =
    kept-outside cells now new g (slice_index (with_grant cells g.base new) 0) (is ∙ sym (set_same (with_grant cells g.base new))) len within

-- a run of cells that are as they were
run_same : (size : ℕ) (xs ys : List ℕ) → ((j : ℕ) → j < size → slice_get ys j ≡ slice_get xs j) → take size ys ≡ take size xs
run_same zero xs ys same = refl
run_same (suc size) [] [] same = refl
run_same (suc size) [] (y ∷ ys) same = let first = same 0 (omega arith) in absurd (let wrong : ⊥ = cc in wrong)
run_same (suc size) (x ∷ xs) [] same = let first = same 0 (omega arith) in absurd (let wrong : ⊥ = cc in wrong)
run_same (suc size) (x ∷ xs) (y ∷ ys) same =
    let first = same 0 (omega arith) in
    let one : y ≡ x = cc in
    ap (λ z. z ∷ take size ys) one ∙ ap (λ zs. x ∷ zs) (run_same size xs ys (λ j below. same (suc j) (omega arith)))

cell_behind : (base : ℕ) (xs : List ℕ) (j : ℕ) → slice_get (drop base xs) j ≡ slice_get xs (base + j)
cell_behind zero xs j = ap (slice_get xs) (let e : j ≡ 0 + j = omega arith in e)
cell_behind (suc base) [] j = refl
cell_behind (suc base) (x ∷ xs) j = cell_behind base xs j ∙ ap (slice_get (x ∷ xs)) (let e : suc (base + j) ≡ suc base + j = omega arith in e)

same_run : (cells now : List ℕ) (base size : ℕ) → ((at : ℕ) → base ≤ at → at < base + size → slice_get now at ≡ slice_get cells at) → take size (drop base now) ≡ take size (drop base cells)
same_run cells now base size same =
    run_same size (drop base cells) (drop base now) (λ j below. cell_behind base now j ∙ same (base + j) (omega arith) (omega arith) ∙ sym (cell_behind base cells j))

-- the other guests are as they were
pub kept-others : (q : ℕ) (cells now : List ℕ) (g : Guest) → IsKept g cells now → LeavesOthers q cells now g
kept-others q cells now g kept x grant apart =
    ap (λ xs. let t : State = record { cells = xs; psw = x.psw } in t)
    (same_run cells now x.base x.size (λ at from below. kept at (omega (arith, grant.above, from)) (by_place at from below apart)))
  where
    by_place : (at : ℕ) → x.base ≤ at → at < x.base + x.size → AreApart x g → (at < g.base) ⊎ (g.base + g.size ≤ at)
    by_place at from below (inl before) = inl (omega arith)
    by_place at from below (inr after) = inr (omega arith)

-- ---- turns after turns

pub Advanced-then : (d : Desc) (m n : ℕ) (old mid now : State) (g h k : Guest) → Advanced d m old mid g h → Advanced d n mid now h k → Advanced d (m + n) old now g k
Advanced-then d m n old mid now g h k one two =
    let v = virtual old.cells g in
    let more : steps d n (virtual mid.cells h) ≡ steps d (m + n) v = ap (steps d n) one.state ∙ steps-add d m n v in
    let base : h.base ≡ g.base = ap (λ (x : Guest). x.base) one.guest in
    let size : h.size ≡ g.size = ap (λ (x : Guest). x.size) one.guest in
    record {
      holds = two.holds;
      guest = two.guest ∙ ap (λ (x : State). with_psw h x.psw) more ∙ ap (λ x. with_psw x (steps d (m + n) v).psw) one.guest;
      state = two.state ∙ more;
      outside = λ at some place. two.outside at some (subst (λ (p : ℕ × ℕ). (at < p.0) ⊎ (p.0 + p.1 ≤ at)) (sym (ap (λ b. (b, h.size)) base ∙ ap (λ n. (g.base, n)) size)) place) ∙ one.outside at some place;
    }

-- from a hardware with the same cells
pub Advanced-from : (d : Desc) (n : ℕ) (old mid now : State) (g h : Guest) → mid.cells ≡ old.cells → Advanced d n mid now g h → Advanced d n old now g h
Advanced-from d n old mid now g h same went = record {
  holds = went.holds;
  guest = went.guest ∙ ap (λ xs. with_psw g (steps d n (virtual xs g)).psw) same;
  state = went.state ∙ ap (λ xs. steps d n (virtual xs g)) same;
  outside = λ at some place. went.outside at some place ∙ ap (λ xs. slice_get xs at) same;
}

-- turns of the hardware that were direct
pub Advanced-direct : (d : Desc) (n : ℕ) (old now : State) (g h : Guest) → Directly d n old g → now ≡ steps d n old → h ≡ with_psw g (record g.psw { p = now.psw.p }) → Advanced d n old now g h × Runs d now h
Advanced-direct d n old now g h run moved guest =
    let v = virtual old.cells g in
    let vn = steps d n v in
    let who : h ≡ with_psw g vn.psw = guest ∙ ap (λ (x : State). with_psw g (record g.psw { p = x.psw.p })) moved ∙ sym (ap (with_psw g) run.kept) in
    let runs : Runs d now h = subst (λ (x : State). Runs d x h) (sym moved) (subst (Runs d (steps d n old)) (sym who) run.runs) in (
      record {
        holds = runs.holds;
        guest = who;
        state = subst (λ (x : State). virtual x.cells h ≡ vn) (sym moved) (subst (λ x. virtual (steps d n old).cells x ≡ vn) (sym who) run.state);
        outside = kept-beside old.cells now.cells vn.cells g (ap (λ (x : State). x.cells) moved ∙ run.storage) run.length (omega (arith, run.within));
      },
      runs,
    )

-- turns of the hardware behind which a step trapped
pub Advanced-halted : (d : Desc) (m : ℕ) (old mid : State) (g h : Guest) → Directly d m old g → Halted d m old mid g h → Advanced d m old mid g h
Advanced-halted d m old mid g h run halted =
    let vm = steps d m (virtual old.cells g) in
    record {
      holds = halted.holds;
      guest = halted.guest;
      state = halted.state;
      outside = kept-outside old.cells mid.cells vm.cells g (trap_word d g.base vm) (halted.cells ∙ ap (λ xs. slice_set xs 0 (trap_word d g.base vm)) run.storage) run.length (omega (arith, run.within));
    }

-- a turn that was interpreted
pub Advanced-interpreted : (d : Desc) (old now : State) (g h : Guest) → IsValid d → Holds d old g → now ≡ record old { cells = with_grant old.cells g.base (step d (virtual old.cells g)).cells } →
    h ≡ with_psw g (step d (virtual old.cells g)).psw → Advanced d 1 old now g h
Advanced-interpreted d old now g h valid held moved who =
    let v = virtual old.cells g in
    let next = step d v in
    let next_state : IsState d next = step-state d v valid held.virtual_state in
    let len : length next.cells ≡ g.size = step-length d v valid held.virtual_state ∙ Holds-length d old g held in
    let within = Holds-within d old g held in
    let cells : now.cells ≡ with_grant old.cells g.base next.cells = ap (λ (x : State). x.cells) moved in
    let now_state : IsState d now = granted-state d old next g.base now held.real_state next_state (omega (arith, within, len)) cells
    (subst (λ (x : State). IsPsw d.address x.psw) (sym moved) held.real_state.fields) in
    let holds : Holds d now (with_psw g next.psw) = Holds-next d old now g next held cells len now_state next_state in
    let own : virtual now.cells (with_psw g next.psw) ≡ next = virtual-own old.cells now.cells g.base g.size next cells (omega (arith, within)) len in
    let once : next ≡ steps d 1 v = sym (steps-once d v) in
    record {
      holds = subst (Holds d now) (sym who) holds;
      guest = who ∙ ap (λ (x : State). with_psw g x.psw) once;
      state = ap (virtual now.cells) who ∙ own ∙ once;
      outside = kept-beside old.cells now.cells next.cells g cells len within;
    }

-- ---- the guest in a list

-- what turns of the guest at k left, as the guest's state and the others'
pub record Moved (d : Desc) (k n : ℕ) (old now : State) (gs : List Guest) (h : Guest) : Type 0 where
  pub states : virtuals now.cells (slice_set gs k h) ≡ moved d k n (virtuals old.cells gs)
  pub grants : grants_of (slice_set gs k h) ≡ grants_of gs
  pub still_grants : All (IsGrant d.size) (slice_set gs k h)
  pub disjoint : AreDisjoint (slice_set gs k h)

pub Moved-of : (d : Desc) (k n : ℕ) (old now : State) (gs : List Guest) (current : Option ℕ) (g h : Guest) →
    Stands d old gs current → slice_get gs k ≡ Some g → Advanced d n old now g h → Moved d k n old now gs h
Moved-of d k n old now gs current g h stands is went =
    let psw = (steps d n (virtual old.cells g)).psw in
    let who : h ≡ with_psw g psw = went.guest in
    let grant = (Holds-of d old gs current k g stands is).grant in
    let own : virtual now.cells (with_psw g psw) ≡ steps d n (virtual old.cells g) = ap (virtual now.cells) (sym who) ∙ went.state in
    record {
      states = ap (λ x. virtuals now.cells (slice_set gs k x)) who
          ∙ virtuals-set d n d.size old.cells now.cells gs k g psw is stands.stands.grants stands.stands.disjoint (kept-others d.size old.cells now.cells g went.outside) own;
      grants = ap (λ x. grants_of (slice_set gs k x)) who ∙ grants_of-set gs k g psw is;
      still_grants = subst (λ x. All (IsGrant d.size) (slice_set gs k x)) (sym who)
          (All-set (IsGrant d.size) gs k (with_psw g psw) (record { above = grant.above; least = grant.least; within = grant.within }) stands.stands.grants);
      disjoint = subst (λ x. AreDisjoint (slice_set gs k x)) (sym who) (disjoint-set gs k g psw is stands.stands.disjoint);
    }

-- it stands, where the guest that is then current has its composed program status word
pub Stands-advanced : (d : Desc) (k n : ℕ) (old now : State) (gs : List Guest) (current after : Option ℕ) (g h : Guest) → IsValid d → Stands d old gs current → slice_get gs k ≡ Some g →
    Advanced d n old now g h → IsUnder now (slice_set gs k h) after → Stands d now (slice_set gs k h) after
Stands-advanced d k n old now gs current after g h valid stands is went under =
    let move = Moved-of d k n old now gs current g h stands is went in
    record {
      stands = record {
        size = went.holds.size;
        grants = move.still_grants;
        disjoint = move.disjoint;
        guests = refl;
        control = went.holds.control;
        under = under;
      };
      real_state = went.holds.real_state;
      virtual_states = subst (All (IsState d)) (sym move.states) (moved-states d k n (virtuals old.cells gs) valid stands.virtual_states);
    }

-- the guest that the hardware runs is current
pub under-own : (d : Desc) (now : State) (gs : List Guest) (k : ℕ) (g h : Guest) → slice_get gs k ≡ Some g → Runs d now h → IsUnder now (slice_set gs k h) (Some k)
under-own d now gs k g h is runs =
    subst (λ o. IsSomeAnd o (λ x. now.psw ≡ composed x.psw x.base x.size)) (sym (slice_get-set gs k h g is)) runs.under
