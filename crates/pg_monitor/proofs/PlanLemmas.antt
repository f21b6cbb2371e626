-- Turns by a plan, one pair after another.
use Rattle.std.proofs.Common.{◌≡◌, ℕ, zero, suc, ◌+◌, ◌<◌, ◌≤◌, ◌⊎◌, List, [], ◌∷◌, length, drop, Option, None, Some, slice_index, slice_get, get_or, refl, sym, ◌∙◌, ap, subst, arith}
use Rattle.std.specs.Option.{option_map}
use Rattle.std.proofs.lemmas.List.{drop_more, drop_all, get_or-set_same}
use Rattle.pg_word.specs.declared.psw.Psw.{Psw}
use Rattle.pg_ast.specs.declared.tree.Desc.{Desc}
use Rattle.pg_lang_meaning.specs.States.{State}
use Rattle.pg_lang_meaning.specs.Steps.{steps}
use Rattle.pg_lang_valid.specs.Valid.{IsValid}
use Rattle.pg_lang_valid.proofs.StepSound.{steps-length}
use Rattle.pg_hw.specs.Machinery.{Machinery}
use Rattle.pg_routine.specs.Composing.{composed}
use Rattle.pg_routine.specs.Granting.{with_grant}
use Rattle.pg_routine.proofs.StateLaws.{with_grant-length}
use Rattle.pg_mon_control.specs.declared.guest.Guest.{Guest}
use Rattle.pg_mon_control.specs.Guests.{virtual, virtuals, grants_of}
use Rattle.pg_mon_control.specs.Direct.{direct_among}
use Rattle.pg_mon_control.specs.Standing.{Stands}
use Rattle.pg_mon_control.specs.Plans.{moved, after_plan, turns_of, turns_for, count_turns}
use Rattle.pg_mon_control.specs.Traps.{trap_cell}
use Rattle.pg_monitor.specs.Turns.{psw_after, changes_in, CountsTurns, Turned}
use Rattle.pg_mon_control.specs.Counting.{BottomTurns}
use Rattle.pg_monitor.specs.Plans.{direct_of, cell_turns, cell_behind, psw_turns, psw_behind, current_of, changes_of, Followed}
use Rattle.pg_mon_control.proofs.DirectLemmas.{Holds-within, Holds-length}
use Rattle.pg_monitor.proofs.WentLemmas.{CountsTurns-none, CountsTurns-add}
use Rattle.pg_mon_control.proofs.CountLemmas.{BottomTurns-none, BottomTurns-add, direct_among-most}
use Rattle.pg_mon_control.proofs.GuestLemmas.{All-at, virtuals-at, Holds-of}
use Rattle.pg_mon_control.proofs.PlanLemmas.{after_plan-at, count_of-grants, count_of-most, first_outside, granted-outside, grants-outside, outside_of}

-- ---- cell 0

cell-base : (d : Desc) (g h : Guest) (s : Option State) (n held : ℕ) → h.base ≡ g.base → cell_turns d (Some h) s n held ≡ cell_turns d (Some g) s n held
cell-base d g h None n held e = refl
cell-base d g h (Some s) n held e = ap (λ b. trap_cell d b n s held) e

cell_turns-grants : (d : Desc) (gs hs : List Guest) (k : ℕ) (s : Option State) (n held : ℕ) → grants_of hs ≡ grants_of gs →
    cell_turns d (slice_get hs k) s n held ≡ cell_turns d (slice_get gs k) s n held
cell_turns-grants d [] [] k s n held e = refl
cell_turns-grants d [] (h ∷ hs) k s n held e = absurd (let wrong : ⊥ = cc in wrong)
cell_turns-grants d (g ∷ gs) [] k s n held e = absurd (let wrong : ⊥ = cc in wrong)
cell_turns-grants d (g ∷ gs) (h ∷ hs) zero s n held e =
    let first : (h.base, h.size) ≡ (g.base, g.size) = cc in cell-base d g h s n held (ap (λ (p : ℕ × ℕ). p.0) first)
cell_turns-grants d (g ∷ gs) (h ∷ hs) (suc k) s n held e =
    let rest : grants_of hs ≡ grants_of gs = cc in cell_turns-grants d gs hs k s n held rest

cell_behind-grants : (d : Desc) (gs hs : List Guest) (plan : List (ℕ × ℕ)) (ss : List State) (held : ℕ) → grants_of hs ≡ grants_of gs →
    cell_behind d hs plan ss held ≡ cell_behind d gs plan ss held
cell_behind-grants d gs hs [] ss held e = refl
cell_behind-grants d gs hs (turn ∷ plan) ss held e =
    ap (cell_behind d hs plan (moved d turn.0 turn.1 ss)) (cell_turns-grants d gs hs turn.0 (slice_get ss turn.0) turn.1 held e)
    ∙ cell_behind-grants d gs hs plan (moved d turn.0 turn.1 ss) (cell_turns d (slice_get gs turn.0) (slice_get ss turn.0) turn.1 held) e

-- ---- the program status word

psw-grant : (d : Desc) (g h : Guest) (s : State) (n : ℕ) (held : Psw) → h.base ≡ g.base → h.size ≡ g.size → psw_after d h n s held ≡ psw_after d g n s held
psw-grant d g h s zero held base size = refl
psw-grant d g h s (suc n) held base size =
    ap (λ b. composed (steps d (suc n) s).psw b h.size) base ∙ ap (λ x. composed (steps d (suc n) s).psw g.base x) size

psw_turns-grant : (d : Desc) (g h : Guest) (s : Option State) (n : ℕ) (held : Psw) → h.base ≡ g.base → h.size ≡ g.size → psw_turns d (Some h) s n held ≡ psw_turns d (Some g) s n held
psw_turns-grant d g h None n held base size = refl
psw_turns-grant d g h (Some s) n held base size = psw-grant d g h s n held base size

psw_turns-grants : (d : Desc) (gs hs : List Guest) (k : ℕ) (s : Option State) (n : ℕ) (held : Psw) → grants_of hs ≡ grants_of gs →
    psw_turns d (slice_get hs k) s n held ≡ psw_turns d (slice_get gs k) s n held
psw_turns-grants d [] [] k s n held e = refl
psw_turns-grants d [] (h ∷ hs) k s n held e = absurd (let wrong : ⊥ = cc in wrong)
psw_turns-grants d (g ∷ gs) [] k s n held e = absurd (let wrong : ⊥ = cc in wrong)
psw_turns-grants d (g ∷ gs) (h ∷ hs) zero s n held e =
    let first : (h.base, h.size) ≡ (g.base, g.size) = cc in psw_turns-grant d g h s n held (ap (λ (p : ℕ × ℕ). p.0) first) (ap (λ (p : ℕ × ℕ). p.1) first)
psw_turns-grants d (g ∷ gs) (h ∷ hs) (suc k) s n held e =
    let rest : grants_of hs ≡ grants_of gs = cc in psw_turns-grants d gs hs k s n held rest

psw_behind-grants : (d : Desc) (gs hs : List Guest) (plan : List (ℕ × ℕ)) (ss : List State) (held : Psw) → grants_of hs ≡ grants_of gs →
    psw_behind d hs plan ss held ≡ psw_behind d gs plan ss held
psw_behind-grants d gs hs [] ss held e = refl
psw_behind-grants d gs hs (turn ∷ plan) ss held e =
    ap (psw_behind d hs plan (moved d turn.0 turn.1 ss)) (psw_turns-grants d gs hs turn.0 (slice_get ss turn.0) turn.1 held e)
    ∙ psw_behind-grants d gs hs plan (moved d turn.0 turn.1 ss) (psw_turns d (slice_get gs turn.0) (slice_get ss turn.0) turn.1 held) e

-- ---- the states of guests

pub Followed-own : (d : Desc) (plan : List (ℕ × ℕ)) (old new : Machinery) (gs hs : List Guest) (c c' : Option ℕ) → Followed d plan old new gs hs c c' →
    (j : ℕ) → slice_get (virtuals new.state.cells hs) j ≡ option_map (steps d (turns_for j plan)) (slice_get (virtuals old.state.cells gs) j)
Followed-own d plan old new gs hs c c' followed j =
    ap (λ ss. slice_get ss j) followed.states ∙ after_plan-at d plan (virtuals old.state.cells gs) j

-- ---- plans

pub Followed-none : (d : Desc) (h : Machinery) (gs : List Guest) (current : Option ℕ) → Followed d [] h h gs gs current current
Followed-none d h gs current = record {
  states = refl;
  grants = refl;
  current = refl;
  outside = λ at some out. refl;
  cell_0 = refl;
  psw = refl;
  tally = CountsTurns-none h.tally;
  bottom = BottomTurns-none h.bottom;
}

-- the turns of one pair, and then those of the others
pub Followed-next : (d : Desc) (turn : ℕ × ℕ) (plan : List (ℕ × ℕ)) (before between after : Machinery) (gs hs ks : List Guest) (c c' c'' : Option ℕ) →
    IsValid d → Stands d before.state gs c → Turned d turn.0 turn.1 before between gs hs c c' → Followed d plan between after hs ks c' c'' →
    Followed d (turn ∷ plan) before after gs ks c c''
Followed-next d turn plan before between after gs hs ks c c' c'' valid stands one rest =
    let old = before.state in
    let mid = between.state in
    let t = before.tally in
    let t' = between.tally in
    let t'' = after.tally in
    let b = before.bottom in
    let b' = between.bottom in
    let b'' = after.bottom in
    let k = turn.0 in
    let n = turn.1 in
    let g = one.guest in
    let ss = virtuals old.cells gs in
    let held = Holds-of d old gs c k g stands one.is_guest in
    let v = virtual old.cells g in
    let len : length (steps d n v).cells ≡ g.size = steps-length d n v valid held.virtual_state ∙ Holds-length d old g held in
    let within : g.base + length (steps d n v).cells ≤ length old.cells = omega (arith, Holds-within d old g held, len) in
    let w = trap_cell d g.base n v (slice_index old.cells 0) in
    let cell : slice_index mid.cells 0 ≡ w = ap (λ xs. slice_index xs 0) one.storage
    ∙ get_or-set_same (with_grant old.cells g.base (steps d n v).cells) 0 w 0 (omega (arith, with_grant-length old.cells (steps d n v).cells g.base within, held.real_state.size_least)) in
    let turned : cell_turns d (slice_get gs k) (slice_get ss k) n (slice_index old.cells 0) ≡ w =
    ap (λ o. cell_turns d o (slice_get ss k) n (slice_index old.cells 0)) one.is_guest
    ∙ ap (λ o. cell_turns d (Some g) o n (slice_index old.cells 0)) (virtuals-at old.cells gs k g one.is_guest) in
    let under : psw_turns d (slice_get gs k) (slice_get ss k) n old.psw ≡ psw_after d g n v old.psw =
    ap (λ o. psw_turns d o (slice_get ss k) n old.psw) one.is_guest
    ∙ ap (λ o. psw_turns d (Some g) o n old.psw) (virtuals-at old.cells gs k g one.is_guest) in
    let first : count_turns (direct_among d) (slice_get gs k) (slice_get ss k) n ≡ direct_among d g.base n v =
    ap (λ o. count_turns (direct_among d) o (slice_get ss k) n) one.is_guest ∙ ap (λ o. count_turns (direct_among d) (Some g) o n) (virtuals-at old.cells gs k g one.is_guest) in
    let others : direct_of d hs plan (virtuals mid.cells hs) ≡ direct_of d gs plan (moved d k n ss) =
    ap (direct_of d hs plan) one.states ∙ count_of-grants d (direct_among d) gs hs plan (moved d k n ss) one.grants in
    let all : direct_of d gs (turn ∷ plan) ss ≡ direct_among d g.base n v + direct_of d hs plan (virtuals mid.cells hs) =
    ap (λ x. x + direct_of d gs plan (moved d k n ss)) first ∙ ap (λ x. direct_among d g.base n v + x) (sym others) in
    let changes : changes_of (turn ∷ plan) c ≡ changes_in k n c + changes_of plan c' = ap (λ o. changes_in k n c + changes_of plan o) (sym one.current) in
    record {
      states = rest.states ∙ ap (after_plan d plan) one.states;
      grants = rest.grants ∙ one.grants;
      current = rest.current ∙ ap (current_of plan) one.current;
      outside = λ at some out.
          rest.outside at some (record { outside = grants-outside at gs hs one.grants out.outside })
          ∙ ap (λ xs. slice_get xs at) one.storage
          ∙ first_outside (with_grant old.cells g.base (steps d n v).cells) at (trap_cell d g.base n v (slice_index old.cells 0)) some
          ∙ granted-outside old.cells (steps d n v).cells g.base at within
          (subst (λ x. (at < g.base) ⊎ (g.base + x ≤ at)) (sym len) (All-at (outside_of at) gs k g out.outside one.is_guest));
      cell_0 = rest.cell_0
          ∙ ap (λ xs. cell_behind d hs plan xs (slice_index mid.cells 0)) one.states
          ∙ cell_behind-grants d gs hs plan (moved d k n ss) (slice_index mid.cells 0) one.grants
          ∙ ap (cell_behind d gs plan (moved d k n ss)) (cell ∙ sym turned);
      psw = rest.psw
          ∙ ap (λ xs. psw_behind d hs plan xs mid.psw) one.states
          ∙ psw_behind-grants d gs hs plan (moved d k n ss) mid.psw one.grants
          ∙ ap (psw_behind d gs plan (moved d k n ss)) (one.psw ∙ sym under);
      tally = subst (λ x. CountsTurns (turns_of (turn ∷ plan)) (direct_of d gs (turn ∷ plan) ss) x t t'') (sym changes)
          (subst (λ x. CountsTurns (n + turns_of plan) x (changes_in k n c + changes_of plan c') t t'') (sym all)
          (CountsTurns-add n (turns_of plan) (direct_among d g.base n v) (direct_of d hs plan (virtuals mid.cells hs)) (changes_in k n c) (changes_of plan c') t t' t''
          (direct_among-most d g.base n v) (count_of-most d (direct_among d) hs plan (virtuals mid.cells hs) (direct_among-most d)) one.tally rest.tally));
      bottom = subst (λ x. BottomTurns (n + turns_of plan) x b b'') (sym all)
          (BottomTurns-add n (turns_of plan) (direct_among d g.base n v) (direct_of d hs plan (virtuals mid.cells hs)) b b' b'' one.bottom rest.bottom);
    }

-- the turns of the pair at a place, and then those of the pairs behind it
pub Followed-on : (d : Desc) (plan : List (ℕ × ℕ)) (i : ℕ) (e : ℕ × ℕ) (old mid new : Machinery) (gs hs ks : List Guest) (c c' c'' : Option ℕ) →
    IsValid d → Stands d old.state gs c → i < length plan → Turned d (get_or plan i e).0 (get_or plan i e).1 old mid gs hs c c' →
    Followed d (drop (i + 1) plan) mid new hs ks c' c'' → Followed d (drop i plan) old new gs ks c c''
Followed-on d plan i e old mid new gs hs ks c c' c'' valid stands within one rest =
    subst (λ l. Followed d l old new gs ks c c'') (sym (drop_more plan i e within))
    (Followed-next d (get_or plan i e) (drop (i + 1) plan) old mid new gs hs ks c c' c'' valid stands one rest)

pub Followed-end : (d : Desc) (plan : List (ℕ × ℕ)) (i : ℕ) (h : Machinery) (gs : List Guest) (current : Option ℕ) → length plan ≤ i →
    Followed d (drop i plan) h h gs gs current current
Followed-end d plan i h gs current past =
    subst (λ l. Followed d l h h gs gs current current) (sym (drop_all i plan past)) (Followed-none d h gs current)

pub Turned-machine : (d e : Desc) (k n : ℕ) (old new : Machinery) (gs hs : List Guest) (c c' : Option ℕ) → e ≡ d → Turned e k n old new gs hs c c' → Turned d k n old new gs hs c c'
Turned-machine d e k n old new gs hs c c' same one = subst (λ x. Turned x k n old new gs hs c c') same one
