-- Turns of a guest in a list: one that is interpreted, a burst of the hardware, and turns after turns.
use Rattle.std.proofs.Common.{◌≡◌, ℕ, zero, suc, ◌+◌, ◌-◌, ◌*◌, ◌<◌, ◌≤◌, ◌⊎◌, inl, inr, Bool, true, false, ◌==◌, if◌then◌else◌, List, [], ◌∷◌, length, Option, None, Some, IsSomeAnd, slice_set, slice_get, slice_index, refl, sym, ◌∙◌, ap, subst, arith}
use Rattle.std.specs.Bool.{then_some}
use Rattle.std.specs.Option.{option_map}
use Rattle.std.proofs.lemmas.Bool.{eqb-true, eqb-false}
use Rattle.std.proofs.lemmas.List.{get_or-set_other, length-set}
use Rattle.std.proofs.lemmas.Option.{slice_get-map, slice_get-get_or, slice_get_within, slice_get_cases, get_or_from_slice_get}
use Rattle.pg_word.specs.declared.psw.Mode.{Mode}
use Rattle.pg_word.specs.declared.psw.Mode.TheVariants.{S, U}
use Rattle.pg_ast.specs.declared.tree.Desc.{Desc}
use Rattle.pg_lang_meaning.specs.States.{State}
use Rattle.pg_lang_meaning.specs.Steps.{step, steps}
use Rattle.pg_lang_meaning.proofs.StepLaws.{steps-add}
use Rattle.pg_lang_valid.specs.Valid.{IsValid}
use Rattle.pg_hw.specs.declared.counts.Counts.{Counts}
use Rattle.pg_hw.specs.Bursts.{is_user}
use Rattle.pg_hw.specs.Tallies.{Bottom, raised_by}
use Rattle.pg_hw.specs.Machinery.{Machinery}
use Rattle.pg_hw.proofs.TallyLaws.{raised_by-zero, RisesWithin-none}
use Rattle.pg_routine.specs.Composing.{composed}
use Rattle.pg_mon_control.specs.declared.guest.Guest.{Guest}
use Rattle.pg_mon_control.specs.Guests.{virtual, virtuals, grants_of}
use Rattle.pg_mon_control.specs.Direct.{is_direct}
use Rattle.pg_mon_control.specs.Standing.{IsUnder, Stands}
use Rattle.pg_mon_control.specs.Plans.{moved}
use Rattle.pg_mon_control.specs.Counting.{BottomTurns}
use Rattle.pg_mon_control.specs.Current.{Runs, is_current, change_to, with_psw}
use Rattle.pg_mon_control.specs.Advancing.{Advanced}
use Rattle.pg_mon_control.proofs.AdvanceLemmas.{Advanced-from, Moved-of, Stands-advanced, under-own}
use Rattle.pg_mon_control.proofs.BurstLemmas.{steps-once}
use Rattle.pg_mon_control.proofs.CountLemmas.{BottomTurns-none, BottomTurns-add}
use Rattle.pg_mon_control.proofs.GuestLemmas.{moved-none, virtuals-at, slice_get-set}
use Rattle.pg_mon_control.proofs.PlanLemmas.{moved-own}
use Rattle.pg_hybrid.specs.UserTurns.{user_among, hybrid_among}
use Rattle.pg_hybrid.specs.Leaving.{loads_at, without, current_behind, left_of, left_among}
use Rattle.pg_hybrid.specs.Turns.{CountsHybrid, HybridTurned}
use Rattle.pg_hybrid.specs.Current.{Interpreted, Stepped, SteppedOnce}
use Rattle.pg_hybrid.proofs.LeavingLemmas.{of_four, same-left, left-supervisor, left-entered, left_among-none, left_among-add}
use Rattle.pg_hybrid.proofs.UserLemmas.{user_among-add, hybrid_among-add, user_among-most, hybrid_among-most, supervisor-users, supervisor-hybrid}

-- ---- the current guest

some_same : {X : Type 0} (x y : X) → Some x ≡ Some y → x ≡ y
some_same x y e = cc

-- another guest is as it was
set_other : (gs : List Guest) (k j : ℕ) (h : Guest) → (k ≡ j → ⊥) → slice_get (slice_set gs k h) j ≡ slice_get gs j
set_other [] k j h other = refl
set_other (g ∷ gs) zero zero h other = absurd (other refl)
set_other (g ∷ gs) zero (suc j) h other = refl
set_other (g ∷ gs) (suc k) zero h other = refl
set_other (g ∷ gs) (suc k) (suc j) h other = set_other gs k j h (λ same. other (ap suc same))

-- the guest that the hardware runs is so still, where its PSW is as it was and another guest had a turn
pub under-other : (old now : State) (gs : List Guest) (k : ℕ) (h : Guest) (current : Option ℕ) → now.psw ≡ old.psw → IsUnder old gs current → IsUnder now (slice_set gs k h) (without k current)
under-other old now gs k h None same under = tt
under-other old now gs k h (Some j) same under = by_test (j == k) refl
  where
    by_test : (b : Bool) → (j == k) ≡ b → IsUnder now (slice_set gs k h) (if b then None else Some j)
    by_test true e = tt
    by_test false e =
        let other = eqb-false j k e in
        subst (λ o. IsSomeAnd o (λ x. now.psw ≡ composed x.psw x.base x.size)) (sym (set_other gs k j h (λ is. other (sym is))))
        (subst (λ y. IsSomeAnd (slice_get gs j) (λ x. y ≡ composed x.psw x.base x.size)) (sym same) under)

-- where the burst goes on, its guest is current
pub under-burst : (d : Desc) (now : State) (gs : List Guest) (k : ℕ) (g h : Guest) (goes_on : Bool) → slice_get gs k ≡ Some g → (goes_on ≡ true → Runs d now h) → IsUnder now (slice_set gs k h) (then_some goes_on k)
under-burst d now gs k g h true is runs = under-own d now gs k g h is (runs refl)
under-burst d now gs k g h false is runs = tt

-- ---- one turn that is interpreted

module _ (d : Desc) (k : ℕ) (old new : Machinery) (gs hs : List Guest) (current : Option ℕ) (g h : Guest) where
  pub record IsInterpreted : Type 0 where
    pub stands : Stands d old.state gs current
    pub is : slice_get gs k ≡ Some g
    pub mode : g.psw.mode ≡ S
    pub done : Interpreted d old new g h
    pub set : hs ≡ slice_set gs k h

  pub turned-interpreted : IsInterpreted → HybridTurned d k 1 old new gs hs current (without k current)
  turned-interpreted a =
      let v = virtual old.state.cells g in
      let move = Moved-of d k 1 old.state new.state gs current g h a.stands a.is a.done.advanced in
      let users = supervisor-users d v a.mode in
      let hybrid = supervisor-hybrid d g.base v a.mode in
      let counted = a.done.tally in
      record {
        guest = g;
        is_guest = a.is;
        states = ap (virtuals new.state.cells) a.set ∙ move.states;
        grants = ap grants_of a.set ∙ move.grants;
        outside = a.done.advanced.outside;
        left = same-left (without k current) (without k current) new.tally.loads old.tally.loads (slice_index new.state.cells 0) (slice_index old.state.cells 0) new.state.psw old.state.psw
            refl counted.loads a.done.cell_0 a.done.psw
            ∙ sym (left-supervisor d k g.base v (left_of old current) a.mode);
        tally = record {
          steps = omega (arith, counted.steps, users);
          untrapped = omega (arith, counted.untrapped, hybrid);
          loads = record { at_least = omega (arith, counted.loads); at_most = omega (arith, counted.loads) };
          pokes = record { at_least = omega (arith, counted.pokes.at_least); at_most = omega (arith, counted.pokes.at_most, hybrid) };
        };
        bottom = record {
          steps = omega (arith, ap (λ (c : Bottom). c.steps) a.done.bottom, users);
          untrapped = omega (arith, ap (λ (c : Bottom). c.untrapped) a.done.bottom, hybrid);
        };
      }

  pub stands-interpreted : IsValid d → IsInterpreted → Stands d new.state hs (without k current)
  stands-interpreted valid a =
      subst (λ l. Stands d new.state l (without k current)) (sym a.set)
      (Stands-advanced d k 1 old.state new.state gs current (without k current) g h valid a.stands a.is a.done.advanced
      (under-other old.state new.state gs k h current a.done.psw a.stands.stands.under))

-- ---- a burst of the hardware

module _ (d : Desc) (k n : ℕ) (goes_on : Bool) (old between new : Machinery) (gs hs : List Guest) (current : Option ℕ) (g h : Guest) where
  pub record IsStepped : Type 0 where
    pub stands : Stands d old.state gs current
    pub is : slice_get gs k ≡ Some g
    pub cells : between.state.cells ≡ old.state.cells
    pub tally : between.tally ≡ record old.tally { loads = raised_by (change_to k current) old.tally.loads }
    pub bottom : between.bottom ≡ old.bottom
    pub least : 1 ≤ n
    pub mode : g.psw.mode ≡ U
    pub done : Stepped d n goes_on between new g h
    pub set : hs ≡ slice_set gs k h

  change_to-most : (c : Option ℕ) → change_to k c ≤ 1
  change_to-most None = omega arith
  change_to-most (Some j) = by_test (j == k)
    where
      by_test : (b : Bool) → (if b then 0 else 1) ≤ 1
      by_test true = omega arith
      by_test false = omega arith

  -- the guest was made the current one before
  entered : IsStepped → left_among d k g.base n (virtual between.state.cells g) (left_of between (Some k)) ≡ left_among d k g.base n (virtual old.state.cells g) (left_of old current)
  entered a =
      let w = virtual old.state.cells g in
      ap (λ xs. left_among d k g.base n (virtual xs g) (left_of between (Some k))) a.cells
      ∙ ap (left_among d k g.base n w) (same-left (Some k) (Some k) between.tally.loads (raised_by (change_to k current) old.tally.loads) (slice_index between.state.cells 0)
      (slice_index old.state.cells 0) between.state.psw between.state.psw refl (ap (λ (c : Counts). c.loads) a.tally) (ap (λ xs. slice_index xs 0) a.cells) refl)
      ∙ sym (some-turns n a.least w a.mode)
    where
      some-turns : (m : ℕ) → 1 ≤ m → (s : State) → s.psw.mode ≡ U →
          left_among d k g.base m s (left_of old current)
          ≡ left_among d k g.base m s (of_four (Some k) (raised_by (change_to k current) old.tally.loads) (slice_index old.state.cells 0) between.state.psw)
      some-turns zero least s mode = absurd (omega arith)
      some-turns (suc m) least s mode = left-entered d k g.base m s (left_of old current) between.state.psw mode

  pub turned-stepped : IsStepped → HybridTurned d k n old new gs hs current (then_some goes_on k)
  turned-stepped a =
      let v = virtual between.state.cells g in
      let w = virtual old.state.cells g in
      let advanced = Advanced-from d n old.state between.state new.state g h a.cells a.done.advanced in
      let move = Moved-of d k n old.state new.state gs current g h a.stands a.is advanced in
      let users : user_among d n v ≡ user_among d n w = ap (λ xs. user_among d n (virtual xs g)) a.cells in
      let hybrid : hybrid_among d g.base n v ≡ hybrid_among d g.base n w = ap (λ xs. hybrid_among d g.base n (virtual xs g)) a.cells in
      let counted = a.done.tally in
      let loads = ap (λ (c : Counts). c.loads) a.tally in
      record {
        guest = g;
        is_guest = a.is;
        states = ap (virtuals new.state.cells) a.set ∙ move.states;
        grants = ap grants_of a.set ∙ move.grants;
        outside = advanced.outside;
        left = a.done.left k ∙ entered a;
        tally = record {
          steps = omega (arith, counted.steps, ap (λ (c : Counts). c.steps) a.tally, users);
          untrapped = omega (arith, counted.untrapped, ap (λ (c : Counts). c.untrapped) a.tally, hybrid);
          loads = record {
            at_least = omega (arith, a.done.loads, loads);
            at_most = omega (arith, a.done.loads, loads, change_to-most current, a.done.users, users, a.least);
          };
          pokes = record {
            at_least = omega (arith, counted.pokes.at_least, ap (λ (c : Counts). c.pokes) a.tally);
            at_most = omega (arith, counted.pokes.at_most, ap (λ (c : Counts). c.pokes) a.tally, hybrid);
          };
        };
        bottom = record {
          steps = omega (arith, a.done.bottom.steps, ap (λ (c : Bottom). c.steps) a.bottom, users);
          untrapped = omega (arith, a.done.bottom.untrapped, ap (λ (c : Bottom). c.untrapped) a.bottom, hybrid);
        };
      }

  pub stands-stepped : IsValid d → IsStepped → Stands d new.state hs (then_some goes_on k)
  stands-stepped valid a =
      subst (λ l. Stands d new.state l (then_some goes_on k)) (sym a.set)
      (Stands-advanced d k n old.state new.state gs current (then_some goes_on k) g h valid a.stands a.is
      (Advanced-from d n old.state between.state new.state g h a.cells a.done.advanced)
      (under-burst d new.state gs k g h goes_on a.is a.done.runs))

  -- of a burst of one turn
  pub current-stepped : IsStepped → (x : Guest) → slice_get gs k ≡ Some x → n ≡ 1 → then_some goes_on k ≡ then_some (is_direct d x.base (virtual old.state.cells x)) k
  current-stepped a x is one =
      let who : g ≡ x = some_same g x (sym a.is ∙ is) in
      sym (ap (λ b. then_some b k)
      (ap (λ (y : Guest). is_direct d y.base (virtual old.state.cells y)) (sym who) ∙ ap (λ xs. is_direct d g.base (virtual xs g)) (sym a.cells) ∙ a.done.once one))

-- ---- either of the two

pub loads-supervisor : (k : ℕ) (s : State) (current : Option ℕ) (old new : ℕ) → s.psw.mode ≡ S → new ≡ old → new ≡ raised_by (loads_at k s current) old
loads-supervisor k s current old new is same = same ∙ sym (ap (λ m. raised_by (if is_user m then change_to k current else 0) old) is ∙ raised_by-zero old)

pub loads-user : (k : ℕ) (s : State) (current : Option ℕ) (old new : ℕ) → s.psw.mode ≡ U → new ≡ raised_by (change_to k current) old → new ≡ raised_by (loads_at k s current) old
loads-user k s current old new is same = same ∙ sym (ap (λ m. raised_by (if is_user m then change_to k current else 0) old) is)

pub current-supervisor : (d : Desc) (k base : ℕ) (s : State) (current : Option ℕ) → s.psw.mode ≡ S → without k current ≡ current_behind d k base s current
current-supervisor d k base s current is = sym (ap (λ m. if is_user m then then_some (is_direct d base s) k else without k current) is)

pub current-user : (d : Desc) (k base : ℕ) (s : State) (current : Option ℕ) → s.psw.mode ≡ U → then_some (is_direct d base s) k ≡ current_behind d k base s current
current-user d k base s current is = sym (ap (λ m. if is_user m then then_some (is_direct d base s) k else without k current) is)

-- the guest of a number is one
pub mode-of : (gs : List Guest) (k : ℕ) (g : Guest) (m : Mode) → slice_get gs k ≡ Some g → g.psw.mode ≡ m → (x : Guest) → slice_get gs k ≡ Some x → x.psw.mode ≡ m
mode-of gs k g m is mode = λ x is'. ap (λ (y : Guest). y.psw.mode) (some_same x g (sym is' ∙ is)) ∙ mode

-- ---- the same machine

pub Interpreted-machine : (d e : Desc) (old new : Machinery) (g h : Guest) → e ≡ d → Interpreted e old new g h → Interpreted d old new g h
Interpreted-machine d e old new g h same done = subst (λ x. Interpreted x old new g h) same done

pub Stepped-machine : (d e : Desc) (n : ℕ) (goes_on : Bool) (old new : Machinery) (g h : Guest) → e ≡ d → Stepped e n goes_on old new g h → Stepped d n goes_on old new g h
Stepped-machine d e n goes_on old new g h same done = subst (λ x. Stepped x n goes_on old new g h) same done

-- ---- a direct turn of the current guest

pub stepped-once : (d : Desc) (k n : ℕ) (goes_on : Bool) (old mid new : Machinery) (guests : List Guest) (g h after : Guest) → slice_get guests k ≡ Some g → slice_get guests k ≡ Some h →
    mid ≡ old → Stepped d n goes_on mid new g after → n ≡ 1 → is_direct d h.base (virtual old.state.cells h) ≡ true → SteppedOnce d old.state new.state
stepped-once d k n goes_on old mid new guests g h after is_g is_h before done one direct =
    let same : g ≡ h = some_same g h (sym is_g ∙ is_h) in
    let on : goes_on ≡ true =
    sym (done.once one) ∙ ap (λ (x : Guest). is_direct d x.base (virtual mid.state.cells x)) same
    ∙ ap (λ (m : Machinery). is_direct d h.base (virtual m.state.cells h)) before ∙ direct in
    record {
      state = done.went_on on ∙ ap (λ j. steps d j mid.state) one ∙ steps-once d mid.state ∙ ap (λ (m : Machinery). step d m.state) before;
      kept = done.kept on ∙ ap (λ (m : Machinery). record m.state.psw { p = new.state.psw.p }) before;
    }

-- ---- turns after turns

pub CountsHybrid-none : (t : Counts) → CountsHybrid 0 0 0 t t
CountsHybrid-none t = record { steps = sym (raised_by-zero t.steps); untrapped = sym (raised_by-zero t.untrapped); loads = RisesWithin-none t.loads; pokes = RisesWithin-none t.pokes }

pub CountsHybrid-add : (m n u v x y : ℕ) (t t' t'' : Counts) → x ≤ m → y ≤ n → CountsHybrid m u x t t' → CountsHybrid n v y t' t'' → CountsHybrid (m + n) (u + v) (x + y) t t''
CountsHybrid-add m n u v x y t t' t'' few few' a b = record {
  steps = omega (arith, a.steps, b.steps);
  untrapped = omega (arith, a.untrapped, b.untrapped);
  loads = record { at_least = omega (arith, a.loads.at_least, b.loads.at_least); at_most = omega (arith, a.loads.at_most, b.loads.at_most) };
  pokes = record { at_least = omega (arith, a.pokes.at_least, b.pokes.at_least); at_most = omega (arith, a.pokes.at_most, b.pokes.at_most) };
}

-- no turn changes nothing
Turned-none : (d : Desc) (k : ℕ) (h : Machinery) (gs : List Guest) (current : Option ℕ) (g : Guest) → slice_get gs k ≡ Some g → HybridTurned d k 0 h h gs gs current current
unfolding user_among hybrid_among
Turned-none d k h gs current g is = record {
  guest = g;
  is_guest = is;
  states = sym (moved-none d k (virtuals h.state.cells gs));
  grants = refl;
  outside = λ at some place. refl;
  left = sym (left_among-none d k g.base (virtual h.state.cells g) (left_of h current));
  tally = CountsHybrid-none h.tally;
  bottom = BottomTurns-none h.bottom;
}

pub Turned-zero : (d : Desc) (k : ℕ) (h : Machinery) (gs : List Guest) (current : Option ℕ) → k < length gs → HybridTurned d k 0 h h gs gs current current
Turned-zero d k h gs current within = elim ((slice_get_cases gs k).1) [
  | inl x ↦ Turned-none d k h gs current x.0 x.2
  | inr x ↦ absurd (omega (arith, x.0))
]

moved-again : (d : Desc) (k m n : ℕ) (ss : List State) → moved d k n (moved d k m ss) ≡ moved d k (m + n) ss
moved-again d k m n [] = refl
moved-again d zero m n (s ∷ ss) = ap (λ t. t ∷ ss) (steps-add d m n s)
moved-again d (suc k) m n (s ∷ ss) = ap (λ l. s ∷ l) (moved-again d k m n ss)

-- the guest of a number has the same grant in both lists
abbrev grant_of : Guest → ℕ × ℕ
grant_of x = (x.base, x.size)

same_grant : (gs hs : List Guest) (k : ℕ) (g h : Guest) → grants_of hs ≡ grants_of gs → slice_get gs k ≡ Some g → slice_get hs k ≡ Some h → grant_of h ≡ grant_of g
same_grant gs hs k g h same is is' =
    some_same (grant_of h) (grant_of g)
    (sym (slice_get-map grant_of hs k ∙ ap (option_map grant_of) is') ∙ ap (λ l. slice_get l k) same ∙ slice_get-map grant_of gs k ∙ ap (option_map grant_of) is)

pub Turned-then : (d : Desc) (k m n : ℕ) (old mid new : Machinery) (gs hs ks : List Guest) (c c' c'' : Option ℕ) → HybridTurned d k m old mid gs hs c c' → HybridTurned d k n mid new hs ks c' c'' →
    HybridTurned d k (m + n) old new gs ks c c''
Turned-then d k m n old mid new gs hs ks c c' c'' one two =
    let g = one.guest in
    let h = two.guest in
    let s = virtual old.state.cells g in
    let t = virtual mid.state.cells h in
    let grant : grant_of h ≡ grant_of g = same_grant gs hs k g h one.grants one.is_guest two.is_guest in
    let base : h.base ≡ g.base = ap (λ (p : ℕ × ℕ). p.0) grant in
    let state : t ≡ steps d m s =
    some_same t (steps d m s)
    (sym (virtuals-at mid.state.cells hs k h two.is_guest) ∙ ap (λ ss. slice_get ss k) one.states ∙ moved-own d k m (virtuals old.state.cells gs)
    ∙ ap (option_map (steps d m)) (virtuals-at old.state.cells gs k g one.is_guest)) in
    let users : user_among d (m + n) s ≡ user_among d m s + user_among d n t = user_among-add d m n s ∙ ap (λ x. user_among d m s + user_among d n x) (sym state) in
    let hybrid : hybrid_among d g.base (m + n) s ≡ hybrid_among d g.base m s + hybrid_among d h.base n t =
    hybrid_among-add d g.base m n s ∙ ap (λ x. hybrid_among d g.base m s + hybrid_among d g.base n x) (sym state)
    ∙ ap (λ b. hybrid_among d g.base m s + hybrid_among d b n t) (sym base) in
    record {
      guest = g;
      is_guest = one.is_guest;
      states = two.states ∙ ap (moved d k n) one.states ∙ moved-again d k m n (virtuals old.state.cells gs);
      grants = two.grants ∙ one.grants;
      outside = λ at some place. two.outside at some (subst (λ (p : ℕ × ℕ). (at < p.0) ⊎ (p.0 + p.1 ≤ at)) (sym grant) place) ∙ one.outside at some place;
      left = two.left
          ∙ ap (λ b. left_among d k b n t (left_of mid c')) base
          ∙ ap (λ x. left_among d k g.base n x (left_of mid c')) state
          ∙ ap (left_among d k g.base n (steps d m s)) one.left
          ∙ sym (left_among-add d k g.base m n s (left_of old c));
      tally = subst (λ u. CountsHybrid (m + n) u (hybrid_among d g.base (m + n) s) old.tally new.tally) (sym users)
          (subst (λ x. CountsHybrid (m + n) (user_among d m s + user_among d n t) x old.tally new.tally) (sym hybrid)
          (CountsHybrid-add m n (user_among d m s) (user_among d n t) (hybrid_among d g.base m s) (hybrid_among d h.base n t) old.tally mid.tally new.tally
          (hybrid_among-most d g.base m s) (hybrid_among-most d h.base n t) one.tally two.tally));
      bottom = subst (λ u. BottomTurns u (hybrid_among d g.base (m + n) s) old.bottom new.bottom) (sym users)
          (subst (λ x. BottomTurns (user_among d m s + user_among d n t) x old.bottom new.bottom) (sym hybrid)
          (BottomTurns-add (user_among d m s) (user_among d n t) (hybrid_among d g.base m s) (hybrid_among d h.base n t) old.bottom mid.bottom new.bottom one.bottom two.bottom));
    }

-- as many turns, on the same machine
pub Turned-count : (d : Desc) (k m n : ℕ) (old new : Machinery) (gs hs : List Guest) (c c' : Option ℕ) → m ≡ n → HybridTurned d k m old new gs hs c c' → HybridTurned d k n old new gs hs c c'
Turned-count d k m n old new gs hs c c' same one = subst (λ x. HybridTurned d k x old new gs hs c c') same one

pub Turned-machine : (d e : Desc) (k n : ℕ) (old new : Machinery) (gs hs : List Guest) (c c' : Option ℕ) → e ≡ d → HybridTurned e k n old new gs hs c c' → HybridTurned d k n old new gs hs c c'
Turned-machine d e k n old new gs hs c c' same one = subst (λ x. HybridTurned x k n old new gs hs c c') same one
