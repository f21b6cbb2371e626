-- One monitor more below others, and the run under the innermost one.
use Rattle.std.proofs.Common.{◌≡◌, ℕ, zero, suc, ◌+◌, ◌-◌, ◌*◌, ◌<◌, ◌≤◌, ◌⊎◌, inr, ◌^◌, List, [], ◌∷◌, length, map, take, drop, All, Some, slice_get, slice_index, get_or, not, refl, sym, ◌∙◌, ap, subst, arith, slice_index_or}
use Rattle.std.proofs.lemmas.List.{length-take, length-drop, drop-take, drop-drop, take-take, get_or-take, get_or-drop}
use Rattle.std.proofs.lemmas.List.Elements.{All-nil, All-cons}
use Rattle.std.proofs.lemmas.Option.{same_Some, slice_get-get_or, slice_get_within, get_or_from_slice_get}
use Rattle.pg_word.specs.declared.psw.Psw.{Psw}
use Rattle.pg_word.specs.Psw.{packed, power_on_psw}
use Rattle.pg_ast.specs.declared.tree.Desc.{Desc}
use Rattle.pg_mach_ready.specs.declared.machine.Machine.{Machine}
use Rattle.pg_lang_meaning.specs.States.{State, IsState, window}
use Rattle.pg_lang_meaning.specs.Steps.{power_on, steps, bare, ends_in_trap}
use Rattle.pg_lang_valid.specs.Sized.{sized}
use Rattle.pg_lang_valid.specs.Valid.{IsValid}
use Rattle.pg_lang_valid.proofs.StepSound.{power_on-state}
use Rattle.pg_lang_valid.proofs.ValidFacts.{IsShape-of_valid}
use Rattle.pg_type.specs.Agreeing.{Agree}
use Rattle.pg_type.proofs.AgreeLemmas.{agree-ending, agree-steps}
use Rattle.pg_hw.specs.Bursts.{one_if}
use Rattle.pg_hw.specs.Machinery.{Machinery}
use Rattle.pg_hw.specs.Tallies.{Bottom}
use Rattle.pg_routine.specs.Composing.{composed}
use Rattle.pg_mon_control.specs.declared.guest.Guest.{Guest}
use Rattle.pg_mon_control.specs.Counting.{BottomTurns, CanCount}
use Rattle.pg_mon_control.specs.Direct.{is_direct, direct_among}
use Rattle.pg_mon_control.specs.Guests.{virtual, virtuals, guest_in}
use Rattle.pg_mon_control.proofs.CountLemmas.{direct_among-most}
use Rattle.pg_mon_control.proofs.LoadLemmas.{power_on-whole}
use Rattle.pg_report.specs.Spans.{span}
use Rattle.pg_run_guests.specs.Runs.{run_of, reached_by, granted, guests_of}
use Rattle.pg_run_guests.specs.Setting.{CanRun, IsImage, SetUp, Untouched, Installed, Loaded, taken_for}
use Rattle.pg_run_guests.proofs.FromLemmas.{loaded-bottom}
use Rattle.pg_run_guests.specs.declared.running.Ran.{Ran}
use Rattle.pg_run_guests.specs.HaveRun.{HaveRun}
use Rattle.pg_run_guests.specs.UnderMonitor.{RanGuests}
use Rattle.pg_nest.specs.Levels.{Carries}
use Rattle.pg_run_guests.specs.declared.nesting.Innermost.{Innermost}
use Rattle.pg_run_guests.specs.Nesting.{CanNest, direct_steps, IsInnermost, HoldsNested, Nested, RanNested, NotStepped}

-- ---- cells behind cells

span-span : (a n b m : ℕ) (cells : List ℕ) → b + m ≤ n → span b m (span a n cells) ≡ span (a + b) m cells
span-span a n b m cells within =
    let e : n ≡ b + (n - b) = omega arith in
    ap (λ k. take m (drop b (take k (drop a cells)))) e
    ∙ ap (take m) (drop-take b (n - b) (drop a cells))
    ∙ take-take m (n - b) (drop b (drop a cells)) (omega arith)
    ∙ ap (take m) (drop-drop b a cells)

cell-of-span : (a n k w : ℕ) (cells : List ℕ) → slice_get (span a n cells) k ≡ Some w → slice_get cells (a + k) ≡ Some w
cell-of-span a n k w cells is =
    let within = slice_get_within (span a n cells) k w is in
    let len = length-take n (drop a cells) in
    let rest = length-drop a cells in
    slice_get-get_or cells (a + k) 0 (omega (arith, within, len, rest))
    ∙ ap Some (sym (get_or-drop a cells k 0) ∙ sym (get_or-take n (drop a cells) k 0 (omega (arith, within, len))) ∙ get_or_from_slice_get (span a n cells) k w 0 is)

-- ---- direct steps of machines that agree

is_direct-agree : (d e : Desc) → Agree d e → (base : ℕ) (s : State) → is_direct e base s ≡ is_direct d base s
unfolding is_direct
is_direct-agree d e agrees base s = ap (λ x. not (ends_in_trap x)) (agree-ending d e agrees (window s) (composed s.psw base (length s.cells)))

direct-agree : (d e : Desc) → Agree d e → (base n : ℕ) (s : State) → direct_among e base n s ≡ direct_among d base n s
unfolding direct_among
direct-agree d e agrees base zero s = refl
direct-agree d e agrees base (suc n) s =
    ap (λ k. k + one_if (is_direct e base (steps e n s))) (direct-agree d e agrees base n s)
    ∙ ap (λ t. direct_among d base n s + one_if (is_direct e base t)) (agree-steps d e agrees n s)
    ∙ ap (λ b. direct_among d base n s + one_if b) (is_direct-agree d e agrees base (steps d n s))

bare-agree : (d e : Desc) → Agree d e → (image : List ℕ) (g n : ℕ) → bare e image g n ≡ bare d image g n
unfolding bare
bare-agree d e agrees image g n = agree-steps d e agrees n (power_on image g)

-- ---- one monitor more

-- a machine that has room for one more is not the least
pub under-least : (depth : ℕ) (d : Desc) (image : List ℕ) (n : ℕ) → 1 ≤ depth → CanNest (depth + 1) d image n → 4 + 2 ≤ d.size
under-least depth d image n some can = omega (arith, some, can.room, can.is_image.least)

module _ (depth : ℕ) (d e : Desc) (image : List ℕ) (n : ℕ) where
  -- the machine of the other monitors has two cells fewer
  pub record IsUnder : Type 0 where
    pub machine : e ≡ sized (d.size - 2) d
    pub can : CanNest (depth + 1) d image n

  module _ (h : IsUnder) where
    agrees : Agree d e
    agrees = h.machine ∙ ap (λ (x : Desc). sized x.size d) (sym h.machine)

    smaller : e.size ≡ d.size - 2
    smaller = ap (λ (x : Desc). x.size) h.machine

    same-address : e.address ≡ d.address
    same-address = ap (λ (x : Desc). x.address) h.machine

    same-word : e.word ≡ d.word
    same-word = ap (λ (x : Desc). x.word) h.machine

    pub under-size : e.size ≤ d.size - 2
    under-size = (let same = smaller in omega (arith, same))

    pub under-narrower : e.size ≤ d.size
    under-narrower = (let same = smaller in omega (arith, same))

    pub under-agrees : Agree d e
    under-agrees = agrees

    pub under-can : CanNest depth e image n
    under-can = record {
      is_image = record { least = h.can.is_image.least; words = subst (λ w. All (λ word. word < 2 ^ w) image) (sym same-word) h.can.is_image.words };
      room = (let room = h.can.room in let same = smaller in omega (arith, room, same));
      counted = h.can.counted;
    }

    pub under-innermost : (x : Innermost) → IsInnermost e image n x → IsInnermost d image n x
    under-innermost x inner = record {
      psw = inner.psw ∙ ap (λ (s : State). s.psw) (bare-agree d e agrees image (length image) n);
      direct = inner.direct ∙ direct-agree d e agrees 2 n (power_on image (length image));
    }

    module _ (upper real : State) (carries : Carries d upper real) (held : HoldsNested depth e image n upper) where
      cells : upper.cells ≡ span 2 (length upper.cells) real.cells
      cells = ap (λ (s : State). s.cells) carries.guest

      control : (j : ℕ) → 1 ≤ j → j ≤ depth + 1 → slice_get real.cells (2 * j - 1) ≡ Some (packed d.address (power_on_psw (d.size - 2 * (j - 1))))
      control zero some most = absurd (omega (arith, some))
      control (suc zero) some most =
          let none : d.size - 2 * (1 - 1) ≡ d.size = omega arith in
          carries.control ∙ ap (λ q. Some (packed d.address (power_on_psw q))) (sym none)
      control (suc (suc i)) some most =
          let inner = held.control (suc i) (omega arith) (omega (arith, most)) in
          let place : 2 + (2 * suc i - 1) ≡ 2 * suc (suc i) - 1 = omega arith in
          let left : e.size - 2 * (suc i - 1) ≡ d.size - 2 * (suc (suc i) - 1) = (let same = smaller in omega (arith, same)) in
          ap (slice_get real.cells) (sym place)
          ∙ cell-of-span 2 (length upper.cells) (2 * suc i - 1) (packed e.address (power_on_psw (e.size - 2 * (suc i - 1)))) real.cells (ap (λ xs. slice_get xs (2 * suc i - 1)) (sym cells) ∙ inner)
          ∙ ap (λ a. Some (packed a (power_on_psw (e.size - 2 * (suc i - 1))))) same-address
          ∙ ap (λ q. Some (packed d.address (power_on_psw q))) left

      guest : span (2 * (depth + 1)) (length image) real.cells ≡ (bare d image (length image) n).cells
      guest =
          let place : 2 + 2 * depth ≡ 2 * (depth + 1) = omega arith in
          let room = h.can.room in
          let size = held.size in
          let same = smaller in
          ap (λ b. span b (length image) real.cells) (sym place)
          ∙ sym (span-span 2 (length upper.cells) (2 * depth) (length image) real.cells (omega (arith, room, size, same)))
          ∙ ap (span (2 * depth) (length image)) (sym cells)
          ∙ held.guest
          ∙ ap (λ (s : State). s.cells) (bare-agree d e agrees image (length image) n)

      behind : (at : ℕ) → 2 * (depth + 1) + length image ≤ at → at < d.size → slice_get real.cells at ≡ Some 0
      behind at from within =
          let place : 2 + (at - 2) ≡ at = omega (arith, from) in
          let same = smaller in
          ap (slice_get real.cells) (sym place)
          ∙ cell-of-span 2 (length upper.cells) (at - 2) 0 real.cells
          (ap (λ xs. slice_get xs (at - 2)) (sym cells) ∙ held.behind (at - 2) (omega (arith, from)) (omega (arith, from, within, same)))

      pub under-holds : HoldsNested (depth + 1) d image n real
      under-holds = record { size = carries.size; control = control; guest = guest; behind = behind }

    -- what is presented has cells
    pub under-some : (upper : State) → HoldsNested depth e image n upper → 1 ≤ length upper.cells
    under-some upper held = (let size = held.size in let same = smaller in let room = h.can.room in let least = h.can.is_image.least in omega (arith, size, same, room, least))

    pub under-bottom : (old new : Bottom) → BottomTurns n (direct_steps e image n) old new → BottomTurns n (direct_steps d image n) old new
    under-bottom old new turns = subst (λ k. BottomTurns n k old new) (direct-agree d e agrees 2 n (power_on image (length image))) turns

    pub under-nested : (above below old new : Machinery) → Carries d below.state new.state → above.bottom ≡ old.bottom → below.bottom ≡ new.bottom →
        Nested depth e image n above below → Nested (depth + 1) d image n old new
    under-nested above below old new carries before after nested = record {
      holds = under-holds below.state new.state carries nested.holds;
      bottom = subst (λ b. BottomTurns n (direct_steps d image n) b new.bottom) before
          (subst (λ b. BottomTurns n (direct_steps d image n) above.bottom b) after (under-bottom above.bottom below.bottom nested.bottom));
    }

-- ---- the innermost monitor

-- its guest
abbrev one_guest : List ℕ → Guest
one_guest image = guest_in 2 (length (power_on image (length image)).cells) (power_on image (length image)).psw

power_on-length : (image : List ℕ) → length (power_on image (length image)).cells ≡ length image
power_on-length image = ap (λ (s : State). length s.cells) (power_on-whole image)

one_state : (machine : Machine) (image : List ℕ) (slice n : ℕ) → reached_by (run_of machine (image ∷ []) slice n) ≡ bare machine.desc image (length image) n ∷ []
unfolding bare
one_state machine image slice n = refl

first-of : {X : Type 0} (x y : X) → (let xs : List X = x ∷ [] in xs) ≡ y ∷ [] → x ≡ y
first-of {X} x y e = same_Some x y (ap (λ (l : List X). slice_get l 0) e)

module _ (machine : Machine) (image : List ℕ) (slice n : ℕ) where
  pub one-can_run : IsValid machine.desc → CanNest 1 machine.desc image n → 1 ≤ slice → CanRun (run_of machine (image ∷ []) slice n)
  one-can_run valid can some = record {
    states = record {
      each = All-cons (IsState machine.desc) (power_on image (length image)) [] (power_on-state machine.desc image (length image) valid can.is_image.least (let room = can.room in omega (arith, room)) (omega arith) can.is_image.words) (All-nil (IsState machine.desc));
      above = omega arith;
      room = (let room = can.room in let len = power_on-length image in omega (arith, room, len));
    };
    some = some;
    counted = (let few = can.counted in omega (arith, few));
  }

  pub one-nested : (old new : Machinery) → RanGuests (run_of machine (image ∷ []) slice n) old new → Nested 1 machine.desc image n old new
  one-nested old new ran = record {
    holds = record {
      size = ran.size;
      control = λ j some most.
          let one : j ≡ 1 = omega (arith, some, most) in
          let none : machine.desc.size - 2 * (1 - 1) ≡ machine.desc.size = omega arith in
          subst (λ k. slice_get new.state.cells (2 * k - 1) ≡ Some (packed machine.desc.address (power_on_psw (machine.desc.size - 2 * (k - 1))))) (sym one)
          (ran.control ∙ ap (λ q. Some (packed machine.desc.address (power_on_psw q))) (sym none));
      guest =
          ap (λ g. span 2 g new.state.cells) (sym (power_on-length image))
          ∙ first-of (span 2 (length (power_on image (length image)).cells) new.state.cells) (bare machine.desc image (length image) n).cells
          (ran.grants ∙ ap (map (λ (s : State). s.cells)) (one_state machine image slice n));
      behind = λ at from within.
          let len = power_on-length image in
          ran.outside at (omega (arith, from)) within
          (record { outside = All-cons (λ (g : Guest). (at < g.base) ⊎ (g.base + g.size ≤ at)) (one_guest image) [] (inr (omega (arith, from, len))) (All-nil (λ (g : Guest). (at < g.base) ⊎ (g.base + g.size ≤ at))) });
    };
    bottom = (let turns : 1 * n ≡ n = omega arith in let all : direct_steps machine.desc image n + 0 ≡ direct_steps machine.desc image n = omega arith in
        subst (λ k. BottomTurns k (direct_steps machine.desc image n) old.bottom new.bottom) turns
        (subst (λ k. BottomTurns (1 * n) k old.bottom new.bottom) all ran.bottom));
  }

  pub one-some : (ran : Ran) (h : Machinery) → HaveRun (run_of machine (image ∷ []) slice n) ran h → 0 < length ran.monitor.guests
  one-some ran h have = by_guests ran.monitor.guests (have.states ∙ one_state machine image slice n)
    where
      by_guests : (gs : List Guest) → virtuals h.state.cells gs ≡ bare machine.desc image (length image) n ∷ [] → 0 < length gs
      by_guests [] e = absurd (let wrong : ⊥ = cc in wrong)
      by_guests (g ∷ gs) e = omega arith

  pub one-guest-psw : (ran : Ran) (h : Machinery) (gs : List Guest) (other : Guest) → HaveRun (run_of machine (image ∷ []) slice n) ran h → gs ≡ ran.monitor.guests →
      (slice_index_or gs 0 other).psw ≡ (bare machine.desc image (length image) n).psw
  one-guest-psw ran h gs other have is = by_guests gs (ap (virtuals h.state.cells) is ∙ have.states ∙ one_state machine image slice n)
    where
      by_guests : (xs : List Guest) → virtuals h.state.cells xs ≡ bare machine.desc image (length image) n ∷ [] → (slice_index_or xs 0 other).psw ≡ (bare machine.desc image (length image) n).psw
      by_guests [] e = absurd (let wrong : ⊥ = cc in wrong)
      by_guests (x ∷ xs) e = ap (λ (s : State). s.psw) (same_Some (virtual h.state.cells x) (bare machine.desc image (length image) n) (ap (λ (l : List State). slice_get l 0) e))

  pub one-direct : (ran : Ran) (h : Machinery) → HaveRun (run_of machine (image ∷ []) slice n) ran h → ran.direct ≡ direct_steps machine.desc image n
  one-direct ran h have = (let told = have.direct in omega (arith, told))

  -- what was set up has no step at the bottom
  pub one-refused : (old new : Machinery) → SetUp (run_of machine (image ∷ []) slice n) old new → new.bottom ≡ old.bottom
  one-refused old new (Untouched is) = ap (λ (m : Machinery). m.bottom) is
  one-refused old new (Installed is) = ap (λ (m : Machinery). m.bottom) is
  one-refused old new (Loaded some is) =
      ap (λ (m : Machinery). m.bottom) is
      ∙ loaded-bottom 2 (take some (run_of machine (image ∷ []) slice n).states) (taken_for machine.desc old)

-- ---- on a hardware that was lent

-- its own counts of steps, as those at the bottom
abbrev pub own_counts : Machinery → Bottom
own_counts m = record { steps = m.tally.steps; untrapped = m.tally.untrapped }

-- and as whoever has it on loan sees it
abbrev pub as_lent : Machinery → Machinery
as_lent m = record m { bottom = own_counts m }

pub lent-nested : (depth : ℕ) (d : Desc) (image : List ℕ) (n : ℕ) (above below old new : Machinery) → CanCount old.tally → CanNest depth d image n → Nested depth d image n above below →
    above.bottom ≡ record { steps = old.tally.steps; untrapped = old.tally.untrapped } → below.bottom ≡ record { steps = new.tally.steps; untrapped = new.tally.untrapped } →
    below.state ≡ new.state → RanNested depth d image n old new
lent-nested depth d image n above below old new can_count can nested before after state =
    let b = ap (λ (x : Bottom). x.steps) before in
    let a = ap (λ (x : Bottom). x.steps) after in
    let b' = ap (λ (x : Bottom). x.untrapped) before in
    let a' = ap (λ (x : Bottom). x.untrapped) after in
    record {
      holds = subst (HoldsNested depth d image n) state nested.holds;
      steps = (let turns = nested.bottom.steps in let few = can.counted in let room = can_count.steps in omega (arith, turns, few, room, a, b));
      untrapped = (let turns = nested.bottom.untrapped in let few = can.counted in let room = can_count.untrapped in let most = direct-most in omega (arith, turns, few, room, most, a', b'));
    }
  where
    direct-most : direct_steps d image n ≤ n
    direct-most = direct_among-most d 2 n (power_on image (length image))
