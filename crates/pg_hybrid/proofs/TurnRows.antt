-- Turns worked out by hand, computed.
use Rattle.std.proofs.Common.{◌≡◌, ℕ, suc, ◌+◌, ◌&&◌, Bool, true, false, None, Some, refl, sym, ◌∙◌, ap, arith}
use Rattle.std.specs.Bool.{then_some}
use Rattle.pg_word.specs.declared.psw.Mode.TheVariants.{S, U}
use Rattle.pg_word.specs.Psw.{power_on_psw}
use Rattle.pg_lang_meaning.specs.Patterns.{matches, matching, run_length, field_of_letter}
use Rattle.pg_lang_meaning.specs.Values.{let_value}
use Rattle.pg_lang_meaning.specs.Bodies.{body, in_order}
use Rattle.pg_lang_meaning.specs.States.{State}
use Rattle.pg_lang_meaning.specs.Steps.{step, steps, ending}
use Rattle.pg_lang_meaning.proofs.ValueEquations.{value_rules}
use Rattle.pg_lang_meaning.proofs.DeedEquations.{deed_rules}
use Rattle.pg_hw.specs.Bursts.{is_user, one_if}
use Rattle.pg_hw.specs.Tallies.{raised_by}
use Rattle.pg_routine.specs.Composing.{composed}
use Rattle.pg_mon_control.specs.Current.{change_to}
use Rattle.pg_mon_control.specs.Direct.{is_direct, direct_among}
use Rattle.pg_mon_control.specs.Traps.{trap_word}
use Rattle.pg_mon_control.proofs.BurstLemmas.{steps-once}
use Rattle.pg_hybrid.specs.UserTurns.{user_among, hybrid_among}
use Rattle.pg_hybrid.specs.Leaving.{Left, loads_at, current_behind, left_by, left_among}
use Rattle.pg_hybrid.proofs.LeavingLemmas.{of_four, by_mode, left-trapped, left_among-none, left_among-next}
use Rattle.pg_hybrid.specs.WorkedTurns.{m0_rtu, at_work, begun, SixSteps, FourFromUserMode, TwoOfThemDirect, RtuIsDirectBesides, NoLoadBesideAnother, NotItself, DirectTurnLoadsOnce, TrapLeavesNone, at_switching_on, TwoLoadsInSix, EachTurnLoads, EachSliceLoads, OtherOrder}

-- ---- the steps of a round, with any word of a trap and any sum before it

rtu_steps : step m0_rtu (at_work 0 0 S 2) ≡ at_work 0 0 U 3
unfolding step ending matching matches body in_order run_length field_of_letter let_value
rtu_steps = simp (deed_rules, value_rules)

add_steps : step m0_rtu (at_work 0 0 U 3) ≡ at_work 0 2 U 4
unfolding step ending matching matches body in_order run_length field_of_letter let_value
add_steps = simp (deed_rules, value_rules)

svc_steps : step m0_rtu (at_work 0 2 U 4) ≡ at_work 0x01040008 2 S 2
unfolding step ending matching matches body in_order run_length field_of_letter let_value
svc_steps = simp (deed_rules, value_rules)

rtu_again : step m0_rtu (at_work 0x01040008 2 S 2) ≡ at_work 0x01040008 2 U 3
unfolding step ending matching matches body in_order run_length field_of_letter let_value
rtu_again = simp (deed_rules, value_rules)

add_again : step m0_rtu (at_work 0x01040008 2 U 3) ≡ at_work 0x01040008 4 U 4
unfolding step ending matching matches body in_order run_length field_of_letter let_value
add_again = simp (deed_rules, value_rules)

svc_again : step m0_rtu (at_work 0x01040008 4 U 4) ≡ at_work 0x01040008 4 S 2
unfolding step ending matching matches body in_order run_length field_of_letter let_value
svc_again = simp (deed_rules, value_rules)

-- ---- whether they are direct in a grant at 2

rtu_direct : is_direct m0_rtu 2 (at_work 0 0 S 2) ≡ true
unfolding is_direct ending matching matches body in_order run_length field_of_letter let_value
rtu_direct = simp (deed_rules, value_rules)

add_direct : is_direct m0_rtu 2 (at_work 0 0 U 3) ≡ true
unfolding is_direct ending matching matches body in_order run_length field_of_letter let_value
add_direct = simp (deed_rules, value_rules)

svc_traps : is_direct m0_rtu 2 (at_work 0 2 U 4) ≡ false
unfolding is_direct ending matching matches body in_order run_length field_of_letter let_value
svc_traps = simp (deed_rules, value_rules)

rtu_direct_again : is_direct m0_rtu 2 (at_work 0x01040008 2 S 2) ≡ true
unfolding is_direct ending matching matches body in_order run_length field_of_letter let_value
rtu_direct_again = simp (deed_rules, value_rules)

add_direct_again : is_direct m0_rtu 2 (at_work 0x01040008 2 U 3) ≡ true
unfolding is_direct ending matching matches body in_order run_length field_of_letter let_value
add_direct_again = simp (deed_rules, value_rules)

svc_traps_again : is_direct m0_rtu 2 (at_work 0x01040008 4 U 4) ≡ false
unfolding is_direct ending matching matches body in_order run_length field_of_letter let_value
svc_traps_again = simp (deed_rules, value_rules)

-- ---- one step after another

-- the state after n steps from the beginning, and what was counted of them
record Reached (n : ℕ) (s : State) (u h k : ℕ) : Type 0 where
  pub state : steps m0_rtu n begun ≡ s
  pub users : user_among m0_rtu n begun ≡ u
  pub hybrid : hybrid_among m0_rtu 2 n begun ≡ h
  pub direct : direct_among m0_rtu 2 n begun ≡ k

next : (n : ℕ) (s t : State) (users hybrid direct : ℕ) (b : Bool) → Reached n s users hybrid direct → is_direct m0_rtu 2 s ≡ b → step m0_rtu s ≡ t →
    Reached (suc n) t (users + one_if (is_user s.psw.mode)) (hybrid + one_if (is_user s.psw.mode && b)) (direct + one_if b)
unfolding steps user_among hybrid_among direct_among
next n s t users hybrid direct b before is moved = record {
  state = ap (step m0_rtu) before.state ∙ moved;
  users = ap (λ (x : State). user_among m0_rtu n begun + one_if (is_user x.psw.mode)) before.state ∙ ap (λ k. k + one_if (is_user s.psw.mode)) before.users;
  hybrid = ap (λ (x : State). hybrid_among m0_rtu 2 n begun + one_if (is_user x.psw.mode && is_direct m0_rtu 2 x)) before.state
      ∙ ap (λ c. hybrid_among m0_rtu 2 n begun + one_if (is_user s.psw.mode && c)) is ∙ ap (λ k. k + one_if (is_user s.psw.mode && b)) before.hybrid;
  direct = ap (λ x. direct_among m0_rtu 2 n begun + one_if (is_direct m0_rtu 2 x)) before.state
      ∙ ap (λ c. direct_among m0_rtu 2 n begun + one_if c) is ∙ ap (λ k. k + one_if b) before.direct;
}

at_first : Reached 0 begun 0 0 0
unfolding steps user_among hybrid_among direct_among
at_first = record { state = refl; users = refl; hybrid = refl; direct = refl }

after_1 : Reached 1 (at_work 0 0 U 3) 0 0 1
after_1 = next 0 _ _ 0 0 0 _ at_first rtu_direct rtu_steps

after_2 : Reached 2 (at_work 0 2 U 4) 1 1 2
after_2 = next 1 _ _ 0 0 1 _ after_1 add_direct add_steps

after_3 : Reached 3 (at_work 0x01040008 2 S 2) 2 1 2
after_3 = next 2 _ _ 1 1 2 _ after_2 svc_traps svc_steps

after_4 : Reached 4 (at_work 0x01040008 2 U 3) 2 1 3
after_4 = next 3 _ _ 2 1 2 _ after_3 rtu_direct_again rtu_again

after_5 : Reached 5 (at_work 0x01040008 4 U 4) 3 2 4
after_5 = next 4 _ _ 2 1 3 _ after_4 add_direct_again add_again

all_six : Reached 6 (at_work 0x01040008 4 S 2) 4 2 4
all_six = next 5 _ _ 3 2 4 _ after_5 svc_traps_again svc_again

pub six_steps : SixSteps
six_steps = all_six.state

pub four_from_user_mode : FourFromUserMode
four_from_user_mode = all_six.users

pub two_of_them_direct : TwoOfThemDirect
two_of_them_direct = all_six.hybrid

pub rtu_is_direct_besides : RtuIsDirectBesides
rtu_is_direct_besides = all_six.direct

-- ---- single turns

pub no_load_beside_another : NoLoadBesideAnother
no_load_beside_another = (refl, refl)

pub not_itself : NotItself
not_itself = refl

pub direct_turn_loads_once : DirectTurnLoadsOnce
direct_turn_loads_once = (refl, refl, ap (λ b. then_some b 1) add_direct)

pub trap_leaves_none : TrapLeavesNone
trap_leaves_none = ap (λ b. then_some b 1) svc_traps

-- ---- turns after turns

-- one turn more of the guest from the beginning
next_left : (n : ℕ) (s : State) (before after : Left) → steps m0_rtu n begun ≡ s → left_among m0_rtu 0 2 n begun at_switching_on ≡ before → left_by m0_rtu 0 2 s before ≡ after →
    left_among m0_rtu 0 2 (suc n) begun at_switching_on ≡ after
next_left n s before after state so_far turn =
    left_among-next m0_rtu 0 2 n begun at_switching_on
    ∙ ap (λ x. left_by m0_rtu 0 2 x (left_among m0_rtu 0 2 n begun at_switching_on)) state
    ∙ ap (left_by m0_rtu 0 2 s) so_far ∙ turn

-- what is left after an add of the guest, after so many loads, where cell 0 holds this, and after a svc
abbrev alone_added : State → ℕ → ℕ → Left
alone_added s loads cell = of_four (Some 0) loads cell (composed (step m0_rtu s).psw 2 8)

abbrev alone_trapped : ℕ → ℕ → Left
alone_trapped loads cell = of_four None loads cell (power_on_psw 64)

left_1 : left_among m0_rtu 0 2 1 begun at_switching_on ≡ alone_trapped 0 0
left_1 = next_left 0 begun at_switching_on (alone_trapped 0 0) at_first.state (left_among-none m0_rtu 0 2 begun at_switching_on) (by_mode m0_rtu 0 2 begun at_switching_on S true refl rtu_direct)

left_2 : left_among m0_rtu 0 2 2 begun at_switching_on ≡ alone_added (at_work 0 0 U 3) 1 0
left_2 = next_left 1 (at_work 0 0 U 3) (alone_trapped 0 0) (alone_added (at_work 0 0 U 3) 1 0) after_1.state left_1 (by_mode m0_rtu 0 2 (at_work 0 0 U 3) (alone_trapped 0 0) U true refl add_direct)

left_3 : left_among m0_rtu 0 2 3 begun at_switching_on ≡ alone_trapped 1 0x01040208
left_3 = next_left 2 (at_work 0 2 U 4) (alone_added (at_work 0 0 U 3) 1 0) (alone_trapped 1 0x01040208) after_2.state left_2
    (by_mode m0_rtu 0 2 (at_work 0 2 U 4) (alone_added (at_work 0 0 U 3) 1 0) U false refl svc_traps)

left_4 : left_among m0_rtu 0 2 4 begun at_switching_on ≡ alone_trapped 1 0x01040208
left_4 = next_left 3 (at_work 0x01040008 2 S 2) (alone_trapped 1 0x01040208) (alone_trapped 1 0x01040208) after_3.state left_3
    (by_mode m0_rtu 0 2 (at_work 0x01040008 2 S 2) (alone_trapped 1 0x01040208) S true refl rtu_direct_again)

left_5 : left_among m0_rtu 0 2 5 begun at_switching_on ≡ alone_added (at_work 0x01040008 2 U 3) 2 0x01040208
left_5 = next_left 4 (at_work 0x01040008 2 U 3) (alone_trapped 1 0x01040208) (alone_added (at_work 0x01040008 2 U 3) 2 0x01040208) after_4.state left_4
    (by_mode m0_rtu 0 2 (at_work 0x01040008 2 U 3) (alone_trapped 1 0x01040208) U true refl add_direct_again)

pub two_loads_in_six : TwoLoadsInSix
two_loads_in_six = next_left 5 (at_work 0x01040008 4 U 4) (alone_added (at_work 0x01040008 2 U 3) 2 0x01040208) (alone_trapped 2 0x01040208) after_5.state left_5
    (by_mode m0_rtu 0 2 (at_work 0x01040008 4 U 4) (alone_added (at_work 0x01040008 2 U 3) 2 0x01040208) U false refl svc_traps_again)

-- the same two steps in a grant at 10
add_direct_at_ten : is_direct m0_rtu 10 (at_work 0 0 U 3) ≡ true
unfolding is_direct ending matching matches body in_order run_length field_of_letter let_value
add_direct_at_ten = simp (deed_rules, value_rules)

svc_traps_at_ten : is_direct m0_rtu 10 (at_work 0 2 U 4) ≡ false
unfolding is_direct ending matching matches body in_order run_length field_of_letter let_value
svc_traps_at_ten = simp (deed_rules, value_rules)

-- what is left by an add, and by a svc
abbrev by_add : ℕ → ℕ → ℕ → ℕ → Left
by_add k base loads cell = of_four (Some k) loads cell (composed (step m0_rtu (at_work 0 0 U 3)).psw base 8)

abbrev by_svc : ℕ → ℕ → Left
by_svc base loads = of_four None loads (trap_word m0_rtu base (at_work 0 2 U 4)) (power_on_psw 64)

one_turn : (k base : ℕ) (s : State) (left : Left) → left_among m0_rtu k base 1 s left ≡ left_by m0_rtu k base s left
unfolding left_among steps
one_turn k base s left = refl

add_moves : steps m0_rtu 1 (at_work 0 0 U 3) ≡ at_work 0 2 U 4
add_moves = steps-once m0_rtu (at_work 0 0 U 3) ∙ add_steps

add_turn : (k base : ℕ) (left : Left) → is_direct m0_rtu base (at_work 0 0 U 3) ≡ true →
    left_among m0_rtu k base 1 (at_work 0 0 U 3) left ≡ by_add k base (raised_by (change_to k left.current) left.loads) left.cell_0
add_turn k base left is = one_turn k base (at_work 0 0 U 3) left ∙ by_mode m0_rtu k base (at_work 0 0 U 3) left U true refl is

svc_turn : (k base : ℕ) (left : Left) → is_direct m0_rtu base (at_work 0 2 U 4) ≡ false →
    left_among m0_rtu k base 1 (steps m0_rtu 1 (at_work 0 0 U 3)) left ≡ by_svc base (raised_by (change_to k left.current) left.loads)
svc_turn k base left is =
    ap (λ s. left_among m0_rtu k base 1 s left) add_moves ∙ one_turn k base (at_work 0 2 U 4) left ∙ by_mode m0_rtu k base (at_work 0 2 U 4) left U false refl is

both_turns : (k base : ℕ) (left : Left) → is_direct m0_rtu base (at_work 0 0 U 3) ≡ true → is_direct m0_rtu base (at_work 0 2 U 4) ≡ false →
    left_among m0_rtu k base 2 (at_work 0 0 U 3) left ≡ by_svc base (raised_by (change_to k left.current) left.loads)
both_turns k base left first second =
    left_among-next m0_rtu k base 1 (at_work 0 0 U 3) left
    ∙ ap (λ s. left_by m0_rtu k base s (left_among m0_rtu k base 1 (at_work 0 0 U 3) left)) add_moves
    ∙ ap (left_by m0_rtu k base (at_work 0 2 U 4)) (add_turn k base left first)
    ∙ left-trapped m0_rtu k base (at_work 0 2 U 4) (raised_by (change_to k left.current) left.loads) left.cell_0 (composed (step m0_rtu (at_work 0 0 U 3)).psw base 8) refl second

pub each_turn_loads : EachTurnLoads
each_turn_loads =
    let later = steps m0_rtu 1 (at_work 0 0 U 3) in
    let now = at_work 0 0 U 3 in
    ap (λ x. left_among m0_rtu 1 10 1 later (left_among m0_rtu 0 2 1 later (left_among m0_rtu 1 10 1 now x))) (add_turn 0 2 at_switching_on add_direct)
    ∙ ap (λ x. left_among m0_rtu 1 10 1 later (left_among m0_rtu 0 2 1 later x)) (add_turn 1 10 (by_add 0 2 1 0) add_direct_at_ten)
    ∙ ap (left_among m0_rtu 1 10 1 later) (svc_turn 0 2 (by_add 1 10 2 0) svc_traps)
    ∙ svc_turn 1 10 (by_svc 2 3) svc_traps_at_ten

pub each_slice_loads : EachSliceLoads
each_slice_loads =
    ap (left_among m0_rtu 1 10 2 (at_work 0 0 U 3)) (both_turns 0 2 at_switching_on add_direct svc_traps)
    ∙ both_turns 1 10 (by_svc 2 1) add_direct_at_ten svc_traps_at_ten

pub other_order : OtherOrder
other_order =
    ap (left_among m0_rtu 0 2 2 (at_work 0 0 U 3)) (both_turns 1 10 at_switching_on add_direct_at_ten svc_traps_at_ten)
    ∙ both_turns 0 2 (by_svc 10 1) add_direct svc_traps
