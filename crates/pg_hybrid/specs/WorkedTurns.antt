-- Turns worked out by hand, on the machine of add, jmp, svc and lr with rtu, a jump to user mode: each is a law of the crate.
use Rattle.std.specs.Prelude.{◌≡◌, ℕ, List, [], ◌∷◌, None, Some}
use Rattle.pg_word.specs.declared.psw.Mode.{Mode}
use Rattle.pg_word.specs.declared.psw.Mode.TheVariants.{S, U}
use Rattle.pg_word.specs.Psw.{power_on_psw}
use Rattle.pg_ast.specs.declared.tree.Desc.{Desc}
use Rattle.pg_lang_meaning.specs.States.{State}
use Rattle.pg_lang_meaning.specs.Steps.{steps}
use Rattle.pg_type.specs.Examples.{machine, state, add, jmp, svc, lr, rtu}
use Rattle.pg_mon_control.specs.declared.guest.Guest.{Guest}
use Rattle.pg_mon_control.specs.Guests.{guest_in}
use Rattle.pg_mon_control.specs.Direct.{direct_among}
use Rattle.pg_hybrid.specs.UserTurns.{user_among, hybrid_among}
use Rattle.pg_hybrid.specs.Leaving.{Left, loads_at, current_behind, left_among, left_behind}

abbrev pub m0_rtu : Desc
m0_rtu = machine (add ∷ jmp ∷ svc ∷ lr ∷ rtu ∷ [])

-- a guest of 8 cells that enters user mode at 3, adds cell 5 to cell 6 there, and traps; its traps lead to 2
abbrev pub at_work : ℕ → ℕ → Mode → ℕ → State
at_work trapped sum mode p = state (trapped ∷ 0x00020008 ∷ 0x05000003 ∷ 0x01060506 ∷ 0x03000000 ∷ 2 ∷ sum ∷ 0 ∷ []) mode p 0 8

abbrev pub begun : State
begun = at_work 0 0 S 2

-- six steps: rtu, add, svc, and once more
abbrev pub SixSteps : Type 0
SixSteps = steps m0_rtu 6 begun ≡ at_work 0x01040008 4 S 2

-- the second, third, fifth and sixth begin in user mode
abbrev pub FourFromUserMode : Type 0
FourFromUserMode = user_among m0_rtu 6 begun ≡ 4

-- of these add alone is direct
abbrev pub TwoOfThemDirect : Type 0
TwoOfThemDirect = hybrid_among m0_rtu 2 6 begun ≡ 2

-- rtu would be too, as a step of the hardware, but begins in supervisor mode
abbrev pub RtuIsDirectBesides : Type 0
RtuIsDirectBesides = direct_among m0_rtu 2 6 begun ≡ 4

-- a turn from supervisor mode loads nothing, and leaves another guest current
abbrev pub NoLoadBesideAnother : Type 0
NoLoadBesideAnother = (loads_at 1 begun (Some 0) ≡ 0) × (current_behind m0_rtu 1 2 begun (Some 0) ≡ Some 0)

-- but not the guest itself
abbrev pub NotItself : Type 0
NotItself = current_behind m0_rtu 1 2 begun (Some 1) ≡ None

-- a direct turn loads its guest where it is not current, and makes it so
abbrev pub DirectTurnLoadsOnce : Type 0
DirectTurnLoadsOnce = (loads_at 1 (at_work 0 0 U 3) (Some 0) ≡ 1) × (loads_at 1 (at_work 0 0 U 3) (Some 1) ≡ 0) × (current_behind m0_rtu 1 2 (at_work 0 0 U 3) (Some 0) ≡ Some 1)

-- one that traps leaves no guest current
abbrev pub TrapLeavesNone : Type 0
TrapLeavesNone = current_behind m0_rtu 1 2 (at_work 0 2 U 4) (Some 1) ≡ None

-- ---- turns after turns, from a hardware that was switched on

abbrev pub at_switching_on : Left
at_switching_on = record { current = None; loads = 0; cell_0 = 0; psw = power_on_psw m0_rtu.size }

-- of the six steps of a guest in a grant at 2, each add loads it, and each svc traps from (u, 4, (2, 8))
abbrev pub TwoLoadsInSix : Type 0
TwoLoadsInSix = left_among m0_rtu 0 2 6 begun at_switching_on ≡ record { current = None; loads = 2; cell_0 = 0x01040208; psw = power_on_psw 64 }

-- two guests before their add and their svc, in grants at 2 and at 10
abbrev pub two_guests : List Guest
two_guests = guest_in 2 8 (at_work 0 0 U 3).psw ∷ guest_in 10 8 (at_work 0 0 U 3).psw ∷ []

abbrev pub two_states : List State
two_states = at_work 0 0 U 3 ∷ at_work 0 0 U 3 ∷ []

-- in slices of one turn each turn loads its guest
abbrev pub EachTurnLoads : Type 0
EachTurnLoads = left_behind m0_rtu two_guests ((0, 1) ∷ (1, 1) ∷ (0, 1) ∷ (1, 1) ∷ []) two_states at_switching_on
    ≡ record { current = None; loads = 4; cell_0 = 0x01040A08; psw = power_on_psw 64 }

-- in slices of two turns only the first of each slice
abbrev pub EachSliceLoads : Type 0
EachSliceLoads = left_behind m0_rtu two_guests ((0, 2) ∷ (1, 2) ∷ []) two_states at_switching_on
    ≡ record { current = None; loads = 2; cell_0 = 0x01040A08; psw = power_on_psw 64 }

-- and where guest 1 has its turns first, the last trap is that of guest 0
abbrev pub OtherOrder : Type 0
OtherOrder = left_behind m0_rtu two_guests ((1, 2) ∷ (0, 2) ∷ []) two_states at_switching_on
    ≡ record { current = None; loads = 2; cell_0 = 0x01040208; psw = power_on_psw 64 }
