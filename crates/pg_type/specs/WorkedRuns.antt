-- Runs of bare machines, worked out by hand: each is a law of the crate.
use Rattle.std.specs.Prelude.{◌≡◌, ℕ, List, [], ◌∷◌, replicate}
use Rattle.pg_word.specs.declared.psw.Mode.TheVariants.{S}
use Rattle.pg_lang_meaning.specs.States.{State}
use Rattle.pg_lang_meaning.specs.Steps.{bare}
use Rattle.pg_type.specs.Examples.{m0, m0_causes, widen, machine, state}

-- no pattern matches 0: the trap stores (s, 2, (0, 8)) and loads what cell 1 holds, 0
abbrev pub NoPattern : Type 0
NoPattern = bare m0 [] 8 1 ≡ state (0x00020008 ∷ replicate 7 0) S 0 0 0

-- then the window is empty, so that the fetch memory traps
abbrev pub NoWindow : Type 0
NoWindow = bare m0 [] 8 2 ≡ state (replicate 8 0) S 0 0 0

-- a PSW that is loaded with l past the storage: its window is empty
abbrev pub PastStorage : Type 0
PastStorage = bare m0 (0 ∷ 0x00050910 ∷ []) 8 2 ≡ state (0x00050910 ∷ 0x00050910 ∷ replicate 6 0) S 5 9 16

-- the last address below the bound is usable, and P is relative to R too
abbrev pub LastUsable : Type 0
LastUsable = bare m0 (0 ∷ 0 ∷ 0x04000408 ∷ 0 ∷ 0 ∷ 0 ∷ 0 ∷ 0x01000707 ∷ 0 ∷ 0 ∷ 0 ∷ 0x00000005 ∷ []) 16 2 ≡ state (0 ∷ 0 ∷ 0x04000408 ∷ 0 ∷ 0x0000000a ∷ 0 ∷ 0 ∷ 0x01000707 ∷ 0 ∷ 0 ∷ 0 ∷ 0x00000005 ∷ replicate 4 0) S 4 4 8

-- the bound itself is not usable: a memory trap, and nothing else is changed
abbrev pub FirstPastBound : Type 0
FirstPastBound = bare m0 (0 ∷ 0 ∷ 0x04000408 ∷ 0 ∷ 0 ∷ 0 ∷ 0 ∷ 0x01000708 ∷ 0 ∷ 0 ∷ 0 ∷ 0x00000005 ∷ []) 16 2 ≡ state (0x00030408 ∷ 0 ∷ 0x04000408 ∷ 0 ∷ 0 ∷ 0 ∷ 0 ∷ 0x01000708 ∷ 0 ∷ 0 ∷ 0 ∷ 0x00000005 ∷ replicate 4 0) S 0 0 0

-- an address that is below the bound and past the storage is not usable
abbrev pub FirstPastSize : Type 0
FirstPastSize = bare m0 (0 ∷ 0 ∷ 0x04000a14 ∷ 0 ∷ 0 ∷ 0 ∷ 0 ∷ 0 ∷ 0 ∷ 0 ∷ 0 ∷ 0 ∷ 0 ∷ 0x01000506 ∷ []) 16 2 ≡ state (0x00030a14 ∷ 0 ∷ 0x04000a14 ∷ 0 ∷ 0 ∷ 0 ∷ 0 ∷ 0 ∷ 0 ∷ 0 ∷ 0 ∷ 0 ∷ 0 ∷ 0x01000506 ∷ replicate 2 0) S 0 0 0

-- a program that opens the window to the bound 255 and adds past the storage: it traps, and begins anew, for ever
abbrev pub window_image : List ℕ
window_image = 0 ∷ 0x00020010 ∷ 0x040000ff ∷ 0x01140505 ∷ []

abbrev pub window_after : State
window_after = state (0x000300ff ∷ 0x00020010 ∷ 0x040000ff ∷ 0x01140505 ∷ replicate 12 0) S 2 0 16

abbrev pub RunsPastWindow : Type 0
RunsPastWindow = bare m0 window_image 16 10 ≡ window_after

-- a loop that doubles cell 4 into cell 0, for ever
abbrev pub loop_image : List ℕ
loop_image = 0 ∷ 0 ∷ 0x01000404 ∷ 0x02000002 ∷ 3 ∷ []

abbrev pub loop_after : State
loop_after = state (6 ∷ 0 ∷ 0x01000404 ∷ 0x02000002 ∷ 3 ∷ replicate 11 0) S 2 0 16

abbrev pub DoublesInALoop : Type 0
DoublesInALoop = bare m0 loop_image 16 10 ≡ loop_after

-- a window that the storage clips to one cell
abbrev pub WindowOfOneCell : Type 0
WindowOfOneCell = bare m0 (0 ∷ 0x00000705 ∷ 0 ∷ 0 ∷ 0 ∷ 0 ∷ 0 ∷ 0x01000000 ∷ []) 8 3 ≡ state (0x00010705 ∷ 0x00000705 ∷ 0 ∷ 0 ∷ 0 ∷ 0 ∷ 0 ∷ 0x02000000 ∷ []) S 0 7 5

-- the same with causes on: cause 3
abbrev pub NoPatternCause : Type 0
NoPatternCause = bare m0_causes [] 8 1 ≡ state (0x06020008 ∷ replicate 7 0) S 0 0 0

-- then cause 1
abbrev pub MemoryTrapCause : Type 0
MemoryTrapCause = bare m0_causes [] 8 2 ≡ state (0x02000000 ∷ replicate 7 0) S 0 0 0

-- the statement trap: cause 2
abbrev pub TrapCause : Type 0
TrapCause = bare m0_causes (0 ∷ 0 ∷ 0x03000000 ∷ []) 8 1 ≡ state (0x04020008 ∷ 0 ∷ 0x03000000 ∷ replicate 5 0) S 0 0 0

-- lets, an else, four bits widened by their top bit, and a shift
abbrev pub WidensAndShifts : Type 0
WidensAndShifts = bare (machine (widen ∷ [])) (0 ∷ 0 ∷ 0x09000004 ∷ 0x09000005 ∷ 0x0000000c ∷ 0x00000123 ∷ []) 8 2 ≡ state (0 ∷ 0 ∷ 0x09000004 ∷ 0x09000005 ∷ 0xfffffffc ∷ 0x00001230 ∷ replicate 2 0) S 4 0 8

-- and so on for ever: a million steps of a storage of zeros
abbrev pub TrapsForEver : Type 0
TrapsForEver = bare m0_causes [] 8 1000000 ≡ state (0x02000000 ∷ replicate 7 0) S 0 0 0
