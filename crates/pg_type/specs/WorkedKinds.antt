-- For each kind a pair of states that shows it, and near pairs that do not; and a machine between the two conditions.
-- Each is a law of the crate.
use Rattle.std.specs.Prelude.{[], ◌∷◌}
use Rattle.pg_word.specs.declared.psw.Mode.TheVariants.{S, U}
use Rattle.pg_type.specs.declared.kind.Kind.TheVariants.{Privileged, Control, ModeDep, Location, Bound, UControl, ULocation, UBound}
use Rattle.pg_type.specs.Kinds.{Shows}
use Rattle.pg_type.specs.Accepting.{IsAccepted, IsHybridAccepted}
use Rattle.pg_type.specs.Examples.{alone, m1, state, rtu, lr, svc, store_mode, store_rel, store_bound, supervisor_load, user_jump, open_lr}

abbrev pub RtuShowsControl : Type 0
RtuShowsControl = Shows (alone rtu) rtu Control (state (0 ∷ 0 ∷ 0x05000000 ∷ 0 ∷ []) S 2 0 4) (state (0 ∷ 0 ∷ 0x05000000 ∷ 0 ∷ []) S 2 0 4)

abbrev pub RtuInUserModeDoesNot : Type 0
RtuInUserModeDoesNot = ¬ Shows (alone rtu) rtu Control (state (0 ∷ 0 ∷ 0x05000000 ∷ 0 ∷ []) U 2 0 4) (state (0 ∷ 0 ∷ 0x05000000 ∷ 0 ∷ []) U 2 0 4)

-- the pair of that state and the same in user mode: the user one is done
abbrev pub RtuBreaksPrivilege : Type 0
RtuBreaksPrivilege = Shows (alone rtu) rtu Privileged (state (0 ∷ 0 ∷ 0x05000000 ∷ 0 ∷ []) S 2 0 4) (state (0 ∷ 0 ∷ 0x05000000 ∷ 0 ∷ []) U 2 0 4)

abbrev pub LrBreaksNoPrivilege : Type 0
LrBreaksNoPrivilege = ¬ Shows (alone lr) lr Privileged (state (0 ∷ 0 ∷ 0x04000004 ∷ 0 ∷ []) S 2 0 4) (state (0 ∷ 0 ∷ 0x04000004 ∷ 0 ∷ []) U 2 0 4)

abbrev pub StoreModeShowsMode : Type 0
StoreModeShowsMode = Shows (alone store_mode) store_mode ModeDep (state (0 ∷ 0 ∷ 0x06000000 ∷ 0 ∷ []) S 2 0 4) (state (0 ∷ 0 ∷ 0x06000000 ∷ 0 ∷ []) U 2 0 4)

abbrev pub StoreModeOutsideDoesNot : Type 0
StoreModeOutsideDoesNot = ¬ Shows (alone store_mode) store_mode ModeDep (state (0 ∷ 0 ∷ 0x060000ff ∷ 0 ∷ []) S 2 0 4) (state (0 ∷ 0 ∷ 0x060000ff ∷ 0 ∷ []) U 2 0 4)

abbrev pub SupervisorLoadShowsMode : Type 0
SupervisorLoadShowsMode = Shows (alone supervisor_load) supervisor_load ModeDep (state (0 ∷ 0 ∷ 0x060000ff ∷ 0 ∷ []) S 2 0 4) (state (0 ∷ 0 ∷ 0x060000ff ∷ 0 ∷ []) U 2 0 4)

abbrev pub UserJumpShowsMode : Type 0
UserJumpShowsMode = Shows (alone user_jump) user_jump ModeDep (state (0 ∷ 0 ∷ 0x06000000 ∷ 0 ∷ []) S 2 0 4) (state (0 ∷ 0 ∷ 0x06000000 ∷ 0 ∷ []) U 2 0 4)

abbrev pub UserJumpBreaksPrivilege : Type 0
UserJumpBreaksPrivilege = Shows (alone user_jump) user_jump Privileged (state (0 ∷ 0 ∷ 0x06000000 ∷ 0 ∷ []) S 2 0 4) (state (0 ∷ 0 ∷ 0x06000000 ∷ 0 ∷ []) U 2 0 4)

abbrev pub StoreRelShowsLocation : Type 0
StoreRelShowsLocation = Shows (alone store_rel) store_rel Location (state (0x06000000 ∷ 0 ∷ 0 ∷ 0 ∷ []) S 0 0 3) (state (0 ∷ 0x06000000 ∷ 0 ∷ 0 ∷ []) S 0 1 3)

abbrev pub StoreRelUserShowsLocation : Type 0
StoreRelUserShowsLocation = Shows (alone store_rel) store_rel ULocation (state (0x06000000 ∷ 0 ∷ 0 ∷ 0 ∷ []) U 0 0 3) (state (0 ∷ 0x06000000 ∷ 0 ∷ 0 ∷ []) U 0 1 3)

abbrev pub StoreRelOutsideDoesNot : Type 0
StoreRelOutsideDoesNot = ¬ Shows (alone store_rel) store_rel Location (state (0x060000ff ∷ 0 ∷ 0 ∷ 0 ∷ []) S 0 0 3) (state (0 ∷ 0x060000ff ∷ 0 ∷ 0 ∷ []) S 0 1 3)

abbrev pub StoreBoundShowsBound : Type 0
StoreBoundShowsBound = Shows (alone store_bound) store_bound Bound (state (0 ∷ 0 ∷ 0x06000000 ∷ 0 ∷ []) S 2 0 4) (state (0 ∷ 0 ∷ 0x06000000 ∷ 0 ∷ []) S 2 0 5)

abbrev pub StoreBoundUserShowsBound : Type 0
StoreBoundUserShowsBound = Shows (alone store_bound) store_bound UBound (state (0 ∷ 0 ∷ 0x06000000 ∷ 0 ∷ []) U 2 0 4) (state (0 ∷ 0 ∷ 0x06000000 ∷ 0 ∷ []) U 2 0 5)

abbrev pub StoreBoundOutsideDoesNot : Type 0
StoreBoundOutsideDoesNot = ¬ Shows (alone store_bound) store_bound Bound (state (0 ∷ 0 ∷ 0x060000ff ∷ 0 ∷ []) S 2 0 4) (state (0 ∷ 0 ∷ 0x060000ff ∷ 0 ∷ []) S 2 0 5)

abbrev pub OpenLrShowsControl : Type 0
OpenLrShowsControl = Shows (alone open_lr) open_lr UControl (state (0 ∷ 0 ∷ 0x04000002 ∷ 0 ∷ []) U 2 0 4) (state (0 ∷ 0 ∷ 0x04000002 ∷ 0 ∷ []) U 2 0 4)

abbrev pub OpenLrOfTheSameDoesNot : Type 0
OpenLrOfTheSameDoesNot = ¬ Shows (alone open_lr) open_lr UControl (state (0 ∷ 0 ∷ 0x04000004 ∷ 0 ∷ []) U 2 0 4) (state (0 ∷ 0 ∷ 0x04000004 ∷ 0 ∷ []) U 2 0 4)

-- the pairs in supervisor mode are none of user states
abbrev pub StoreRelIsNoUserPair : Type 0
StoreRelIsNoUserPair = ¬ Shows (alone store_rel) store_rel ULocation (state (0x06000000 ∷ 0 ∷ 0 ∷ 0 ∷ []) S 0 0 3) (state (0 ∷ 0x06000000 ∷ 0 ∷ 0 ∷ []) S 0 1 3)

abbrev pub StoreBoundIsNoUserPair : Type 0
StoreBoundIsNoUserPair = ¬ Shows (alone store_bound) store_bound UBound (state (0 ∷ 0 ∷ 0x06000000 ∷ 0 ∷ []) S 2 0 4) (state (0 ∷ 0 ∷ 0x06000000 ∷ 0 ∷ []) S 2 0 5)

-- a pair of two sizes: the same window of four cells, of which the size cuts off the first and the bound the second
abbrev pub StoreBoundOfTwoSizesShowsBound : Type 0
StoreBoundOfTwoSizesShowsBound = Shows (alone store_bound) store_bound Bound (state (0 ∷ 0 ∷ 0x06000000 ∷ 0 ∷ []) S 2 0 5) (state (0 ∷ 0 ∷ 0x06000000 ∷ 0 ∷ 0 ∷ []) S 2 0 4)

-- one window at two places, with different observations: but in storages of two sizes
abbrev pub StoreRelOfTwoSizesDoesNot : Type 0
StoreRelOfTwoSizesDoesNot = ¬ Shows (alone store_rel) store_rel Location (state (0x06000000 ∷ 0 ∷ 0 ∷ 0 ∷ []) S 0 0 3) (state (0 ∷ 0x06000000 ∷ 0 ∷ 0 ∷ 0 ∷ []) S 0 1 3)

-- or under two bounds
abbrev pub StoreRelOfTwoBoundsDoesNot : Type 0
StoreRelOfTwoBoundsDoesNot = ¬ Shows (alone store_rel) store_rel Location (state (0x06000000 ∷ 0 ∷ 0 ∷ 0 ∷ []) S 0 0 3) (state (0 ∷ 0x06000000 ∷ 0 ∷ 0 ∷ []) S 0 1 4)

-- different observations of a mode pair, of which only the supervisor one is done
abbrev pub LrDoneInSupervisorModeDoesNot : Type 0
LrDoneInSupervisorModeDoesNot = ¬ Shows (alone lr) lr ModeDep (state (0 ∷ 0 ∷ 0x04000004 ∷ 0 ∷ []) S 2 0 4) (state (0 ∷ 0 ∷ 0x04000004 ∷ 0 ∷ []) U 2 0 4)

-- the pair of which neither memory traps, and the supervisor one traps
abbrev pub SvcBreaksPrivilege : Type 0
SvcBreaksPrivilege = Shows (alone svc) svc Privileged (state (0 ∷ 0 ∷ 0x03000000 ∷ 0 ∷ []) S 2 0 4) (state (0 ∷ 0 ∷ 0x03000000 ∷ 0 ∷ []) U 2 0 4)

-- M1 serves a hybrid monitor, and not the other: in user mode rtu does what any jump does
abbrev pub M1ServesHybridAlone : Type 0
M1ServesHybridAlone = IsHybridAccepted m1 × (¬ IsAccepted m1)
