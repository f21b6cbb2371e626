-- For each kind a pair of states that shows it, and a near pair that does not.
use Rattle.std.proofs.Common.{◌≡◌, ◌≢◌, ◌⊎◌, ℕ, ◌<◌, ◌^◌, [], ◌∷◌, refl, lit<, lit≤, inl, inr}
use Rattle.std.proofs.lemmas.List.Elements.{All-from_recursion}
use Rattle.pg_word.specs.declared.psw.Mode.{Mode}
use Rattle.pg_word.specs.declared.psw.Mode.TheVariants.{S, U}
use Rattle.pg_ast.specs.declared.tree.Instr.{Instr}
use Rattle.pg_lang_meaning.specs.Patterns.{matches, run_length, field_of_letter}
use Rattle.pg_lang_meaning.specs.Values.{let_value}
use Rattle.pg_lang_meaning.specs.Bodies.{MemTrapped, Trapped, Going, body, in_order}
use Rattle.pg_lang_meaning.specs.States.{IsState}
use Rattle.pg_type.specs.Kinds.{course_at}
use Rattle.pg_type.specs.Examples.{alone, state, rtu, lr, svc, store_mode, store_rel, store_bound, supervisor_load, user_jump, open_lr}
use Rattle.pg_type.specs.WorkedKinds.{RtuShowsControl, RtuInUserModeDoesNot, RtuBreaksPrivilege, LrBreaksNoPrivilege, StoreModeShowsMode, StoreModeOutsideDoesNot, SupervisorLoadShowsMode, UserJumpShowsMode, UserJumpBreaksPrivilege, StoreRelShowsLocation, StoreRelUserShowsLocation, StoreRelOutsideDoesNot, StoreBoundShowsBound, StoreBoundUserShowsBound, StoreBoundOutsideDoesNot, OpenLrShowsControl, OpenLrOfTheSameDoesNot, StoreRelIsNoUserPair, StoreBoundIsNoUserPair, StoreBoundOfTwoSizesShowsBound, StoreRelOfTwoSizesDoesNot, StoreRelOfTwoBoundsDoesNot, LrDoneInSupervisorModeDoesNot, SvcBreaksPrivilege}
use Rattle.pg_lang_meaning.proofs.ValueEquations.{value_rules}
use Rattle.pg_lang_meaning.proofs.DeedEquations.{deed_rules}

-- a state of four cells below 2^32, whose fields are below 2^8
four_cells : (i : Instr) (a b c e : ℕ) (mode : Mode) (p l bound : ℕ) → a < 2 ^ 32 → b < 2 ^ 32 → c < 2 ^ 32 → e < 2 ^ 32 →
    p < 2 ^ 8 → l < 2 ^ 8 → bound < 2 ^ 8 → IsState (alone i) (state (a ∷ b ∷ c ∷ e ∷ []) mode p l bound)
four_cells i a b c e mode p l bound ha hb hc he hp hl hbound = record {
  size_least = lit≤ tt;
  size_most = lit≤ tt;
  words = All-from_recursion (λ cell. cell < 2 ^ 32) (a ∷ b ∷ c ∷ e ∷ []) (ha, (hb, (hc, (he, tt))));
  fields = record { p = hp; l = hl; b = hbound };
}

-- rtu enters user mode from supervisor mode, and changes neither mode nor R in user mode
rtu_in_s : course_at (alone rtu) rtu (state (0 ∷ 0 ∷ 0x05000000 ∷ 0 ∷ []) S 2 0 4) ≡ Going (record { window = (0 ∷ 0 ∷ 0x05000000 ∷ 0 ∷ []); psw = record { mode = U; p = 0; l = 0; b = 4 } })
unfolding course_at body matches in_order run_length field_of_letter let_value
rtu_in_s = simp (deed_rules, value_rules)

rtu_in_u : course_at (alone rtu) rtu (state (0 ∷ 0 ∷ 0x05000000 ∷ 0 ∷ []) U 2 0 4) ≡ Going (record { window = (0 ∷ 0 ∷ 0x05000000 ∷ 0 ∷ []); psw = record { mode = U; p = 0; l = 0; b = 4 } })
unfolding course_at body matches in_order run_length field_of_letter let_value
rtu_in_u = simp (deed_rules, value_rules)

pub rtu_shows_control : RtuShowsControl
unfolding matches
rtu_shows_control = record {
  state = four_cells rtu 0 0 0x05000000 0 S 2 0 4 (lit< tt) (lit< tt) (lit< tt) (lit< tt) (lit< tt) (lit< tt) (lit< tt);
  same = refl;
  at = refl;
  changes = rw rtu_in_s (inl (λ e. cc));
}

-- what does not change mode or R
no_change : (m : Mode) (l b : ℕ) → (m ≢ m) ⊎ (l ≢ l) ⊎ (b ≢ b) → ⊥
no_change m l b (inl h) = h refl
no_change m l b (inr (inl h)) = h refl
no_change m l b (inr (inr h)) = h refl

pub rtu_in_user_mode_does_not : RtuInUserModeDoesNot
rtu_in_user_mode_does_not h = no_change U 0 4 (rw rtu_in_u at h.changes)

pub rtu_breaks_privilege : RtuBreaksPrivilege
unfolding matches
rtu_breaks_privilege = record {
  pair = record {
    state = four_cells rtu 0 0 0x05000000 0 S 2 0 4 (lit< tt) (lit< tt) (lit< tt) (lit< tt) (lit< tt) (lit< tt) (lit< tt);
    supervisor = refl;
    same_in_user = refl;
    at_first = refl;
    at_second = refl;
  };
  breaks = rw rtu_in_u (inl tt);
}

-- lr is done in supervisor mode and traps in user mode
lr_in_s : course_at (alone lr) lr (state (0 ∷ 0 ∷ 0x04000004 ∷ 0 ∷ []) S 2 0 4) ≡ Going (record { window = (0 ∷ 0 ∷ 0x04000004 ∷ 0 ∷ []); psw = record { mode = S; p = 3; l = 0; b = 4 } })
unfolding course_at body matches in_order run_length field_of_letter let_value
lr_in_s = simp (deed_rules, value_rules)

lr_in_u : course_at (alone lr) lr (state (0 ∷ 0 ∷ 0x04000004 ∷ 0 ∷ []) U 2 0 4) ≡ Trapped
unfolding course_at body matches in_order run_length field_of_letter let_value
lr_in_u = simp (deed_rules, value_rules)

pub lr_breaks_no_privilege : LrBreaksNoPrivilege
lr_breaks_no_privilege h = neither (rw (lr_in_u, lr_in_s) at h.breaks)
  where
    neither : ⊥ ⊎ (Unit {0} × ⊥) → ⊥
    neither (inl h) = h
    neither (inr h) = h.1

-- a store of the mode
store_mode_in_s : course_at (alone store_mode) store_mode (state (0 ∷ 0 ∷ 0x06000000 ∷ 0 ∷ []) S 2 0 4) ≡ Going (record { window = (0 ∷ 0 ∷ 0x06000000 ∷ 0 ∷ []); psw = record { mode = S; p = 3; l = 0; b = 4 } })
unfolding course_at body matches in_order run_length field_of_letter let_value
store_mode_in_s = simp (deed_rules, value_rules)

store_mode_in_u : course_at (alone store_mode) store_mode (state (0 ∷ 0 ∷ 0x06000000 ∷ 0 ∷ []) U 2 0 4) ≡ Going (record { window = (0x00000001 ∷ 0 ∷ 0x06000000 ∷ 0 ∷ []); psw = record { mode = U; p = 3; l = 0; b = 4 } })
unfolding course_at body matches in_order run_length field_of_letter let_value
store_mode_in_u = simp (deed_rules, value_rules)

pub store_mode_shows_mode : StoreModeShowsMode
unfolding matches
store_mode_shows_mode = record {
  pair = record {
    state = four_cells store_mode 0 0 0x06000000 0 S 2 0 4 (lit< tt) (lit< tt) (lit< tt) (lit< tt) (lit< tt) (lit< tt) (lit< tt);
    supervisor = refl;
    same_in_user = refl;
    at_first = refl;
    at_second = refl;
  };
  done = rw store_mode_in_u tt;
  differ = rw (store_mode_in_s, store_mode_in_u) (λ e. cc);
}

-- the same to an address that is not usable: a memory trap in both modes
store_mode_outside : course_at (alone store_mode) store_mode (state (0 ∷ 0 ∷ 0x060000ff ∷ 0 ∷ []) U 2 0 4) ≡ MemTrapped
unfolding course_at body matches in_order run_length field_of_letter let_value
store_mode_outside = simp (deed_rules, value_rules)

pub store_mode_outside_does_not : StoreModeOutsideDoesNot
store_mode_outside_does_not h = let done : ⊥ = rw store_mode_outside at h.done in done

-- a load that one mode alone does: it traps in supervisor mode, and does not in user mode
supervisor_load_in_s : course_at (alone supervisor_load) supervisor_load (state (0 ∷ 0 ∷ 0x060000ff ∷ 0 ∷ []) S 2 0 4) ≡ MemTrapped
unfolding course_at body matches in_order run_length field_of_letter let_value
supervisor_load_in_s = simp (deed_rules, value_rules)

supervisor_load_in_u : course_at (alone supervisor_load) supervisor_load (state (0 ∷ 0 ∷ 0x060000ff ∷ 0 ∷ []) U 2 0 4) ≡ Going (record { window = (0 ∷ 0 ∷ 0x060000ff ∷ 0 ∷ []); psw = record { mode = U; p = 3; l = 0; b = 4 } })
unfolding course_at body matches in_order run_length field_of_letter let_value
supervisor_load_in_u = simp (deed_rules, value_rules)

pub supervisor_load_shows_mode : SupervisorLoadShowsMode
unfolding matches
supervisor_load_shows_mode = record {
  pair = record {
    state = four_cells supervisor_load 0 0 0x060000ff 0 S 2 0 4 (lit< tt) (lit< tt) (lit< tt) (lit< tt) (lit< tt) (lit< tt) (lit< tt);
    supervisor = refl;
    same_in_user = refl;
    at_first = refl;
    at_second = refl;
  };
  done = rw supervisor_load_in_u tt;
  differ = rw (supervisor_load_in_s, supervisor_load_in_u) (λ e. cc);
}

-- a jump in user mode, a memory trap in supervisor mode
user_jump_in_s : course_at (alone user_jump) user_jump (state (0 ∷ 0 ∷ 0x06000000 ∷ 0 ∷ []) S 2 0 4) ≡ MemTrapped
unfolding course_at body matches in_order run_length field_of_letter let_value
user_jump_in_s = simp (deed_rules, value_rules)

user_jump_in_u : course_at (alone user_jump) user_jump (state (0 ∷ 0 ∷ 0x06000000 ∷ 0 ∷ []) U 2 0 4) ≡ Going (record { window = (0 ∷ 0 ∷ 0x06000000 ∷ 0 ∷ []); psw = record { mode = U; p = 0; l = 0; b = 4 } })
unfolding course_at body matches in_order run_length field_of_letter let_value
user_jump_in_u = simp (deed_rules, value_rules)

pub user_jump_shows_mode : UserJumpShowsMode
unfolding matches
user_jump_shows_mode = record {
  pair = record {
    state = four_cells user_jump 0 0 0x06000000 0 S 2 0 4 (lit< tt) (lit< tt) (lit< tt) (lit< tt) (lit< tt) (lit< tt) (lit< tt);
    supervisor = refl;
    same_in_user = refl;
    at_first = refl;
    at_second = refl;
  };
  done = rw user_jump_in_u tt;
  differ = rw (user_jump_in_s, user_jump_in_u) (λ e. cc);
}

pub user_jump_breaks_privilege : UserJumpBreaksPrivilege
unfolding matches
user_jump_breaks_privilege = record {
  pair = record {
    state = four_cells user_jump 0 0 0x06000000 0 S 2 0 4 (lit< tt) (lit< tt) (lit< tt) (lit< tt) (lit< tt) (lit< tt) (lit< tt);
    supervisor = refl;
    same_in_user = refl;
    at_first = refl;
    at_second = refl;
  };
  breaks = rw user_jump_in_u (inl tt);
}

-- a store of the relocation: two places of one window
store_rel_at_0 : course_at (alone store_rel) store_rel (state (0x06000000 ∷ 0 ∷ 0 ∷ 0 ∷ []) S 0 0 3) ≡ Going (record { window = (0 ∷ 0 ∷ 0 ∷ []); psw = record { mode = S; p = 1; l = 0; b = 3 } })
unfolding course_at body matches in_order run_length field_of_letter let_value
store_rel_at_0 = simp (deed_rules, value_rules)

store_rel_at_1 : course_at (alone store_rel) store_rel (state (0 ∷ 0x06000000 ∷ 0 ∷ 0 ∷ []) S 0 1 3) ≡ Going (record { window = (0x00000001 ∷ 0 ∷ 0 ∷ []); psw = record { mode = S; p = 1; l = 1; b = 3 } })
unfolding course_at body matches in_order run_length field_of_letter let_value
store_rel_at_1 = simp (deed_rules, value_rules)

pub store_rel_shows_location : StoreRelShowsLocation
unfolding matches
store_rel_shows_location = record {
  first = four_cells store_rel 0x06000000 0 0 0 S 0 0 3 (lit< tt) (lit< tt) (lit< tt) (lit< tt) (lit< tt) (lit< tt) (lit< tt);
  second = four_cells store_rel 0 0x06000000 0 0 S 0 1 3 (lit< tt) (lit< tt) (lit< tt) (lit< tt) (lit< tt) (lit< tt) (lit< tt);
  at_first = refl;
  at_second = refl;
  same_size = refl;
  same_bound = refl;
  same_mode = refl;
  same_p = refl;
  same_window = refl;
  moved = λ e. cc;
  done = rw store_rel_at_0 (inl tt);
  differ = rw (store_rel_at_0, store_rel_at_1) (λ e. cc);
}

-- a store of the relocation, in user mode: two places of one window
store_rel_user_at_0 : course_at (alone store_rel) store_rel (state (0x06000000 ∷ 0 ∷ 0 ∷ 0 ∷ []) U 0 0 3) ≡ Going (record { window = (0 ∷ 0 ∷ 0 ∷ []); psw = record { mode = U; p = 1; l = 0; b = 3 } })
unfolding course_at body matches in_order run_length field_of_letter let_value
store_rel_user_at_0 = simp (deed_rules, value_rules)

store_rel_user_at_1 : course_at (alone store_rel) store_rel (state (0 ∷ 0x06000000 ∷ 0 ∷ 0 ∷ []) U 0 1 3) ≡ Going (record { window = (0x00000001 ∷ 0 ∷ 0 ∷ []); psw = record { mode = U; p = 1; l = 1; b = 3 } })
unfolding course_at body matches in_order run_length field_of_letter let_value
store_rel_user_at_1 = simp (deed_rules, value_rules)

pub store_rel_user_shows_location : StoreRelUserShowsLocation
unfolding matches
store_rel_user_shows_location = (
  record {
    first = four_cells store_rel 0x06000000 0 0 0 U 0 0 3 (lit< tt) (lit< tt) (lit< tt) (lit< tt) (lit< tt) (lit< tt) (lit< tt);
    second = four_cells store_rel 0 0x06000000 0 0 U 0 1 3 (lit< tt) (lit< tt) (lit< tt) (lit< tt) (lit< tt) (lit< tt) (lit< tt);
    at_first = refl;
    at_second = refl;
    same_size = refl;
    same_bound = refl;
    same_mode = refl;
    same_p = refl;
    same_window = refl;
    moved = λ e. cc;
    done = rw store_rel_user_at_0 (inl tt);
    differ = rw (store_rel_user_at_0, store_rel_user_at_1) (λ e. cc);
  },
  refl,
)

-- the same to an address that is not usable: a memory trap at both places
store_rel_outside_at_0 : course_at (alone store_rel) store_rel (state (0x060000ff ∷ 0 ∷ 0 ∷ 0 ∷ []) S 0 0 3) ≡ MemTrapped
unfolding course_at body matches in_order run_length field_of_letter let_value
store_rel_outside_at_0 = simp (deed_rules, value_rules)

store_rel_outside_at_1 : course_at (alone store_rel) store_rel (state (0 ∷ 0x060000ff ∷ 0 ∷ 0 ∷ []) S 0 1 3) ≡ MemTrapped
unfolding course_at body matches in_order run_length field_of_letter let_value
store_rel_outside_at_1 = simp (deed_rules, value_rules)

neither_done : ⊥ ⊎ ⊥ → ⊥
neither_done (inl h) = h
neither_done (inr h) = h

pub store_rel_outside_does_not : StoreRelOutsideDoesNot
store_rel_outside_does_not h = neither_done (rw (store_rel_outside_at_0, store_rel_outside_at_1) at h.done)

-- a store of the bound: one window under two bounds past the storage
store_bound_4 : course_at (alone store_bound) store_bound (state (0 ∷ 0 ∷ 0x06000000 ∷ 0 ∷ []) S 2 0 4) ≡ Going (record { window = (0x00000004 ∷ 0 ∷ 0x06000000 ∷ 0 ∷ []); psw = record { mode = S; p = 3; l = 0; b = 4 } })
unfolding course_at body matches in_order run_length field_of_letter let_value
store_bound_4 = simp (deed_rules, value_rules)

store_bound_5 : course_at (alone store_bound) store_bound (state (0 ∷ 0 ∷ 0x06000000 ∷ 0 ∷ []) S 2 0 5) ≡ Going (record { window = (0x00000005 ∷ 0 ∷ 0x06000000 ∷ 0 ∷ []); psw = record { mode = S; p = 3; l = 0; b = 5 } })
unfolding course_at body matches in_order run_length field_of_letter let_value
store_bound_5 = simp (deed_rules, value_rules)

pub store_bound_shows_bound : StoreBoundShowsBound
unfolding matches
store_bound_shows_bound = record {
  first = four_cells store_bound 0 0 0x06000000 0 S 2 0 4 (lit< tt) (lit< tt) (lit< tt) (lit< tt) (lit< tt) (lit< tt) (lit< tt);
  second = four_cells store_bound 0 0 0x06000000 0 S 2 0 5 (lit< tt) (lit< tt) (lit< tt) (lit< tt) (lit< tt) (lit< tt) (lit< tt);
  at_first = refl;
  at_second = refl;
  same_l = refl;
  same_mode = refl;
  same_p = refl;
  same_window = refl;
  other_bound = λ e. cc;
  done = rw store_bound_4 (inl tt);
  differ = rw (store_bound_4, store_bound_5) (λ e. cc);
}

-- a store of the bound, in user mode: one window under two bounds past the storage
store_bound_user_4 : course_at (alone store_bound) store_bound (state (0 ∷ 0 ∷ 0x06000000 ∷ 0 ∷ []) U 2 0 4) ≡ Going (record { window = (0x00000004 ∷ 0 ∷ 0x06000000 ∷ 0 ∷ []); psw = record { mode = U; p = 3; l = 0; b = 4 } })
unfolding course_at body matches in_order run_length field_of_letter let_value
store_bound_user_4 = simp (deed_rules, value_rules)

store_bound_user_5 : course_at (alone store_bound) store_bound (state (0 ∷ 0 ∷ 0x06000000 ∷ 0 ∷ []) U 2 0 5) ≡ Going (record { window = (0x00000005 ∷ 0 ∷ 0x06000000 ∷ 0 ∷ []); psw = record { mode = U; p = 3; l = 0; b = 5 } })
unfolding course_at body matches in_order run_length field_of_letter let_value
store_bound_user_5 = simp (deed_rules, value_rules)

pub store_bound_user_shows_bound : StoreBoundUserShowsBound
unfolding matches
store_bound_user_shows_bound = (
  record {
    first = four_cells store_bound 0 0 0x06000000 0 U 2 0 4 (lit< tt) (lit< tt) (lit< tt) (lit< tt) (lit< tt) (lit< tt) (lit< tt);
    second = four_cells store_bound 0 0 0x06000000 0 U 2 0 5 (lit< tt) (lit< tt) (lit< tt) (lit< tt) (lit< tt) (lit< tt) (lit< tt);
    at_first = refl;
    at_second = refl;
    same_l = refl;
    same_mode = refl;
    same_p = refl;
    same_window = refl;
    other_bound = λ e. cc;
    done = rw store_bound_user_4 (inl tt);
    differ = rw (store_bound_user_4, store_bound_user_5) (λ e. cc);
  },
  refl,
)

-- the same to an address that is not usable: a memory trap under both
store_bound_outside_4 : course_at (alone store_bound) store_bound (state (0 ∷ 0 ∷ 0x060000ff ∷ 0 ∷ []) S 2 0 4) ≡ MemTrapped
unfolding course_at body matches in_order run_length field_of_letter let_value
store_bound_outside_4 = simp (deed_rules, value_rules)

store_bound_outside_5 : course_at (alone store_bound) store_bound (state (0 ∷ 0 ∷ 0x060000ff ∷ 0 ∷ []) S 2 0 5) ≡ MemTrapped
unfolding course_at body matches in_order run_length field_of_letter let_value
store_bound_outside_5 = simp (deed_rules, value_rules)

pub store_bound_outside_does_not : StoreBoundOutsideDoesNot
store_bound_outside_does_not h = neither_done (rw (store_bound_outside_4, store_bound_outside_5) at h.done)

-- a load of R that does not trap in user mode: it changes the bound; it changes nothing where it loads what is there
open_lr_changes : course_at (alone open_lr) open_lr (state (0 ∷ 0 ∷ 0x04000002 ∷ 0 ∷ []) U 2 0 4) ≡ Going (record { window = (0 ∷ 0 ∷ 0x04000002 ∷ 0 ∷ []); psw = record { mode = U; p = 3; l = 0; b = 2 } })
unfolding course_at body matches in_order run_length field_of_letter let_value
open_lr_changes = simp (deed_rules, value_rules)

open_lr_keeps : course_at (alone open_lr) open_lr (state (0 ∷ 0 ∷ 0x04000004 ∷ 0 ∷ []) U 2 0 4) ≡ Going (record { window = (0 ∷ 0 ∷ 0x04000004 ∷ 0 ∷ []); psw = record { mode = U; p = 3; l = 0; b = 4 } })
unfolding course_at body matches in_order run_length field_of_letter let_value
open_lr_keeps = simp (deed_rules, value_rules)

pub open_lr_shows_control : OpenLrShowsControl
unfolding matches
open_lr_shows_control = (
  record {
    state = four_cells open_lr 0 0 0x04000002 0 U 2 0 4 (lit< tt) (lit< tt) (lit< tt) (lit< tt) (lit< tt) (lit< tt) (lit< tt);
    same = refl;
    at = refl;
    changes = rw open_lr_changes (inr (inr (λ e. cc)));
  },
  refl,
)

pub open_lr_of_the_same_does_not : OpenLrOfTheSameDoesNot
open_lr_of_the_same_does_not h = no_change U 0 4 (rw open_lr_keeps at h.0.changes)

pub store_rel_is_no_user_pair : StoreRelIsNoUserPair
store_rel_is_no_user_pair h = cc (h.1)

pub store_bound_is_no_user_pair : StoreBoundIsNoUserPair
store_bound_is_no_user_pair h = cc (h.1)

-- ---- near misses

-- the same storage with a cell more, and the bound where the other has its end
store_bound_5_of_4 : course_at (alone store_bound) store_bound (state (0 ∷ 0 ∷ 0x06000000 ∷ 0 ∷ 0 ∷ []) S 2 0 4) ≡ Going (record { window = (0x00000004 ∷ 0 ∷ 0x06000000 ∷ 0 ∷ []); psw = record { mode = S; p = 3; l = 0; b = 4 } })
unfolding course_at body matches in_order run_length field_of_letter let_value
store_bound_5_of_4 = simp (deed_rules, value_rules)

pub store_bound_of_two_sizes_shows_bound : StoreBoundOfTwoSizesShowsBound
unfolding matches
store_bound_of_two_sizes_shows_bound = record {
  first = four_cells store_bound 0 0 0x06000000 0 S 2 0 5 (lit< tt) (lit< tt) (lit< tt) (lit< tt) (lit< tt) (lit< tt) (lit< tt);
  second = record {
    size_least = lit≤ tt;
    size_most = lit≤ tt;
    words = All-from_recursion (λ cell. cell < 2 ^ 32) (0 ∷ 0 ∷ 0x06000000 ∷ 0 ∷ 0 ∷ []) (lit< tt, (lit< tt, (lit< tt, (lit< tt, (lit< tt, tt)))));
    fields = record { p = lit< tt; l = lit< tt; b = lit< tt };
  };
  at_first = refl;
  at_second = refl;
  same_l = refl;
  same_mode = refl;
  same_p = refl;
  same_window = refl;
  other_bound = λ e. cc;
  done = rw store_bound_5 (inl tt);
  differ = rw (store_bound_5, store_bound_5_of_4) (λ e. cc);
}

pub store_rel_of_two_sizes_does_not : StoreRelOfTwoSizesDoesNot
store_rel_of_two_sizes_does_not h = cc (h.same_size)

pub store_rel_of_two_bounds_does_not : StoreRelOfTwoBoundsDoesNot
store_rel_of_two_bounds_does_not h = cc (h.same_bound)

pub lr_done_in_supervisor_mode_does_not : LrDoneInSupervisorModeDoesNot
lr_done_in_supervisor_mode_does_not h = let done : ⊥ = rw lr_in_u at h.done in done

-- a trap in both modes
svc_in_s : course_at (alone svc) svc (state (0 ∷ 0 ∷ 0x03000000 ∷ 0 ∷ []) S 2 0 4) ≡ Trapped
unfolding course_at body matches in_order run_length field_of_letter let_value
svc_in_s = simp deed_rules

svc_in_u : course_at (alone svc) svc (state (0 ∷ 0 ∷ 0x03000000 ∷ 0 ∷ []) U 2 0 4) ≡ Trapped
unfolding course_at body matches in_order run_length field_of_letter let_value
svc_in_u = simp deed_rules

pub svc_breaks_privilege : SvcBreaksPrivilege
unfolding matches
svc_breaks_privilege = record {
  pair = record {
    state = four_cells svc 0 0 0x03000000 0 S 2 0 4 (lit< tt) (lit< tt) (lit< tt) (lit< tt) (lit< tt) (lit< tt) (lit< tt);
    supervisor = refl;
    same_in_user = refl;
    at_first = refl;
    at_second = refl;
  };
  breaks = rw (svc_in_u, svc_in_s) (inr (tt, tt));
}
