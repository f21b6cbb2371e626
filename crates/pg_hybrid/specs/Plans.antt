-- What turns by a plan leave of a hybrid monitor's guests and its hardware.
use Rattle.std.specs.Prelude.{◌≡◌, ℕ, ◌≤◌, List, Option, slice_get}
use Rattle.pg_ast.specs.declared.tree.Desc.{Desc}
use Rattle.pg_lang_meaning.specs.States.{State}
use Rattle.pg_hw.specs.Machinery.{Machinery}
use Rattle.pg_mon_control.specs.declared.guest.Guest.{Guest}
use Rattle.pg_mon_control.specs.Guests.{virtuals, grants_of}
use Rattle.pg_mon_control.specs.Counting.{BottomTurns}
use Rattle.pg_mon_control.specs.Plans.{after_plan, turns_of, Count, count_of, IsOutside}
use Rattle.pg_hybrid.specs.UserTurns.{user_among, hybrid_among}
use Rattle.pg_hybrid.specs.Turns.{CountsHybrid}
use Rattle.pg_hybrid.specs.Leaving.{left_of, left_behind}

-- the turns from user mode, as what is counted of turns: it is the same at every base
abbrev pub user_count : Desc → Count
user_count d base n s = user_among d n s

-- the turns of a plan that begin in user mode, of guests at these states
abbrev pub user_of : Desc → List Guest → List (ℕ × ℕ) → List State → ℕ
user_of d gs plan ss = count_of d (user_count d) gs plan ss

-- those of them that are direct
abbrev pub hybrid_of : Desc → List Guest → List (ℕ × ℕ) → List State → ℕ
hybrid_of d gs plan ss = count_of d (hybrid_among d) gs plan ss

-- *HybridFollowed*: a plan that was followed
pub record HybridFollowed (d : Desc) (plan : List (ℕ × ℕ)) (old new : Machinery) (old_guests new_guests : List Guest) (old_current new_current : Option ℕ) : Type 0 where
  pub states : virtuals new.state.cells new_guests ≡ after_plan d plan (virtuals old.state.cells old_guests)
  pub grants : grants_of new_guests ≡ grants_of old_guests
  -- no cell outside the grants and cell 0 changes
  pub outside : (at : ℕ) → 1 ≤ at → IsOutside old_guests at → slice_get new.state.cells at ≡ slice_get old.state.cells at
  -- the current guest, the loads, cell 0 and the PSW are those that the plan's turns leave, in its order
  pub left : left_of new new_current ≡ left_behind d old_guests plan (virtuals old.state.cells old_guests) (left_of old old_current)
  pub tally : CountsHybrid (turns_of plan) (user_of d old_guests plan (virtuals old.state.cells old_guests)) (hybrid_of d old_guests plan (virtuals old.state.cells old_guests)) old.tally new.tally
  pub bottom : BottomTurns (user_of d old_guests plan (virtuals old.state.cells old_guests)) (hybrid_of d old_guests plan (virtuals old.state.cells old_guests)) old.bottom new.bottom
