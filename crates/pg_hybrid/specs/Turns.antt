-- Turns of guests under a hybrid monitor: what they leave of the states, the storage and the counts.
use Rattle.std.specs.Prelude.{◌≡◌, ℕ, ◌+◌, ◌-◌, ◌*◌, ◌<◌, ◌≤◌, ◌⊎◌, List, Option, Some, slice_get}
use Rattle.pg_ast.specs.declared.tree.Desc.{Desc}
use Rattle.pg_hw.specs.declared.counts.Counts.{Counts}
use Rattle.pg_hw.specs.Tallies.{RisesWithin, raised_by}
use Rattle.pg_hw.specs.Machinery.{Machinery}
use Rattle.pg_mon_control.specs.declared.guest.Guest.{Guest}
use Rattle.pg_mon_control.specs.Guests.{virtual, virtuals, grants_of}
use Rattle.pg_mon_control.specs.Counting.{BottomTurns}
use Rattle.pg_mon_control.specs.Plans.{moved}
use Rattle.pg_hybrid.specs.UserTurns.{user_among, hybrid_among}
use Rattle.pg_hybrid.specs.Leaving.{left_of, left_among}

-- the counts after turns of which so many began in user mode, and so many of these were direct
pub record CountsHybrid (turns users direct : ℕ) (old new : Counts) : Type 0 where
  pub steps : new.steps ≡ raised_by users old.steps
  pub untrapped : new.untrapped ≡ raised_by direct old.untrapped
  pub loads : RisesWithin 0 users old.loads new.loads
  pub pokes : RisesWithin 0 (8 * (turns - direct)) old.pokes new.pokes

-- *HybridTurned*: n turns of guest k, from a hardware and guests that stand to a hardware and guests that stand
pub record HybridTurned (d : Desc) (k n : ℕ) (old new : Machinery) (old_guests new_guests : List Guest) (old_current new_current : Option ℕ) : Type 0 where
  pub guest : Guest
  pub is_guest : slice_get old_guests k ≡ Some guest
  -- the guest's state is n steps on, and no other guest's has changed
  pub states : virtuals new.state.cells new_guests ≡ moved d k n (virtuals old.state.cells old_guests)
  pub grants : grants_of new_guests ≡ grants_of old_guests
  -- no cell outside the grant and cell 0 changes
  pub outside : (at : ℕ) → 1 ≤ at → (at < guest.base) ⊎ (guest.base + guest.size ≤ at) → slice_get new.state.cells at ≡ slice_get old.state.cells at
  -- the current guest, the loads, cell 0 and the PSW are those that the turns leave, one after another
  pub left : left_of new new_current ≡ left_among d k guest.base n (virtual old.state.cells guest) (left_of old old_current)
  pub tally : CountsHybrid n (user_among d n (virtual old.state.cells guest)) (hybrid_among d guest.base n (virtual old.state.cells guest)) old.tally new.tally
  pub bottom : BottomTurns (user_among d n (virtual old.state.cells guest)) (hybrid_among d guest.base n (virtual old.state.cells guest)) old.bottom new.bottom
