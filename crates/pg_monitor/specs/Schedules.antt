-- Turns by slices, made one round after another.
use Rattle.std.specs.Prelude.{ℕ, List, ◌++◌, Option}
use Rattle.pg_ast.specs.declared.tree.Desc.{Desc}
use Rattle.pg_hw.specs.Machinery.{Machinery}
use Rattle.pg_mon_control.specs.declared.guest.Guest.{Guest}
use Rattle.pg_monitor.specs.Plans.{Followed}

-- turns with which a plan was begun: whatever plan is followed behind them, they and it are followed from before them
pub record Begun (d : Desc) (front : List (ℕ × ℕ)) (old new : Machinery) (old_guests new_guests : List Guest) (old_current new_current : Option ℕ) : Type 0 where
  pub goes_on : (plan : List (ℕ × ℕ)) (last : Machinery) (last_guests : List Guest) (last_current : Option ℕ) →
      Followed d plan new last new_guests last_guests new_current last_current →
      Followed d (front ++ plan) old last old_guests last_guests old_current last_current
