-- A hardware on which any command can be carried out.
use Rattle.std.specs.Prelude.{◌≤◌}
use Rattle.pg_ast.specs.declared.tree.Desc.{Desc}
use Rattle.pg_lang_valid.specs.Valid.{IsValid}
use Rattle.pg_hw.specs.declared.hardware.Hardware as hardware
use Rattle.pg_mon_control.specs.Counting.{CanCount}

-- it serves every machine, has room for the largest, and its counts are far from where they stand still
pub record IsAble {V : Type 0} (H : hardware.Ghosts V) (hw : V) : Type 0 where
  pub serves : (d : Desc) → IsValid d → H.serves (H.fixed hw) d
  pub room : 1048575 ≤ H.room (H.fixed hw)
  pub counts : CanCount (H.machinery hw).tally
