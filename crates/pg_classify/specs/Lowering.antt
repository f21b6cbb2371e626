-- Numbers of two states that are lowered.
use Rattle.std.specs.Prelude.{ℕ, ◌-◌, nat_le, if◌then◌else◌}
use Rattle.pg_word.specs.declared.psw.Mode.TheVariants.{U}
use Rattle.pg_classify.specs.declared.extent.Extent.{Extent}
use Rattle.pg_classify.specs.declared.extent.Extents.{Extents}
use Rattle.pg_classify.specs.declared.extent.Number.{Number}
use Rattle.pg_classify.specs.declared.extent.Number.TheVariants.{P, Relocation, Place, Bound, Size, Length}
use Rattle.pg_classify.specs.declared.extent.Whose.TheVariants.{Both, First, Second}
use Rattle.pg_classify.specs.declared.extent.Whose.{Whose}
use Rattle.pg_classify.specs.declared.extent.Lever.{Lever}

-- the numbers of a state with one of them lower by a step. The length of a window is that of its bound, or where the storage
-- ends it before that of the storage
abbrev pub lowered : Number → ℕ → Extent → Extent
lowered P step x = record x { psw = record x.psw { p = x.psw.p - step } }
lowered Relocation step x = record x { psw = record x.psw { l = x.psw.l - step } }
lowered Place step x = record { size = x.size - step; psw = record x.psw { l = x.psw.l - step } }
lowered Bound step x = record x { psw = record x.psw { b = x.psw.b - step } }
lowered Size step x = record x { size = x.size - step }
lowered Length step x =
    if nat_le x.psw.b (x.size - x.psw.l) then record x { psw = record x.psw { b = x.psw.b - step } } else record x { size = x.size - step }

-- the numbers of two states with one of them lower: in both, or in one alone
abbrev pub pulled_in : Whose → Number → ℕ → Extents → Extents
pulled_in Both number step x = record { first = lowered number step x.first; second = lowered number step x.second }
pulled_in First number step x = record x { first = lowered number step x.first }
pulled_in Second number step x = record x { second = lowered number step x.second }

abbrev pub pulled : Lever → ℕ → Extents → Extents
pulled lever step x = pulled_in lever.whose lever.number step x

-- the numbers of a state in user mode
abbrev pub user : Extent → Extent
user x = record x { psw = record x.psw { mode = U } }
