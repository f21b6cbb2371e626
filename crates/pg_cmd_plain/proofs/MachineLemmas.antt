-- A machine that has so many cells.
use Rattle.std.proofs.Common.{◌≡◌, ℕ, ◌<◌, ◌≤◌, List, Option, Result, Ok, Err, inr, inl, refl, arith}
use Rattle.pg_ast.specs.declared.tree.Desc.{Desc}
use Rattle.pg_edge.specs.Shelf.{Files}
use Rattle.pg_cmd_base.specs.Descriptions.{DescDue}
use Rattle.pg_cmd_base.specs.declared.refusal.Refusal.{Refusal}
use Rattle.pg_cmd_base.specs.declared.refusal.Stop.{Stop}
use Rattle.pg_cmd_base.specs.Answering.{Comes}
use Rattle.pg_cmd_base.specs.Rooms.{of_room, RoomDue}
use Rattle.pg_cmd_base.specs.Steps.{Step, Came, Refused, Then, Gives}
use Rattle.pg_cmd_base.proofs.StepLemmas.{comes-stopped, room-came, room-refused}
use Rattle.pg_cmd_plain.specs.Machines.{MachineDue}

-- what comes behind the description
abbrev pub behind_desc : ℕ → Desc → Step Refusal Desc
behind_desc grant d = Then (RoomDue grant d.size) (λ cells. Gives d)

-- the description stops it
pub machine-stopped : {T U : Type 0} (view : T → Desc) (shows : U → Desc) (told : Option Files) (name : List ℕ) (grant before after : ℕ) (why : Stop) →
    Comes view (DescDue told name) before after (Err why) → Comes shows (MachineDue told name grant) before after (Err why)
unfolding MachineDue
machine-stopped view shows told name grant before after why h = comes-stopped view shows (DescDue told name) (behind_desc grant) before after after why h (omega arith)

-- the room stops it
pub machine-no_room : (told : Option Files) (name : List ℕ) (grant : ℕ) (d : Desc) → DescDue told name (Came d) → d.size < grant →
    MachineDue told name grant (Refused (of_room (record { wanted = grant; free = d.size })))
unfolding MachineDue
machine-no_room told name grant d h passes = inr (d, h, inl (room-refused grant d.size passes))

-- nothing stops it
pub machine-came : (told : Option Files) (name : List ℕ) (grant : ℕ) (d : Desc) → DescDue told name (Came d) → grant ≤ d.size → MachineDue told name grant (Came d)
unfolding MachineDue
machine-came told name grant d h fits = (d, h, (grant, room-came grant d.size fits, refl))
