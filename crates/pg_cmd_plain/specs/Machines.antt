-- The first steps of both commands: a machine, and that it has so many cells.
use Rattle.std.specs.Prelude.{ℕ, List, Option}
use Rattle.pg_ast.specs.declared.tree.Desc.{Desc}
use Rattle.pg_edge.specs.Shelf.{Files}
use Rattle.pg_cmd_base.specs.Descriptions.{DescDue}
use Rattle.pg_cmd_base.specs.declared.refusal.Refusal.{Refusal}
use Rattle.pg_cmd_base.specs.Rooms.{RoomDue}
use Rattle.pg_cmd_base.specs.Steps.{Step, Then, Gives}

-- the description of this name, and then the room: its machine has so many cells
unfoldable pub MachineDue : Option Files → List ℕ → ℕ → Step Refusal Desc
MachineDue told name grant = Then (DescDue told name) (λ d. Then (RoomDue grant d.size) (λ cells. Gives d))
