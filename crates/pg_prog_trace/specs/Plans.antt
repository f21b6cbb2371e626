-- The runs that words ask for, and what the code has for one.
use Rattle.std.specs.Prelude.{ℕ, ◌-◌, List, Option, None, Some}
use Rattle.pg_alloc.specs.Fit.{kept_cells}
use Rattle.pg_ast.specs.declared.tree.Desc.{Desc}
use Rattle.pg_cli_table.specs.declared.bare.BareWords.{BareWords}
use Rattle.pg_edge.specs.Shelf.{Files}
use Rattle.pg_cmd_base.specs.Descriptions.{DescDue}
use Rattle.pg_cmd_base.specs.Images.{ImageDue}
use Rattle.pg_cmd_base.specs.declared.refusal.Refusal.{Refusal}
use Rattle.pg_cmd_base.specs.Rooms.{RoomDue}
use Rattle.pg_cmd_base.specs.Steps.{Step, Then, Gives}
use Rattle.pg_cmd_plain.specs.Bare.{BareRun}
use Rattle.pg_prog_trace.specs.declared.plan.Plan.{Plan}

-- how many cells a monitor keeps: none where no certificate is named
abbrev pub kept_beside : Option (List ℕ) → ℕ
kept_beside None = 0
kept_beside (Some cert) = kept_cells

-- the image, and then the run
abbrev pub behind_room : BareWords → Option Files → Desc → ℕ → Step Refusal BareRun
behind_room b told d cells =
    Then (ImageDue told 0 b.image d.word cells) (λ image. Gives (record { desc = d; image = image; grant = b.grant; steps = b.steps }))

-- the description, the room beside the cells that a monitor keeps, the image, and then the run
unfoldable pub RunDue : ℕ → BareWords → Option Files → Step Refusal BareRun
RunDue kept b told = Then (DescDue told b.desc) (λ d. Then (RoomDue b.grant (d.size - kept)) (behind_room b told d))

abbrev pub planned_run : Plan → BareRun
planned_run p = record { desc = p.machine.desc; image = p.image; grant = p.grant; steps = p.steps }
