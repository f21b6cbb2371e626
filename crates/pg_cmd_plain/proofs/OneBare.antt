-- `bare` and `print` come to one thing, for told files.
use Rattle.std.proofs.Common.{ℕ, List, Some, Result, Ok}
use Rattle.pg_ast.specs.declared.tree.Desc.{Desc}
use Rattle.pg_edge.specs.Shelf.{Files}
use Rattle.pg_cli_table.specs.declared.bare.BareWords.{BareWords}
use Rattle.pg_cli_table.specs.declared.print.PrintWords.{PrintWords}
use Rattle.pg_cmd_base.specs.declared.refusal.Refusal.{Refusal}
use Rattle.pg_cmd_base.specs.Rooms.{of_room, RoomDue}
use Rattle.pg_cmd_base.specs.Steps.{IsOne}
use Rattle.pg_cmd_base.specs.Descriptions.{DescDue}
use Rattle.pg_cmd_base.specs.Images.{ImageDue}
use Rattle.pg_cmd_plain.specs.Bare.{BareRun, BareDue}
use Rattle.pg_cmd_plain.specs.Print.{PrintDue}
use Rattle.pg_cmd_base.proofs.OneInput.{desc_answer, only-desc, one-desc, image_answer, only-image}
use Rattle.pg_cmd_base.proofs.OneRoom.{room_answer, only-room}
use Rattle.pg_cmd_base.proofs.OnlySteps.{Only, one-of, only-gives, lifted, bind, only-then}
use Rattle.pg_cmd_plain.proofs.BareLemmas as bare

abbrev bare_answer : BareWords → Desc → List ℕ → Result BareRun Refusal
bare_answer b d image = Ok (record { desc = d; image = image; grant = b.grant; steps = b.steps })

abbrev image_then : Files → BareWords → Desc → ℕ → Result BareRun Refusal
image_then files b d cells = bind (image_answer files 0 b.image d.word cells) (bare_answer b d)

abbrev room_then : Files → BareWords → Desc → Result BareRun Refusal
room_then files b d = bind (lifted of_room (room_answer b.grant d.size)) (image_then files b d)

only-image_then : (files : Files) (b : BareWords) (d : Desc) (cells : ℕ) → Only (bare.behind_room (Some files) b d cells) (image_then files b d cells)
only-image_then files b d cells =
    only-then (ImageDue (Some files) 0 b.image d.word cells) (bare.behind_image b d) (image_answer files 0 b.image d.word cells) (bare_answer b d)
    (only-image files 0 b.image d.word cells) (λ image. only-gives (record { desc = d; image = image; grant = b.grant; steps = b.steps }))

only-room_then : (files : Files) (b : BareWords) (d : Desc) → Only (bare.behind_desc (Some files) b d) (room_then files b d)
only-room_then files b d =
    only-then (RoomDue b.grant d.size) (bare.behind_room (Some files) b d) (lifted of_room (room_answer b.grant d.size)) (image_then files b d)
    (only-room b.grant d.size) (only-image_then files b d)

only-bare : (files : Files) (b : BareWords) → Only (BareDue b (Some files)) (bind (desc_answer files b.desc) (room_then files b))
unfolding BareDue
only-bare files b =
    only-then (DescDue (Some files) b.desc) (bare.behind_desc (Some files) b) (desc_answer files b.desc) (room_then files b) (only-desc files b.desc) (only-room_then files b)

pub one-bare : (files : Files) (b : BareWords) → IsOne (BareDue b (Some files))
one-bare files b = one-of (BareDue b (Some files)) (bind (desc_answer files b.desc) (room_then files b)) (only-bare files b)

pub one-print : (files : Files) (p : PrintWords) → IsOne (PrintDue p (Some files))
one-print files p = one-desc files p.desc
