use Rattle.std.proofs.Common.{◌≡◌, ◌-◌, Option, Err, ap, subst, arith}
use Rattle.pg_edge.specs.Shelf.{Files}
use Rattle.pg_cmd_base.specs.Descriptions.{DescDue}
use Rattle.pg_mach_ready.specs.declared.machine.Machine.{Machine}
use Rattle.pg_cmd_base.specs.Answering.{Comes}
use Rattle.pg_cmd_base.specs.Rooms.{RoomDue}
use Rattle.pg_cmd_base.specs.Steps.{Came}
use Rattle.pg_cmd_base.proofs.StepLemmas.{comes-stopped, comes-behind}
use Rattle.pg_prog_trace.specs.Plans.{planned_run, RunDue, behind_room}
use Rattle.pg_prog_trace.proofs.RunLemmas.{behind_desc}
use Rattle.pg_prog_trace.proofs.prepare.prepare.Goals as goal

-- the description stops it
pub returns-in-Err-clause-comes : goal.returns-in-Err-clause-comes
unfolding RunDue
returns-in-Err-clause-comes g c =
    let b = c.args.words.now in
    let told = g.F.Shelf.files c.args.shelf.now in
    comes-stopped (λ (m : Machine). m.desc) planned_run (DescDue told b.desc) (behind_desc c.args.kept b told) _ _ _ c.in-Err.stop c.in-Err.ensures.comes (omega arith)

-- the room stops it
pub returns-in-Err-try_room-clause-comes : goal.returns-in-Err-try_room-clause-comes
unfolding RunDue
returns-in-Err-try_room-clause-comes g c =
    let b = c.args.words.now in
    let kept = c.args.kept in
    let told = g.F.Shelf.files c.args.shelf.now in
    let d = c.in-Ok.machine.desc in
    let now = g.F.Shelf.reads c.load_machine.new.shelf in
    let most : c.shape.result.now.q ≡ d.size = ap (λ x. x.q) c.shape.ensures.numbers in
    let sized = subst (λ q. Comes (λ (done : Unit {0}). c.cells.result) (RoomDue c.cells.result (q - kept)) now now (Err c.in-Err-try_room.stop)) most (c.in-Err-try_room.ensures.comes now) in
    let room = subst (λ n. Comes (λ (done : Unit {0}). n) (RoomDue n (d.size - kept)) now now (Err c.in-Err-try_room.stop)) c.cells.ensures.cells sized in
    comes-behind planned_run (DescDue told b.desc) (behind_desc kept b told) d _ now now (Err c.in-Err-try_room.stop) c.in-Ok.ensures.comes c.load_machine.ensures.reads.later
    (comes-stopped (λ (done : Unit {0}). b.grant) planned_run (RoomDue b.grant (d.size - kept)) (behind_room b told d) now now now c.in-Err-try_room.stop room (omega arith))

-- there is room for the image
pub prepare_behind_room-requires : goal.prepare_behind_room-requires
prepare_behind_room-requires g c =
    omega (arith, c.in-Ok-try_room.ensures.fits, c.cells.ensures.cells, ap (λ x. x.q) c.shape.ensures.numbers)

-- what is behind it says what comes
pub returns-in-Ok-try_room-clause-comes : goal.returns-in-Ok-try_room-clause-comes
unfolding RunDue
returns-in-Ok-try_room-clause-comes g c =
    let b = c.args.words.now in
    let kept = c.args.kept in
    let told = g.F.Shelf.files c.args.shelf.now in
    let d = c.in-Ok.machine.desc in
    let mid = g.F.Shelf.reads c.load_machine.new.shelf in
    let after = g.F.Shelf.reads c.prepare_behind_room.new.shelf in
    let most : c.shape.result.now.q ≡ d.size = ap (λ x. x.q) c.shape.ensures.numbers in
    let sized = subst (λ q. RoomDue c.cells.result (q - kept) (Came c.cells.result)) most (c.in-Ok-try_room.ensures.comes mid) in
    let room = subst (λ n. RoomDue n (d.size - kept) (Came n)) c.cells.ensures.cells sized in
    let rest = subst (λ (files : Option Files). Comes planned_run (behind_room b files d b.grant) mid after c.prepare_behind_room.result) c.load_machine.ensures.reads.same_files
    c.prepare_behind_room.ensures.comes in
    comes-behind planned_run (DescDue told b.desc) (behind_desc kept b told) d _ mid after c.prepare_behind_room.result c.in-Ok.ensures.comes c.load_machine.ensures.reads.later
    (comes-behind planned_run (RoomDue b.grant (d.size - kept)) (behind_room b told d) b.grant mid mid after c.prepare_behind_room.result room (omega arith) rest)
