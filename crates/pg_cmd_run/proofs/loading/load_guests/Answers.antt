use Rattle.std.proofs.Common.{◌≡◌, ◌-◌, ◌*◌, length, Option, Err, ap, subst, arith}
use Rattle.pg_edge.specs.Shelf.{Files}
use Rattle.pg_mach_ready.specs.declared.machine.Machine.{Machine}
use Rattle.pg_cmd_base.specs.Descriptions.{DescDue}
use Rattle.pg_cmd_base.specs.Answering.{Comes}
use Rattle.pg_cmd_base.specs.Rooms.{RoomDue}
use Rattle.pg_cmd_base.specs.Steps.{Came}
use Rattle.pg_cmd_base.proofs.StepLemmas.{comes-stopped, comes-behind}
use Rattle.pg_cmd_run.specs.Loading.{GuestsDue, behind_desc, behind_room}
use Rattle.pg_cmd_run.specs.Views.{guest_files, loaded}
use Rattle.pg_cmd_run.proofs.loading.load_guests.Goals as goal

-- the description stops it
pub returns-in-Err-clause-comes : goal.returns-in-Err-clause-comes
unfolding GuestsDue
returns-in-Err-clause-comes g c =
    let f = guest_files c.args.files.now in
    let told = g.F.Shelf.files c.args.shelf.now in
    comes-stopped (λ (m : Machine). m.desc) loaded (DescDue told f.desc) (behind_desc c.args.family f told) _ _ _ c.in-Err.stop c.in-Err.ensures.comes (omega arith)

-- the room stops it
pub returns-in-Err-try_room-clause-comes : goal.returns-in-Err-try_room-clause-comes
unfolding GuestsDue
returns-in-Err-try_room-clause-comes g c =
    let f = guest_files c.args.files.now in
    let told = g.F.Shelf.files c.args.shelf.now in
    let d = c.in-Ok.machine.desc in
    let cells = length f.images * f.grant in
    let now = g.F.Shelf.reads c.load_machine.new.shelf in
    let most : c.shape.result.now.q ≡ d.size = ap (λ s. s.q) c.shape.ensures.numbers in
    let room = subst (λ q. Comes (λ (done : Unit {0}). cells) (RoomDue cells (q - f.kept)) now now (Err c.in-Err-try_room.stop)) most (c.in-Err-try_room.ensures.comes now) in
    comes-behind loaded (DescDue told f.desc) (behind_desc c.args.family f told) d _ now now (Err c.in-Err-try_room.stop) c.in-Ok.ensures.comes c.load_machine.ensures.reads.later
    (comes-stopped (λ (done : Unit {0}). cells) loaded (RoomDue cells (d.size - f.kept)) (λ room. behind_room c.args.family f told d) now now now c.in-Err-try_room.stop room (omega arith))

-- what is behind it says what comes
pub returns-in-Ok-try_room-clause-comes : goal.returns-in-Ok-try_room-clause-comes
unfolding GuestsDue
returns-in-Ok-try_room-clause-comes g c =
    let f = guest_files c.args.files.now in
    let told = g.F.Shelf.files c.args.shelf.now in
    let d = c.in-Ok.machine.desc in
    let cells = length f.images * f.grant in
    let mid = g.F.Shelf.reads c.load_machine.new.shelf in
    let after = g.F.Shelf.reads c.load_behind_room.new.shelf in
    let most : c.shape.result.now.q ≡ d.size = ap (λ s. s.q) c.shape.ensures.numbers in
    let room = subst (λ q. RoomDue cells (q - f.kept) (Came cells)) most (c.in-Ok-try_room.ensures.comes mid) in
    let rest = subst (λ (files : Option Files). Comes loaded (behind_room c.args.family f files d) mid after c.load_behind_room.result) c.load_machine.ensures.reads.same_files c.load_behind_room.ensures.comes in
    comes-behind loaded (DescDue told f.desc) (behind_desc c.args.family f told) d _ mid after c.load_behind_room.result c.in-Ok.ensures.comes c.load_machine.ensures.reads.later
    (comes-behind loaded (RoomDue cells (d.size - f.kept)) (λ (n : _). behind_room c.args.family f told d) cells mid mid after c.load_behind_room.result room (omega arith) rest)
