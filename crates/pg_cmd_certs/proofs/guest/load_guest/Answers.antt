use Rattle.std.proofs.Common.{◌≡◌, ◌-◌, Option, Err, ap, subst, arith}
use Rattle.pg_edge.specs.Shelf.{Files}
use Rattle.pg_cmd_base.specs.Descriptions.{DescDue}
use Rattle.pg_mach_ready.specs.declared.machine.Machine.{Machine}
use Rattle.pg_cmd_base.specs.Answering.{Comes}
use Rattle.pg_cmd_base.specs.Rooms.{RoomDue}
use Rattle.pg_cmd_base.specs.Steps.{Came}
use Rattle.pg_cmd_base.proofs.StepLemmas.{comes-stopped, comes-behind}
use Rattle.pg_cmd_certs.specs.GuestViews.{guest_source, loaded_guest}
use Rattle.pg_cmd_certs.specs.Guests.{GuestDue, behind_desc, behind_room}
use Rattle.pg_cmd_certs.proofs.guest.load_guest.Goals as goal

-- the description stops it
pub returns-in-Err-clause-comes : goal.returns-in-Err-clause-comes
unfolding GuestDue
returns-in-Err-clause-comes g c =
    let s = guest_source c.args.source.now in
    let told = g.F.Shelf.files c.args.shelf.now in
    comes-stopped (λ (m : Machine). m.desc) loaded_guest (DescDue told s.desc) (behind_desc s told) _ _ _ c.in-Err.stop c.in-Err.ensures.comes (omega arith)

-- the room stops it
pub returns-in-Err-try_room-clause-comes : goal.returns-in-Err-try_room-clause-comes
unfolding GuestDue
returns-in-Err-try_room-clause-comes g c =
    let s = guest_source c.args.source.now in
    let told = g.F.Shelf.files c.args.shelf.now in
    let d = c.in-Ok.machine.desc in
    let now = g.F.Shelf.reads c.load_machine.new.shelf in
    let most : c.shape.result.now.q ≡ d.size = ap (λ x. x.q) c.shape.ensures.numbers in
    let room = subst (λ q. Comes (λ (done : Unit {0}). s.grant) (RoomDue s.grant (q - s.kept)) now now (Err c.in-Err-try_room.stop)) most (c.in-Err-try_room.ensures.comes now) in
    comes-behind loaded_guest (DescDue told s.desc) (behind_desc s told) d _ now now (Err c.in-Err-try_room.stop) c.in-Ok.ensures.comes c.load_machine.ensures.reads.later
    (comes-stopped (λ (done : Unit {0}). s.grant) loaded_guest (RoomDue s.grant (d.size - s.kept)) (λ cells. behind_room s told d) now now now c.in-Err-try_room.stop room (omega arith))

-- what is behind it says what comes
pub returns-in-Ok-try_room-clause-comes : goal.returns-in-Ok-try_room-clause-comes
unfolding GuestDue
returns-in-Ok-try_room-clause-comes g c =
    let s = guest_source c.args.source.now in
    let told = g.F.Shelf.files c.args.shelf.now in
    let d = c.in-Ok.machine.desc in
    let mid = g.F.Shelf.reads c.load_machine.new.shelf in
    let after = g.F.Shelf.reads c.load_behind_room.new.shelf in
    let most : c.shape.result.now.q ≡ d.size = ap (λ x. x.q) c.shape.ensures.numbers in
    let room = subst (λ q. RoomDue s.grant (q - s.kept) (Came s.grant)) most (c.in-Ok-try_room.ensures.comes mid) in
    let rest = subst (λ (files : Option Files). Comes loaded_guest (behind_room s files d) mid after c.load_behind_room.result) c.load_machine.ensures.reads.same_files c.load_behind_room.ensures.comes in
    comes-behind loaded_guest (DescDue told s.desc) (behind_desc s told) d _ mid after c.load_behind_room.result c.in-Ok.ensures.comes c.load_machine.ensures.reads.later
    (comes-behind loaded_guest (RoomDue s.grant (d.size - s.kept)) (λ (n : _). behind_room s told d) s.grant mid mid after c.load_behind_room.result room (omega arith) rest)
