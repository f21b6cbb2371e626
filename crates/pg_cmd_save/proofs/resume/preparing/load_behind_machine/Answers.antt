use Rattle.std.proofs.Common.{◌≡◌, ◌∙◌, ◌+◌, ◌-◌, ℕ, length, Option, Err, ap, sym, subst, arith}
use Rattle.pg_alloc.specs.Fit.{kept_cells}
use Rattle.pg_edge.specs.Shelf.{Files}
use Rattle.pg_mach_ready.specs.declared.machine.Machine.{Machine}
use Rattle.pg_move.specs.Seen.{guest_of}
use Rattle.pg_cmd_base.specs.Answering.{Comes}
use Rattle.pg_cmd_base.specs.Rooms.{RoomDue}
use Rattle.pg_cmd_base.specs.Steps.{Came}
use Rattle.pg_cmd_base.proofs.AbleLemmas.{size-small}
use Rattle.pg_cmd_base.proofs.StepLemmas.{comes-stopped, comes-behind}
use Rattle.pg_cmd_save.specs.Plans.{resume_run}
use Rattle.pg_cmd_save.specs.Resume.{behind_room, behind_saved}
use Rattle.pg_cmd_save.specs.SavedFiles.{SavedDue}
use Rattle.pg_cmd_save.proofs.resume.preparing.load_behind_machine.Goals as goal
use Rattle.pg_word.proofs.SparseLemmas.{length-storage_of}

pub overflow_add-wanted : goal.overflow_add-wanted
overflow_add-wanted g c =
    let m = c.args.machine in
    let state = c.in-Ok.saved.state in
    let cells = length-storage_of state.size state.cells in
    let most = c.in-Ok.ensures.saved.most in
    let small = size-small m.desc m.valid in
    omega (arith, cells, most, small, c.cells.ensures.cells, c.cells.ensures.most)

pub try_room-requires : goal.try_room-requires
try_room-requires g c =
    let state = c.in-Ok.saved.state in
    let cells = length-storage_of state.size state.cells in
    let least = c.in-Ok.ensures.saved.least in
    omega (arith, cells, least)

-- the saved guest stops it
pub returns-in-Err-clause-comes : goal.returns-in-Err-clause-comes
returns-in-Err-clause-comes g c =
    let r = c.args.words.now in
    let told = g.F.Shelf.files c.args.shelf.now in
    let d = c.args.machine.desc in
    comes-stopped guest_of resume_run (SavedDue told r.saved d) (behind_saved r told d) _ _ _ c.in-Err.stop c.in-Err.ensures.comes (omega arith)

-- the room stops it
pub returns-in-Err-try_room-clause-comes : goal.returns-in-Err-try_room-clause-comes
returns-in-Err-try_room-clause-comes g c =
    let r = c.args.words.now in
    let told = g.F.Shelf.files c.args.shelf.now in
    let d = c.args.machine.desc in
    let s = guest_of c.in-Ok.saved in
    let now = g.F.Shelf.reads c.load_saved.new.shelf in
    let stop = c.in-Err-try_room.stop in
    let wanted = c.in-Ok.saved.state.size + c.cells.result in
    let cells : wanted ≡ length s.state.cells + r.skip =
    ap (λ n. c.in-Ok.saved.state.size + n) c.cells.ensures.cells ∙ ap (λ n. n + r.skip) (sym (length-storage_of c.in-Ok.saved.state.size c.in-Ok.saved.state.cells)) in
    let most : c.shape.result.now.q ≡ d.size = ap (λ x. x.q) c.shape.ensures.numbers in
    let room = subst (λ n. Comes (λ (done : Unit {0}). n) (RoomDue n (d.size - kept_cells)) now now (Err stop)) cells
    (subst (λ q. Comes (λ (done : Unit {0}). wanted) (RoomDue wanted (q - kept_cells)) now now (Err stop)) most (c.in-Err-try_room.ensures.comes now)) in
    comes-behind resume_run (SavedDue told r.saved d) (behind_saved r told d) s _ now now (Err stop) c.in-Ok.ensures.comes c.load_saved.ensures.reads.later
    (comes-stopped (λ (done : Unit {0}). length s.state.cells + r.skip) resume_run (RoomDue (length s.state.cells + r.skip) (d.size - kept_cells)) (λ cells. behind_room r told d s) now now now stop room
    (omega arith))

-- what is behind it says what comes
pub returns-in-Ok-try_room-clause-comes : goal.returns-in-Ok-try_room-clause-comes
returns-in-Ok-try_room-clause-comes g c =
    let r = c.args.words.now in
    let told = g.F.Shelf.files c.args.shelf.now in
    let d = c.args.machine.desc in
    let s = guest_of c.in-Ok.saved in
    let mid = g.F.Shelf.reads c.load_saved.new.shelf in
    let after = g.F.Shelf.reads c.load_behind_room.new.shelf in
    let wanted = c.in-Ok.saved.state.size + c.cells.result in
    let cells : wanted ≡ length s.state.cells + r.skip =
    ap (λ n. c.in-Ok.saved.state.size + n) c.cells.ensures.cells ∙ ap (λ n. n + r.skip) (sym (length-storage_of c.in-Ok.saved.state.size c.in-Ok.saved.state.cells)) in
    let most : c.shape.result.now.q ≡ d.size = ap (λ x. x.q) c.shape.ensures.numbers in
    let room = subst (λ n. RoomDue n (d.size - kept_cells) (Came n)) cells
    (subst (λ q. RoomDue wanted (q - kept_cells) (Came wanted)) most (c.in-Ok-try_room.ensures.comes mid)) in
    let rest = subst (λ (files : Option Files). Comes resume_run (behind_room r files d s) mid after c.load_behind_room.result) c.load_saved.ensures.reads.same_files c.load_behind_room.ensures.comes in
    comes-behind resume_run (SavedDue told r.saved d) (behind_saved r told d) s _ mid after c.load_behind_room.result c.in-Ok.ensures.comes c.load_saved.ensures.reads.later
    (comes-behind resume_run (RoomDue (length s.state.cells + r.skip) (d.size - kept_cells)) (λ (n : _). behind_room r told d s) (length s.state.cells + r.skip) mid mid after
    c.load_behind_room.result room (omega arith) rest)
