use Rattle.std.proofs.Common.{◌≡◌, ◌∙◌, ◌+◌, ◌≤◌, ℕ, ap, sym, subst, arith}
use Rattle.pg_mach_ready.specs.declared.machine.Machine.{Machine}
use Rattle.pg_lang_meaning.specs.States.{shape_of}
use Rattle.pg_move.specs.Texts.{room_of}
use Rattle.pg_cmd_base.proofs.AbleLemmas.{size-small}
use Rattle.pg_cmd_save.specs.Plans.{save_run}
use Rattle.pg_cmd_save.proofs.RunLemmas.{plan-has, plan-set_up, saved-known, saved-stands, saved-room, saved-is}
use Rattle.pg_cmd_save.proofs.save.run_plan.Goals as goal
use Rattle.pg_word.specs.declared.shape.Shape.{Shape}

pub run_guests-requires-clause-room : goal.run_guests-requires-clause-room
run_guests-requires-clause-room g c =
    let m = c.args.plan.now.judged.machine in
    let same = ap (λ (x : Machine). x.desc.size) c.of-accepted.ensures.same in
    let small = size-small m.desc m.valid in
    omega (arith, same, small, c.requires.able.room)

pub returns-in-Err-run_guests-clause-set_up : goal.returns-in-Err-run_guests-clause-set_up
returns-in-Err-run_guests-clause-set_up g c =
    let p = c.args.plan.now in
    let old = g.H.Hardware.machinery c.args.hw.now in
    let new = g.H.Hardware.machinery c.run_guests.new.hw in
    plan-set_up p c.of-accepted.result.machine.now c.from_ref-images.result.now c.from-steps.result old new c.of-accepted.ensures.same c.from_ref-images.ensures.value c.from-steps.ensures
    c.in-Err-run_guests.ensures.set_up

-- ---- the text is put

pub put_saved-requires-clause-known : goal.put_saved-requires-clause-known
put_saved-requires-clause-known g c =
    let p = c.args.plan.now in
    let old = g.H.Hardware.machinery c.args.hw.now in
    let new = g.H.Hardware.machinery c.run_guests.new.hw in
    let has = plan-has p c.of-accepted.result.machine.now c.from_ref-images.result.now c.from-steps.result old new c.of-accepted.ensures.same c.from_ref-images.ensures.value c.from-steps.ensures
    c.in-Ok-run_guests.ran c.in-Ok-run_guests.ensures.have_run c.in-Ok-run_guests.ensures.ran in
    saved-known (save_run p) c.in-Ok-run_guests.ran old new has c.monitor.result.now c.monitor.ensures

pub put_saved-requires-clause-stands : goal.put_saved-requires-clause-stands
put_saved-requires-clause-stands g c =
    let p = c.args.plan.now in
    let old = g.H.Hardware.machinery c.args.hw.now in
    let new = g.H.Hardware.machinery c.run_guests.new.hw in
    let has = plan-has p c.of-accepted.result.machine.now c.from_ref-images.result.now c.from-steps.result old new c.of-accepted.ensures.same c.from_ref-images.ensures.value c.from-steps.ensures
    c.in-Ok-run_guests.ran c.in-Ok-run_guests.ensures.have_run c.in-Ok-run_guests.ensures.ran in
    saved-stands (save_run p) c.in-Ok-run_guests.ran old new has c.monitor.result.now c.monitor.ensures

pub put_saved-requires-clause-room : goal.put_saved-requires-clause-room
put_saved-requires-clause-room g c =
    let p = c.args.plan.now in
    let old = g.H.Hardware.machinery c.args.hw.now in
    let new = g.H.Hardware.machinery c.run_guests.new.hw in
    let has = plan-has p c.of-accepted.result.machine.now c.from_ref-images.result.now c.from-steps.result old new c.of-accepted.ensures.same c.from_ref-images.ensures.value c.from-steps.ensures
    c.in-Ok-run_guests.ran c.in-Ok-run_guests.ensures.have_run c.in-Ok-run_guests.ensures.ran in
    let room : c.saved_room-room.result ≡ room_of (shape_of p.judged.machine.desc) p.grant = c.saved_room-room.ensures ∙ ap (λ (s : Shape). room_of s p.grant) c.shape.ensures.numbers in
    saved-room (save_run p) c.in-Ok-run_guests.ran old new has c.monitor.result.now _ _ c.monitor.ensures (omega (arith, room, c.in-Ok.ensures.len, c.in-Ok.ensures.capacity))

pub returns-clause-text : goal.returns-clause-text
returns-clause-text g c =
    let p = c.args.plan.now in
    let old = g.H.Hardware.machinery c.args.hw.now in
    let new = g.H.Hardware.machinery c.run_guests.new.hw in
    let has = plan-has p c.of-accepted.result.machine.now c.from_ref-images.result.now c.from-steps.result old new c.of-accepted.ensures.same c.from_ref-images.ensures.value c.from-steps.ensures
    c.in-Ok-run_guests.ran c.in-Ok-run_guests.ensures.have_run c.in-Ok-run_guests.ensures.ran in
    saved-is (save_run p) c.in-Ok-run_guests.ran old new has c.monitor.result.now _ _ c.monitor.ensures c.in-Ok.ensures.items c.put_saved.ensures.text
