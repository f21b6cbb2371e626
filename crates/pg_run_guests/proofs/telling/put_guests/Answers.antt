use Rattle.std.proofs.Common.{◌≡◌, ◌+◌, ◌≤◌, ◌++◌, ◌∙◌, ap, subst, take, drop, get_or, length, List, Ok, Err, arith}
use Rattle.std.proofs.lemmas.List.{length-map, take_all}
use Rattle.pg_edge.specs.Sink.{Puts}
use Rattle.pg_edge.specs.declared.shelf.Failed.{Failed}
use Rattle.pg_edge.proofs.PutsLaws.{Puts-then, Puts-stopped}
use Rattle.pg_lang_meaning.specs.States.{State}
use Rattle.pg_image.specs.Lines.{state_text}
use Rattle.pg_mon_control.specs.Guests.{virtual, virtuals}
use Rattle.pg_report.specs.Runs.{guest_line, guests_text, steps_line, run_text}
use Rattle.pg_run_guests.proofs.TellLemmas.{no_guest, virtuals-of, told-next, told-rest, told-whole}
use Rattle.pg_run_guests.proofs.telling.put_guests.Goals as goal

pub loop-k-preserved : goal.loop-k-preserved
loop-k-preserved g c =
    let w = c.args.machine.now.desc.word in
    let cells = (g.H.Hardware.machinery c.args.hw.now).state.cells in
    let states = virtuals cells c.args.guests.now in
    let x = get_or c.args.guests.now c.loop-k.k no_guest in
    record {
      put = subst (λ t. Puts {T = Unit {0}} {E = Failed} (g.S.Sink.written c.args.out.now) (g.S.Sink.written c.put_one_guest.new.out) (g.S.Sink.faults c.args.out.now) (g.S.Sink.faults c.put_one_guest.new.out) t (Ok tt))
          (told-next w states c.loop-k.k (virtual cells x) (virtuals-of cells c.args.guests.now c.loop-k.k c.loop-k-test.true))
          (Puts-then _ _ _ _ _ _ (guests_text w 0 (take c.loop-k.k states)) (guest_line c.loop-k.k ++ state_text w (virtual cells x).cells x.psw) tt (Ok tt) c.loop-k.invariant.put
          c.in-Ok.ensures);
    }

-- a guest's text was not put whole, and what stands behind it was not begun
pub returns-in-Err : goal.returns-in-Err
returns-in-Err g c =
    let w = c.args.machine.now.desc.word in
    let cells = (g.H.Hardware.machinery c.args.hw.now).state.cells in
    let states = virtuals cells c.args.guests.now in
    let k = c.loop-k.k in
    let x = get_or c.args.guests.now k no_guest in
    let within : k + 1 ≤ length states = (let len = length-map c.args.guests.now (virtual cells) in omega (arith, len, c.loop-k-test.true)) in
    let front : Puts {T = Unit {0}} {E = Failed} (g.S.Sink.written c.args.out.now) (g.S.Sink.written c.put_one_guest.new.out) (g.S.Sink.faults c.args.out.now) (g.S.Sink.faults c.put_one_guest.new.out)
    (guests_text w 0 (take (k + 1) states)) (Err c.in-Err.failed) =
    subst (λ t. Puts {T = Unit {0}} {E = Failed} (g.S.Sink.written c.args.out.now) (g.S.Sink.written c.put_one_guest.new.out) (g.S.Sink.faults c.args.out.now) (g.S.Sink.faults c.put_one_guest.new.out) t (Err c.in-Err.failed))
    (told-next w states k (virtual cells x) (virtuals-of cells c.args.guests.now k c.loop-k-test.true))
    (Puts-then _ _ _ _ _ _ (guests_text w 0 (take k states)) (guest_line k ++ state_text w (virtual cells x).cells x.psw) tt (Err c.in-Err.failed) c.loop-k.invariant.put c.in-Err.ensures) in
    subst (λ t. Puts {T = Unit {0}} {E = Failed} (g.S.Sink.written c.args.out.now) (g.S.Sink.written c.put_one_guest.new.out) (g.S.Sink.faults c.args.out.now) (g.S.Sink.faults c.put_one_guest.new.out) t (Err c.in-Err.failed))
    (told-rest w states c.args.turns c.args.direct (k + 1) within)
    (Puts-stopped _ _ _ _ (guests_text w 0 (take (k + 1) states)) (guests_text w (k + 1) (drop (k + 1) states) ++ steps_line c.args.turns c.args.direct) c.in-Err.failed c.in-Err.failed front)

pub returns : goal.returns
returns g c =
    let w = c.args.machine.now.desc.word in
    let cells = (g.H.Hardware.machinery c.args.hw.now).state.cells in
    let states = virtuals cells c.args.guests.now in
    let k = c.loop-k.k in
    let all : take k states ≡ states = take_all k states (let len = length-map c.args.guests.now (virtual cells) in omega (arith, len, c.loop-k-test.false)) in
    let whole : guests_text w 0 (take k states) ++ steps_line c.args.turns c.args.direct ≡ run_text w states c.args.turns c.args.direct =
    ap (λ (ss : List State). guests_text w 0 ss ++ steps_line c.args.turns c.args.direct) all ∙ told-whole w states c.args.turns c.args.direct in
    subst (λ t. Puts {T = Unit {0}} {E = Failed} (g.S.Sink.written c.args.out.now) (g.S.Sink.written c.put_steps.new.out) (g.S.Sink.faults c.args.out.now) (g.S.Sink.faults c.put_steps.new.out) t c.put_steps.result)
    whole
    (Puts-then _ _ _ _ _ _ (guests_text w 0 (take k states)) (steps_line c.args.turns c.args.direct) tt c.put_steps.result c.loop-k.invariant.put c.put_steps.ensures)
