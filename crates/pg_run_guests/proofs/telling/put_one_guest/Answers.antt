use Rattle.std.proofs.Common.{◌≡◌, ℕ, ◌++◌, ap, subst, Ok, Err, arith}
use Rattle.pg_edge.specs.declared.shelf.Failed.{Failed}
use Rattle.pg_edge.specs.Sink.{Puts}
use Rattle.pg_edge.proofs.PutsLaws.{Puts-then, Puts-stopped}
use Rattle.pg_image.specs.Lines.{state_text}
use Rattle.pg_mon_control.specs.Guests.{virtual}
use Rattle.pg_report.specs.Runs.{guest_line}
use Rattle.pg_report.specs.Spans.{span}
use Rattle.pg_run_guests.proofs.telling.put_one_guest.Goals as goal

-- what was put for a number that is the one asked for
of_number : (P : ℕ → Type 0) (put asked : ℕ) → P put → put ≡ asked → P asked
of_number P put asked text same = subst P same text

pub returns-in-Err : goal.returns-in-Err
returns-in-Err g c =
    let line = of_number (λ k. Puts {T = Unit {0}} {E = Failed} (g.S.Sink.written c.args.out.now) (g.S.Sink.written c.put_guest.new.out) (g.S.Sink.faults c.args.out.now) (g.S.Sink.faults c.put_guest.new.out) (guest_line k) (Err c.in-Err.failed))
    _ c.args.number c.in-Err.ensures (grind arith) in
    Puts-stopped _ _ _ _ (guest_line c.args.number) _ c.in-Err.failed c.in-Err.failed line

pub returns : goal.returns
returns g c =
    let d = c.args.machine.now.desc in
    let cells = (g.H.Hardware.machinery c.args.hw.now).state.cells in
    let who = c.args.guest in
    let width = ap (λ s. s.w) c.shape.ensures.numbers in
    let line = of_number (λ k. Puts {T = Unit {0}} {E = Failed} (g.S.Sink.written c.args.out.now) (g.S.Sink.written c.put_guest.new.out) (g.S.Sink.faults c.args.out.now) (g.S.Sink.faults c.put_guest.new.out) (guest_line k) (Ok c.in-Ok.field-0))
    _ c.args.number c.in-Ok.ensures (grind arith) in
    let state = of_number (λ base. Puts {T = Unit {0}} {E = Failed} (g.S.Sink.written c.put_guest.new.out) (g.S.Sink.written c.put_state.new.out) (g.S.Sink.faults c.put_guest.new.out) (g.S.Sink.faults c.put_state.new.out)
    (state_text c.shape.result.now.w (span base who.size cells) who.psw) c.put_state.result) _ who.base c.put_state.ensures (grind arith) in
    subst (λ w. Puts (g.S.Sink.written c.args.out.now) (g.S.Sink.written c.put_state.new.out) (g.S.Sink.faults c.args.out.now) (g.S.Sink.faults c.put_state.new.out)
    (guest_line c.args.number ++ state_text w (virtual cells who).cells who.psw) c.put_state.result) width
    (Puts-then _ _ _ _ _ _ (guest_line c.args.number) _ c.in-Ok.field-0 _ line state)
