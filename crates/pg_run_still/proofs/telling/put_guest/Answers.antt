use Rattle.std.proofs.Common.{◌≡◌, ◌∙◌, ℕ, ap, subst, sym, arith}
use Rattle.pg_edge.specs.declared.shelf.Failed.{Failed}
use Rattle.pg_edge.specs.Sink.{Puts}
use Rattle.pg_image.specs.Lines.{state_text}
use Rattle.pg_mon_control.specs.Guests.{virtual}
use Rattle.pg_report.specs.Spans.{span}
use Rattle.pg_run_still.specs.Views.{views_text}
use Rattle.pg_run_still.proofs.ViewLemmas.{guest_text-none, guest_text-some}
use Rattle.pg_run_still.proofs.telling.put_guest.Goals as goal

-- what was put for a number that is the one asked for
of_number : (P : ℕ → Type 0) (put asked : ℕ) → P put → put ≡ asked → P asked
of_number P put asked text same = subst P same text

pub returns-then-is_empty : goal.returns-then-is_empty
returns-then-is_empty g c =
    let d = c.args.machine.now.desc in
    let cells = (g.H.Hardware.machinery c.args.hw.now).state.cells in
    let who = c.args.guest in
    let width = ap (λ s. s.w) c.shape-shape.ensures.numbers in
    let state = of_number (λ base. Puts {T = Unit {0}} {E = Failed} (g.S.Sink.written c.args.out.now) (g.S.Sink.written c.put_state.new.out) (g.S.Sink.faults c.args.out.now) (g.S.Sink.faults c.put_state.new.out)
    (state_text c.shape-shape.result.now.w (span base who.size cells) who.psw) c.put_state.result) _ who.base c.put_state.ensures (grind arith) in
    let told = subst (λ w. Puts {T = Unit {0}} {E = Failed} (g.S.Sink.written c.args.out.now) (g.S.Sink.written c.put_state.new.out) (g.S.Sink.faults c.args.out.now) (g.S.Sink.faults c.put_state.new.out)
    (state_text w (virtual cells who).cells who.psw) c.put_state.result) width state in
    subst (λ t. Puts {T = Unit {0}} {E = Failed} (g.S.Sink.written c.args.out.now) (g.S.Sink.written c.put_state.new.out) (g.S.Sink.faults c.args.out.now) (g.S.Sink.faults c.put_state.new.out) t c.put_state.result)
    (guest_text-none d.word c.args.views.now (virtual cells who) (sym c.is_empty.ensures ∙ c.if-is_empty.true)) told

pub returns-else-is_empty : goal.returns-else-is_empty
returns-else-is_empty g c =
    let d = c.args.machine.now.desc in
    let cells = (g.H.Hardware.machinery c.args.hw.now).state.cells in
    let who = c.args.guest in
    let width = ap (λ s. s.w) c.shape-shape.ensures.numbers in
    let told = subst (λ w. Puts {T = Unit {0}} {E = Failed} (g.S.Sink.written c.args.out.now) (g.S.Sink.written c.put_views.new.out) (g.S.Sink.faults c.args.out.now) (g.S.Sink.faults c.put_views.new.out)
    (views_text w c.args.views.now (virtual cells who)) c.put_views.result) width c.put_views.ensures in
    subst (λ t. Puts {T = Unit {0}} {E = Failed} (g.S.Sink.written c.args.out.now) (g.S.Sink.written c.put_views.new.out) (g.S.Sink.faults c.args.out.now) (g.S.Sink.faults c.put_views.new.out) t c.put_views.result)
    (guest_text-some d.word c.args.views.now (virtual cells who) (sym c.is_empty.ensures ∙ c.if-is_empty.false)) told
