use Rattle.std.proofs.Common.{◌++◌, ◌*◌, List, ℕ, Err, subst}
use Rattle.pg_alloc.specs.Fit.{kept_cells}
use Rattle.pg_edge.specs.Sink.{Puts}
use Rattle.pg_edge.specs.declared.shelf.Failed.{Failed}
use Rattle.pg_edge.proofs.PutsLaws.{Puts-then, Puts-stopped}
use Rattle.pg_image.specs.Lines.{state_text}
use Rattle.pg_report.specs.Runs.{guest_line, steps_line}
use Rattle.pg_report.specs.Spans.{span}
use Rattle.pg_cmd_run.specs.NestPlans.{nest_run}
use Rattle.pg_cmd_run.proofs.NestLemmas.{nested-text, nested-words}
use Rattle.pg_cmd_run.proofs.nest.put_nested.Goals as goal

pub put_one_guest-requires-clause-words : goal.put_one_guest-requires-clause-words
put_one_guest-requires-clause-words g c =
    let p = c.args.plan.now in
    let m = p.judged.machine in
    nested-words m.desc p.image p.grant p.depth p.steps (g.H.Hardware.machinery c.args.hw.now).state.cells m.valid p.can_nest p.filled c.requires.holds.guest

pub returns-in-Err : goal.returns-in-Err
returns-in-Err g c =
    let p = c.args.plan.now in
    let cells = (g.H.Hardware.machinery c.args.hw.now).state.cells in
    let x = c.args.innermost in
    let first = guest_line 0 ++ state_text p.judged.machine.desc.word (span (kept_cells * p.depth) p.grant cells) x.psw in
    subst (λ (t : List ℕ). Puts {T = Unit {0}} {E = Failed} (g.S.Sink.written c.args.out.now) (g.S.Sink.written c.put_one_guest.new.out) (g.S.Sink.faults c.args.out.now)
    (g.S.Sink.faults c.put_one_guest.new.out) t (Err c.in-Err.failed)) (nested-text (nest_run p) cells x p.filled c.requires.innermost c.requires.holds.guest)
    (Puts-stopped _ _ _ _ first (steps_line p.steps x.direct) c.in-Err.failed c.in-Err.failed c.in-Err.ensures)

pub returns : goal.returns
returns g c =
    let p = c.args.plan.now in
    let cells = (g.H.Hardware.machinery c.args.hw.now).state.cells in
    let x = c.args.innermost in
    let first = guest_line 0 ++ state_text p.judged.machine.desc.word (span (kept_cells * p.depth) p.grant cells) x.psw in
    subst (λ (t : List ℕ). Puts {T = Unit {0}} {E = Failed} (g.S.Sink.written c.args.out.now) (g.S.Sink.written c.put_steps.new.out) (g.S.Sink.faults c.args.out.now)
    (g.S.Sink.faults c.put_steps.new.out) t c.put_steps.result) (nested-text (nest_run p) cells x p.filled c.requires.innermost c.requires.holds.guest)
    (Puts-then _ _ _ _ _ _ first (steps_line p.steps x.direct) c.in-Ok.field-0 c.put_steps.result c.in-Ok.ensures c.put_steps.ensures)
