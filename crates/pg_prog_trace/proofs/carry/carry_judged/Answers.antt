use Rattle.std.proofs.Common.{◌≡◌, Some, refl, sym, ◌∙◌, ap, subst}
use Rattle.std.specs.Prelude.{IfErr, OnOk}
use Rattle.pg_cert.specs.declared.report.Verdict.TheVariants.{Accepted}
use Rattle.pg_cmd_certs.specs.Judged.{Judged, verdict_on}
use Rattle.pg_cmd_base.specs.Classes.{class_of}
use Rattle.pg_cmd_base.specs.World.{output}
use Rattle.pg_cmd_base.specs.declared.status.Status.{Status}
use Rattle.pg_out_steps.specs.declared.handling.Monitor.{Monitor}
use Rattle.pg_out_steps.specs.declared.shows.Telling.{Telling}
use Rattle.pg_prog_trace.specs.Plans.{planned_run}
use Rattle.pg_prog_trace.specs.Tracing.{TraceWork, BreaksPart, PutsPart, WorkLeaves}
use Rattle.pg_prog_trace.proofs.TracingLemmas.{run-left, verdict-left}
use Rattle.pg_prog_trace.proofs.carry.carry_judged.Goals as goal

-- the verdict does not accept the machine
pub returns-then-not-is_accepted-clause-left : goal.returns-then-not-is_accepted-clause-left
returns-then-not-is_accepted-clause-left g c =
    let old = output g.S.Sink c.args.out.now in
    let new = output g.S.Sink c.tell_refused.new.out in
    let hw = g.H.Hardware.machinery c.args.hw.now in
    let j : Judged = record { desc = c.args.plan.machine.desc; report = c.args.report } in
    verdict-left c.args.words.now.shows c.args.words.now.until (record { run = planned_run c.args.plan; report = Some c.args.report }) j old new hw hw c.tell_refused.result (class_of c.tell_refused.result)
    (record { named = refl; desc = refl; other = λ is. c.is_accepted.ensures.no c.if-not-is_accepted.true (c.verdict.ensures ∙ is) }) refl c.tell_refused.ensures.told

-- it does
pub returns-clause-left : goal.returns-clause-left
returns-clause-left g c =
    let shows = c.args.words.now.shows in
    let until = c.args.words.now.until in
    let report = c.args.report in
    let work : TraceWork = record { run = planned_run c.args.plan; report = Some report } in
    let old = output g.S.Sink c.args.out.now in
    let new = output g.S.Sink c.put_part.new.out in
    let before = g.H.Hardware.machinery c.args.hw.now in
    let after = g.H.Hardware.machinery c.put_part.new.hw in
    let accepts : verdict_on (record { desc = c.args.plan.machine.desc; report = report }) ≡ Accepted = sym c.verdict.ensures ∙ c.is_accepted.ensures.yes c.if-not-is_accepted.false in
    let told : Monitor → Telling = λ m. record { shows = shows; monitor = Some m } in
    let same = c.told_of-telling.ensures ∙ ap told c.monitor_of.ensures in
    let put = subst (λ (t : Telling). OnOk c.put_part.result (PutsPart t until work.run old.written new.written after.state)) same c.put_part.ensures.put in
    let front = subst (λ (t : Telling). IfErr c.put_part.result (BreaksPart t until work.run old new)) same c.put_part.ensures.front in
    subst (λ (s : Status). WorkLeaves shows until work old new before after s (class_of s)) (sym c.ended.ensures)
    (run-left shows until work old new before after c.put_part.result accepts put front c.put_part.ensures.cause)
