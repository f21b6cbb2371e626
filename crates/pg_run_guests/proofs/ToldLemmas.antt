-- What is told of guests that ran is what is told of their run.
use Rattle.std.proofs.Common.{◌≡◌, ◌∙◌, ap}
use Rattle.pg_ast.specs.declared.tree.Desc.{Desc}
use Rattle.pg_hw.specs.Machinery.{Machinery}
use Rattle.pg_mon_control.specs.Guests.{virtuals}
use Rattle.pg_monitor.specs.Monitors.{desc_of}
use Rattle.pg_report.specs.Runs.{run_text}
use Rattle.pg_report.specs.Summaries.{summary_text}
use Rattle.pg_run_guests.specs.Runs.{GuestRun, reached_by, turns_in, text_of, summary_of_run}
use Rattle.pg_run_guests.specs.Telling.{AreWithin}
use Rattle.pg_run_guests.proofs.TellLemmas.{Stands-within}
use Rattle.pg_run_guests.specs.declared.running.Ran.{Ran}
use Rattle.pg_run_guests.specs.HaveRun.{HaveRun}

-- their text
pub text-is : (r : GuestRun) (ran : Ran) (h : Machinery) → HaveRun r ran h →
    run_text (desc_of ran.monitor).word (virtuals h.state.cells ran.monitor.guests) ran.turns ran.direct ≡ text_of r
text-is r ran h have =
    ap (λ (d : Desc). run_text d.word (virtuals h.state.cells ran.monitor.guests) ran.turns ran.direct) have.machine
    ∙ ap (λ ss. run_text r.desc.word ss ran.turns ran.direct) have.states
    ∙ ap (λ n. run_text r.desc.word (reached_by r) n ran.direct) have.turns
    ∙ ap (run_text r.desc.word (reached_by r) (turns_in r)) have.direct

-- their summary
pub summary-is : (r : GuestRun) (ran : Ran) (h : Machinery) → HaveRun r ran h →
    summary_text (desc_of ran.monitor).word (virtuals h.state.cells ran.monitor.guests) ran.turns ran.direct ≡ summary_of_run r
summary-is r ran h have =
    ap (λ (d : Desc). summary_text d.word (virtuals h.state.cells ran.monitor.guests) ran.turns ran.direct) have.machine
    ∙ ap (λ ss. summary_text r.desc.word ss ran.turns ran.direct) have.states
    ∙ ap (λ n. summary_text r.desc.word (reached_by r) n ran.direct) have.turns
    ∙ ap (summary_text r.desc.word (reached_by r) (turns_in r)) have.direct

-- they lie within the storage
pub have-within : (r : GuestRun) (ran : Ran) (h : Machinery) → HaveRun r ran h → AreWithin h.state ran.monitor.guests
have-within r ran h have = Stands-within r.desc h.state ran.monitor.guests ran.monitor.current have.stands
