-- What is told of guests that ran is what is told of their run.
use Rattle.std.proofs.Common.{◌≡◌, ◌∙◌, ap}
use Rattle.pg_ast.specs.declared.tree.Desc.{Desc}
use Rattle.pg_hw.specs.Machinery.{Machinery}
use Rattle.pg_mon_control.specs.Guests.{virtuals}
use Rattle.pg_hybrid.specs.Hybrids.{desc_of}
use Rattle.pg_report.specs.Runs.{run_text}
use Rattle.pg_run_guests.specs.Runs.{GuestRun, reached_by, turns_in}
use Rattle.pg_run_guests.specs.Telling.{AreWithin}
use Rattle.pg_run_guests.proofs.TellLemmas.{Stands-within}
use Rattle.pg_run_guests.specs.declared.hybrid_running.HybridRan.{HybridRan}
use Rattle.pg_run_guests.specs.UnderHybrid.{hybrid_text}
use Rattle.pg_run_guests.specs.HaveRunHybrid.{HaveRunHybrid}

-- their text
pub hybrid-text-is : (r : GuestRun) (ran : HybridRan) (h : Machinery) → HaveRunHybrid r ran h →
    run_text (desc_of ran.hybrid).word (virtuals h.state.cells ran.hybrid.guests) ran.turns ran.direct ≡ hybrid_text r
hybrid-text-is r ran h have =
    ap (λ (d : Desc). run_text d.word (virtuals h.state.cells ran.hybrid.guests) ran.turns ran.direct) have.machine
    ∙ ap (λ ss. run_text r.desc.word ss ran.turns ran.direct) have.states
    ∙ ap (λ n. run_text r.desc.word (reached_by r) n ran.direct) have.turns
    ∙ ap (run_text r.desc.word (reached_by r) (turns_in r)) have.direct

-- they lie within the storage
pub have-within : (r : GuestRun) (ran : HybridRan) (h : Machinery) → HaveRunHybrid r ran h → AreWithin h.state ran.hybrid.guests
have-within r ran h have = Stands-within r.desc h.state ran.hybrid.guests ran.hybrid.current have.stands
