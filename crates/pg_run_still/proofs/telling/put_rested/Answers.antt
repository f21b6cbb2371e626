use Rattle.std.proofs.Common.{◌≡◌, ◌++◌, ◌∙◌, ℕ, All, List, length, ap, subst, sym, Err}
use Rattle.pg_edge.specs.Sink.{Puts}
use Rattle.pg_edge.specs.declared.shelf.Failed.{Failed}
use Rattle.pg_edge.proofs.PutsLaws.{Puts-then, Puts-stopped}
use Rattle.pg_mon_control.specs.declared.guest.Guest.{Guest}
use Rattle.pg_mon_control.specs.Guests.{virtuals}
use Rattle.pg_report.specs.Runs.{steps_line}
use Rattle.pg_run_guests.specs.Telling.{AreWithin}
use Rattle.pg_run_still.specs.declared.rounds.Rest.{Rest}
use Rattle.pg_run_still.specs.Running.{rests_text, still_text}
use Rattle.pg_run_still.specs.Views.{AreViewsOf}
use Rattle.pg_run_still.proofs.TellLemmas.{told-whole}
use Rattle.pg_run_still.proofs.telling.put_rested.Goals as goal

pub put_guests-requires-clause-count : goal.put_guests-requires-clause-count
put_guests-requires-clause-count g c = ap (λ (rs : List Rest). length rs) c.rests.ensures ∙ c.requires.count ∙ sym (ap (λ (gs : List Guest). length gs) c.guests.ensures)

pub put_guests-requires-clause-within : goal.put_guests-requires-clause-within
put_guests-requires-clause-within g c = subst (λ (gs : List Guest). AreWithin (g.H.Hardware.machinery c.args.hw.now).state gs) (sym c.guests.ensures) c.requires.within

pub put_guests-requires-clause-views : goal.put_guests-requires-clause-views
put_guests-requires-clause-views g c = subst (λ (gs : List Guest). All (λ guest. AreViewsOf guest.size c.args.views.now) gs) (sym c.guests.ensures) c.requires.views

pub returns-in-Ok : goal.returns-in-Ok
returns-in-Ok g c =
    let w = c.args.machine.now.desc.word in
    let vs = c.args.views.now in
    let ran = c.args.ran.now in
    let cells = (g.H.Hardware.machinery c.args.hw.now).state.cells in
    let whole : rests_text w vs 0 (virtuals cells c.guests.result.now) c.rests.result.now ++ steps_line c.turns.result c.direct.result
    ≡ still_text w vs (virtuals cells ran.monitor.guests) ran.rests.items ran.turns ran.direct =
    told-whole w vs (virtuals cells c.guests.result.now) c.rests.result.now c.turns.result c.direct.result
    ∙ ap (λ (gs : List Guest). still_text w vs (virtuals cells gs) c.rests.result.now c.turns.result c.direct.result) c.guests.ensures
    ∙ ap (λ (rs : List Rest). still_text w vs (virtuals cells ran.monitor.guests) rs c.turns.result c.direct.result) c.rests.ensures
    ∙ ap (λ (n : ℕ). still_text w vs (virtuals cells ran.monitor.guests) ran.rests.items n c.direct.result) c.turns.ensures
    ∙ ap (λ (n : ℕ). still_text w vs (virtuals cells ran.monitor.guests) ran.rests.items ran.turns n) c.direct.ensures in
    subst (λ t. Puts {T = Unit {0}} {E = Failed} (g.S.Sink.written c.args.out.now) (g.S.Sink.written c.put_steps.new.out) (g.S.Sink.faults c.args.out.now) (g.S.Sink.faults c.put_steps.new.out) t c.put_steps.result)
    whole
    (Puts-then _ _ _ _ _ _ (rests_text w vs 0 (virtuals cells c.guests.result.now) c.rests.result.now) (steps_line c.turns.result c.direct.result) c.in-Ok.field-0 c.put_steps.result c.in-Ok.ensures c.put_steps.ensures)

pub returns-in-Err : goal.returns-in-Err
returns-in-Err g c =
    let w = c.args.machine.now.desc.word in
    let vs = c.args.views.now in
    let ran = c.args.ran.now in
    let cells = (g.H.Hardware.machinery c.args.hw.now).state.cells in
    let whole : rests_text w vs 0 (virtuals cells c.guests.result.now) c.rests.result.now ++ steps_line ran.turns ran.direct
    ≡ still_text w vs (virtuals cells ran.monitor.guests) ran.rests.items ran.turns ran.direct =
    told-whole w vs (virtuals cells c.guests.result.now) c.rests.result.now ran.turns ran.direct
    ∙ ap (λ (gs : List Guest). still_text w vs (virtuals cells gs) c.rests.result.now ran.turns ran.direct) c.guests.ensures
    ∙ ap (λ (rs : List Rest). still_text w vs (virtuals cells ran.monitor.guests) rs ran.turns ran.direct) c.rests.ensures in
    subst (λ t. Puts {T = Unit {0}} {E = Failed} (g.S.Sink.written c.args.out.now) (g.S.Sink.written c.put_guests.new.out) (g.S.Sink.faults c.args.out.now) (g.S.Sink.faults c.put_guests.new.out) t (Err c.in-Err.failed))
    whole
    (Puts-stopped _ _ _ _ (rests_text w vs 0 (virtuals cells c.guests.result.now) c.rests.result.now) (steps_line ran.turns ran.direct) c.in-Err.failed c.in-Err.failed c.in-Err.ensures)
