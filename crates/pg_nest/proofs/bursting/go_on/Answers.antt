use Rattle.std.proofs.Common.{refl, sym, ◌∙◌, ap}
use Rattle.std.proofs.lemmas.Option.{same_Some}
use Rattle.pg_mon_control.specs.declared.guest.Guest.{Guest}
use Rattle.pg_nest.specs.Presenting.{first_guest, first_state}
use Rattle.pg_nest.proofs.PresentLemmas.{alone-first, turned-presents, turned-bottom}
use Rattle.pg_nest.proofs.SegmentLemmas.{segment-told}
use Rattle.pg_nest.proofs.bursting.go_on.Goals as goal

pub returns-clause-segment : goal.returns-clause-segment
returns-clause-segment g c =
    let gs = c.args.monitor.now.guests in
    let x = first_guest gs in
    let alone = alone-first gs c.requires.presents.alone in
    let same = same_Some c.guest.result x (sym c.guest.ensures ∙ alone) in
    segment-told c.args.monitor.now.accepted.machine.now.desc x.base c.args.most (first_state (g.H.Hardware.machinery c.args.hw.now).state.cells gs) c.burst_told-told.result c.guest.result.psw.mode _
    (c.burst_told-told.ensures.told x alone) c.requires.some (ap (λ (y : Guest). y.psw.mode) same) refl c.untrapped_of.ensures refl

pub returns-clause-bottom : goal.returns-clause-bottom
returns-clause-bottom g c =
    let m = c.args.monitor.now.accepted.machine.now in
    turned-bottom m.desc c.burst_told-told.result.turns (g.H.Hardware.machinery c.args.hw.now) (g.H.Hardware.machinery c.burst_told-told.new.hw) c.args.monitor.now.guests c.burst_told-told.new.self.guests
    c.args.monitor.now.current c.burst_told-told.new.self.current c.requires.presents c.burst_told-told.ensures.turned c.args.monitor.now.accepted.accepted m.valid

pub returns-clause-presents : goal.returns-clause-presents
returns-clause-presents g c =
    let m = c.args.monitor.now.accepted.machine.now in
    turned-presents m.desc c.burst_told-told.result.turns (g.H.Hardware.machinery c.args.hw.now) (g.H.Hardware.machinery c.burst_told-told.new.hw) c.args.monitor.now.guests c.burst_told-told.new.self.guests
    c.args.monitor.now.current c.burst_told-told.new.self.current c.requires.presents c.burst_told-told.ensures.turned c.burst_told-told.ensures.stands
