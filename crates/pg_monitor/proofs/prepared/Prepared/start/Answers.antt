use Rattle.std.proofs.Common.{◌≡◌, ◌∙◌, ap, sym, subst, [], ◌∷◌, None, arith}
use Rattle.pg_word.specs.Psw.{packed, power_on_psw}
use Rattle.pg_mach_ready.specs.declared.machine.Machine.{Machine}
use Rattle.pg_lang_valid.proofs.ValidFacts.{IsShape-of_valid}
use Rattle.pg_lang_meaning.specs.States.{IsState}
use Rattle.pg_hw.specs.Machinery.{Machinery, poked_at}
use Rattle.pg_hw.proofs.ServingLaws.{blank-state}
use Rattle.pg_mon_control.specs.Standing.{Stands}
use Rattle.pg_mon_control.proofs.AdmitLemmas.{put-stands, put-states}
use Rattle.pg_monitor.proofs.ReadyLemmas.{installed-size, dark, dark-is, started}
use Rattle.pg_monitor.proofs.prepared.Prepared.start.Goals as goal

pub take_storage-requires-clause-size : goal.take_storage-requires-clause-size
take_storage-requires-clause-size g c =
    installed-size _ _ c.requires.installed ∙ ap (λ (x : Machine). x.desc.size) (sym c.machine.ensures.same)

pub take_storage-requires-clause-state : goal.take_storage-requires-clause-state
take_storage-requires-clause-state g c =
    let m = c.args.self.monitor.accepted.machine.now in
    let shape = IsShape-of_valid m.desc m.valid in
    subst (λ (x : Machine). IsState x.desc (g.H.Hardware.machinery c.args.hw.now).state) (sym c.machine.ensures.same)
    (subst (IsState m.desc) (sym c.requires.installed) (blank-state m.desc m.desc.size m.valid (omega (arith, shape.size_least)) (omega arith)))

pub returns-clause-stands : goal.returns-clause-stands
returns-clause-stands g c =
    let m = c.args.self.monitor.accepted.machine.now in
    let d = m.desc in
    let now = (g.H.Hardware.machinery c.take_storage.new.hw).state in
    let r = c.args.self.ready in
    let same = ap (λ (x : Machine). x.desc) c.machine.ensures.same in
    put-stands d now now [] c.args.self.monitor.guests None c.args.self.monitor.current (dark c.args.self.size) 2
    (started d c.args.self.size (packed d.address (power_on_psw d.size)) (g.H.Hardware.machinery c.args.hw.now).state now _ _ m.valid r.least r.within c.requires.installed
    (ap (λ (x : Machinery). x.state) (subst (λ e. g.H.Hardware.machinery c.take_storage.new.hw ≡ poked_at 1 (packed e.address (power_on_psw e.size)) (g.H.Hardware.machinery c.args.hw.now)) same c.take_storage.ensures.taken))
    (subst (λ e. Stands e now [] None) same c.take_storage.ensures.stands) r.guests r.current)

pub returns-clause-states : goal.returns-clause-states
returns-clause-states g c =
    let m = c.args.self.monitor.accepted.machine.now in
    let d = m.desc in
    let now = (g.H.Hardware.machinery c.take_storage.new.hw).state in
    let r = c.args.self.ready in
    let same = ap (λ (x : Machine). x.desc) c.machine.ensures.same in
    put-states d now now [] c.args.self.monitor.guests None c.args.self.monitor.current (dark c.args.self.size) 2
    (started d c.args.self.size (packed d.address (power_on_psw d.size)) (g.H.Hardware.machinery c.args.hw.now).state now _ _ m.valid r.least r.within c.requires.installed
    (ap (λ (x : Machinery). x.state) (subst (λ e. g.H.Hardware.machinery c.take_storage.new.hw ≡ poked_at 1 (packed e.address (power_on_psw e.size)) (g.H.Hardware.machinery c.args.hw.now)) same c.take_storage.ensures.taken))
    (subst (λ e. Stands e now [] None) same c.take_storage.ensures.stands) r.guests r.current)
    ∙ ap (λ s. s ∷ []) (dark-is c.args.self.size)
