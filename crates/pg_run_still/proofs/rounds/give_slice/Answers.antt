use Rattle.std.proofs.Common.{[], ◌∷◌, refl, sym, subst}
use Rattle.pg_mon_control.proofs.PlanLemmas.{grants-length}
use Rattle.pg_monitor.specs.Schedules.{Begun}
use Rattle.pg_run_still.specs.Rounds.{round_behind}
use Rattle.pg_run_still.specs.Resting.{AfterSlice_of, IsBefore}
use Rattle.pg_run_still.proofs.GoingLemmas.{Begun-slice, Begun-no_slice, told-of}
use Rattle.pg_run_still.proofs.rounds.give_slice.Goals as goal

pub returns-in-Some-clause-begun : goal.returns-in-Some-clause-begun
returns-in-Some-clause-begun g c =
    let d = c.args.monitor.now.accepted.machine.now.desc in
    let h = g.H.Hardware.machinery c.args.hw.now in
    subst (λ f. Begun d (round_behind c.args.done c.args.turns c.args.k (f ∷ [])) h h c.args.monitor.now.guests c.args.monitor.now.guests c.args.monitor.now.current c.args.monitor.now.current) (sym c.in-Some.is)
    (Begun-no_slice d c.args.done c.args.k c.args.turns _ h c.args.monitor.now.guests c.args.monitor.now.current (subst (IsBefore c.args.done) c.in-Some.is c.requires.before))

pub returns-in-Some-clause-rest : goal.returns-in-Some-clause-rest
returns-in-Some-clause-rest g c s at =
    let d = c.args.monitor.now.accepted.machine.now.desc in
    subst (AfterSlice_of d c.args.done c.args.turns s c.args.rest c.args.rest) (sym c.in-Some.is) refl

pub returns-in-None-clause-begun : goal.returns-in-None-clause-begun
returns-in-None-clause-begun g c =
    let d = c.args.monitor.now.accepted.machine.now.desc in
    subst (λ f. Begun d (round_behind c.args.done c.args.turns c.args.k (f ∷ [])) (g.H.Hardware.machinery c.args.hw.now) (g.H.Hardware.machinery c.settle-told.new.hw)
    c.args.monitor.now.guests c.settle-told.new.self.guests c.args.monitor.now.current c.settle-told.new.self.current) (sym c.behind.ensures)
    (Begun-slice d c.args.done c.args.k c.args.turns c.settle-told.result _ _ _ _ _ _ c.args.monitor.now.accepted.machine.now.valid c.requires.stands c.settle-told.ensures.turned)

pub returns-in-None-clause-rest : goal.returns-in-None-clause-rest
returns-in-None-clause-rest g c s at =
    let d = c.args.monitor.now.accepted.machine.now.desc in
    subst (AfterSlice_of d c.args.done c.args.turns s c.args.rest _) (sym c.in-None.is)
    (record {
      had = refl;
      told = c.settle-told.result;
      first = told-of d c.args.turns (g.H.Hardware.machinery c.args.hw.now) c.args.monitor.now.guests c.args.k s c.settle-told.result c.requires.known c.settle-told.ensures.first at;
      still = c.behind.ensures;
    })

pub returns-in-None-clause-number : goal.returns-in-None-clause-number
returns-in-None-clause-number g c = grants-length _ _ c.settle-told.ensures.turned.grants
