use Rattle.std.proofs.Common.{arith}
use Rattle.pg_word.proofs.SparseLemmas.{length-storage_of}
use Rattle.pg_type.specs.Listed.{state_of}
use Rattle.pg_mon_control.proofs.AdmitLemmas.{admits, admits-stands, state-admitted, placed-fits, placed-within}
use Rattle.pg_monitor.specs.Monitors.{kept_by}
use Rattle.pg_monitor.proofs.monitor.Monitor.load_state.Goals as goal

pub place-requires : goal.place-requires
place-requires g c = record { least = omega (arith, length-storage_of c.args.state.now.size c.args.state.now.cells, c.requires.state.size_least) }

pub put_state-requires-clause-addressable : goal.put_state-requires-clause-addressable
put_state-requires-clause-addressable g c =
    let m = c.args.self.now.accepted.machine.now in
    let fits = placed-fits m.desc c.args.self.now.granted.grants c.args.state.now.size c.in-Ok.base m.valid c.in-Ok.ensures.placed.first in
    omega (arith, fits)

pub put_state-requires-clause-within : goal.put_state-requires-clause-within
put_state-requires-clause-within g c =
    placed-within _ _ _ _ _ c.args.state.now.size c.in-Ok.base c.requires.stands c.in-Ok.ensures.placed.first

pub returns-clause-admitted : goal.returns-clause-admitted
returns-clause-admitted g c =
    let old = g.H.Hardware.machinery c.args.hw.now in
    let new = g.H.Hardware.machinery c.put_state.new.hw in
    admits (state_of c.args.state.now) (kept_by c.args.self.now) (kept_by c.place.new.self) old new c.in-Ok.base
    (state-admitted c.args.state.now (kept_by c.args.self.now) (kept_by c.place.new.self) old new c.in-Ok.base c.args.self.now.owned c.requires.stands c.requires.state c.in-Ok.ensures.placed c.in-Ok.ensures.guests c.put_state.ensures.put)

pub returns-clause-stands : goal.returns-clause-stands
returns-clause-stands g c =
    let old = g.H.Hardware.machinery c.args.hw.now in
    let new = g.H.Hardware.machinery c.put_state.new.hw in
    admits-stands (state_of c.args.state.now) (kept_by c.args.self.now) (kept_by c.place.new.self) old new c.in-Ok.base
    (state-admitted c.args.state.now (kept_by c.args.self.now) (kept_by c.place.new.self) old new c.in-Ok.base c.args.self.now.owned c.requires.stands c.requires.state c.in-Ok.ensures.placed c.in-Ok.ensures.guests c.put_state.ensures.put)
