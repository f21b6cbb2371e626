use Rattle.std.proofs.Common.{ap}
use Rattle.pg_word.specs.declared.shape.Shape.{Shape}
use Rattle.pg_mon_control.proofs.LoadLemmas.{shape-same}
use Rattle.pg_monitor.proofs.ReadyLemmas.{ready-of, room-found}
use Rattle.pg_monitor.proofs.monitor.Monitor.prepare.Goals as goal

pub invariant_of-result : goal.invariant_of-result
invariant_of-result c =
    let q = ap (λ (s : Shape). s.q) (shape-same _ _ _ c.shape.ensures.numbers c.machine.ensures.same) in
    record {
      ready = ready-of c.args.size c.in-Ok.monitor c.place.new.self c.power_on.result c.in-Ok-place.field-0 c.in-Ok.ensures.granted c.in-Ok.ensures.guests c.in-Ok.ensures.current c.power_on.ensures c.requires.least
          c.in-Ok-place.ensures.placed c.in-Ok-place.ensures.guests;
    }

pub returns-clause-no_room : goal.returns-clause-no_room
returns-clause-no_room c = λ none.
    let q = ap (λ (s : Shape). s.q) (shape-same _ _ _ c.shape.ensures.numbers c.machine.ensures.same) in
    let desc = c.in-Ok.ensures.machine in
    room-found c.args.size c.in-Ok.monitor c.in-Ok.ensures.granted c.args.accepted.machine.now desc (c.in-Err-place.ensures.no_room none)
