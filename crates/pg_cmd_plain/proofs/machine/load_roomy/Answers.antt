use Rattle.std.proofs.Common.{◌≡◌, Err, sym, ap, subst, arith}
use Rattle.pg_mach_ready.specs.declared.machine.Machine.{Machine}
use Rattle.pg_cmd_base.specs.Answering.{Comes}
use Rattle.pg_cmd_base.specs.Rooms.{of_room}
use Rattle.pg_cmd_base.specs.Steps.{Refused}
use Rattle.pg_cmd_plain.specs.Machines.{MachineDue}
use Rattle.pg_cmd_plain.proofs.MachineLemmas.{machine-stopped, machine-no_room, machine-came}
use Rattle.pg_cmd_plain.proofs.machine.load_roomy.Goals as goal

pub returns-in-Err-clause-comes : goal.returns-in-Err-clause-comes
returns-in-Err-clause-comes g c =
    machine-stopped (λ (m : Machine). m.desc) (λ (m : Machine). m.desc) (g.F.Shelf.files c.args.shelf.now) c.args.desc.now c.args.grant.now _ _ c.in-Err.stop c.in-Err.ensures.comes

pub returns-then-cells-most-clause-comes : goal.returns-then-cells-most-clause-comes
returns-then-cells-most-clause-comes g c =
    let told = g.F.Shelf.files c.args.shelf.now in
    let grant = c.args.grant.now in
    let d = c.in-Ok.machine.desc in
    let most : c.shape.result.now.q ≡ d.size = ap (λ s. s.q) c.shape.ensures.numbers in
    let refused = subst (λ n. MachineDue told c.args.desc.now grant (Refused (of_room (record { wanted = n; free = c.shape.result.now.q })))) (sym c.cells-cells.ensures.cells)
    (subst (λ q. MachineDue told c.args.desc.now grant (Refused (of_room (record { wanted = grant; free = q })))) (sym most)
    (machine-no_room told c.args.desc.now grant d c.in-Ok.ensures.comes (omega (arith, most, c.if-cells-most.true, c.cells-cells.ensures.cells)))) in
    subst (λ s. Comes (λ (m : Machine). m.desc) (MachineDue told c.args.desc.now grant) (g.F.Shelf.reads c.args.shelf.now) (g.F.Shelf.reads c.load_machine.new.shelf) (Err s)) (sym c.no_room.ensures) refused

pub returns-clause-comes : goal.returns-clause-comes
returns-clause-comes g c =
    let d = c.in-Ok.machine.desc in
    let most : c.shape.result.now.q ≡ d.size = ap (λ s. s.q) c.shape.ensures.numbers in
    machine-came (g.F.Shelf.files c.args.shelf.now) c.args.desc.now c.args.grant.now d c.in-Ok.ensures.comes (omega (arith, most, c.if-cells-most.false, c.cells-cells.ensures.cells))
