use Rattle.std.proofs.Common.{◌∙◌, refl, ap}
use Rattle.pg_type.specs.Placing.{window_of, state_around}
use Rattle.pg_ask.proofs.StatesSteps.{stands_as, room_as, placed_show}
use Rattle.pg_ask.proofs.states.states_of.Goals as goal

pub named-requires : goal.named-requires
named-requires c = (stands_as c.args.asked.now.machine.now.desc c.args.asked.now.instr c.args.asked.now.kind c.args.asked.now.cnf.clauses c.args.asked.now.unknowns c.unknowns-u.result.now c.args.asked.now.usable c.args.asked.now.usable c.args.asked.now.touched.cells c.cells.result.now c.args.assignment.now c.args.asked.now.asked c.requires c.unknowns-u.ensures refl c.cells.ensures).narrow.cells_narrow

pub address-usable-requires : goal.address-usable-requires
address-usable-requires c = (stands_as c.args.asked.now.machine.now.desc c.args.asked.now.instr c.args.asked.now.kind c.args.asked.now.cnf.clauses c.args.asked.now.unknowns c.unknowns-u.result.now c.args.asked.now.usable c.usable.result.now c.args.asked.now.touched.cells c.cells.result.now c.args.assignment.now c.args.asked.now.asked c.requires c.unknowns-u.ensures c.usable.ensures c.cells.ensures).narrow.usable_narrow

pub address-first_size-requires : goal.address-first_size-requires
address-first_size-requires c = (stands_as c.args.asked.now.machine.now.desc c.args.asked.now.instr c.args.asked.now.kind c.args.asked.now.cnf.clauses c.args.asked.now.unknowns c.unknowns-u.result.now c.args.asked.now.usable c.usable.result.now c.args.asked.now.touched.cells c.cells.result.now c.args.assignment.now c.args.asked.now.asked c.requires c.unknowns-u.ensures c.usable.ensures c.cells.ensures).narrow.first_size

pub psw-first_psw-requires-clause-p : goal.psw-first_psw-requires-clause-p
psw-first_psw-requires-clause-p c = (stands_as c.args.asked.now.machine.now.desc c.args.asked.now.instr c.args.asked.now.kind c.args.asked.now.cnf.clauses c.args.asked.now.unknowns c.unknowns-u.result.now c.args.asked.now.usable c.usable.result.now c.args.asked.now.touched.cells c.cells.result.now c.args.assignment.now c.args.asked.now.asked c.requires c.unknowns-u.ensures c.usable.ensures c.cells.ensures).narrow.p

pub psw-first_psw-requires-clause-l : goal.psw-first_psw-requires-clause-l
psw-first_psw-requires-clause-l c = (stands_as c.args.asked.now.machine.now.desc c.args.asked.now.instr c.args.asked.now.kind c.args.asked.now.cnf.clauses c.args.asked.now.unknowns c.unknowns-u.result.now c.args.asked.now.usable c.usable.result.now c.args.asked.now.touched.cells c.cells.result.now c.args.assignment.now c.args.asked.now.asked c.requires c.unknowns-u.ensures c.usable.ensures c.cells.ensures).narrow.first_l

pub psw-first_psw-requires-clause-b : goal.psw-first_psw-requires-clause-b
psw-first_psw-requires-clause-b c = (stands_as c.args.asked.now.machine.now.desc c.args.asked.now.instr c.args.asked.now.kind c.args.asked.now.cnf.clauses c.args.asked.now.unknowns c.unknowns-u.result.now c.args.asked.now.usable c.usable.result.now c.args.asked.now.touched.cells c.cells.result.now c.args.assignment.now c.args.asked.now.asked c.requires c.unknowns-u.ensures c.usable.ensures c.cells.ensures).narrow.first_b

pub placed-requires : goal.placed-requires
placed-requires c = room_as _ _ _ _ _ _ c.address-usable.ensures c.address-first_size.ensures c.psw-first_psw.ensures (stands_as c.args.asked.now.machine.now.desc c.args.asked.now.instr c.args.asked.now.kind c.args.asked.now.cnf.clauses c.args.asked.now.unknowns c.unknowns-u.result.now c.args.asked.now.usable c.usable.result.now c.args.asked.now.touched.cells c.cells.result.now c.args.assignment.now c.args.asked.now.asked c.requires c.unknowns-u.ensures c.usable.ensures c.cells.ensures).first_usable

pub address-second_size-requires : goal.address-second_size-requires
address-second_size-requires c = (stands_as c.args.asked.now.machine.now.desc c.args.asked.now.instr c.args.asked.now.kind c.args.asked.now.cnf.clauses c.args.asked.now.unknowns c.unknowns-u.result.now c.args.asked.now.usable c.usable.result.now c.args.asked.now.touched.cells c.cells.result.now c.args.assignment.now c.args.asked.now.asked c.requires c.unknowns-u.ensures c.usable.ensures c.cells.ensures).narrow.second_size

pub psw-second_psw-requires-clause-p : goal.psw-second_psw-requires-clause-p
psw-second_psw-requires-clause-p c = (stands_as c.args.asked.now.machine.now.desc c.args.asked.now.instr c.args.asked.now.kind c.args.asked.now.cnf.clauses c.args.asked.now.unknowns c.unknowns-u.result.now c.args.asked.now.usable c.usable.result.now c.args.asked.now.touched.cells c.cells.result.now c.args.assignment.now c.args.asked.now.asked c.requires c.unknowns-u.ensures c.usable.ensures c.cells.ensures).narrow.p

pub psw-second_psw-requires-clause-l : goal.psw-second_psw-requires-clause-l
psw-second_psw-requires-clause-l c = (stands_as c.args.asked.now.machine.now.desc c.args.asked.now.instr c.args.asked.now.kind c.args.asked.now.cnf.clauses c.args.asked.now.unknowns c.unknowns-u.result.now c.args.asked.now.usable c.usable.result.now c.args.asked.now.touched.cells c.cells.result.now c.args.assignment.now c.args.asked.now.asked c.requires c.unknowns-u.ensures c.usable.ensures c.cells.ensures).narrow.second_l

pub psw-second_psw-requires-clause-b : goal.psw-second_psw-requires-clause-b
psw-second_psw-requires-clause-b c = (stands_as c.args.asked.now.machine.now.desc c.args.asked.now.instr c.args.asked.now.kind c.args.asked.now.cnf.clauses c.args.asked.now.unknowns c.unknowns-u.result.now c.args.asked.now.usable c.usable.result.now c.args.asked.now.touched.cells c.cells.result.now c.args.assignment.now c.args.asked.now.asked c.requires c.unknowns-u.ensures c.usable.ensures c.cells.ensures).narrow.second_b

pub placed-requires-2 : goal.placed-requires-2
placed-requires-2 c = room_as _ _ _ _ _ _ c.address-usable.ensures c.address-second_size.ensures c.psw-second_psw.ensures (stands_as c.args.asked.now.machine.now.desc c.args.asked.now.instr c.args.asked.now.kind c.args.asked.now.cnf.clauses c.args.asked.now.unknowns c.unknowns-u.result.now c.args.asked.now.usable c.usable.result.now c.args.asked.now.touched.cells c.cells.result.now c.args.assignment.now c.args.asked.now.asked c.requires c.unknowns-u.ensures c.usable.ensures c.cells.ensures).second_usable

pub returns : goal.returns
returns c = λ i here.
    placed_show c.args.asked.now.machine.now.desc i c.args.asked.now.kind c.args.assignment.now c.unknowns-u.result.now c.usable.result.now c.cells.result.now c.in_ok-words.words.items c.address-usable.result c.address-first_size.result c.address-second_size.result c.psw-first_psw.result c.psw-second_psw.result c.in_ok-first.first c.in_ok-second.second
    ((stands_as c.args.asked.now.machine.now.desc c.args.asked.now.instr c.args.asked.now.kind c.args.asked.now.cnf.clauses c.args.asked.now.unknowns c.unknowns-u.result.now c.args.asked.now.usable c.usable.result.now c.args.asked.now.touched.cells c.cells.result.now c.args.assignment.now c.args.asked.now.asked c.requires c.unknowns-u.ensures c.usable.ensures c.cells.ensures).shows i here) c.in_ok-words.ensures c.address-usable.ensures c.address-first_size.ensures c.address-second_size.ensures c.psw-first_psw.ensures c.psw-second_psw.ensures
    (c.in_ok-first.ensures.state ∙ ap (λ w. state_around c.address-first_size.result c.psw-first_psw.result (window_of w c.address-usable.result)) c.as_slice.ensures.value)
    (c.in_ok-second.ensures.state ∙ ap (λ w. state_around c.address-second_size.result c.psw-second_psw.result (window_of w c.address-usable.result)) c.as_slice-2.ensures.value)
