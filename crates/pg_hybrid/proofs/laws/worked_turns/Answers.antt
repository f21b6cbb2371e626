use Rattle.pg_hybrid.proofs.TurnRows.{six_steps, four_from_user_mode, two_of_them_direct, rtu_is_direct_besides, no_load_beside_another, not_itself, direct_turn_loads_once, trap_leaves_none, two_loads_in_six, each_turn_loads, each_slice_loads, other_order}
use Rattle.pg_hybrid.proofs.laws.worked_turns.Goals as goal

pub returns-clause-six_steps : goal.returns-clause-six_steps
returns-clause-six_steps c = six_steps

pub returns-clause-four_from_user_mode : goal.returns-clause-four_from_user_mode
returns-clause-four_from_user_mode c = four_from_user_mode

pub returns-clause-two_of_them_direct : goal.returns-clause-two_of_them_direct
returns-clause-two_of_them_direct c = two_of_them_direct

pub returns-clause-rtu_is_direct_besides : goal.returns-clause-rtu_is_direct_besides
returns-clause-rtu_is_direct_besides c = rtu_is_direct_besides

pub returns-clause-no_load_beside_another : goal.returns-clause-no_load_beside_another
returns-clause-no_load_beside_another c = no_load_beside_another

pub returns-clause-not_itself : goal.returns-clause-not_itself
returns-clause-not_itself c = not_itself

pub returns-clause-direct_turn_loads_once : goal.returns-clause-direct_turn_loads_once
returns-clause-direct_turn_loads_once c = direct_turn_loads_once

pub returns-clause-trap_leaves_none : goal.returns-clause-trap_leaves_none
returns-clause-trap_leaves_none c = trap_leaves_none

pub returns-clause-two_loads_in_six : goal.returns-clause-two_loads_in_six
returns-clause-two_loads_in_six c = two_loads_in_six

pub returns-clause-each_turn_loads : goal.returns-clause-each_turn_loads
returns-clause-each_turn_loads c = each_turn_loads

pub returns-clause-each_slice_loads : goal.returns-clause-each_slice_loads
returns-clause-each_slice_loads c = each_slice_loads

pub returns-clause-other_order : goal.returns-clause-other_order
returns-clause-other_order c = other_order
