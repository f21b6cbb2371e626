use Rattle.pg_ask.proofs.asking.draw.Goals as goal

pub draw_in-requires-clause-instr : goal.draw_in-requires-clause-instr
draw_in-requires-clause-instr c = c.requires.instr

pub draw_in-requires-clause-nodes : goal.draw_in-requires-clause-nodes
draw_in-requires-clause-nodes c = c.in_ok-circuit.ensures

pub draw_in-requires-clause-view : goal.draw_in-requires-clause-view
draw_in-requires-clause-view c = c.requires.view

pub draw_in-requires-clause-over : goal.draw_in-requires-clause-over
draw_in-requires-clause-over c = c.requires.over

pub returns-clause-made : goal.returns-clause-made
returns-clause-made c = c.draw_in.ensures.made

pub returns-clause-variables : goal.returns-clause-variables
returns-clause-variables c = c.draw_in.ensures.variables
