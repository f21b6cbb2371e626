use Rattle.pg_ask.proofs.ThereLaws.{unknowns_on}
use Rattle.pg_ask.proofs.AskSteps.{touched_view, drawn_step}
use Rattle.pg_ask.proofs.asking.show.Goals as goal

pub fit_at_p-requires-clause-instr : goal.fit_at_p-requires-clause-instr
fit_at_p-requires-clause-instr c = c.requires.instr

pub fit_at_p-requires-clause-view : goal.fit_at_p-requires-clause-view
fit_at_p-requires-clause-view c = c.requires.view

pub fit_at_p-requires-clause-over : goal.fit_at_p-requires-clause-over
fit_at_p-requires-clause-over c = c.requires.over

pub fit_at_p-requires-clause-unknowns : goal.fit_at_p-requires-clause-unknowns
fit_at_p-requires-clause-unknowns c = c.requires.unknowns

pub clauses-requires-clause-instr : goal.clauses-requires-clause-instr
clauses-requires-clause-instr c = c.requires.instr

pub clauses-requires-clause-view : goal.clauses-requires-clause-view
clauses-requires-clause-view c =
    touched_view c.args.machine.now.desc c.args.touched.now c.fit_at_p.new.touched _ c.requires.view
    c.in_ok-fits.ensures.cells

pub clauses-requires-clause-over : goal.clauses-requires-clause-over
clauses-requires-clause-over c = c.in_ok-fits.ensures.over

pub clauses-requires-clause-unknowns : goal.clauses-requires-clause-unknowns
clauses-requires-clause-unknowns c =
    unknowns_on c.args.circuit.now.nodes c.fit_at_p.new.circuit.nodes _ c.args.u.now
    c.in_ok-fits.ensures.there.front c.requires.unknowns

pub clauses-requires-clause-usable : goal.clauses-requires-clause-usable
clauses-requires-clause-usable c = c.in_ok-fits.ensures.there.are_bits

pub clauses-requires-clause-gate : goal.clauses-requires-clause-gate
clauses-requires-clause-gate c = c.in_ok-fits.ensures.gate

pub returns-clause-made : goal.returns-clause-made
returns-clause-made c =
    λ i here. drawn_step c.args.machine.now.desc i c.args.kind c.args.circuit.now.nodes c.fit_at_p.new.circuit.nodes
    c.args.u.now c.in_ok-fits.fits.usable c.in_ok-fits.fits.gate c.args.touched.now c.fit_at_p.new.touched
    c.clauses.new.touched.cells c.in_ok-cnf.cnf.clauses c.requires.begun c.requires.view
    (c.in_ok-fits.ensures.made i here) c.in_ok-fits.ensures.cells
    (c.in_ok-cnf.ensures.made i here)

pub returns-clause-variables : goal.returns-clause-variables
returns-clause-variables c = c.in_ok-cnf.ensures.variables
