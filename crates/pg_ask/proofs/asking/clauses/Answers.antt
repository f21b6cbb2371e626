use Rattle.std.proofs.lemmas.Result.{IfOk-weaker}
use Rattle.pg_ask.proofs.AskSteps.{written_step}
use Rattle.pg_ask.proofs.asking.clauses.Goals as goal

pub end_so-requires-clause-instr : goal.end_so-requires-clause-instr
end_so-requires-clause-instr c = c.requires.instr

pub end_so-requires-clause-view : goal.end_so-requires-clause-view
end_so-requires-clause-view c = c.requires.view

pub end_so-requires-clause-over : goal.end_so-requires-clause-over
end_so-requires-clause-over c = c.requires.over

pub end_so-requires-clause-unknowns : goal.end_so-requires-clause-unknowns
end_so-requires-clause-unknowns c = c.requires.unknowns

pub end_so-requires-clause-usable : goal.end_so-requires-clause-usable
end_so-requires-clause-usable c = c.requires.usable

pub end_so-requires-clause-gate : goal.end_so-requires-clause-gate
end_so-requires-clause-gate c = c.requires.gate

pub written-requires : goal.written-requires
written-requires c = c.in_ok-root.ensures.there

pub returns-clause-made : goal.returns-clause-made
returns-clause-made c =
    IfOk-weaker c.written.result _ _
    (λ cnf made i here. written_step c.args.kind c.args.u.now c.args.v.now c.args.gate _ c.in_ok-root.root
    c.end_so.new.circuit.nodes
    c.end_so.new.touched.cells cnf.clauses (c.in_ok-root.ensures.made i here) made)
    c.written.ensures.clauses

pub returns-clause-variables : goal.returns-clause-variables
returns-clause-variables c = c.written.ensures.variables
