use Rattle.std.proofs.Common.{◌≡◌, subst}
use Rattle.std.specs.Prelude.{slice_get, Some, IfOk}
use Rattle.pg_ast.specs.declared.tree.Instr.{Instr}
use Rattle.pg_symex.specs.declared.regs.Regs.{Regs}
use Rattle.pg_ask.specs.declared.ends.End.{End}
use Rattle.pg_ask.specs.Ended.{IsEnded}
use Rattle.pg_ask.specs.Ends.{end_made}
use Rattle.pg_ask.proofs.RunSteps.{regs_second}
use Rattle.pg_ask.proofs.ends.second_end.Goals as goal

pub end_of-requires-clause-regs : goal.end_of-requires-clause-regs
end_of-requires-clause-regs c = regs_second _ c.args.m.now.desc.address c.args.u.now c.args.v.now c.in_ok-regs.regs c.in_ok-regs.ensures c.requires.unknowns c.requires.usable

pub end_of-requires-clause-compared : goal.end_of-requires-clause-compared
end_of-requires-clause-compared c = c.requires.unknowns.compared

pub returns-clause-made : goal.returns-clause-made
returns-clause-made c =
    let d = c.args.m.now.desc in
    subst
    (λ (r : Regs). IfOk c.end_of.result
    (λ (e : End). (i : Instr) → slice_get d.instrs c.args.instr ≡ Some i → IsEnded (end_made d i r c.args.u.now.compared c.args.circuit.now.nodes c.args.touched.now.cells) e c.end_of.new.circuit.nodes c.end_of.new.touched.cells))
    c.in_ok-regs.ensures c.end_of.ensures.made
