use Rattle.std.proofs.Common.{length, sym, ap}
use Rattle.std.proofs.lemmas.Result.{IfOk-weaker}
use Rattle.pg_cells.specs.View.{View}
use Rattle.pg_vec.proofs.Kept.{there_later}
use Rattle.pg_ask.proofs.ThereLaws.{bits_on, unknowns_on}
use Rattle.pg_ask.proofs.AskSteps.{unknowns_width, width_is, ends_width, rooted_step}
use Rattle.pg_ask.proofs.asking.end_so.Goals as goal

pub root-requires-clause-unknowns : goal.root-requires-clause-unknowns
root-requires-clause-unknowns c =
    unknowns_width (length c.both.new.circuit.nodes) c.args.machine.now.desc.address (length c.args.v.now) c.args.u.now
    (sym c.requires.usable.wide)
    (unknowns_on c.args.circuit.now.nodes c.both.new.circuit.nodes _ c.args.u.now c.in_ok-ended.ensures.kept
    c.requires.unknowns)

pub root-requires-clause-usable : goal.root-requires-clause-usable
root-requires-clause-usable c =
    width_is (length c.both.new.circuit.nodes) _ c.args.v.now
    (bits_on c.args.circuit.now.nodes c.both.new.circuit.nodes _ c.args.v.now c.in_ok-ended.ensures.kept
    c.requires.usable)

pub root-requires-clause-gate : goal.root-requires-clause-gate
root-requires-clause-gate c =
    there_later c.args.circuit.now.nodes c.both.new.circuit.nodes c.args.gate c.in_ok-ended.ensures.kept c.requires.gate

pub root-requires-clause-ends : goal.root-requires-clause-ends
root-requires-clause-ends c =
    ends_width (length c.both.new.circuit.nodes) _ _ _ _ c.in_ok-ended.ended
    (sym (ap (λ (v : View). v.w) c.in_ok-ended.ensures.view))
    (sym c.requires.usable.wide) c.in_ok-ended.ensures.there

pub returns-clause-made : goal.returns-clause-made
returns-clause-made c =
    IfOk-weaker c.root.result _ _
    (λ root made i here. rooted_step c.args.kind c.args.u.now c.args.v.now c.args.gate _ c.in_ok-ended.ended root
    c.both.new.circuit.nodes c.root.new.circuit.nodes c.both.new.touched.cells (c.in_ok-ended.ensures.made i here) made)
    c.root.ensures.made

pub returns-clause-there : goal.returns-clause-there
returns-clause-there c = IfOk-weaker c.root.result _ _ (λ root there. there.there) c.root.ensures.there
