use Rattle.pg_cells.proofs.OverLaws.{IsOver-later}
use Rattle.pg_vec.proofs.Kept.{front_then, there_later}
use Rattle.pg_ask.proofs.Chains.{root_chain}
use Rattle.pg_ask.proofs.AskSteps.{first_end, second_end}
use Rattle.pg_ask.proofs.CodeSteps.{ok_along, leaves_made}
use Rattle.pg_ask.proofs.asking.root.Goals as goal

pub ends-requires-clause-first : goal.ends-requires-clause-first
ends-requires-clause-first c = first_end _ _ _ c.args.both.now c.requires.ends

pub ends-requires-clause-second : goal.ends-requires-clause-second
ends-requires-clause-second c = second_end _ _ _ c.args.both.now c.requires.ends

pub consistent-requires : goal.consistent-requires
consistent-requires c = IsOver-later c.args.circuit.now.nodes c.ends.new.circuit.nodes c.args.touched.now c.in_ok-ended.ensures.there.front c.requires.over

pub and-requires-clause-left : goal.and-requires-clause-left
and-requires-clause-left c =
    there_later c.args.circuit.now.nodes c.consistent.new.circuit.nodes c.args.gate (front_then c.args.circuit.now.nodes c.ends.new.circuit.nodes c.consistent.new.circuit.nodes c.in_ok-ended.ensures.there.front c.consistent.ensures.kept.front) c.requires.gate

pub and-requires-clause-right : goal.and-requires-clause-right
and-requires-clause-right c = there_later c.ends.new.circuit.nodes c.consistent.new.circuit.nodes c.in_ok-ended.ended c.consistent.ensures.kept.front c.in_ok-ended.ensures.there.there

pub and-requires-2-clause-right : goal.and-requires-2-clause-right
and-requires-2-clause-right c = there_later c.consistent.new.circuit.nodes c.and.new.circuit.nodes c.in_ok-whole.whole c.and.ensures.kept.front c.in_ok-whole.ensures.there

pub returns-clause-made : goal.returns-clause-made
returns-clause-made c =
    ok_along c.and-2.result _ _ _
    (root_chain c.args.kind c.args.u.now c.args.v.now c.args.gate c.args.touched.now.cells c.args.both.now.first c.args.both.now.second c.args.circuit.now.nodes _ _ _ _ _ _ c.in_ok-ended.ensures.made c.in_ok-whole.ensures.made c.in_ok-shown.ensures.made)
    c.and-2.ensures.made

pub returns-clause-there : goal.returns-clause-there
returns-clause-there c =
    let f2 = front_then c.args.circuit.now.nodes c.ends.new.circuit.nodes c.consistent.new.circuit.nodes c.in_ok-ended.ensures.there.front c.consistent.ensures.kept.front in
    let f3 = front_then c.args.circuit.now.nodes c.consistent.new.circuit.nodes c.and.new.circuit.nodes f2 c.and.ensures.kept.front in
    leaves_made c.and-2.result c.args.circuit.now.nodes c.and-2.new.circuit.nodes (front_then c.args.circuit.now.nodes c.and.new.circuit.nodes c.and-2.new.circuit.nodes f3 c.and-2.ensures.kept.front) c.and-2.ensures.there
