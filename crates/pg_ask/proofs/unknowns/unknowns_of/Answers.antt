use Rattle.pg_ask.specs.Unknowns.{moves, rebounds}
use Rattle.pg_ask.proofs.Chains.{unknowns_chain}
use Rattle.pg_ask.proofs.CodeSteps.{own_bits, other_as, unknowns_there}
use Rattle.pg_ask.proofs.unknowns.unknowns_of.Goals as goal

pub other-requires : goal.other-requires
other-requires c = own_bits _ _ _ c.in_ok-first_l.ensures.there.are_bits

pub other-requires-2 : goal.other-requires-2
other-requires-2 c = own_bits _ _ _ c.in_ok-first_b.ensures.there.are_bits

pub other-requires-3 : goal.other-requires-3
other-requires-3 c = own_bits _ _ _ c.in_ok-first_size.ensures.there.are_bits

pub returns-clause-made : goal.returns-clause-made
returns-clause-made c =
    unknowns_chain c.args.kind c.args.a c.args.circuit.now.nodes _ _ _ _ _ _ _ _ _ _ _ _ _ _ _ _ _ _ c.in_ok-pair.ensures.made c.in_ok-p.ensures.made c.in_ok-first_l.ensures.made
    (other_as c.moves.result (moves c.args.kind) _ c.args.a _ _ _ _ c.moves.ensures c.in_ok-first_l.ensures.there.are_bits.wide c.in_ok-second_l.ensures.made) c.in_ok-first_b.ensures.made
    (other_as c.rebounds.result (rebounds c.args.kind) _ c.args.a _ _ _ _ c.rebounds.ensures c.in_ok-first_b.ensures.there.are_bits.wide c.in_ok-second_b.ensures.made) c.in_ok-first_size.ensures.made
    (other_as c.rebounds-2.result (rebounds c.args.kind) _ c.args.a _ _ _ _ c.rebounds-2.ensures c.in_ok-first_size.ensures.there.are_bits.wide c.in_ok-second_size.ensures.made) c.in_ok-compared.ensures.made

pub returns-clause-there : goal.returns-clause-there
returns-clause-there c = (unknowns_there c.args.kind c.args.a c.args.circuit.now.nodes _ _ c.args.circuit.now.circuit c.requires (returns-clause-made c)).there

pub returns-clause-kept : goal.returns-clause-kept
returns-clause-kept c = (unknowns_there c.args.kind c.args.a c.args.circuit.now.nodes _ _ c.args.circuit.now.circuit c.requires (returns-clause-made c)).front
