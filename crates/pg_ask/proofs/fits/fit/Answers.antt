use Rattle.std.proofs.Common.{◌∙◌, true, length, refl, sym, ap, subst}
use Rattle.pg_circuit.specs.declared.node.Gate.{Gate}
use Rattle.pg_circuit.specs.Made.{constant_gate, and_made}
use Rattle.pg_word.specs.declared.shape.Shape.{Shape}
use Rattle.pg_vec.proofs.Kept.{front_then, there_later}
use Rattle.pg_symex.specs.There.{AreBits}
use Rattle.pg_ask.specs.There.{AreUnknowns}
use Rattle.pg_ask.proofs.ThereLaws.{bits_on, unknowns_on, bit_there}
use Rattle.pg_ask.proofs.Chains.{fits_chain}
use Rattle.pg_ask.proofs.CodeSteps.{width_bits, size_as, matches_as, fits_there}
use Rattle.pg_circuit.specs.Values.{IsThere}
use Rattle.pg_ask.proofs.fits.fit.Goals as goal

pub size-requires-2-clause-so_far : goal.size-requires-2-clause-so_far
size-requires-2-clause-so_far c = c.in_ok-one.ensures.there.there

pub alike-requires-clause-so_far : goal.alike-requires-clause-so_far
alike-requires-clause-so_far c = c.in_ok-two.ensures.there.there

pub and-requires-clause-left : goal.and-requires-clause-left
and-requires-clause-left c = there_later c.alike.new.circuit.nodes c.lt.new.circuit.nodes c.in_ok-equal.equal c.in_ok-inside.ensures.kept.front c.in_ok-equal.ensures.there.there

pub and-requires-clause-right : goal.and-requires-clause-right
and-requires-clause-right c = subst (IsThere (length c.lt.new.circuit.nodes)) (sym c.bit_0.ensures) (bit_there _ c.in_ok-inside.inside c.in_ok-inside.ensures.worth.there c.in_ok-inside.ensures.worth.wide)

pub apart-requires-clause-so_far : goal.apart-requires-clause-so_far
apart-requires-clause-so_far c = c.in_ok-placed.ensures.there

pub matches-requires-clause-so_far : goal.matches-requires-clause-so_far
matches-requires-clause-so_far c = c.in_ok-related.ensures.there.there

pub usable-requires-clause-l : goal.usable-requires-clause-l
usable-requires-clause-l c =
    let un = (c.requires.unknowns) in width_bits _ _ _ _ (sym un.first_size.wide) un.first_l

pub usable-requires-clause-b : goal.usable-requires-clause-b
usable-requires-clause-b c =
    let un = (c.requires.unknowns) in width_bits _ _ _ _ (sym un.first_size.wide) un.first_b

pub usable-requires-clause-n : goal.usable-requires-clause-n
usable-requires-clause-n c =
    let un = (c.requires.unknowns) in width_bits _ _ _ _ (sym un.first_size.wide) un.first_size

pub usable-requires-2-clause-l : goal.usable-requires-2-clause-l
usable-requires-2-clause-l c =
    let un = (unknowns_on c.args.circuit.now.nodes c.usable.new.circuit.nodes _ c.args.u.now c.in_ok-v.ensures.there.front c.requires.unknowns) in width_bits _ _ _ _ (sym un.second_size.wide) un.second_l

pub usable-requires-2-clause-b : goal.usable-requires-2-clause-b
usable-requires-2-clause-b c =
    let un = (unknowns_on c.args.circuit.now.nodes c.usable.new.circuit.nodes _ c.args.u.now c.in_ok-v.ensures.there.front c.requires.unknowns) in width_bits _ _ _ _ (sym un.second_size.wide) un.second_b

pub usable-requires-2-clause-n : goal.usable-requires-2-clause-n
usable-requires-2-clause-n c =
    let un = (unknowns_on c.args.circuit.now.nodes c.usable.new.circuit.nodes _ c.args.u.now c.in_ok-v.ensures.there.front c.requires.unknowns) in width_bits _ _ _ _ (sym un.second_size.wide) un.second_size

pub size-requires-clause-n : goal.size-requires-clause-n
size-requires-clause-n c =
    let un = (unknowns_on c.args.circuit.now.nodes c.usable-2.new.circuit.nodes _ c.args.u.now (front_then c.args.circuit.now.nodes c.usable.new.circuit.nodes c.usable-2.new.circuit.nodes c.in_ok-v.ensures.there.front c.in_ok-second_v.ensures.there.front) c.requires.unknowns) in width_bits _ _ _ _ (sym un.first_size.wide) un.first_size

pub size-requires-2-clause-n : goal.size-requires-2-clause-n
size-requires-2-clause-n c =
    let un = (unknowns_on c.args.circuit.now.nodes c.size.new.circuit.nodes _ c.args.u.now (front_then c.args.circuit.now.nodes c.usable-2.new.circuit.nodes c.size.new.circuit.nodes (front_then c.args.circuit.now.nodes c.usable.new.circuit.nodes c.usable-2.new.circuit.nodes c.in_ok-v.ensures.there.front c.in_ok-second_v.ensures.there.front) c.in_ok-one.ensures.there.front) c.requires.unknowns) in width_bits _ _ _ _ (sym un.second_size.wide) un.second_size

pub alike-requires-clause-x : goal.alike-requires-clause-x
alike-requires-clause-x c =
    width_bits _ _ _ _ (c.requires.unknowns.first_size.wide ∙ sym ((c.in_ok-second_v.ensures.there.are_bits.wide) ∙ c.requires.unknowns.second_size.wide)) (bits_on c.usable.new.circuit.nodes c.size-2.new.circuit.nodes _ c.in_ok-v.v (front_then c.usable.new.circuit.nodes c.size.new.circuit.nodes c.size-2.new.circuit.nodes (front_then c.usable.new.circuit.nodes c.usable-2.new.circuit.nodes c.size.new.circuit.nodes c.in_ok-second_v.ensures.there.front c.in_ok-one.ensures.there.front) c.in_ok-two.ensures.there.front) c.in_ok-v.ensures.there.are_bits)

pub alike-requires-clause-y : goal.alike-requires-clause-y
alike-requires-clause-y c =
    width_bits _ _ _ _ (sym c.in_ok-second_v.ensures.there.are_bits.wide) (bits_on c.usable-2.new.circuit.nodes c.size-2.new.circuit.nodes _ c.in_ok-second_v.second_v (front_then c.usable-2.new.circuit.nodes c.size.new.circuit.nodes c.size-2.new.circuit.nodes c.in_ok-one.ensures.there.front c.in_ok-two.ensures.there.front) c.in_ok-second_v.ensures.there.are_bits)

pub lt-requires-clause-left : goal.lt-requires-clause-left
lt-requires-clause-left c =
    let un = (unknowns_on c.args.circuit.now.nodes c.alike.new.circuit.nodes _ c.args.u.now (front_then c.args.circuit.now.nodes c.size-2.new.circuit.nodes c.alike.new.circuit.nodes (front_then c.args.circuit.now.nodes c.size.new.circuit.nodes c.size-2.new.circuit.nodes (front_then c.args.circuit.now.nodes c.usable-2.new.circuit.nodes c.size.new.circuit.nodes (front_then c.args.circuit.now.nodes c.usable.new.circuit.nodes c.usable-2.new.circuit.nodes c.in_ok-v.ensures.there.front c.in_ok-second_v.ensures.there.front) c.in_ok-one.ensures.there.front) c.in_ok-two.ensures.there.front) c.in_ok-equal.ensures.there.front) c.requires.unknowns) in un.p.there

pub lt-requires-clause-right : goal.lt-requires-clause-right
lt-requires-clause-right c =
    let v = (bits_on c.usable.new.circuit.nodes c.alike.new.circuit.nodes _ c.in_ok-v.v (front_then c.usable.new.circuit.nodes c.size-2.new.circuit.nodes c.alike.new.circuit.nodes (front_then c.usable.new.circuit.nodes c.size.new.circuit.nodes c.size-2.new.circuit.nodes (front_then c.usable.new.circuit.nodes c.usable-2.new.circuit.nodes c.size.new.circuit.nodes c.in_ok-second_v.ensures.there.front c.in_ok-one.ensures.there.front) c.in_ok-two.ensures.there.front) c.in_ok-equal.ensures.there.front) c.in_ok-v.ensures.there.are_bits) in v.there

pub lt-requires-clause-same_width : goal.lt-requires-clause-same_width
lt-requires-clause-same_width c =
    c.requires.unknowns.p.wide ∙ sym (c.in_ok-v.ensures.there.are_bits.wide ∙ c.requires.unknowns.first_size.wide)

pub apart-requires-clause-unknowns : goal.apart-requires-clause-unknowns
apart-requires-clause-unknowns c =
    let un = (unknowns_on c.args.circuit.now.nodes c.and.new.circuit.nodes _ c.args.u.now (front_then c.args.circuit.now.nodes c.lt.new.circuit.nodes c.and.new.circuit.nodes (front_then c.args.circuit.now.nodes c.alike.new.circuit.nodes c.lt.new.circuit.nodes (front_then c.args.circuit.now.nodes c.size-2.new.circuit.nodes c.alike.new.circuit.nodes (front_then c.args.circuit.now.nodes c.size.new.circuit.nodes c.size-2.new.circuit.nodes (front_then c.args.circuit.now.nodes c.usable-2.new.circuit.nodes c.size.new.circuit.nodes (front_then c.args.circuit.now.nodes c.usable.new.circuit.nodes c.usable-2.new.circuit.nodes c.in_ok-v.ensures.there.front c.in_ok-second_v.ensures.there.front) c.in_ok-one.ensures.there.front) c.in_ok-two.ensures.there.front) c.in_ok-equal.ensures.there.front) c.in_ok-inside.ensures.kept.front) c.in_ok-placed.ensures.kept.front) c.requires.unknowns) in subst (λ a. AreUnknowns (length c.and.new.circuit.nodes) a c.args.u.now) (sym un.p.wide) un

pub matches-requires-clause-word : goal.matches-requires-clause-word
matches-requires-clause-word c =
    subst (λ w. AreBits (length c.apart.new.circuit.nodes) (length c.as_bytes.result.now) w) (sym c.as_slice.ensures.gates) (subst (λ bs. AreBits (length c.apart.new.circuit.nodes) (length bs) c.args.word.now) (sym c.as_bytes.ensures) (bits_on c.args.circuit.now.nodes c.apart.new.circuit.nodes _ c.args.word.now (front_then c.args.circuit.now.nodes c.and.new.circuit.nodes c.apart.new.circuit.nodes (front_then c.args.circuit.now.nodes c.lt.new.circuit.nodes c.and.new.circuit.nodes (front_then c.args.circuit.now.nodes c.alike.new.circuit.nodes c.lt.new.circuit.nodes (front_then c.args.circuit.now.nodes c.size-2.new.circuit.nodes c.alike.new.circuit.nodes (front_then c.args.circuit.now.nodes c.size.new.circuit.nodes c.size-2.new.circuit.nodes (front_then c.args.circuit.now.nodes c.usable-2.new.circuit.nodes c.size.new.circuit.nodes (front_then c.args.circuit.now.nodes c.usable.new.circuit.nodes c.usable-2.new.circuit.nodes c.in_ok-v.ensures.there.front c.in_ok-second_v.ensures.there.front) c.in_ok-one.ensures.there.front) c.in_ok-two.ensures.there.front) c.in_ok-equal.ensures.there.front) c.in_ok-inside.ensures.kept.front) c.in_ok-placed.ensures.kept.front) c.in_ok-related.ensures.there.front) c.requires.word))

pub returns-clause-made : goal.returns-clause-made
returns-clause-made c =
    fits_chain c.args.m.now.desc c.args.instr.now c.args.kind c.args.u.now c.args.word.now c.args.circuit.now.nodes _ _ _ _ _ _ _ _ _ c.in_ok-v.v c.in_ok-second_v.second_v c.in_ok-one.one c.in_ok-two.two c.in_ok-equal.equal c.in_ok-inside.inside c.in_ok-placed.placed c.in_ok-related.related c.in_ok-gate.gate
    c.in_ok-v.ensures.made
    c.in_ok-second_v.ensures.made
    (size_as c.shape.result.now.q c.args.m.now.desc.size _ c.args.m.now.desc.address _ _ c.constant.result (constant_gate true) _ _ (ap (λ (s : Shape). s.q) c.shape.ensures.numbers) c.requires.unknowns.first_size.wide c.constant.ensures c.in_ok-one.ensures.made)
    (size_as c.shape.result.now.q c.args.m.now.desc.size _ c.args.m.now.desc.address _ _ _ _ _ _ (ap (λ (s : Shape). s.q) c.shape.ensures.numbers) c.requires.unknowns.second_size.wide refl c.in_ok-two.ensures.made)
    c.in_ok-equal.ensures.made
    c.in_ok-inside.ensures.made
    (c.in_ok-placed.ensures.made ∙ ap (λ (z : Gate). and_made c.lt.new.circuit.nodes c.in_ok-equal.equal z) c.bit_0.ensures)
    c.in_ok-related.ensures.made
    (matches_as _ _ _ _ c.as_bytes.result.now _ c.as_slice.result.now _ c.as_bytes.ensures c.as_slice.ensures.gates c.in_ok-gate.ensures.made)

pub returns-clause-there : goal.returns-clause-there
returns-clause-there c =
    (fits_there c.args.m.now.desc c.args.instr.now c.args.kind c.args.u.now c.args.word.now c.args.circuit.now.nodes _ _ _ c.args.m.now.valid c.args.circuit.now.circuit c.requires.unknowns c.requires.word (returns-clause-made c)).bits

pub returns-clause-gate : goal.returns-clause-gate
returns-clause-gate c =
    (fits_there c.args.m.now.desc c.args.instr.now c.args.kind c.args.u.now c.args.word.now c.args.circuit.now.nodes _ _ _ c.args.m.now.valid c.args.circuit.now.circuit c.requires.unknowns c.requires.word (returns-clause-made c)).there
