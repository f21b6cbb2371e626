use Rattle.std.proofs.Common.{◌-◌, false, length, refl, arith}
use Rattle.std.proofs.lemmas.List.Elements.{All-get_or}
use Rattle.pg_circuit.specs.Made.{constant_gate}
use Rattle.pg_circuit.specs.Values.{IsThere}
use Rattle.pg_vec.proofs.Kept.{all_there_later}
use Rattle.pg_ask.proofs.CodeSteps.{matched_none, matched_next, matched_all}
use Rattle.pg_ask.proofs.fits.matches.Goals as goal

pub loop-i-init : goal.loop-i-init
loop-i-init c = matched_none c.args.circuit.now.nodes c.args.so_far c.args.pattern.now c.args.word.now c.requires.so_far

pub place-requires-clause-so_far : goal.place-requires-clause-so_far
place-requires-clause-so_far c = c.loop-i.invariant.there

pub place-requires-clause-bit : goal.place-requires-clause-bit
place-requires-clause-bit c =
    let nodes = c.loop-i.circuit.nodes in
    let word = c.args.word.now in
    let wide = c.requires.word.wide in
    let inside = c.loop-i-test.true in
    All-get_or (IsThere (length nodes)) word (length c.args.pattern.now - 1 - c.loop-i.i) (constant_gate false) (omega (arith, wide, inside))
    (all_there_later c.args.circuit.now.nodes nodes word c.loop-i.invariant.front c.requires.word.there)

pub loop-i-preserved : goal.loop-i-preserved
loop-i-preserved c =
    let inside = c.loop-i-test.true in
    matched_next c.args.circuit.now.nodes c.loop-i.circuit.nodes c.place.new.circuit.nodes _ c.loop-i.gate c.in_ok-gate.gate _ c.args.pattern.now c.args.word.now c.loop-i.i _ (length c.args.pattern.now - 1 - c.loop-i.i) c.loop-i.invariant inside refl (omega (arith, inside)) refl
    c.in_ok-gate.ensures.made c.in_ok-gate.ensures.there

pub returns-clause-made : goal.returns-clause-made
returns-clause-made c = matched_all c.args.circuit.now.nodes c.loop-i.circuit.nodes _ c.loop-i.gate c.args.pattern.now c.args.word.now c.loop-i.i c.loop-i.invariant (omega arith)

pub returns-clause-there : goal.returns-clause-there
returns-clause-there c = record { front = c.loop-i.invariant.front; there = c.loop-i.invariant.there }
