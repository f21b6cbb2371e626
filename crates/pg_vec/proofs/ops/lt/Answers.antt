-- The nodes are those of the definition, and its law says what they are worth.
use Rattle.std.proofs.Common.{◌≡◌, ◌^◌, [], ◌∷◌}
use Rattle.pg_word.specs.Bits.{below_bit}
use Rattle.pg_vec.specs.Number.{number}
use Rattle.pg_vec.specs.Makes.{MakesBits}
use Rattle.pg_vec.specs.Strings.{lt_made}
use Rattle.pg_vec.proofs.OpLaws.{flip_there, ok_map, lt_step, lt_worth}
use Rattle.pg_vec.proofs.ops.lt.Goals as goal

pub last_carry-requires-clause-right : goal.last_carry-requires-clause-right
last_carry-requires-clause-right c = flip_there _ c.as_slice.result.now c.args.y.now c.in_ok-flipped.flipped.items _ c.requires.right c.as_slice.ensures.gates c.in_ok-flipped.ensures c.as_slice-3.ensures.value

pub returns-clause-made : goal.returns-clause-made
returns-clause-made c =
    ok_map c.one.result (λ bits. bits ≡ c.not.result ∷ []) (λ bits. (bits, c.last_carry.new.circuit.nodes) ≡ lt_made c.args.circuit.now.nodes c.args.x.now c.args.y.now)
    (λ bits h. lt_step _ c.constant-carry_in.result c.in_ok-carry.carry c.not.result c.as_slice-2.result.now c.args.x.now c.in_ok-flipped.flipped.items c.as_slice.result.now c.as_slice-3.result.now c.args.y.now bits _
    c.constant-carry_in.ensures c.as_slice-2.ensures.gates c.as_slice.ensures.gates c.in_ok-flipped.ensures c.as_slice-3.ensures.value c.in_ok-carry.ensures.made c.not.ensures h)
    c.one.ensures

pub returns-clause-worth : goal.returns-clause-worth
returns-clause-worth c =
    ok_map c.one.result (λ bits. (bits, c.last_carry.new.circuit.nodes) ≡ lt_made c.args.circuit.now.nodes c.args.x.now c.args.y.now)
    (λ bits. MakesBits c.args.circuit.now.nodes (bits, c.last_carry.new.circuit.nodes) 1 (2 ^ 15) (λ v. below_bit (number v c.args.x.now) (number v c.args.y.now)))
    (λ bits m. lt_worth _ (bits, c.last_carry.new.circuit.nodes) c.args.x.now c.args.y.now c.args.circuit.now.circuit c.requires.left c.requires.right c.requires.same_width c.as_slice-2.ensures.width c.as_slice.ensures.width m)
    (returns-clause-made c)
