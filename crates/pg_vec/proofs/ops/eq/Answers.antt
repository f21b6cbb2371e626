-- The nodes are those of the definition, and its law says what they are worth.
use Rattle.std.proofs.Common.{◌≡◌, ◌^◌, [], ◌∷◌}
use Rattle.pg_word.specs.Bits.{equal_bit}
use Rattle.pg_vec.specs.Number.{number}
use Rattle.pg_vec.specs.Makes.{MakesBits}
use Rattle.pg_vec.specs.Strings.{eq_made}
use Rattle.pg_vec.proofs.OpLaws.{ok_map, eq_step, eq_worth}
use Rattle.pg_vec.proofs.ops.eq.Goals as goal

pub returns-clause-made : goal.returns-clause-made
returns-clause-made c =
    ok_map c.one.result (λ bits. bits ≡ c.in_ok-gate.gate ∷ []) (λ bits. (bits, c.same.new.circuit.nodes) ≡ eq_made c.args.circuit.now.nodes c.args.x.now c.args.y.now)
    (λ bits h. eq_step _ c.in_ok-gate.gate c.as_slice.result.now c.args.x.now c.as_slice-2.result.now c.args.y.now bits _ c.as_slice.ensures.gates c.as_slice-2.ensures.gates c.in_ok-gate.ensures.made h)
    c.one.ensures

pub returns-clause-worth : goal.returns-clause-worth
returns-clause-worth c =
    ok_map c.one.result (λ bits. (bits, c.same.new.circuit.nodes) ≡ eq_made c.args.circuit.now.nodes c.args.x.now c.args.y.now)
    (λ bits. MakesBits c.args.circuit.now.nodes (bits, c.same.new.circuit.nodes) 1 (2 ^ 15) (λ v. equal_bit (number v c.args.x.now) (number v c.args.y.now)))
    (λ bits m. eq_worth _ (bits, c.same.new.circuit.nodes) c.args.x.now c.args.y.now c.args.circuit.now.circuit c.requires.left c.requires.right c.requires.same_width c.as_slice.ensures.width c.as_slice-2.ensures.width m)
    (returns-clause-made c)
