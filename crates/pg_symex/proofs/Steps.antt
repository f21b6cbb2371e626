-- What the code's steps are due to make, over plain values.
use Rattle.std.proofs.Common.{◌≡◌, ℕ, zero, suc, ◌+◌, ◌-◌, ◌/◌, ◌%◌, ◌<◌, ◌≤◌, ◌==◌, List, [], ◌∷◌, ◌++◌, Result, Ok, Err, refl, sym, ap, ◌∙◌, arith, append_assoc, append-nil}
use Rattle.std.specs.Prelude.{OnOk}
use Rattle.pg_circuit.specs.declared.node.Gate.{Gate}
use Rattle.pg_circuit.specs.declared.node.Node.{Node}
use Rattle.pg_circuit.specs.Made.{constant_gate}
use Rattle.pg_vec.specs.Strings.{lt_made}
use Rattle.pg_cells.specs.declared.cell.Cell.{Cell}
use Rattle.pg_symex.specs.declared.guards.Guards.{Guards}
use Rattle.pg_symex.specs.Flow.{SymEntry}
use Rattle.pg_symex.specs.FlowView.{flow_as}
use Rattle.pg_symex.specs.Exprs.{literal_bits, bit_0, guarded_made, access_made}

-- ---- literals

literal_by : (rest left : ℕ) (k : ℕ) (gates due : List Gate) → left ≡ suc k → gates ++ literal_bits rest left ≡ due → (gates ++ constant_gate (rest % 2 == 1) ∷ []) ++ literal_bits (rest / 2) k ≡ due
unfolding literal_bits
literal_by rest left k gates due e h = append_assoc gates (constant_gate (rest % 2 == 1) ∷ []) (literal_bits (rest / 2) k) ∙ ap (λ n. gates ++ literal_bits rest n) (sym e) ∙ h

pub literal_next : (rest width count : ℕ) (gates due : List Gate) → count < width → gates ++ literal_bits rest (width - count) ≡ due →
    (gates ++ constant_gate (rest % 2 == 1) ∷ []) ++ literal_bits (rest / 2) (width - (count + 1)) ≡ due
literal_next rest width count gates due l h = literal_by rest (width - count) (width - (count + 1)) gates due (omega arith) h

no_literal : (rest k : ℕ) → k ≡ 0 → literal_bits rest k ≡ []
unfolding literal_bits
no_literal rest zero e = refl
no_literal rest (suc k) e = absurd (omega (arith, e))

pub literal_all : (rest width count : ℕ) (gates due : List Gate) → width ≤ count → gates ++ literal_bits rest (width - count) ≡ due → gates ≡ due
literal_all rest width count gates due l h = sym (append-nil gates) ∙ ap (λ n. gates ++ n) (sym (no_literal rest (width - count) (omega arith))) ∙ h

-- ---- accesses

pub access_step : {E : Type 0} (r : Result (Unit {0}) E) (at : SymEntry) (n1 n2 n3 : List Node) (g g2 : Guards) (usable address : List Gate) (bit : Gate) → (usable, n2) ≡ lt_made n1 address at.regs.v → bit ≡ bit_0 usable →
    OnOk r ((cells : List Cell) → flow_as n3 cells g2 ≡ guarded_made (flow_as n2 cells g) bit n2) →
    OnOk r ((cells : List Cell) → flow_as n3 cells g2 ≡ access_made at (flow_as n1 cells g) address)
unfolding access_made guarded_made
access_step (Ok u) at n1 n2 n3 g g2 usable address bit e b h = λ cells.
    h cells ∙ ap (λ x. guarded_made (flow_as n1 cells g) x n2) b ∙ ap (λ (m : List Gate × List Node). guarded_made (flow_as n1 cells g) (bit_0 m.0) m.1) e
access_step (Err x) at n1 n2 n3 g g2 usable address bit e b h = h
