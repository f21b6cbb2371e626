-- Gates and strings that are there, and what they are worth in every circuit that begins with these nodes; one after another.
use Rattle.std.proofs.Common.{◌≡◌, ℕ, nat_lt, nat_eq, Bool, true, false, not, ◌&&◌, ◌||◌, cond, List, [], ◌∷◌, length, refl, sym, ap, ◌∙◌, arith}
use Rattle.std.proofs.lemmas.List.Elements.{All-get_or}
use Rattle.pg_circuit.specs.declared.node.Gate.{Gate}
use Rattle.pg_circuit.specs.declared.node.Node.{Node}
use Rattle.pg_circuit.specs.Nodes.{IsCircuit}
use Rattle.pg_circuit.specs.Grown.{GrowsTo}
use Rattle.pg_circuit.specs.Values.{gate_value, IsThere}
use Rattle.pg_circuit.specs.Made.{constant_gate, not_gate, and_made}
use Rattle.pg_circuit.proofs.MadeLemmas.{not_value}
use Rattle.pg_word.specs.Bits.{below_bit}
use Rattle.pg_vec.specs.Number.{number, bit_of}
use Rattle.pg_vec.specs.There.{AreThere, AreValues}
use Rattle.pg_vec.specs.Makes.{MakesGate, MakesBits}
use Rattle.pg_vec.specs.Gates.{or_made}
use Rattle.pg_vec.specs.Strings.{lt_made, same_made}
use Rattle.pg_vec.proofs.Kept.{front_then, values_earlier, constant-value, and-makes}
use Rattle.pg_vec.proofs.GateLaws.{or-makes}
use Rattle.pg_vec.proofs.CompareLaws.{lt-makes, same-makes}
use Rattle.pg_symex.specs.Exprs.{bit_0}

pub record GateIs (nodes : List Node) (made : Gate × List Node) (worth : List Bool → Bool) : Type 0 where
  pub circuit : IsCircuit made.1
  pub front : GrowsTo nodes made.1
  pub there : IsThere (length made.1) made.0
  pub value : (inputs values : List Bool) → AreValues inputs made.1 values → gate_value values made.0 ≡ worth values

pub record BitsAre (nodes : List Node) (made : List Gate × List Node) (width : ℕ) (worth : List Bool → ℕ) : Type 0 where
  pub circuit : IsCircuit made.1
  pub front : GrowsTo nodes made.1
  pub there : AreThere (length made.1) made.0
  pub wide : length made.0 ≡ width
  pub value : (inputs values : List Bool) → AreValues inputs made.1 values → number values made.0 ≡ worth values

pub gate-of : (nodes : List Node) (made : Gate × List Node) (most : ℕ) (worth : List Bool → Bool) → MakesGate nodes made most worth → GateIs nodes made worth
gate-of nodes made most worth m = record { circuit = m.circuit; front = m.adds.front; there = m.there; value = m.value }

pub bits-of : (nodes : List Node) (made : List Gate × List Node) (width most : ℕ) (worth : List Bool → ℕ) → MakesBits nodes made width most worth → BitsAre nodes made width worth
bits-of nodes made width most worth m = record { circuit = m.circuit; front = m.adds.front; there = m.there; wide = m.wide; value = m.value }

-- ---- one after another

pub then-gate : (nodes : List Node) (m r : Gate × List Node) (w : List Bool → Bool) (f : List Bool → Bool → Bool) → GateIs nodes m w → GateIs m.1 r (λ v. f v (gate_value v m.0)) → GateIs nodes r (λ v. f v (w v))
then-gate nodes m r w f h k = record {
  circuit = k.circuit;
  front = front_then nodes m.1 r.1 h.front k.front;
  there = k.there;
  value = λ inputs values v. k.value inputs values v ∙ ap (f values) (h.value inputs values (values_earlier inputs values m.1 r.1 k.front v));
}

pub bits-then-gate : (nodes : List Node) (m : List Gate × List Node) (r : Gate × List Node) (width : ℕ) (w : List Bool → ℕ) (f : List Bool → ℕ → Bool) → BitsAre nodes m width w → GateIs m.1 r (λ v. f v (number v m.0)) →
    GateIs nodes r (λ v. f v (w v))
bits-then-gate nodes m r width w f h k = record {
  circuit = k.circuit;
  front = front_then nodes m.1 r.1 h.front k.front;
  there = k.there;
  value = λ inputs values v. k.value inputs values v ∙ ap (f values) (h.value inputs values (values_earlier inputs values m.1 r.1 k.front v));
}

pub then-bits : (nodes : List Node) (m : Gate × List Node) (r : List Gate × List Node) (width : ℕ) (w : List Bool → Bool) (f : List Bool → Bool → ℕ) → GateIs nodes m w → BitsAre m.1 r width (λ v. f v (gate_value v m.0)) →
    BitsAre nodes r width (λ v. f v (w v))
then-bits nodes m r width w f h k = record {
  circuit = k.circuit;
  front = front_then nodes m.1 r.1 h.front k.front;
  there = k.there;
  wide = k.wide;
  value = λ inputs values v. k.value inputs values v ∙ ap (f values) (h.value inputs values (values_earlier inputs values m.1 r.1 k.front v));
}

pub bits-then-bits : (nodes : List Node) (m r : List Gate × List Node) (width wide : ℕ) (w : List Bool → ℕ) (f : List Bool → ℕ → ℕ) → BitsAre nodes m width w → BitsAre m.1 r wide (λ v. f v (number v m.0)) →
    BitsAre nodes r wide (λ v. f v (w v))
bits-then-bits nodes m r width wide w f h k = record {
  circuit = k.circuit;
  front = front_then nodes m.1 r.1 h.front k.front;
  there = k.there;
  wide = k.wide;
  value = λ inputs values v. k.value inputs values v ∙ ap (f values) (h.value inputs values (values_earlier inputs values m.1 r.1 k.front v));
}

-- ---- what is worth the same

pub gate-as : (nodes : List Node) (m : Gate × List Node) (w u : List Bool → Bool) → GateIs nodes m w → ((values : List Bool) → w values ≡ u values) → GateIs nodes m u
gate-as nodes m w u h e = record { circuit = h.circuit; front = h.front; there = h.there; value = λ inputs values v. h.value inputs values v ∙ e values }

-- ---- single gates

pub and-is : (nodes : List Node) (x y : Gate) → IsCircuit nodes → IsThere (length nodes) x → IsThere (length nodes) y → GateIs nodes (and_made nodes x y) (λ v. gate_value v x && gate_value v y)
and-is nodes x y h tx ty = gate-of nodes _ 1 _ (and-makes nodes x y h tx ty)

pub and_not-is : (nodes : List Node) (x y : Gate) → IsCircuit nodes → IsThere (length nodes) x → IsThere (length nodes) y → GateIs nodes (and_made nodes x (not_gate y)) (λ v. gate_value v x && not (gate_value v y))
and_not-is nodes x y h tx ty =
    gate-as nodes _ (λ v. gate_value v x && gate_value v (not_gate y)) (λ v. gate_value v x && not (gate_value v y)) (and-is nodes x (not_gate y) h tx ty) (λ v. ap (λ b. gate_value v x && b) (not_value v y))

pub not_and_not-is : (nodes : List Node) (x y : Gate) → IsCircuit nodes → IsThere (length nodes) x → IsThere (length nodes) y → GateIs nodes (and_made nodes (not_gate x) (not_gate y)) (λ v. not (gate_value v x) && not (gate_value v y))
not_and_not-is nodes x y h tx ty =
    gate-as nodes _ (λ v. gate_value v (not_gate x) && not (gate_value v y)) (λ v. not (gate_value v x) && not (gate_value v y)) (and_not-is nodes (not_gate x) y h tx ty) (λ v. ap (λ b. b && not (gate_value v y)) (not_value v x))

pub or-is : (nodes : List Node) (x y : Gate) → IsCircuit nodes → IsThere (length nodes) x → IsThere (length nodes) y → GateIs nodes (or_made nodes x y) (λ v. gate_value v x || gate_value v y)
or-is nodes x y h tx ty = gate-of nodes _ 1 _ (or-makes nodes x y h tx ty)

pub not_or-is : (nodes : List Node) (x y : Gate) → IsCircuit nodes → IsThere (length nodes) x → IsThere (length nodes) y → GateIs nodes (or_made nodes (not_gate x) y) (λ v. not (gate_value v x) || gate_value v y)
not_or-is nodes x y h tx ty =
    gate-as nodes _ (λ v. gate_value v (not_gate x) || gate_value v y) (λ v. not (gate_value v x) || gate_value v y) (or-is nodes (not_gate x) y h tx ty) (λ v. ap (λ b. b || gate_value v y) (not_value v x))

-- ---- strings that are compared

pub same-is : (nodes : List Node) (so_far : Gate) (xs ys : List Gate) → IsCircuit nodes → IsThere (length nodes) so_far → AreThere (length nodes) xs → AreThere (length nodes) ys → length xs ≡ length ys →
    GateIs nodes (same_made nodes so_far xs ys) (λ v. gate_value v so_far && nat_eq (number v xs) (number v ys))
same-is nodes so_far xs ys h ts tx ty e = gate-of nodes _ _ _ (same-makes xs ys nodes so_far h ts tx ty e)

pub equal-is : (nodes : List Node) (xs ys : List Gate) → IsCircuit nodes → AreThere (length nodes) xs → AreThere (length nodes) ys → length xs ≡ length ys →
    GateIs nodes (same_made nodes (constant_gate true) xs ys) (λ v. nat_eq (number v xs) (number v ys))
equal-is nodes xs ys h tx ty e =
    let s = same-is nodes (constant_gate true) xs ys h h.begun tx ty e in
    record {
      circuit = s.circuit;
      front = s.front;
      there = s.there;
      value = λ inputs values v. s.value inputs values v ∙ ap (λ b. b && nat_eq (number values xs) (number values ys)) (constant-value inputs values _ true s.circuit v);
    }

number-bit : (values : List Bool) (xs : List Gate) → length xs ≡ 1 → number values xs ≡ bit_of (gate_value values (bit_0 xs))
number-bit values [] e = absurd (omega (arith, e))
number-bit values (x ∷ []) e = omega arith
number-bit values (x ∷ y ∷ xs) e = absurd (omega (arith, e))

below-by : (b : Bool) (x y : ℕ) → bit_of b ≡ below_bit x y → b ≡ nat_lt x y
below-by b x y = by b (nat_lt x y)
  where
    by : (b c : Bool) → bit_of b ≡ cond c 1 0 → b ≡ c
    by true true e = refl
    by true false e = absurd (omega (arith, e))
    by false true e = absurd (omega (arith, e))
    by false false e = refl

-- the bit of a comparison
abbrev pub below_made : List Node → List Gate → List Gate → Gate × List Node
below_made nodes xs ys = (bit_0 (lt_made nodes xs ys).0, (lt_made nodes xs ys).1)

pub below-is : (nodes : List Node) (xs ys : List Gate) → IsCircuit nodes → AreThere (length nodes) xs → AreThere (length nodes) ys → length xs ≡ length ys →
    GateIs nodes (below_made nodes xs ys) (λ v. nat_lt (number v xs) (number v ys))
below-is nodes xs ys h tx ty e =
    let m = lt-makes nodes xs ys h tx ty e in
    let bits = (lt_made nodes xs ys).0 in
    let n = (lt_made nodes xs ys).1 in
    record {
      circuit = m.circuit;
      front = m.adds.front;
      there = All-get_or (IsThere (length n)) bits 0 (constant_gate false) (omega (arith, m.wide)) m.there;
      value = λ inputs values v. below-by (gate_value values (bit_0 bits)) (number values xs) (number values ys) (sym (number-bit values bits m.wide) ∙ m.value inputs values v);
    }
