-- What single gates are worth.
use Rattle.std.proofs.Common.{◌≡◌, Bool, true, false, not, ◌&&◌, ◌||◌, cond, List, length, refl, ap, ◌∙◌, arith}
use Rattle.pg_circuit.specs.declared.node.Gate.{Gate}
use Rattle.pg_circuit.specs.declared.node.Node.{Node}
use Rattle.pg_circuit.specs.Nodes.{IsCircuit}
use Rattle.pg_circuit.specs.Values.{gate_value, IsThere}
use Rattle.pg_circuit.specs.Made.{not_gate, and_made}
use Rattle.pg_vec.specs.Gates.{or_made, choice_made, carry_made}
use Rattle.pg_vec.specs.Makes.{MakesGate}
use Rattle.pg_circuit.proofs.MadeLemmas.{not_value}
use Rattle.pg_vec.proofs.Kept.{front_then, there_later, values_earlier, and-makes}

or_is : (a b : Bool) → not (not a && not b) ≡ a || b
or_is true b = refl
or_is false true = refl
or_is false false = refl

choice_is : (c a b : Bool) → (c && a) || (not c && b) ≡ cond c a b
choice_is true true b = refl
choice_is true false b = refl
choice_is false a b = refl

pub or-makes : (nodes : List Node) (x y : Gate) → IsCircuit nodes → IsThere (length nodes) x → IsThere (length nodes) y → MakesGate nodes (or_made nodes x y) 1 (λ v. gate_value v x || gate_value v y)
unfolding or_made
or-makes nodes x y h tx ty =
    let a = and-makes nodes (not_gate x) (not_gate y) h tx ty in
    record {
      circuit = a.circuit;
      adds = a.adds;
      there = a.there;
      value = λ inputs values v.
          not_value values (and_made nodes (not_gate x) (not_gate y)).0
          ∙ ap not (a.value inputs values v ∙ ap (λ b. b && gate_value values (not_gate y)) (not_value values x) ∙ ap (λ b. not (gate_value values x) && b) (not_value values y))
          ∙ or_is (gate_value values x) (gate_value values y);
    }

pub choice-makes : (choice : Gate) (nodes : List Node) (x y : Gate) → IsCircuit nodes → IsThere (length nodes) choice → IsThere (length nodes) x → IsThere (length nodes) y → MakesGate nodes (choice_made choice nodes x y) 3 (λ v. cond (gate_value v choice) (gate_value v x) (gate_value v y))
unfolding choice_made
choice-makes choice nodes x y h tc tx ty =
    let a = and-makes nodes choice x h tc tx in
    let n = (and_made nodes choice x).1 in
    let b = and-makes n (not_gate choice) y a.circuit (there_later nodes n choice a.adds.front tc) (there_later nodes n y a.adds.front ty) in
    let m = (and_made n (not_gate choice) y).1 in
    let d = or-makes m (and_made nodes choice x).0 (and_made n (not_gate choice) y).0 b.circuit (there_later n m (and_made nodes choice x).0 b.adds.front a.there) b.there in
    record {
      circuit = d.circuit;
      adds = record { front = front_then nodes n _ a.adds.front (front_then n m _ b.adds.front d.adds.front); few = let p = a.adds.few in let q = b.adds.few in let r = d.adds.few in omega arith; inputs = d.adds.inputs ∙ b.adds.inputs ∙ a.adds.inputs };
      there = d.there;
      value = λ inputs values v.
          let w = values_earlier inputs values m _ d.adds.front v in
          let u = values_earlier inputs values n m b.adds.front w in
          d.value inputs values v
          ∙ ap (λ k. k || gate_value values (and_made n (not_gate choice) y).0) (a.value inputs values u)
          ∙ ap (λ k. (gate_value values choice && gate_value values x) || k) (b.value inputs values w ∙ ap (λ k. k && gate_value values y) (not_value values choice))
          ∙ choice_is (gate_value values choice) (gate_value values x) (gate_value values y);
    }

pub carry-makes : (nodes : List Node) (x y half carry : Gate) → IsCircuit nodes → IsThere (length nodes) x → IsThere (length nodes) y → IsThere (length nodes) half → IsThere (length nodes) carry → MakesGate nodes (carry_made nodes x y half carry) 3 (λ v. (gate_value v x && gate_value v y) || (gate_value v half && gate_value v carry))
unfolding carry_made
carry-makes nodes x y half carry h tx ty th tc =
    let a = and-makes nodes x y h tx ty in
    let n = (and_made nodes x y).1 in
    let b = and-makes n half carry a.circuit (there_later nodes n half a.adds.front th) (there_later nodes n carry a.adds.front tc) in
    let m = (and_made n half carry).1 in
    let d = or-makes m (and_made nodes x y).0 (and_made n half carry).0 b.circuit (there_later n m (and_made nodes x y).0 b.adds.front a.there) b.there in
    record {
      circuit = d.circuit;
      adds = record { front = front_then nodes n _ a.adds.front (front_then n m _ b.adds.front d.adds.front); few = let p = a.adds.few in let q = b.adds.few in let r = d.adds.few in omega arith; inputs = d.adds.inputs ∙ b.adds.inputs ∙ a.adds.inputs };
      there = d.there;
      value = λ inputs values v.
          let w = values_earlier inputs values m _ d.adds.front v in
          let u = values_earlier inputs values n m b.adds.front w in
          d.value inputs values v
          ∙ ap (λ k. k || gate_value values (and_made n half carry).0) (a.value inputs values u)
          ∙ ap (λ k. (gate_value values x && gate_value values y) || k) (b.value inputs values w);
    }
