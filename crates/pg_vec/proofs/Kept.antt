-- What a circuit that grows keeps, and what an and and an exclusive or make.
use Rattle.std.proofs.Common.{◌≡◌, ℕ, ◌+◌, ◌*◌, ◌<◌, ◌≤◌, Bool, true, false, ◌&&◌, List, [], ◌∷◌, ◌++◌, length, take, get_or, refl, sym, ap, ◌∙◌, subst, add-one, arith, Option, Some, None, Result, Ok, Err}
use Rattle.std.proofs.lemmas.List.{take-take, take_all, length-take, get_or-take, length_push}
use Rattle.std.proofs.lemmas.List.Elements.{All-get_or, All-weaker}
use Rattle.pg_circuit.specs.declared.node.Gate.{Gate}
use Rattle.pg_circuit.specs.declared.node.Node.{Node}
use Rattle.pg_circuit.specs.declared.node.Node.TheVariants.{And, Xor}
use Rattle.pg_circuit.specs.Nodes.{has_node, IsCircuit}
use Rattle.pg_circuit.specs.Values.{differ, gate_value, values_of, IsThere}
use Rattle.pg_circuit.specs.Made.{constant_gate, and_simplified, xor_simplified, with_node, made, and_made, xor_made}
use Rattle.std.specs.Prelude.{if◌then◌else◌, IfOk, OnErr}
use Rattle.pg_circuit.specs.Grown.{GrowsTo}
use Rattle.pg_vec.specs.There.{AreThere, AreValues}
use Rattle.pg_vec.specs.Makes.{MakesGate}
use Rattle.pg_vec.specs.AddsNodes.{AddsNodes}
use Rattle.std.proofs.Math.Nat.{suc-mul}
use Rattle.std.proofs.lemmas.Nat.{mul-le}
use Rattle.pg_circuit.specs.declared.circuit.Circuit.{Circuit}
use Rattle.std.specs.declared.alloc.AllocError.{AllocError}
use Rattle.pg_circuit.proofs.MadeLemmas.{values_of-front, constant_value, and_made-there, and_made-inputs, and_made-value, xor_made-there, xor_made-inputs, xor_made-value}

-- ---- a circuit that grows

pub front_same : (nodes : List Node) → GrowsTo nodes nodes
front_same nodes = take_all (length nodes) nodes (omega arith)

pub front_length : (before after : List Node) → GrowsTo before after → length before ≤ length after
front_length before after h =
    let e : length (take (length before) after) ≡ length before = ap length h in
    omega (arith, length-take (length before) after)

pub front_then : (a b c : List Node) → GrowsTo a b → GrowsTo b c → GrowsTo a c
front_then a b c h k =
    let l : length a ≤ length b = front_length a b h in
    sym (take-take (length a) (length b) c l) ∙ ap (take (length a)) k ∙ h

pub there_later : (before after : List Node) (g : Gate) → GrowsTo before after → IsThere (length before) g → IsThere (length after) g
there_later before after g h t =
    let l : length before ≤ length after = front_length before after h in
    omega arith

pub all_there_later : (before after : List Node) (gs : List Gate) → GrowsTo before after → AreThere (length before) gs → AreThere (length after) gs
all_there_later before after gs h t =
    All-weaker (IsThere (length before)) (IsThere (length after)) (λ g k. there_later before after g h k) gs t

pub there_at : (before after : List Node) (gs : List Gate) (i : ℕ) → GrowsTo before after → AreThere (length before) gs → i < length gs → IsThere (length after) (get_or gs i (constant_gate false))
there_at before after gs i h t l = there_later before after (get_or gs i (constant_gate false)) h (All-get_or (IsThere (length before)) gs i (constant_gate false) l t)

-- ---- what is added

pub adds_none : (nodes : List Node) → AddsNodes nodes nodes 0
adds_none nodes = record { front = front_same nodes; few = omega arith; inputs = refl }

pub adds_then : (a b c : List Node) (m n : ℕ) → AddsNodes a b m → AddsNodes b c n → AddsNodes a c (m + n)
adds_then a b c m n h k = record { front = front_then a b c h.front k.front; few = let p = h.few in let q = k.few in omega arith; inputs = k.inputs ∙ h.inputs }

pub adds_more : (old new : List Node) (m n : ℕ) → AddsNodes old new m → m ≤ n → AddsNodes old new n
adds_more old new m n h l = record { front = h.front; few = let p = h.few in omega arith; inputs = h.inputs }

-- one more round
pub adds_next : (old nodes new : List Node) (count each : ℕ) → AddsNodes old nodes (count * each) → AddsNodes nodes new each → AddsNodes old new ((count + 1) * each)
adds_next old nodes new count each h k =
    let e : (count + 1) * each ≡ count * each + each = ap (λ n. n * each) (add-one count) ∙ suc-mul count each in
    subst (λ n. AddsNodes old new n) (sym e) (adds_then old nodes new (count * each) each h k)

-- all rounds
pub adds_rounds : (old new : List Node) (count all each : ℕ) → AddsNodes old new (count * each) → count ≤ all → AddsNodes old new (all * each)
adds_rounds old new count all each h l = adds_more old new (count * each) (all * each) h (mul-le count each all each l (omega arith))

-- a call that stops before it adds any
pub adds_any : (nodes : List Node) (most : ℕ) → AddsNodes nodes nodes most
adds_any nodes most = record { front = front_same nodes; few = omega arith; inputs = refl }

-- some rounds of all, and a part of one more
pub adds_stopped : (old nodes new : List Node) (count all each part : ℕ) → AddsNodes old nodes (count * each) → AddsNodes nodes new part → count < all → part ≤ each → AddsNodes old new (all * each)
adds_stopped old nodes new count all each part h k l p =
    adds_rounds old new (count + 1) all each (adds_next old nodes new count each h (adds_more nodes new part each k p)) (omega arith)

-- at most six rounds
pub adds_six : (old new : List Node) (count each : ℕ) → AddsNodes old new (count * each) → count ≤ 6 → AddsNodes old new (6 * each)
adds_six old new count each h l = adds_rounds old new count 6 each h l

-- ---- values

-- the values of a circuit are values of each that it grew from
pub values_later : (inputs : List Bool) (before after : List Node) → GrowsTo before after → AreValues inputs before (values_of inputs after)
values_later inputs before after h = record { begun = values_of-front inputs before after h }

pub values_earlier : (inputs values : List Bool) (before after : List Node) → GrowsTo before after → AreValues inputs after values → AreValues inputs before values
values_earlier inputs values before after h v =
    let l : length before ≤ length after = front_length before after h in
    record { begun = sym (take-take (length before) (length after) values l) ∙ ap (take (length before)) v.begun ∙ values_of-front inputs before after h }

-- a gate that is there has the value that it had
pub value-kept : (inputs values : List Bool) (nodes : List Node) (g : Gate) → AreValues inputs nodes values → IsThere (length nodes) g → gate_value values g ≡ gate_value (values_of inputs nodes) g
value-kept inputs values nodes g v t =
    let e : get_or values g.number false ≡ get_or (values_of inputs nodes) g.number false =
    sym (get_or-take (length nodes) values g.number false t) ∙ ap (λ (vs : List Bool). get_or vs g.number false) v.begun in
    ap (λ b. differ b g.negated) e

-- the constant is worth what it says
pub constant-value : (inputs values : List Bool) (nodes : List Node) (b : Bool) → IsCircuit nodes → AreValues inputs nodes values → gate_value values (constant_gate b) ≡ b
constant-value inputs values nodes b h v =
    value-kept inputs values nodes (constant_gate b) v h.begun ∙ constant_value inputs nodes b h

-- ---- the and and the exclusive or

one_more : (ns : List Node) (n : Node) → length (with_node ns n) ≤ length ns + 1
one_more ns n = by (has_node ns n)
  where
    by : (b : Bool) → length (if b then ns else ns ++ n ∷ []) ≤ length ns + 1
    by true = omega arith
    by false = omega (arith, length_push ns n)

made-few : (ns : List Node) (o : Option Gate) (n : Node) → length (made ns o n).1 ≤ length ns + 1
made-few ns None n = one_more ns n
made-few ns (Some g) n = omega arith

and-few : (ns : List Node) (x y : Gate) → length (and_made ns x y).1 ≤ length ns + 1
unfolding and_made
and-few ns x y = made-few ns (and_simplified x y) (And x y)

xor-few : (ns : List Node) (x y : Gate) → length (xor_made ns x y).1 ≤ length ns + 1
unfolding xor_made
xor-few ns x y = made-few ns (xor_simplified x y) (Xor x y)

pub and-makes : (nodes : List Node) (x y : Gate) → IsCircuit nodes → IsThere (length nodes) x → IsThere (length nodes) y → MakesGate nodes (and_made nodes x y) 1 (λ v. gate_value v x && gate_value v y)
and-makes nodes x y h tx ty =
    let m = and_made-there nodes h x y tx ty in
    record {
      circuit = m.circuit;
      adds = record { front = m.front; few = and-few nodes x y; inputs = and_made-inputs nodes h x y tx ty };
      there = m.there;
      value = λ inputs values v.
          let u = values_earlier inputs values nodes _ m.front v in
          value-kept inputs values _ (and_made nodes x y).0 v m.there
          ∙ and_made-value nodes h x y tx ty inputs
          ∙ ap (λ b. b && gate_value (values_of inputs nodes) y) (sym (value-kept inputs values nodes x u tx))
          ∙ ap (λ b. gate_value values x && b) (sym (value-kept inputs values nodes y u ty));
    }

pub xor-makes : (nodes : List Node) (x y : Gate) → IsCircuit nodes → IsThere (length nodes) x → IsThere (length nodes) y → MakesGate nodes (xor_made nodes x y) 1 (λ v. differ (gate_value v x) (gate_value v y))
xor-makes nodes x y h tx ty =
    let m = xor_made-there nodes h x y tx ty in
    record {
      circuit = m.circuit;
      adds = record { front = m.front; few = xor-few nodes x y; inputs = xor_made-inputs nodes h x y tx ty };
      there = m.there;
      value = λ inputs values v.
          let u = values_earlier inputs values nodes _ m.front v in
          value-kept inputs values _ (xor_made nodes x y).0 v m.there
          ∙ xor_made-value nodes h x y tx ty inputs
          ∙ ap (λ b. differ b (gate_value (values_of inputs nodes) y)) (sym (value-kept inputs values nodes x u tx))
          ∙ ap (λ b. differ (gate_value values x) b) (sym (value-kept inputs values nodes y u ty));
    }

-- ---- what the circuit's calls add

pub and_adds : (r : Result Gate AllocError) (old new : Circuit) (x y : Gate) → IsThere (length old.nodes) x → IsThere (length old.nodes) y →
    IfOk r (λ g. (g, new.nodes) ≡ and_made old.nodes x y) → OnErr r (new ≡ old) → AddsNodes old.nodes new.nodes 1
and_adds (Ok g) old new x y tx ty e f =
    let m = and-makes old.nodes x y old.circuit tx ty in
    subst (λ (k : Gate × List Node). AddsNodes old.nodes k.1 1) (sym e) m.adds
and_adds (Err e') old new x y tx ty e f = subst (λ (m : Circuit). AddsNodes old.nodes m.nodes 1) (sym f) (adds_more _ _ 0 1 (adds_none old.nodes) (omega arith))

pub xor_adds : (r : Result Gate AllocError) (old new : Circuit) (x y : Gate) → IsThere (length old.nodes) x → IsThere (length old.nodes) y →
    IfOk r (λ g. (g, new.nodes) ≡ xor_made old.nodes x y) → OnErr r (new ≡ old) → AddsNodes old.nodes new.nodes 1
xor_adds (Ok g) old new x y tx ty e f =
    let m = xor-makes old.nodes x y old.circuit tx ty in
    subst (λ (k : Gate × List Node). AddsNodes old.nodes k.1 1) (sym e) m.adds
xor_adds (Err e') old new x y tx ty e f = subst (λ (m : Circuit). AddsNodes old.nodes m.nodes 1) (sym f) (adds_more _ _ 0 1 (adds_none old.nodes) (omega arith))
