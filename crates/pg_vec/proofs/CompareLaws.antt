-- What sums, differences and comparisons are worth.
use Rattle.std.proofs.Common.{◌≡◌, ◌+◌, ◌*◌, ◌%◌, ◌^◌, Bool, true, false, not, nat_lt, nat_eq, ◌&&◌, List, [], ◌∷◌, length, refl, sym, ap, ◌∙◌, arith, add-zero, zero-add}
use Rattle.std.proofs.lemmas.List.{length-map}
use Rattle.std.proofs.lemmas.List.Elements.{All-head, All-tail, All-cons, All-nil}
use Rattle.pg_circuit.specs.declared.node.Gate.{Gate}
use Rattle.pg_circuit.specs.declared.node.Node.{Node}
use Rattle.pg_circuit.specs.Nodes.{IsCircuit}
use Rattle.pg_circuit.specs.Values.{differ, gate_value, IsThere}
use Rattle.pg_circuit.specs.Made.{constant_gate, not_gate, and_made, xor_made}
use Rattle.pg_word.specs.Bits.{sum_of, difference_of, equal_bit, below_bit}
use Rattle.pg_vec.specs.Number.{bit_of, number}
use Rattle.pg_vec.specs.There.{AreThere}
use Rattle.pg_vec.specs.Gates.{carry_made}
use Rattle.pg_vec.specs.Strings.{flipped, add_made, sub_made, carry_out_made, lt_made, same_made, eq_made}
use Rattle.pg_vec.specs.Makes.{MakesGate, MakesBits}
use Rattle.pg_vec.proofs.Kept.{front_same, front_then, there_later, all_there_later, values_earlier, constant-value, and-makes, xor-makes}
use Rattle.pg_vec.proofs.Sums.{bit_of-below, bit_of-if, below-more, below-flipped, difference-flipped, same-bit}
use Rattle.pg_circuit.proofs.MadeLemmas.{not_value}
use Rattle.pg_vec.proofs.GateLaws.{carry-makes}
use Rattle.pg_vec.proofs.EachLaws.{number-flipped, flipped-there}
use Rattle.pg_vec.proofs.SumLaws.{full_adder_of, sum-makes}

pub add-makes : (nodes : List Node) (xs ys : List Gate) → IsCircuit nodes → AreThere (length nodes) xs → AreThere (length nodes) ys → length xs ≡ length ys →
    MakesBits nodes (add_made nodes xs ys) (length xs) (5 * length xs) (λ v. sum_of (length xs) (number v xs) (number v ys))
unfolding add_made
add-makes nodes xs ys h txs tys e =
    let r = sum-makes xs ys nodes (constant_gate false) h h.begun txs tys e in
    record {
      circuit = r.circuit;
      adds = r.adds;
      there = r.there;
      wide = r.wide;
      value = λ inputs values v.
          r.value inputs values v
          ∙ ap (λ k. (number values xs + number values ys + bit_of k) % 2 ^ length xs) (constant-value inputs values _ false r.circuit v)
          ∙ ap (λ k. k % 2 ^ length xs) (add-zero (number values xs + number values ys));
    }

pub sub-makes : (nodes : List Node) (xs ys : List Gate) → IsCircuit nodes → AreThere (length nodes) xs → AreThere (length nodes) ys → length xs ≡ length ys →
    MakesBits nodes (sub_made nodes xs ys) (length xs) (5 * length xs) (λ v. difference_of (length xs) (number v xs) (number v ys))
unfolding sub_made
sub-makes nodes xs ys h txs tys e =
    let r = sum-makes xs (flipped ys) nodes (constant_gate true) h h.begun txs (flipped-there (length nodes) ys tys) (e ∙ sym (length-map ys not_gate)) in
    record {
      circuit = r.circuit;
      adds = r.adds;
      there = r.there;
      wide = r.wide;
      value = λ inputs values v.
          r.value inputs values v
          ∙ ap (λ k. (number values xs + number values (flipped ys) + bit_of k) % 2 ^ length xs) (constant-value inputs values _ true r.circuit v)
          ∙ difference-flipped (number values xs) (number values ys) (number values (flipped ys)) (2 ^ length xs) (number-flipped values ys ∙ ap (λ k. 2 ^ k) (sym e));
    }

-- ---- tests

carry_alone : (c : Bool) → c ≡ not (nat_lt (0 + 0 + bit_of c) 1)
carry_alone true = refl
carry_alone false = refl

not-not : (b : Bool) → not (not b) ≡ b
not-not true = refl
not-not false = refl

and-true : (b : Bool) → b && true ≡ b
and-true true = refl
and-true false = refl

and-assoc : (a b c : Bool) → (a && b) && c ≡ a && (b && c)
and-assoc true b c = refl
and-assoc false b c = refl

-- ---- below

pub carry_out-makes : (xs ys : List Gate) (nodes : List Node) (carry : Gate) → IsCircuit nodes → IsThere (length nodes) carry → AreThere (length nodes) xs → AreThere (length nodes) ys → length xs ≡ length ys →
    MakesGate nodes (carry_out_made nodes carry xs ys) (4 * length xs) (λ v. not (nat_lt (number v xs + number v ys + bit_of (gate_value v carry)) (2 ^ length xs)))
unfolding carry_out_made
carry_out-makes [] [] nodes carry h tc txs tys e = record {
  circuit = h;
  adds = record { front = front_same nodes; few = omega arith; inputs = refl };
  there = tc;
  value = λ inputs values v. carry_alone (gate_value values carry);
}
carry_out-makes [] (_ ∷ _) nodes carry h tc txs tys e = absurd (omega arith)
carry_out-makes (x ∷ xs) [] nodes carry h tc txs tys e = absurd (omega arith)
carry_out-makes (x ∷ xs) (y ∷ ys) nodes carry h tc txs tys e =
    let tx = All-head (IsThere (length nodes)) x xs txs in
    let ty = All-head (IsThere (length nodes)) y ys tys in
    let a = xor-makes nodes x y h tx ty in
    let half = (xor_made nodes x y).0 in
    let n = (xor_made nodes x y).1 in
    let d = carry-makes n x y half carry a.circuit (there_later nodes n x a.adds.front tx) (there_later nodes n y a.adds.front ty) a.there (there_later nodes n carry a.adds.front tc) in
    let next = (carry_made n x y half carry).0 in
    let k = (carry_made n x y half carry).1 in
    let nk = front_then nodes n k a.adds.front d.adds.front in
    let r = carry_out-makes xs ys k next d.circuit d.there (all_there_later nodes k xs nk (All-tail (IsThere (length nodes)) x xs txs)) (all_there_later nodes k ys nk (All-tail (IsThere (length nodes)) y ys tys)) (omega arith) in
    record {
      circuit = r.circuit;
      adds = record { front = front_then nodes k _ nk r.adds.front; few = let p = a.adds.few in let q = d.adds.few in let t = r.adds.few in omega arith; inputs = r.adds.inputs ∙ d.adds.inputs ∙ a.adds.inputs };
      there = r.there;
      value = λ inputs values v.
          let u2 = values_earlier inputs values k _ r.adds.front v in
          let u1 = values_earlier inputs values n k d.adds.front u2 in
          let bx = gate_value values x in
          let by = gate_value values y in
          let c = gate_value values carry in
          let bit = differ (gate_value values half) c in
          r.value inputs values v
          ∙ ap not (below-more (length xs) (number values xs) (number values ys) (bit_of bx) (bit_of by) (bit_of c) (bit_of (gate_value values next)) (bit_of bit) (bit_of-below bit)
          (full_adder_of bx by c (gate_value values half) bit (gate_value values next) (a.value inputs values u1) refl (d.value inputs values u2)));
    }

pub lt-makes : (nodes : List Node) (xs ys : List Gate) → IsCircuit nodes → AreThere (length nodes) xs → AreThere (length nodes) ys → length xs ≡ length ys →
    MakesBits nodes (lt_made nodes xs ys) 1 (4 * length xs) (λ v. below_bit (number v xs) (number v ys))
unfolding lt_made
lt-makes nodes xs ys h txs tys e =
    let r = carry_out-makes xs (flipped ys) nodes (constant_gate true) h h.begun txs (flipped-there (length nodes) ys tys) (e ∙ sym (length-map ys not_gate)) in
    let carry = (carry_out_made nodes (constant_gate true) xs (flipped ys)).0 in
    let n = (carry_out_made nodes (constant_gate true) xs (flipped ys)).1 in
    record {
      circuit = r.circuit;
      adds = r.adds;
      there = All-cons (IsThere (length n)) (not_gate carry) [] r.there (All-nil (IsThere (length n)));
      wide = refl;
      value = λ inputs values v.
          let x = number values xs in
          let y = number values ys in
          let f = number values (flipped ys) in
          let out : gate_value values (not_gate carry) ≡ nat_lt x y =
          not_value values carry
          ∙ ap not (r.value inputs values v)
          ∙ not-not (nat_lt (x + f + bit_of (gate_value values (constant_gate true))) (2 ^ length xs))
          ∙ ap (λ k. nat_lt (x + f + bit_of k) (2 ^ length xs)) (constant-value inputs values n true r.circuit v)
          ∙ below-flipped x y f (2 ^ length xs) (number-flipped values ys ∙ ap (λ k. 2 ^ k) (sym e)) in
          zero-add _ ∙ ap bit_of out ∙ bit_of-if (nat_lt x y);
    }

-- ---- equal

pub same-makes : (xs ys : List Gate) (nodes : List Node) (so_far : Gate) → IsCircuit nodes → IsThere (length nodes) so_far → AreThere (length nodes) xs → AreThere (length nodes) ys → length xs ≡ length ys →
    MakesGate nodes (same_made nodes so_far xs ys) (2 * length xs) (λ v. gate_value v so_far && nat_eq (number v xs) (number v ys))
unfolding same_made
same-makes [] [] nodes so_far h ts txs tys e = record {
  circuit = h;
  adds = record { front = front_same nodes; few = omega arith; inputs = refl };
  there = ts;
  value = λ inputs values v. sym (and-true (gate_value values so_far));
}
same-makes [] (_ ∷ _) nodes so_far h ts txs tys e = absurd (omega arith)
same-makes (x ∷ xs) [] nodes so_far h ts txs tys e = absurd (omega arith)
same-makes (x ∷ xs) (y ∷ ys) nodes so_far h ts txs tys e =
    let tx = All-head (IsThere (length nodes)) x xs txs in
    let ty = All-head (IsThere (length nodes)) y ys tys in
    let a = xor-makes nodes x y h tx ty in
    let apart = (xor_made nodes x y).0 in
    let n = (xor_made nodes x y).1 in
    let d = and-makes n so_far (not_gate apart) a.circuit (there_later nodes n so_far a.adds.front ts) a.there in
    let same = (and_made n so_far (not_gate apart)).0 in
    let k = (and_made n so_far (not_gate apart)).1 in
    let nk = front_then nodes n k a.adds.front d.adds.front in
    let r = same-makes xs ys k same d.circuit d.there (all_there_later nodes k xs nk (All-tail (IsThere (length nodes)) x xs txs)) (all_there_later nodes k ys nk (All-tail (IsThere (length nodes)) y ys tys)) (omega arith) in
    record {
      circuit = r.circuit;
      adds = record { front = front_then nodes k _ nk r.adds.front; few = let p = a.adds.few in let q = d.adds.few in let t = r.adds.few in omega arith; inputs = r.adds.inputs ∙ d.adds.inputs ∙ a.adds.inputs };
      there = r.there;
      value = λ inputs values v.
          let u2 = values_earlier inputs values k _ r.adds.front v in
          let u1 = values_earlier inputs values n k d.adds.front u2 in
          let b = gate_value values so_far in
          let rest = nat_eq (number values xs) (number values ys) in
          r.value inputs values v
          ∙ ap (λ q. q && rest) (d.value inputs values u2 ∙ ap (λ q. b && q) (not_value values apart ∙ ap not (a.value inputs values u1)))
          ∙ and-assoc b (not (differ (gate_value values x) (gate_value values y))) rest
          ∙ ap (λ q. b && q) (same-bit (number values xs) (number values ys) (gate_value values x) (gate_value values y));
    }

pub eq-makes : (nodes : List Node) (xs ys : List Gate) → IsCircuit nodes → AreThere (length nodes) xs → AreThere (length nodes) ys → length xs ≡ length ys →
    MakesBits nodes (eq_made nodes xs ys) 1 (2 * length xs) (λ v. equal_bit (number v xs) (number v ys))
unfolding eq_made
eq-makes nodes xs ys h txs tys e =
    let r = same-makes xs ys nodes (constant_gate true) h h.begun txs tys e in
    let same = (same_made nodes (constant_gate true) xs ys).0 in
    let n = (same_made nodes (constant_gate true) xs ys).1 in
    record {
      circuit = r.circuit;
      adds = r.adds;
      there = All-cons (IsThere (length n)) same [] r.there (All-nil (IsThere (length n)));
      wide = refl;
      value = λ inputs values v.
          zero-add _
          ∙ ap bit_of (r.value inputs values v ∙ ap (λ q. q && nat_eq (number values xs) (number values ys)) (constant-value inputs values n true r.circuit v))
          ∙ bit_of-if (nat_eq (number values xs) (number values ys));
    }
