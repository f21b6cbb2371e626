-- What sums of bit strings are worth.
use Rattle.std.proofs.Common.{◌≡◌, ℕ, ◌+◌, ◌*◌, ◌%◌, ◌^◌, Bool, true, false, ◌&&◌, ◌||◌, List, [], ◌∷◌, length, refl, sym, ap, ◌∙◌, arith, suc}
use Rattle.std.proofs.Math.Nat.{mod-one}
use Rattle.std.proofs.lemmas.List.Elements.{All-head, All-tail, All-cons}
use Rattle.pg_circuit.specs.declared.node.Gate.{Gate}
use Rattle.pg_circuit.specs.declared.node.Node.{Node}
use Rattle.pg_circuit.specs.Nodes.{IsCircuit}
use Rattle.pg_circuit.specs.Values.{differ, gate_value, IsThere}
use Rattle.pg_circuit.specs.Made.{xor_made}
use Rattle.pg_vec.specs.Number.{bit_of, number}
use Rattle.pg_vec.specs.There.{AreThere}
use Rattle.pg_vec.specs.Strings.{carry_into_made, sum_made}
use Rattle.pg_vec.specs.Makes.{MakesGate, MakesBits}
use Rattle.pg_vec.proofs.Kept.{front_same, front_then, there_later, all_there_later, values_earlier, xor-makes}
use Rattle.pg_vec.proofs.Sums.{carried, full_adder, sum-more, bit_of-below}
use Rattle.pg_vec.proofs.GateLaws.{carry-makes}

carried_is : (x y c : Bool) → (x && y) || (differ x y && c) ≡ carried x y c
carried_is true true c = refl
carried_is true false true = refl
carried_is true false false = refl
carried_is false true true = refl
carried_is false true false = refl
carried_is false false c = refl

-- the carry into what is left: where nothing is left, the carry that there was
abbrev pub carry_in : List Gate → Bool → Bool → Bool
carry_in [] was is = was
carry_in (_ ∷ _) was is = is

carry_into-makes : (xs : List Gate) (nodes : List Node) (x y half carry : Gate) → IsCircuit nodes → IsThere (length nodes) x → IsThere (length nodes) y → IsThere (length nodes) half → IsThere (length nodes) carry → MakesGate nodes (carry_into_made xs nodes x y half carry) 3 (λ v. carry_in xs (gate_value v carry) ((gate_value v x && gate_value v y) || (gate_value v half && gate_value v carry)))
unfolding carry_into_made
carry_into-makes [] nodes x y half carry h tx ty th tc = record {
  circuit = h;
  adds = record { front = front_same nodes; few = omega arith; inputs = refl };
  there = tc;
  value = λ inputs values v. refl;
}
carry_into-makes (_ ∷ _) nodes x y half carry h tx ty th tc = carry-makes nodes x y half carry h tx ty th tc

pub full_adder_of : (x y c half bit next : Bool) → half ≡ differ x y → bit ≡ differ half c → next ≡ (x && y) || (half && c) → bit_of bit + bit_of next * 2 ≡ bit_of x + bit_of y + bit_of c
full_adder_of x y c half bit next e f g =
    let b : bit ≡ differ (differ x y) c = f ∙ ap (λ k. differ k c) e in
    let d : next ≡ carried x y c = g ∙ ap (λ k. (x && y) || (k && c)) e ∙ carried_is x y c in
    ap (λ k. bit_of k + bit_of next * 2) b ∙ ap (λ k. bit_of (differ (differ x y) c) + bit_of k * 2) d ∙ full_adder x y c

sum-value : (xs ys : List Gate) (values : List Bool) (x y c half bit next : Bool) (s : ℕ) → length xs ≡ length ys →
    half ≡ differ x y → bit ≡ differ half c → next ≡ carry_in xs c ((x && y) || (half && c)) →
    s ≡ (number values xs + number values ys + bit_of next) % 2 ^ length xs →
    s * 2 + bit_of bit ≡ (number values xs * 2 + bit_of x + (number values ys * 2 + bit_of y) + bit_of c) % 2 ^ suc (length xs)
sum-value [] [] values x y c half bit next s l e f g r =
    ap (λ k. k * 2 + bit_of bit) (r ∙ mod-one _ ∙ sym (mod-one (0 + 0 + bit_of (carried x y c))))
    ∙ sum-more 0 0 0 (bit_of x) (bit_of y) (bit_of c) (bit_of (carried x y c)) (bit_of bit) (bit_of-below bit)
    (full_adder_of x y c half bit (carried x y c) e f (sym (ap (λ k. (x && y) || (k && c)) e ∙ carried_is x y c)))
sum-value [] (_ ∷ _) values x y c half bit next s l e f g r = absurd (omega arith)
sum-value (z ∷ zs) ys values x y c half bit next s l e f g r =
    ap (λ k. k * 2 + bit_of bit) r
    ∙ sum-more (suc (length zs)) (number values (z ∷ zs)) (number values ys) (bit_of x) (bit_of y) (bit_of c) (bit_of next) (bit_of bit) (bit_of-below bit)
    (full_adder_of x y c half bit next e f g)

pub sum-makes : (xs ys : List Gate) (nodes : List Node) (carry : Gate) → IsCircuit nodes → IsThere (length nodes) carry → AreThere (length nodes) xs → AreThere (length nodes) ys → length xs ≡ length ys → MakesBits nodes (sum_made nodes carry xs ys) (length xs) (5 * length xs) (λ v. (number v xs + number v ys + bit_of (gate_value v carry)) % 2 ^ length xs)
unfolding sum_made
sum-makes [] ys nodes carry h tc txs tys e = record {
  circuit = h;
  adds = record { front = front_same nodes; few = omega arith; inputs = refl };
  there = txs;
  wide = refl;
  value = λ inputs values v. sym (mod-one _);
}
sum-makes (x ∷ xs) [] nodes carry h tc txs tys e = absurd (omega arith)
sum-makes (x ∷ xs) (y ∷ ys) nodes carry h tc txs tys e =
    let tx = All-head (IsThere (length nodes)) x xs txs in
    let ty = All-head (IsThere (length nodes)) y ys tys in
    let a = xor-makes nodes x y h tx ty in
    let half = (xor_made nodes x y).0 in
    let n = (xor_made nodes x y).1 in
    let b = xor-makes n half carry a.circuit a.there (there_later nodes n carry a.adds.front tc) in
    let bit = (xor_made n half carry).0 in
    let m = (xor_made n half carry).1 in
    let nm = front_then nodes n m a.adds.front b.adds.front in
    let d = carry_into-makes xs m x y half carry b.circuit (there_later nodes m x nm tx) (there_later nodes m y nm ty) (there_later n m half b.adds.front a.there) (there_later nodes m carry nm tc) in
    let next = (carry_into_made xs m x y half carry).0 in
    let k = (carry_into_made xs m x y half carry).1 in
    let nk = front_then nodes m k nm d.adds.front in
    let r = sum-makes xs ys k next d.circuit d.there (all_there_later nodes k xs nk (All-tail (IsThere (length nodes)) x xs txs)) (all_there_later nodes k ys nk (All-tail (IsThere (length nodes)) y ys tys)) (omega arith) in
    let mk = front_then m k _ d.adds.front r.adds.front in
    record {
      circuit = r.circuit;
      adds = record { front = front_then nodes k _ nk r.adds.front; few = let p = a.adds.few in let q = b.adds.few in let s = d.adds.few in let t = r.adds.few in omega arith; inputs = r.adds.inputs ∙ d.adds.inputs ∙ b.adds.inputs ∙ a.adds.inputs };
      there = All-cons (IsThere (length (sum_made k next xs ys).1)) bit (sum_made k next xs ys).0 (there_later m _ bit mk b.there) r.there;
      wide = let w = r.wide in omega arith;
      value = λ inputs values v.
          let u3 = values_earlier inputs values k _ r.adds.front v in
          let u2 = values_earlier inputs values m k d.adds.front u3 in
          let u1 = values_earlier inputs values n m b.adds.front u2 in
          sum-value xs ys values (gate_value values x) (gate_value values y) (gate_value values carry) (gate_value values half) (gate_value values bit) (gate_value values next) _ (omega arith) (a.value inputs values u1) (b.value inputs values u2) (d.value inputs values u3) (r.value inputs values v);
    }
