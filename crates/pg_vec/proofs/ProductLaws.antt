-- What products are worth.
use Rattle.std.proofs.Common.{◌≡◌, ℕ, ◌+◌, ◌*◌, ◌%◌, ◌^◌, ◌<◌, ◌≤◌, Bool, true, false, ◌&&◌, List, [], ◌∷◌, length, refl, sym, ap, ◌∙◌, arith, subst, zero-add}
use Rattle.std.proofs.Math.Nat.{mod-eq_of_lt, mod-add-mod, add-mod-mod, suc-mul}
use Rattle.std.proofs.lemmas.List.{length-replicate}
use Rattle.std.proofs.lemmas.List.Elements.{All-head, All-tail, All-cons}
use Rattle.std.proofs.lemmas.Nat.{mul-mod_first}
use Rattle.pg_circuit.specs.declared.node.Gate.{Gate}
use Rattle.pg_circuit.specs.declared.node.Node.{Node}
use Rattle.pg_circuit.specs.Nodes.{IsCircuit}
use Rattle.pg_circuit.specs.Values.{gate_value, IsThere}
use Rattle.pg_circuit.specs.Made.{constant_gate, and_made}
use Rattle.pg_word.specs.Bits.{product_of}
use Rattle.pg_vec.specs.Number.{bit_of, number}
use Rattle.pg_vec.specs.There.{AreThere}
use Rattle.pg_vec.specs.Strings.{zeros, moved_up, add_made, row_made, rows_made, mul_made}
use Rattle.pg_vec.specs.Makes.{MakesBits}
use Rattle.pg_vec.proofs.Kept.{front_same, front_then, there_later, all_there_later, values_earlier, constant-value, and-makes}
use Rattle.pg_vec.proofs.EachLaws.{number-below}
use Rattle.pg_vec.proofs.CompareLaws.{add-makes}
use Rattle.pg_vec.proofs.Strings.{number-zeros, length-moved_up, zeros-there, moved_up-there, number-moved_up}

row_none : (b : Bool) → 0 ≡ 0 * bit_of b
row_none b = omega arith

row_more : (x : ℕ) (a b : Bool) → x * bit_of b * 2 + bit_of (b && a) ≡ (x * 2 + bit_of a) * bit_of b
row_more x true true = omega arith
row_more x false true = omega arith
row_more x true false = omega arith
row_more x false false = omega arith

pub row-makes : (xs : List Gate) (nodes : List Node) (y : Gate) → IsCircuit nodes → IsThere (length nodes) y → AreThere (length nodes) xs →
    MakesBits nodes (row_made nodes y xs) (length xs) (length xs) (λ v. number v xs * bit_of (gate_value v y))
unfolding row_made
row-makes [] nodes y h ty txs = record {
  circuit = h;
  adds = record { front = front_same nodes; few = omega arith; inputs = refl };
  there = txs;
  wide = refl;
  value = λ inputs values v. row_none (gate_value values y);
}
row-makes (x ∷ xs) nodes y h ty txs =
    let a = and-makes nodes y x h ty (All-head (IsThere (length nodes)) x xs txs) in
    let bit = (and_made nodes y x).0 in
    let n = (and_made nodes y x).1 in
    let r = row-makes xs n y a.circuit (there_later nodes n y a.adds.front ty) (all_there_later nodes n xs a.adds.front (All-tail (IsThere (length nodes)) x xs txs)) in
    record {
      circuit = r.circuit;
      adds = record { front = front_then nodes n _ a.adds.front r.adds.front; few = let p = a.adds.few in let q = r.adds.few in omega arith; inputs = r.adds.inputs ∙ a.adds.inputs };
      there = All-cons (IsThere (length (row_made n y xs).1)) bit (row_made n y xs).0 (there_later n _ bit r.adds.front a.there) r.there;
      wide = let w = r.wide in omega arith;
      value = λ inputs values v.
          ap (λ k. k * 2 + bit_of (gate_value values bit)) (r.value inputs values v)
          ∙ ap (λ k. number values xs * bit_of (gate_value values y) * 2 + bit_of k) (a.value inputs values (values_earlier inputs values n _ r.adds.front v))
          ∙ row_more (number values xs) (gate_value values x) (gate_value values y);
    }

rows_none : (s x p : ℕ) → s < p → s ≡ (s + x * 0) % p
rows_none s x p h = sym (ap (λ k. k % p) (omega arith) ∙ mod-eq_of_lt h)

rows_more : (s x y b p : ℕ) → ((s + x * b) % p + x * 2 % p * y) % p ≡ (s + x * (y * 2 + b)) % p
rows_more s x y b p =
    mod-add-mod (s + x * b) p (x * 2 % p * y)
    ∙ sym (add-mod-mod (s + x * b) (x * 2 % p * y) p)
    ∙ ap (λ k. (s + x * b + k) % p) (mul-mod_first (x * 2) y p)
    ∙ add-mod-mod (s + x * b) (x * 2 * y) p
    ∙ ap (λ k. k % p) (grind arith)

pub rows-makes : (ys sum xs : List Gate) (nodes : List Node) → IsCircuit nodes → AreThere (length nodes) sum → AreThere (length nodes) xs → AreThere (length nodes) ys → length sum ≡ length xs →
    MakesBits nodes (rows_made nodes sum xs ys) (length xs) (length ys * (6 * length xs)) (λ v. (number v sum + number v xs * number v ys) % 2 ^ length xs)
unfolding rows_made
rows-makes [] sum xs nodes h ts txs tys e = record {
  circuit = h;
  adds = record { front = front_same nodes; few = omega arith; inputs = refl };
  there = ts;
  wide = e;
  value = λ inputs values v. rows_none (number values sum) (number values xs) (2 ^ length xs) (subst (λ n. number values sum < 2 ^ n) e (number-below values sum));
}
rows-makes (y ∷ ys) sum xs nodes h ts txs tys e =
    let a = row-makes xs nodes y h (All-head (IsThere (length nodes)) y ys tys) txs in
    let row = (row_made nodes y xs).0 in
    let n = (row_made nodes y xs).1 in
    let b = add-makes n sum row a.circuit (all_there_later nodes n sum a.adds.front ts) a.there (e ∙ sym a.wide) in
    let total = (add_made n sum row).0 in
    let k = (add_made n sum row).1 in
    let nk = front_then nodes n k a.adds.front b.adds.front in
    let wide : length (moved_up 1 xs) ≡ length xs = length-moved_up 1 xs in
    let r = rows-makes ys total (moved_up 1 xs) k b.circuit b.there (moved_up-there (length k) 1 xs b.circuit.begun (all_there_later nodes k xs nk txs))
    (all_there_later nodes k ys nk (All-tail (IsThere (length nodes)) y ys tys)) (b.wide ∙ e ∙ sym wide) in
    record {
      circuit = r.circuit;
      adds = record {
        front = front_then nodes k _ nk r.adds.front;
        few =
            let p = a.adds.few in
            let q : length k ≤ length n + 5 * length xs = subst (λ w. length k ≤ length n + 5 * w) e b.adds.few in
            let s : length (rows_made k total (moved_up 1 xs) ys).1 ≤ length k + length ys * (6 * length xs) =
            subst (λ w. length (rows_made k total (moved_up 1 xs) ys).1 ≤ length k + length ys * (6 * w)) wide r.adds.few in
            omega (arith, suc-mul (length ys) (6 * length xs));
        inputs = r.adds.inputs ∙ b.adds.inputs ∙ a.adds.inputs;
      };
      there = r.there;
      wide = r.wide ∙ wide;
      value = λ inputs values v.
          let u2 = values_earlier inputs values k _ r.adds.front v in
          let u1 = values_earlier inputs values n k b.adds.front u2 in
          let z = constant-value inputs values k false b.circuit u2 in
          let x = number values xs in
          let bit = bit_of (gate_value values y) in
          r.value inputs values v
          ∙ ap (λ w. (number values total + number values (moved_up 1 xs) * number values ys) % 2 ^ w) wide
          ∙ ap (λ q. (number values total + q * number values ys) % 2 ^ length xs) (number-moved_up values 1 xs z)
          ∙ ap (λ q. (q + x * 2 % 2 ^ length xs * number values ys) % 2 ^ length xs)
          (b.value inputs values u2
          ∙ ap (λ w. (number values sum + number values row) % 2 ^ w) e
          ∙ ap (λ q. (number values sum + q) % 2 ^ length xs) (a.value inputs values u1))
          ∙ rows_more (number values sum) x (number values ys) bit (2 ^ length xs);
    }

pub mul-makes : (nodes : List Node) (xs ys : List Gate) → IsCircuit nodes → AreThere (length nodes) xs → AreThere (length nodes) ys →
    MakesBits nodes (mul_made nodes xs ys) (length xs) (length ys * (6 * length xs)) (λ v. product_of (length xs) (number v xs) (number v ys))
unfolding mul_made
mul-makes nodes xs ys h txs tys =
    let r = rows-makes ys (zeros (length xs)) xs nodes h (zeros-there (length nodes) (length xs) h.begun) txs tys (length-replicate (length xs) (constant_gate false)) in
    record {
      circuit = r.circuit;
      adds = r.adds;
      there = r.there;
      wide = r.wide;
      value = λ inputs values v.
          r.value inputs values v
          ∙ ap (λ q. (q + number values xs * number values ys) % 2 ^ length xs) (number-zeros values (length xs) (constant-value inputs values _ false r.circuit v))
          ∙ ap (λ q. q % 2 ^ length xs) (zero-add (number values xs * number values ys));
    }
