-- What is made bit by bit is worth, and numbers of strings.
use Rattle.std.proofs.Common.{◌≡◌, ℕ, ◌+◌, ◌*◌, ◌^◌, ◌<◌, Bool, true, false, ◌&&◌, ◌||◌, cond, List, [], ◌∷◌, length, refl, sym, ap, ◌∙◌, arith, bit_and, bit_or, bit_xor}
use Rattle.std.proofs.Math.Nat.{suc-mul}
use Rattle.std.proofs.lemmas.List.Elements.{All-head, All-tail, All-cons, All-map}
use Rattle.pg_circuit.specs.declared.node.Gate.{Gate}
use Rattle.pg_circuit.specs.declared.node.Node.{Node}
use Rattle.pg_circuit.specs.Nodes.{IsCircuit}
use Rattle.pg_circuit.specs.Values.{differ, gate_value, values_of, IsThere}
use Rattle.pg_circuit.specs.Made.{not_gate, and_made, xor_made}
use Rattle.pg_vec.specs.Number.{bit_of, number}
use Rattle.pg_circuit.specs.Grown.{GrowsTo}
use Rattle.pg_vec.specs.There.{AreThere}
use Rattle.pg_vec.specs.Gates.{or_made, choice_made}
use Rattle.pg_vec.specs.Strings.{flipped, each_made, bits_and_made, bits_or_made, bits_xor_made, mux_made}
use Rattle.pg_vec.specs.Makes.{MakesGate, MakesBits}
use Rattle.pg_vec.proofs.Kept.{front_same, front_then, there_later, all_there_later, values_earlier, and-makes, xor-makes}
use Rattle.pg_vec.proofs.Sums.{bit_of-below, bit_of-not, pow-more, and-bit, or-bit, xor-bit}
use Rattle.pg_circuit.proofs.MadeLemmas.{gate_value-front, not_value}
use Rattle.pg_vec.proofs.GateLaws.{or-makes, choice-makes}

-- ---- numbers of strings

pub number-below : (values : List Bool) (gs : List Gate) → number values gs < 2 ^ length gs
number-below values [] = omega arith
number-below values (g ∷ gs) =
    let h = number-below values gs in
    let b = bit_of-below (gate_value values g) in
    omega (arith, pow-more (length gs))

-- a string that is there keeps its number
pub number-kept : (inputs : List Bool) (nodes later : List Node) (gs : List Gate) → GrowsTo nodes later → AreThere (length nodes) gs → number (values_of inputs later) gs ≡ number (values_of inputs nodes) gs
number-kept inputs nodes later [] f t = refl
number-kept inputs nodes later (g ∷ gs) f t =
    let e : gate_value (values_of inputs later) g ≡ gate_value (values_of inputs nodes) g = gate_value-front inputs nodes later g f (All-head (IsThere (length nodes)) g gs t) in
    let h = number-kept inputs nodes later gs f (All-tail (IsThere (length nodes)) g gs t) in
    ap (λ n. n * 2 + bit_of (gate_value (values_of inputs later) g)) h ∙ ap (λ b. number (values_of inputs nodes) gs * 2 + bit_of b) e

pub number-flipped : (values : List Bool) (gs : List Gate) → number values (flipped gs) + number values gs + 1 ≡ 2 ^ length gs
number-flipped values [] = refl
number-flipped values (g ∷ gs) =
    let h = number-flipped values gs in
    let b : bit_of (gate_value values (not_gate g)) + bit_of (gate_value values g) ≡ 1 =
    ap (λ k. bit_of k + bit_of (gate_value values g)) (not_value values g) ∙ bit_of-not (gate_value values g) in
    omega (arith, pow-more (length gs))

pub flipped-there : (places : ℕ) (gs : List Gate) → AreThere places gs → AreThere places (flipped gs)
flipped-there places gs h = All-map (IsThere places) not_gate gs h

-- ---- bit by bit

-- A function of two numbers that is made bit by bit, where a gate is made of each two bits; what the gates are made with is
-- there in `base`.
pub each-makes : (make : List Node → Gate → Gate → Gate × List Node) (base : List Node) (most : ℕ) (f : List Bool → Bool → Bool → Bool) (F : List Bool → ℕ → ℕ → ℕ) →
    ((n : List Node) (x y : Gate) → IsCircuit n → GrowsTo base n → IsThere (length n) x → IsThere (length n) y → MakesGate n (make n x y) most (λ v. f v (gate_value v x) (gate_value v y))) →
    ((v : List Bool) → F v 0 0 ≡ 0) →
    ((v : List Bool) (x y : ℕ) (a b : Bool) → F v (x * 2 + bit_of a) (y * 2 + bit_of b) ≡ F v x y * 2 + bit_of (f v a b)) →
    (xs ys : List Gate) (nodes : List Node) → IsCircuit nodes → GrowsTo base nodes → AreThere (length nodes) xs → AreThere (length nodes) ys → length xs ≡ length ys →
    MakesBits nodes (each_made make nodes xs ys) (length xs) (length xs * most) (λ v. F v (number v xs) (number v ys))
unfolding each_made
each-makes make base most f F law none more [] [] nodes h g txs tys e = record {
  circuit = h;
  adds = record { front = front_same nodes; few = omega arith; inputs = refl };
  there = txs;
  wide = refl;
  value = λ inputs values v. sym (none values);
}
each-makes make base most f F law none more [] (_ ∷ _) nodes h g txs tys e = absurd (omega arith)
each-makes make base most f F law none more (x ∷ xs) [] nodes h g txs tys e = absurd (omega arith)
each-makes make base most f F law none more (x ∷ xs) (y ∷ ys) nodes h g txs tys e =
    let a = law nodes x y h g (All-head (IsThere (length nodes)) x xs txs) (All-head (IsThere (length nodes)) y ys tys) in
    let bit = (make nodes x y).0 in
    let n = (make nodes x y).1 in
    let r = each-makes make base most f F law none more xs ys n a.circuit (front_then base nodes n g a.adds.front)
    (all_there_later nodes n xs a.adds.front (All-tail (IsThere (length nodes)) x xs txs)) (all_there_later nodes n ys a.adds.front (All-tail (IsThere (length nodes)) y ys tys)) (omega arith) in
    record {
      circuit = r.circuit;
      adds = record { front = front_then nodes n _ a.adds.front r.adds.front; few = let p = a.adds.few in let q = r.adds.few in omega (arith, suc-mul (length xs) most); inputs = r.adds.inputs ∙ a.adds.inputs };
      there = All-cons (IsThere (length (each_made make n xs ys).1)) bit (each_made make n xs ys).0 (there_later n _ bit r.adds.front a.there) r.there;
      wide = let w = r.wide in omega arith;
      value = λ inputs values v.
          let u = values_earlier inputs values n _ r.adds.front v in
          ap (λ k. k * 2 + bit_of (gate_value values bit)) (r.value inputs values v)
          ∙ ap (λ k. F values (number values xs) (number values ys) * 2 + bit_of k) (a.value inputs values u)
          ∙ sym (more values (number values xs) (number values ys) (gate_value values x) (gate_value values y));
    }

pub bits_and-makes : (nodes : List Node) (xs ys : List Gate) → IsCircuit nodes → AreThere (length nodes) xs → AreThere (length nodes) ys → length xs ≡ length ys →
    MakesBits nodes (bits_and_made nodes xs ys) (length xs) (length xs * 1) (λ v. bit_and (number v xs) (number v ys))
unfolding bits_and_made
bits_and-makes nodes xs ys h txs tys e =
    each-makes and_made nodes 1 (λ v a b. a && b) (λ v x y. bit_and x y) (λ n x y c g tx ty. and-makes n x y c tx ty) (λ v. refl) (λ v x y a b. and-bit x y a b)
    xs ys nodes h (front_same nodes) txs tys e

pub bits_or-makes : (nodes : List Node) (xs ys : List Gate) → IsCircuit nodes → AreThere (length nodes) xs → AreThere (length nodes) ys → length xs ≡ length ys →
    MakesBits nodes (bits_or_made nodes xs ys) (length xs) (length xs * 1) (λ v. bit_or (number v xs) (number v ys))
unfolding bits_or_made
bits_or-makes nodes xs ys h txs tys e =
    each-makes or_made nodes 1 (λ v a b. a || b) (λ v x y. bit_or x y) (λ n x y c g tx ty. or-makes n x y c tx ty) (λ v. refl) (λ v x y a b. or-bit x y a b)
    xs ys nodes h (front_same nodes) txs tys e

pub bits_xor-makes : (nodes : List Node) (xs ys : List Gate) → IsCircuit nodes → AreThere (length nodes) xs → AreThere (length nodes) ys → length xs ≡ length ys →
    MakesBits nodes (bits_xor_made nodes xs ys) (length xs) (length xs * 1) (λ v. bit_xor (number v xs) (number v ys))
unfolding bits_xor_made
bits_xor-makes nodes xs ys h txs tys e =
    each-makes xor_made nodes 1 (λ v a b. differ a b) (λ v x y. bit_xor x y) (λ n x y c g tx ty. xor-makes n x y c tx ty) (λ v. refl) (λ v x y a b. xor-bit x y a b)
    xs ys nodes h (front_same nodes) txs tys e

choice-none : (c : Bool) → let none : ℕ = 0 in cond c none none ≡ none
choice-none true = refl
choice-none false = refl

choice-bit : (c : Bool) (x y : ℕ) (a b : Bool) → cond c (x * 2 + bit_of a) (y * 2 + bit_of b) ≡ cond c x y * 2 + bit_of (cond c a b)
choice-bit true x y a b = refl
choice-bit false x y a b = refl

pub mux-makes : (nodes : List Node) (choice : Gate) (xs ys : List Gate) → IsCircuit nodes → IsThere (length nodes) choice → AreThere (length nodes) xs → AreThere (length nodes) ys → length xs ≡ length ys →
    MakesBits nodes (mux_made nodes choice xs ys) (length xs) (length xs * 3) (λ v. cond (gate_value v choice) (number v xs) (number v ys))
unfolding mux_made
mux-makes nodes choice xs ys h tc txs tys e =
    each-makes (choice_made choice) nodes 3 (λ v a b. cond (gate_value v choice) a b) (λ v x y. cond (gate_value v choice) x y)
    (λ n x y c g tx ty. choice-makes choice n x y c (there_later nodes n choice g tc) tx ty)
    (λ v. choice-none (gate_value v choice)) (λ v x y a b. choice-bit (gate_value v choice) x y a b)
    xs ys nodes h (front_same nodes) txs tys e
