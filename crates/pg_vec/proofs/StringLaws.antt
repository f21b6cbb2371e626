-- What strings that need no node are worth.
use Rattle.std.proofs.Common.{◌≡◌, ℕ, zero, ◌+◌, ◌-◌, ◌*◌, ◌/◌, ◌%◌, ◌^◌, ◌<◌, ◌≤◌, Bool, true, false, List, [], ◌∷◌, length, drop, replicate, refl, sym, ap, ◌∙◌, arith, suc, add-one, zero-add, length-append, length-drop}
use Rattle.std.specs.Prelude.{if◌then◌else◌}
use Rattle.std.proofs.Math.Nat.{zero-mul, one-mul, suc-mul}
use Rattle.std.proofs.lemmas.Bool.{lt-ltb, le-ltb}
use Rattle.std.proofs.lemmas.List.{length-take, length-replicate, length-map, drop_more, drop_all}
use Rattle.std.proofs.lemmas.List.Elements.{All-take, All-drop, All-append, All-replicate, All-get_or}
use Rattle.std.proofs.lemmas.Nat.{pow-add, pow_pos, mod_below, div-add-mod'}
use Rattle.pg_circuit.specs.declared.node.Gate.{Gate}
use Rattle.pg_circuit.specs.declared.node.Node.{Node}
use Rattle.pg_circuit.specs.Nodes.{IsCircuit}
use Rattle.pg_circuit.specs.Values.{gate_value, IsThere}
use Rattle.pg_circuit.specs.Made.{constant_gate, not_gate}
use Rattle.pg_word.specs.Bits.{complement_of, bits_between, joined, sign_extended}
use Rattle.pg_vec.specs.Number.{bit_of, number}
use Rattle.pg_vec.specs.There.{AreThere}
use Rattle.pg_vec.specs.Strings.{zeros, flipped, joined_bits, cut_bits, widened, top_of, sign_widened}
use Rattle.pg_vec.specs.Makes.{MakesBits}
use Rattle.pg_vec.proofs.Kept.{front_same, constant-value}
use Rattle.pg_vec.proofs.Sums.{pow-more}
use Rattle.pg_vec.proofs.EachLaws.{number-flipped, flipped-there}
use Rattle.pg_vec.proofs.Strings.{number-append, number-zeros, number-take, number-drop, zeros-there}

pub not-makes : (nodes : List Node) (xs : List Gate) → IsCircuit nodes → AreThere (length nodes) xs →
    MakesBits nodes (flipped xs, nodes) (length xs) 0 (λ v. complement_of (length xs) (number v xs))
not-makes nodes xs h txs = record {
  circuit = h;
  adds = record { front = front_same nodes; few = omega arith; inputs = refl };
  there = flipped-there (length nodes) xs txs;
  wide = length-map xs not_gate;
  value = λ inputs values v. omega (arith, number-flipped values xs);
}

pub cat-makes : (nodes : List Node) (xs ys : List Gate) → IsCircuit nodes → AreThere (length nodes) xs → AreThere (length nodes) ys →
    MakesBits nodes (joined_bits xs ys, nodes) (length xs + length ys) 0 (λ v. joined (number v xs) (length ys) (number v ys))
cat-makes nodes xs ys h txs tys = record {
  circuit = h;
  adds = record { front = front_same nodes; few = omega arith; inputs = refl };
  there = All-append (IsThere (length nodes)) ys xs tys txs;
  wide = omega (arith, length-append ys xs);
  value = λ inputs values v. number-append values ys xs;
}

pub cut-makes : (nodes : List Node) (xs : List Gate) (h k : ℕ) → IsCircuit nodes → AreThere (length nodes) xs → k ≤ h → h < length xs →
    MakesBits nodes (cut_bits xs h k, nodes) (h - k + 1) 0 (λ v. bits_between (number v xs) h k)
cut-makes nodes xs h k c txs order within = record {
  circuit = c;
  adds = record { front = front_same nodes; few = omega arith; inputs = refl };
  there = All-take (IsThere (length nodes)) (h - k + 1) (drop k xs) (All-drop (IsThere (length nodes)) k xs txs);
  wide = omega (arith, length-take (h - k + 1) (drop k xs), length-drop k xs);
  value = λ inputs values v. number-take values (h - k + 1) (drop k xs) ∙ ap (λ n. n % 2 ^ (h - k + 1)) (number-drop values k xs);
}

pub ext-makes : (nodes : List Node) (xs : List Gate) (to : ℕ) → IsCircuit nodes → AreThere (length nodes) xs → length xs ≤ to →
    MakesBits nodes (widened xs to, nodes) to 0 (λ v. number v xs)
ext-makes nodes xs to h txs wider = record {
  circuit = h;
  adds = record { front = front_same nodes; few = omega arith; inputs = refl };
  there = All-append (IsThere (length nodes)) xs (zeros (to - length xs)) txs (zeros-there (length nodes) (to - length xs) h.begun);
  wide = omega (arith, length-append xs (zeros (to - length xs)), length-replicate (to - length xs) (constant_gate false));
  value = λ inputs values v.
      number-append values xs (zeros (to - length xs))
      ∙ ap (λ n. n * 2 ^ length xs + number values xs) (number-zeros values (to - length xs) (constant-value inputs values nodes false h v))
      ∙ ap (λ n. n + number values xs) (zero-mul (2 ^ length xs))
      ∙ zero-add (number values xs);
}

-- ---- copies of the top bit

number-copies_false : (values : List Bool) (g : Gate) (k : ℕ) → gate_value values g ≡ false → number values (replicate k g) ≡ 0
number-copies_false values g zero e = refl
number-copies_false values g (suc k) e = ap (λ n. n * 2 + bit_of (gate_value values g)) (number-copies_false values g k e) ∙ ap (λ b. 0 * 2 + bit_of b) e

number-copies_true : (values : List Bool) (g : Gate) (k : ℕ) → gate_value values g ≡ true → number values (replicate k g) + 1 ≡ 2 ^ k
number-copies_true values g zero e = refl
number-copies_true values g (suc k) e =
    let h = number-copies_true values g k e in
    let b : bit_of (gate_value values g) ≡ 1 = ap bit_of e in
    omega (arith, pow-more k)

-- the top bit is the number's high half
top-value : (values : List Bool) (xs : List Gate) → 1 ≤ length xs → number values xs / 2 ^ (length xs - 1) ≡ bit_of (gate_value values (top_of xs))
top-value values xs h =
    let last : drop (length xs - 1) xs ≡ top_of xs ∷ [] =
    drop_more xs (length xs - 1) (constant_gate false) (omega arith) ∙ ap (λ zs. top_of xs ∷ zs) (drop_all (length xs - 1 + 1) xs (omega arith)) in
    sym (number-drop values (length xs - 1) xs) ∙ ap (number values) last ∙ zero-add (bit_of (gate_value values (top_of xs)))

low_half : (x p : ℕ) → 0 < p → x / p ≡ 0 → x < p
low_half x p h e = omega (arith, div-add-mod' x p, mod_below x p h, ap (λ k. k * p) e, zero-mul p)

high_half : (x p : ℕ) → x / p ≡ 1 → p ≤ x
high_half x p e = omega (arith, div-add-mod' x p, ap (λ k. k * p) e, one-mul p)

copies_above : (c x m p q : ℕ) → c + 1 ≡ m → q ≡ m * p → c * p + x ≡ x + (q - p)
copies_above c x m p q e f =
    let g : c * p + p ≡ q = sym (suc-mul c p) ∙ ap (λ k. k * p) (sym (add-one c) ∙ e) ∙ sym f in
    omega arith

sign_by : (values : List Bool) (xs : List Gate) (to : ℕ) (b : Bool) → 1 ≤ length xs → length xs ≤ to → gate_value values (top_of xs) ≡ b →
    number values (sign_widened xs to) ≡ sign_extended (number values xs) (length xs) to
sign_by values xs to false least wider e =
    let x = number values xs in
    let n = length xs in
    let low : x / 2 ^ (n - 1) ≡ 0 = top-value values xs least ∙ ap bit_of e in
    let below : x < 2 ^ (n - 1) = low_half x (2 ^ (n - 1)) (pow_pos (n - 1)) low in
    number-append values xs (replicate (to - n) (top_of xs))
    ∙ ap (λ k. k * 2 ^ n + x) (number-copies_false values (top_of xs) (to - n) e)
    ∙ ap (λ k. k + x) (zero-mul (2 ^ n))
    ∙ zero-add x
    ∙ sym (ap (λ t. (if t then x else x + (2 ^ to - 2 ^ n))) (lt-ltb x (2 ^ (n - 1)) below))
sign_by values xs to true least wider e =
    let x = number values xs in
    let n = length xs in
    let high : x / 2 ^ (n - 1) ≡ 1 = top-value values xs least ∙ ap bit_of e in
    let above : 2 ^ (n - 1) ≤ x = high_half x (2 ^ (n - 1)) high in
    let copies = number values (replicate (to - n) (top_of xs)) in
    let ones : copies + 1 ≡ 2 ^ (to - n) = number-copies_true values (top_of xs) (to - n) e in
    let parts : to ≡ to - n + n = omega arith in
    let whole : 2 ^ to ≡ 2 ^ (to - n) * 2 ^ n = ap (λ k. 2 ^ k) parts ∙ pow-add 2 (to - n) n in
    number-append values xs (replicate (to - n) (top_of xs))
    ∙ copies_above copies x (2 ^ (to - n)) (2 ^ n) (2 ^ to) ones whole
    ∙ sym (ap (λ t. (if t then x else x + (2 ^ to - 2 ^ n))) (le-ltb x (2 ^ (n - 1)) above))

pub sext-makes : (nodes : List Node) (xs : List Gate) (to : ℕ) → IsCircuit nodes → AreThere (length nodes) xs → 1 ≤ length xs → length xs ≤ to →
    MakesBits nodes (sign_widened xs to, nodes) to 0 (λ v. sign_extended (number v xs) (length xs) to)
sext-makes nodes xs to h txs least wider = record {
  circuit = h;
  adds = record { front = front_same nodes; few = omega arith; inputs = refl };
  there = All-append (IsThere (length nodes)) xs (replicate (to - length xs) (top_of xs)) txs
      (All-replicate (IsThere (length nodes)) (to - length xs) (top_of xs) (All-get_or (IsThere (length nodes)) xs (length xs - 1) (constant_gate false) (omega arith) txs));
  wide = omega (arith, length-append xs (replicate (to - length xs) (top_of xs)), length-replicate (to - length xs) (top_of xs));
  value = λ inputs values v. sign_by values xs to (gate_value values (top_of xs)) least wider refl;
}
