-- What shifts are worth.
use Rattle.std.proofs.Common.{◌≡◌, ℕ, ◌+◌, ◌-◌, ◌*◌, ◌/◌, ◌%◌, ◌^◌, ◌<◌, ◌≤◌, Bool, true, false, cond, nat_lt, ◌||◌, List, [], ◌∷◌, length, take, drop, refl, sym, ap, ◌∙◌, arith, subst, inl, inr, length-drop}
use Rattle.std.specs.Prelude.{if◌then◌else◌}
use Rattle.std.proofs.Math.Nat.{mod-eq_of_lt, mul-one, mul-zero, mul_assoc, suc-mul, mul-mod_left, div-eq_of_lt, div-one, mul-le-mul_right}
use Rattle.std.proofs.Math.Pow.{pow_mono}
use Rattle.std.proofs.lemmas.Bool.{cases_lt, lt-ltb, le-ltb}
use Rattle.std.proofs.lemmas.Bool.Decides.{nat_tests}
use Rattle.std.proofs.lemmas.List.{length-take, length-replicate}
use Rattle.std.proofs.lemmas.List.Elements.{All-head, All-tail, All-take, All-drop}
use Rattle.std.proofs.lemmas.Nat.{mul-mod_first, pow-add, shr-shr, shr_split}
use Rattle.pg_circuit.specs.declared.node.Gate.{Gate}
use Rattle.pg_circuit.specs.declared.node.Node.{Node}
use Rattle.pg_circuit.specs.Nodes.{IsCircuit}
use Rattle.pg_circuit.specs.Values.{gate_value, IsThere}
use Rattle.pg_circuit.specs.Made.{constant_gate}
use Rattle.pg_word.specs.Bits.{left_shifted, right_shifted}
use Rattle.pg_vec.specs.Number.{bit_of, number}
use Rattle.pg_vec.specs.There.{AreThere}
use Rattle.pg_vec.specs.Gates.{or_made}
use Rattle.pg_vec.specs.Strings.{zeros, moved_up, moved_down, mux_made, any_made, stages_made, shift_made, shl_made, shr_made}
use Rattle.pg_vec.specs.Makes.{MakesGate, MakesBits}
use Rattle.pg_vec.proofs.Kept.{front_same, front_then, all_there_later, values_earlier, constant-value}
use Rattle.pg_vec.proofs.GateLaws.{or-makes}
use Rattle.pg_vec.proofs.EachLaws.{number-below, mux-makes}
use Rattle.pg_vec.proofs.Strings.{number-zeros, number-take, number-drop, length-moved_up, length-moved_down, zeros-there, moved_up-there, moved_down-there, number-moved_up, number-moved_down}

-- ---- any of the bits

none_more : (s : Bool) → s || nat_lt 0 0 ≡ s
none_more true = refl
none_more false = refl

any_more : (s b : Bool) (y : ℕ) → (s || b) || nat_lt 0 y ≡ s || nat_lt 0 (y * 2 + bit_of b)
any_more true b y = refl
any_more false true y = grind (arith, nat_tests)
any_more false false y = grind (arith, nat_tests)

pub any-makes : (ys : List Gate) (nodes : List Node) (so_far : Gate) → IsCircuit nodes → IsThere (length nodes) so_far → AreThere (length nodes) ys →
    MakesGate nodes (any_made nodes so_far ys) (length ys) (λ v. gate_value v so_far || nat_lt 0 (number v ys))
unfolding any_made
any-makes [] nodes so_far h ts tys = record {
  circuit = h;
  adds = record { front = front_same nodes; few = omega arith; inputs = refl };
  there = ts;
  value = λ inputs values v. sym (none_more (gate_value values so_far));
}
any-makes (y ∷ ys) nodes so_far h ts tys =
    let a = or-makes nodes so_far y h ts (All-head (IsThere (length nodes)) y ys tys) in
    let any = (or_made nodes so_far y).0 in
    let n = (or_made nodes so_far y).1 in
    let r = any-makes ys n any a.circuit a.there (all_there_later nodes n ys a.adds.front (All-tail (IsThere (length nodes)) y ys tys)) in
    record {
      circuit = r.circuit;
      adds = record { front = front_then nodes n _ a.adds.front r.adds.front; few = let p = a.adds.few in let q = r.adds.few in omega arith; inputs = r.adds.inputs ∙ a.adds.inputs };
      there = r.there;
      value = λ inputs values v.
          r.value inputs values v
          ∙ ap (λ q. q || nat_lt 0 (number values ys)) (a.value inputs values (values_earlier inputs values n _ r.adds.front v))
          ∙ any_more (gate_value values so_far) (gate_value values y) (number values ys);
    }

-- ---- moves

-- what a move does to a number of n bits, and to a string
pub record IsMove (move : ℕ → List Gate → List Gate) (result : ℕ → ℕ → ℕ → ℕ) : Type 0 where
  pub wide : (k : ℕ) (xs : List Gate) → length (move k xs) ≡ length xs
  pub there : (places k : ℕ) (xs : List Gate) → 0 < places → AreThere places xs → AreThere places (move k xs)
  pub value : (values : List Bool) (k : ℕ) (xs : List Gate) → gate_value values (constant_gate false) ≡ false → number values (move k xs) ≡ result (length xs) (number values xs) k
  pub none : (n x : ℕ) → x < 2 ^ n → result n x 0 ≡ x
  pub twice : (n x j k : ℕ) → result n (result n x j) k ≡ result n x (j + k)
  pub far : (n x k : ℕ) → x < 2 ^ n → n ≤ k → result n x k ≡ 0

abbrev pub up : ℕ → ℕ → ℕ → ℕ
up n x k = x * 2 ^ k % 2 ^ n

abbrev pub down : ℕ → ℕ → ℕ → ℕ
down n x k = x / 2 ^ k

pow_split : (n k : ℕ) → n ≤ k → 2 ^ k ≡ 2 ^ (k - n) * 2 ^ n
pow_split n k h = let e : k ≡ k - n + n = omega arith in ap (λ i. 2 ^ i) e ∙ pow-add 2 (k - n) n

pub up-is_move : IsMove moved_up up
up-is_move = record {
  wide = length-moved_up;
  there = moved_up-there;
  value = number-moved_up;
  none = λ n x h. ap (λ k. k % 2 ^ n) (mul-one x) ∙ mod-eq_of_lt h;
  twice = λ n x j k.
      mul-mod_first (x * 2 ^ j) (2 ^ k) (2 ^ n)
      ∙ ap (λ y. y % 2 ^ n) (mul_assoc x (2 ^ j) (2 ^ k) ∙ ap (λ y. x * y) (sym (pow-add 2 j k)));
  far = λ n x k h l.
      ap (λ y. x * y % 2 ^ n) (pow_split n k l) ∙ ap (λ y. y % 2 ^ n) (sym (mul_assoc x (2 ^ (k - n)) (2 ^ n))) ∙ mul-mod_left (x * 2 ^ (k - n)) (2 ^ n);
}

below_pow : (n x k : ℕ) → x < 2 ^ n → n ≤ k → x < 2 ^ k
below_pow n x k h l = omega (arith, pow_mono l)

pub down-is_move : IsMove moved_down down
down-is_move = record {
  wide = length-moved_down;
  there = moved_down-there;
  value = number-moved_down;
  none = λ n x h. div-one x;
  twice = λ n x j k. shr-shr x j k;
  far = λ n x k h l. div-eq_of_lt (below_pow n x k h l);
}

-- ---- stages

stage : (move : ℕ → List Gate → List Gate) (result : ℕ → ℕ → ℕ → ℕ) → IsMove move result → (n x step y : ℕ) (b : Bool) → x < 2 ^ n →
    result n (cond b (result n x step) x) (step * 2 * y) ≡ result n x (step * (y * 2 + bit_of b))
stage move result m n x step y true h = m.twice n x step (step * 2 * y) ∙ ap (λ k. result n x k) (grind arith)
stage move result m n x step y false h = ap (λ k. result n x k) (grind arith)

pub stages-makes : (move : ℕ → List Gate → List Gate) (result : ℕ → ℕ → ℕ → ℕ) → IsMove move result → (ys xs : List Gate) (nodes : List Node) (step : ℕ) →
    IsCircuit nodes → AreThere (length nodes) xs → AreThere (length nodes) ys →
    MakesBits nodes (stages_made move nodes step xs ys) (length xs) (length ys * (length xs * 3)) (λ v. result (length xs) (number v xs) (step * number v ys))
unfolding stages_made
stages-makes move result m [] xs nodes step h txs tys = record {
  circuit = h;
  adds = record { front = front_same nodes; few = omega arith; inputs = refl };
  there = txs;
  wide = refl;
  value = λ inputs values v. sym (ap (λ k. result (length xs) (number values xs) k) (mul-zero step) ∙ m.none (length xs) (number values xs) (number-below values xs));
}
stages-makes move result m (y ∷ ys) xs nodes step h txs tys =
    let a = mux-makes nodes y (move step xs) xs h (All-head (IsThere (length nodes)) y ys tys) (m.there (length nodes) step xs h.begun txs) txs (m.wide step xs) in
    let moved = (mux_made nodes y (move step xs) xs).0 in
    let n = (mux_made nodes y (move step xs) xs).1 in
    let r = stages-makes move result m ys moved n (step * 2) a.circuit a.there (all_there_later nodes n ys a.adds.front (All-tail (IsThere (length nodes)) y ys tys)) in
    let wide : length moved ≡ length xs = a.wide ∙ m.wide step xs in
    record {
      circuit = r.circuit;
      adds = record {
        front = front_then nodes n _ a.adds.front r.adds.front;
        few =
            let p : length n ≤ length nodes + length xs * 3 = subst (λ w. length n ≤ length nodes + w * 3) (m.wide step xs) a.adds.few in
            let q : length (stages_made move n (step * 2) moved ys).1 ≤ length n + length ys * (length xs * 3) =
            subst (λ w. length (stages_made move n (step * 2) moved ys).1 ≤ length n + length ys * (w * 3)) wide r.adds.few in
            omega (arith, suc-mul (length ys) (length xs * 3));
        inputs = r.adds.inputs ∙ a.adds.inputs;
      };
      there = r.there;
      wide = r.wide ∙ wide;
      value = λ inputs values v.
          let u = values_earlier inputs values n _ r.adds.front v in
          let z = constant-value inputs values n false a.circuit u in
          r.value inputs values v
          ∙ ap (λ w. result w (number values moved) (step * 2 * number values ys)) wide
          ∙ ap (λ k. result (length xs) k (step * 2 * number values ys))
          (a.value inputs values u ∙ ap (λ k. cond (gate_value values y) k (number values xs)) (m.value values step xs z))
          ∙ stage move result m (length xs) (number values xs) step (number values ys) (gate_value values y) (number-below values xs);
    }

-- ---- shifts

-- in stages by the low 6 bits, and nothing where a higher bit is set
far_or_near : (move : ℕ → List Gate → List Gate) (result : ℕ → ℕ → ℕ → ℕ) → IsMove move result → (n x y none : ℕ) → x < 2 ^ n → n ≤ 64 → none ≡ 0 →
    cond (nat_lt 0 (y / 2 ^ 6)) none (result n x (1 * (y % 2 ^ 6))) ≡ result n x y
far_or_near move result m n x y none h l e = elim (cases_lt 0 (y / 2 ^ 6)) [
  | inl far ↦
      let split = shr_split y 6 in
      ap (λ b. cond b none (result n x (1 * (y % 2 ^ 6)))) (lt-ltb 0 (y / 2 ^ 6) far) ∙ e ∙ sym (m.far n x y h (omega arith))
  | inr near ↦
      let split = shr_split y 6 in
      ap (λ b. cond b none (result n x (1 * (y % 2 ^ 6)))) (le-ltb 0 (y / 2 ^ 6) near) ∙ ap (λ k. result n x k) (omega arith)
]

pub shift-makes : (move : ℕ → List Gate → List Gate) (result : ℕ → ℕ → ℕ → ℕ) → IsMove move result → (nodes : List Node) (xs ys : List Gate) →
    IsCircuit nodes → AreThere (length nodes) xs → AreThere (length nodes) ys → length xs ≤ 64 →
    MakesBits nodes (shift_made move nodes xs ys) (length xs) (21 * length xs + length ys) (λ v. result (length xs) (number v xs) (number v ys))
unfolding shift_made
shift-makes move result m nodes xs ys h txs tys l =
    let low = take 6 ys in
    let high = drop 6 ys in
    let a = stages-makes move result m low xs nodes 1 h txs (All-take (IsThere (length nodes)) 6 ys tys) in
    let moved = (stages_made move nodes 1 xs low).0 in
    let n = (stages_made move nodes 1 xs low).1 in
    let b = any-makes high n (constant_gate false) a.circuit a.circuit.begun (all_there_later nodes n high a.adds.front (All-drop (IsThere (length nodes)) 6 ys tys)) in
    let far = (any_made n (constant_gate false) high).0 in
    let k = (any_made n (constant_gate false) high).1 in
    let r = mux-makes k far (zeros (length xs)) moved b.circuit b.there (zeros-there (length k) (length xs) b.circuit.begun) (all_there_later n k moved b.adds.front a.there)
    (length-replicate (length xs) (constant_gate false) ∙ sym a.wide) in
    let wide : length (zeros (length xs)) ≡ length xs = length-replicate (length xs) (constant_gate false) in
    record {
      circuit = r.circuit;
      adds = record {
        front = front_then nodes n _ a.adds.front (front_then n k _ b.adds.front r.adds.front);
        few =
            let p = a.adds.few in
            let q = b.adds.few in
            let s : length (mux_made k far (zeros (length xs)) moved).1 ≤ length k + length xs * 3 = subst (λ w. length (mux_made k far (zeros (length xs)) moved).1 ≤ length k + w * 3) wide r.adds.few in
            let six : length low * (length xs * 3) ≤ 6 * (length xs * 3) = mul-le-mul_right (length xs * 3) (omega (arith, length-take 6 ys)) in
            omega (arith, length-drop 6 ys);
        inputs = r.adds.inputs ∙ b.adds.inputs ∙ a.adds.inputs;
      };
      there = r.there;
      wide = r.wide ∙ wide;
      value = λ inputs values v.
          let u2 = values_earlier inputs values k _ r.adds.front v in
          let u1 = values_earlier inputs values n k b.adds.front u2 in
          let z = constant-value inputs values n false a.circuit u1 in
          r.value inputs values v
          ∙ ap (λ q. cond q (number values (zeros (length xs))) (number values moved))
          (b.value inputs values u2 ∙ ap (λ q. q || nat_lt 0 (number values high)) z ∙ ap (λ q. nat_lt 0 q) (number-drop values 6 ys))
          ∙ ap (λ q. cond (nat_lt 0 (number values ys / 2 ^ 6)) (number values (zeros (length xs))) q)
          (a.value inputs values u1 ∙ ap (λ q. result (length xs) (number values xs) (1 * q)) (number-take values 6 ys))
          ∙ far_or_near move result m (length xs) (number values xs) (number values ys) (number values (zeros (length xs))) (number-below values xs) l (number-zeros values (length xs) z);
    }

left_is : (n x y : ℕ) → x < 2 ^ n → up n x y ≡ left_shifted n x y
left_is n x y h = elim (cases_lt y n) [
  | inl near ↦ sym (ap (λ b. (if b then up n x y else 0)) (lt-ltb y n near))
  | inr far ↦ up-is_move.far n x y h far ∙ sym (ap (λ b. (if b then up n x y else 0)) (le-ltb y n far))
]

right_is : (n x y : ℕ) → x < 2 ^ n → down n x y ≡ right_shifted n x y
right_is n x y h = elim (cases_lt y n) [
  | inl near ↦ sym (ap (λ b. (if b then down n x y else 0)) (lt-ltb y n near))
  | inr far ↦ down-is_move.far n x y h far ∙ sym (ap (λ b. (if b then down n x y else 0)) (le-ltb y n far))
]

pub shl-makes : (nodes : List Node) (xs ys : List Gate) → IsCircuit nodes → AreThere (length nodes) xs → AreThere (length nodes) ys → length xs ≤ 64 →
    MakesBits nodes (shl_made nodes xs ys) (length xs) (21 * length xs + length ys) (λ v. left_shifted (length xs) (number v xs) (number v ys))
unfolding shl_made
shl-makes nodes xs ys h txs tys l =
    let r = shift-makes moved_up up up-is_move nodes xs ys h txs tys l in
    record {
      circuit = r.circuit;
      adds = r.adds;
      there = r.there;
      wide = r.wide;
      value = λ inputs values v. r.value inputs values v ∙ left_is (length xs) (number values xs) (number values ys) (number-below values xs);
    }

pub shr-makes : (nodes : List Node) (xs ys : List Gate) → IsCircuit nodes → AreThere (length nodes) xs → AreThere (length nodes) ys → length xs ≤ 64 →
    MakesBits nodes (shr_made nodes xs ys) (length xs) (21 * length xs + length ys) (λ v. right_shifted (length xs) (number v xs) (number v ys))
unfolding shr_made
shr-makes nodes xs ys h txs tys l =
    let r = shift-makes moved_down down down-is_move nodes xs ys h txs tys l in
    record {
      circuit = r.circuit;
      adds = r.adds;
      there = r.there;
      wide = r.wide;
      value = λ inputs values v. r.value inputs values v ∙ right_is (length xs) (number values xs) (number values ys) (number-below values xs);
    }
