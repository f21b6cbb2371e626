-- What is asked of registers, sizes and the word at P, in numbers.
use Rattle.std.proofs.Common.{◌≡◌, ℕ, ◌+◌, ◌-◌, ◌%◌, ◌^◌, ◌<◌, ◌≤◌, ◌==◌, nat_lt, nat_eq, min, Bool, true, false, not, ◌&&◌, cond, List, [], ◌∷◌, length, drop, get_or, refl, sym, ap, ◌∙◌, arith}
use Rattle.std.specs.Prelude.{if◌then◌else◌}
use Rattle.std.proofs.Math.Nat.{add-mod_left, mod-eq_of_lt}
use Rattle.std.proofs.lemmas.Nat.{mod-mul-add}
use Rattle.std.proofs.lemmas.Bool.Decides.{nat_tests}
use Rattle.std.proofs.lemmas.List.{drop_more}
use Rattle.std.proofs.lemmas.List.Elements.{All-get_or}
use Rattle.pg_circuit.specs.declared.node.Gate.{Gate}
use Rattle.pg_circuit.specs.declared.node.Node.{Node}
use Rattle.pg_circuit.specs.Nodes.{IsCircuit}
use Rattle.pg_circuit.specs.Values.{gate_value, IsThere}
use Rattle.pg_circuit.specs.Made.{constant_gate, not_gate, and_made}
use Rattle.pg_vec.specs.Number.{number, bit_of}
use Rattle.pg_vec.specs.There.{AreThere}
use Rattle.pg_vec.specs.Strings.{sub_made, mux_made, same_made}
use Rattle.pg_vec.proofs.Kept.{front_same, front_then, there_later, all_there_later, values_earlier, constant-value}
use Rattle.pg_vec.proofs.CompareLaws.{sub-makes}
use Rattle.pg_vec.proofs.EachLaws.{mux-makes, number-below}
use Rattle.pg_vec.proofs.Strings.{number-drop}
use Rattle.pg_lang_meaning.specs.Patterns.{byte_0, byte_1, bit_of_word, takes_bit, matches}
use Rattle.pg_symex.specs.Exprs.{literal_bits}
use Rattle.pg_symex.proofs.LeafLaws.{length-literal, literal-there, number-literal}
use Rattle.pg_ask.specs.Fits.{usable_made, size_made, alike_made, differ_made, place_made, matches_made}
use Rattle.pg_ask.proofs.Made.{GateIs, BitsAre, then-gate, gate-as, and-is, and_not-is, equal-is, below_made, below-is}

-- ---- the number of usable cells

room-is : (p n l : ℕ) → n < p → l ≤ n → (n + (p - l)) % p ≡ n - l
room-is p n l h k = ap (λ x. x % p) (let e : n + (p - l) ≡ p + (n - l) = omega arith in e) ∙ add-mod_left p (n - l) ∙ mod-eq_of_lt (omega arith)

cells-is : (p n l : ℕ) → n < p → cond (nat_lt n l) 0 ((n + (p - l)) % p) ≡ n - l
cells-is p n l h = by (nat_lt n l) refl
  where
    by : (b : Bool) → nat_lt n l ≡ b → cond b 0 ((n + (p - l)) % p) ≡ n - l
    by true e = grind (arith, nat_tests)
    by false e = room-is p n l h (grind (arith, nat_tests))

least-is : (b c : ℕ) → cond (nat_lt b c) b c ≡ min b c
least-is b c = grind (arith, nat_tests)

pub usable-is : (nodes : List Node) (a : ℕ) (l b n : List Gate) → IsCircuit nodes → AreThere (length nodes) l → AreThere (length nodes) b → AreThere (length nodes) n → length l ≡ a → length b ≡ a → length n ≡ a →
    BitsAre nodes (usable_made nodes l b n) a (λ v. min (number v b) (number v n - number v l))
unfolding usable_made
usable-is nodes a l b n h tl tb tn wl wb wn =
    let room = sub_made nodes n l in
    let r = sub-makes nodes n l h tn tl (wn ∙ sym wl) in
    let n1 = room.1 in
    let f1 = r.adds.front in
    let past = below_made n1 n l in
    let s = below-is n1 n l r.circuit (all_there_later nodes n1 n f1 tn) (all_there_later nodes n1 l f1 tl) (wn ∙ sym wl) in
    let n2 = past.1 in
    let f2 = front_then nodes n1 n2 f1 s.front in
    let none = literal_bits 0 (length n) in
    let cells = mux_made n2 past.0 none room.0 in
    let c = mux-makes n2 past.0 none room.0 s.circuit s.there (literal-there (length n) 0 (length n2) s.circuit.begun) (all_there_later n1 n2 room.0 s.front r.there) (length-literal (length n) 0 ∙ sym r.wide) in
    let n3 = cells.1 in
    let f3 = front_then nodes n2 n3 f2 c.adds.front in
    let wc : length cells.0 ≡ length b = c.wide ∙ length-literal (length n) 0 ∙ wn ∙ sym wb in
    let tb3 = all_there_later nodes n3 b f3 tb in
    let less = below_made n3 b cells.0 in
    let t = below-is n3 b cells.0 c.circuit tb3 c.there (sym wc) in
    let n4 = less.1 in
    let f4 = front_then nodes n3 n4 f3 t.front in
    let m = mux-makes n4 less.0 b cells.0 t.circuit t.there (all_there_later nodes n4 b f4 tb) (all_there_later n3 n4 cells.0 t.front c.there) (sym wc) in
    let n5 = (mux_made n4 less.0 b cells.0).1 in
    record {
      circuit = m.circuit;
      front = front_then nodes n4 n5 f4 m.adds.front;
      there = m.there;
      wide = m.wide ∙ wb;
      value = λ inputs values v.
          let u4 = values_earlier inputs values n4 n5 m.adds.front v in
          let u3 = values_earlier inputs values n3 n4 t.front u4 in
          let u2 = values_earlier inputs values n2 n3 c.adds.front u3 in
          let u1 = values_earlier inputs values n1 n2 s.front u2 in
          let x = number values n in
          let y = number values l in
          let z = number values b in
          let zero_is : number values none ≡ 0 = number-literal (length n) 0 values (let q = number-below values n in omega arith) (λ k. constant-value inputs values n2 k s.circuit u2) in
          let room_is : number values room.0 ≡ (x + (2 ^ length n - y)) % 2 ^ length n = r.value inputs values u1 in
          let cells_are : number values cells.0 ≡ x - y =
          c.value inputs values u3
          ∙ ap (λ k. cond k (number values none) (number values room.0)) (s.value inputs values u2)
          ∙ ap (λ k. cond (nat_lt x y) k (number values room.0)) zero_is
          ∙ ap (λ k. cond (nat_lt x y) 0 k) room_is
          ∙ cells-is (2 ^ length n) x y (number-below values n) in
          m.value inputs values v
          ∙ ap (λ k. cond k z (number values cells.0)) (t.value inputs values u4)
          ∙ ap (λ k. cond (nat_lt z k) z k) cells_are
          ∙ least-is z (x - y);
    }

-- ---- sizes

pub size-is : (q a : ℕ) (nodes : List Node) (so_far : Gate) (n : List Gate) → IsCircuit nodes → IsThere (length nodes) so_far → AreThere (length nodes) n → length n ≡ a → 2 < 2 ^ a → q < 2 ^ a →
    GateIs nodes (size_made q a nodes so_far n) (λ v. (gate_value v so_far && not (nat_lt (number v n) 2)) && not (nat_lt q (number v n)))
unfolding size_made
size-is q a nodes so_far n h ts tn wn l2 lq =
    let two = literal_bits 2 a in
    let most = literal_bits q a in
    let few = below_made nodes n two in
    let f = below-is nodes n two h tn (literal-there a 2 (length nodes) h.begun) (wn ∙ sym (length-literal a 2)) in
    let n1 = few.1 in
    let enough = and_made n1 so_far (not_gate few.0) in
    let e = and_not-is n1 so_far few.0 f.circuit (there_later nodes n1 so_far f.front ts) f.there in
    let n2 = enough.1 in
    let f2 = front_then nodes n1 n2 f.front e.front in
    let many = below_made n2 most n in
    let m = below-is n2 most n e.circuit (literal-there a q (length n2) e.circuit.begun) (all_there_later nodes n2 n f2 tn) (length-literal a q ∙ sym wn) in
    let n3 = many.1 in
    let r = and_not-is n3 enough.0 many.0 m.circuit (there_later n2 n3 enough.0 m.front e.there) m.there in
    let n4 = (and_made n3 enough.0 (not_gate many.0)).1 in
    record {
      circuit = r.circuit;
      front = front_then nodes n3 n4 (front_then nodes n2 n3 f2 m.front) r.front;
      there = r.there;
      value = λ inputs values v.
          let u3 = values_earlier inputs values n3 n4 r.front v in
          let u2 = values_earlier inputs values n2 n3 m.front u3 in
          let u1 = values_earlier inputs values n1 n2 e.front u2 in
          let const : (k : Bool) → gate_value values (constant_gate k) ≡ k = λ k. constant-value inputs values n1 k f.circuit u1 in
          let two_is : number values two ≡ 2 = number-literal a 2 values l2 const in
          let most_is : number values most ≡ q = number-literal a q values lq const in
          let x = number values n in
          let b = gate_value values so_far in
          r.value inputs values v
          ∙ ap (λ k. k && not (gate_value values many.0)) (e.value inputs values u2 ∙ ap (λ k. b && not k) (f.value inputs values u1 ∙ ap (λ k. nat_lt x k) two_is))
          ∙ ap (λ k. (b && not (nat_lt x 2)) && not k) (m.value inputs values u3 ∙ ap (λ k. nat_lt k x) most_is);
    }

-- ---- strings

pub alike-is : (nodes : List Node) (so_far : Gate) (xs ys : List Gate) → IsCircuit nodes → IsThere (length nodes) so_far → AreThere (length nodes) xs → AreThere (length nodes) ys → length xs ≡ length ys →
    GateIs nodes (alike_made nodes so_far xs ys) (λ v. gate_value v so_far && nat_eq (number v xs) (number v ys))
unfolding alike_made
alike-is nodes so_far xs ys h ts tx ty e =
    let m = same_made nodes (constant_gate true) xs ys in
    let s = equal-is nodes xs ys h tx ty e in
    then-gate nodes m (and_made m.1 so_far m.0) (λ v. nat_eq (number v xs) (number v ys)) (λ v k. gate_value v so_far && k) s (and-is m.1 so_far m.0 s.circuit (there_later nodes m.1 so_far s.front ts) s.there)

pub differ-is : (nodes : List Node) (so_far : Gate) (xs ys : List Gate) → IsCircuit nodes → IsThere (length nodes) so_far → AreThere (length nodes) xs → AreThere (length nodes) ys → length xs ≡ length ys →
    GateIs nodes (differ_made nodes so_far xs ys) (λ v. gate_value v so_far && not (nat_eq (number v xs) (number v ys)))
unfolding differ_made
differ-is nodes so_far xs ys h ts tx ty e =
    let m = same_made nodes (constant_gate true) xs ys in
    let s = equal-is nodes xs ys h tx ty e in
    then-gate nodes m (and_made m.1 so_far (not_gate m.0)) (λ v. nat_eq (number v xs) (number v ys)) (λ v k. gate_value v so_far && not k) s (and_not-is m.1 so_far m.0 s.circuit (there_later nodes m.1 so_far s.front ts) s.there)

-- ---- the pattern

and-true : (b : Bool) → b && true ≡ b
and-true true = refl
and-true false = refl

and-assoc : (a b c : Bool) → (a && b) && c ≡ a && (b && c)
and-assoc true b c = refl
and-assoc false b c = refl

pub stays-is : (nodes : List Node) (so_far : Gate) → IsCircuit nodes → IsThere (length nodes) so_far → GateIs nodes (so_far, nodes) (λ v. gate_value v so_far && true)
stays-is nodes so_far h t = record { circuit = h; front = front_same nodes; there = t; value = λ inputs values v. sym (and-true (gate_value values so_far)) }

-- bit k of a word that is a string of gates
bit-at : (values : List Bool) (word : List Gate) (k : ℕ) → k < length word → bit_of_word (number values word) k ≡ bit_of (gate_value values (get_or word k (constant_gate false)))
bit-at values word k l =
    let x = get_or word k (constant_gate false) in
    ap (λ m. m % 2) (sym (number-drop values k word) ∙ ap (number values) (drop_more word k (constant_gate false) l))
    ∙ mod-mul-add (number values (drop (k + 1) word)) 2 (bit_of (gate_value values x)) (below (gate_value values x))
  where
    below : (b : Bool) → bit_of b < 2
    below true = omega arith
    below false = omega arith

zero-is : (b : Bool) → (bit_of b == 0) ≡ not b
zero-is true = refl
zero-is false = refl

one-is : (b : Bool) → (bit_of b == 1) ≡ b
one-is true = refl
one-is false = refl

place-is : (nodes : List Node) (so_far : Gate) (c : ℕ) (bit : Gate) → IsCircuit nodes → IsThere (length nodes) so_far → IsThere (length nodes) bit →
    GateIs nodes (place_made nodes so_far c bit) (λ v. gate_value v so_far && takes_bit c (bit_of (gate_value v bit)))
place-is nodes so_far c bit h ts tb = by (c == byte_0) (c == byte_1)
  where
    by : (a b : Bool) → GateIs nodes (if a then and_made nodes so_far (not_gate bit) else (if b then and_made nodes so_far bit else (so_far, nodes)))
        (λ v. gate_value v so_far && (if a then bit_of (gate_value v bit) == 0 else (if b then bit_of (gate_value v bit) == 1 else true)))
    by true b = gate-as nodes _ (λ v. gate_value v so_far && not (gate_value v bit)) (λ v. gate_value v so_far && (bit_of (gate_value v bit) == 0)) (and_not-is nodes so_far bit h ts tb) (λ v. ap (λ k. gate_value v so_far && k) (sym (zero-is (gate_value v bit))))
    by false true = gate-as nodes _ (λ v. gate_value v so_far && gate_value v bit) (λ v. gate_value v so_far && (bit_of (gate_value v bit) == 1)) (and-is nodes so_far bit h ts tb) (λ v. ap (λ k. gate_value v so_far && k) (sym (one-is (gate_value v bit))))
    by false false = stays-is nodes so_far h ts

pub matches-is : (cs : List ℕ) (nodes : List Node) (so_far : Gate) (word : List Gate) → IsCircuit nodes → IsThere (length nodes) so_far → AreThere (length nodes) word → length cs ≤ length word →
    GateIs nodes (matches_made nodes so_far cs word) (λ v. gate_value v so_far && matches cs (number v word))
unfolding matches_made matches
matches-is [] nodes so_far word h ts tw l = stays-is nodes so_far h ts
matches-is (c ∷ cs) nodes so_far word h ts tw l =
    let k = length cs in
    let bit = get_or word k (constant_gate false) in
    let m = place_made nodes so_far c bit in
    let p = place-is nodes so_far c bit h ts (All-get_or (IsThere (length nodes)) word k (constant_gate false) (omega arith) tw) in
    let r = matches-is cs m.1 m.0 word p.circuit p.there (all_there_later nodes m.1 word p.front tw) (omega arith) in
    gate-as nodes (matches_made m.1 m.0 cs word) (λ v. (gate_value v so_far && takes_bit c (bit_of (gate_value v bit))) && matches cs (number v word)) (λ v. gate_value v so_far && (takes_bit c (bit_of_word (number v word) k) && matches cs (number v word)))
    (then-gate nodes m (matches_made m.1 m.0 cs word) (λ v. gate_value v so_far && takes_bit c (bit_of (gate_value v bit))) (λ v b. b && matches cs (number v word)) p r)
    (λ v. and-assoc (gate_value v so_far) (takes_bit c (bit_of (gate_value v bit))) (matches cs (number v word)) ∙ ap (λ x. gate_value v so_far && (takes_bit c x && matches cs (number v word))) (sym (bit-at v word k (omega arith))))
