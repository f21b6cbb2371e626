-- What the gate of agreement is worth.
use Rattle.std.proofs.Common.{◌≡◌, ℕ, ◌+◌, ◌*◌, ◌^◌, ◌≤◌, Bool, true, false, not, ◌&&◌, nat_eq, if◌then◌else◌, List, [], ◌∷◌, length, refl, sym, ap, ◌∙◌, subst, arith}
use Rattle.std.specs.List.{All}
use Rattle.std.proofs.Math.Nat.{suc-mul}
use Rattle.std.proofs.lemmas.Nat.{mul-le}
use Rattle.std.proofs.lemmas.List.Elements.{All-nil, All-cons, All-head, All-tail, All-weaker}
use Rattle.pg_circuit.specs.declared.node.Gate.{Gate}
use Rattle.pg_circuit.specs.declared.node.Node.{Node}
use Rattle.pg_circuit.specs.Nodes.{same_gate, IsCircuit}
use Rattle.pg_circuit.specs.Values.{gate_value, IsThere}
use Rattle.pg_circuit.specs.Made.{constant_gate, not_gate, and_made}
use Rattle.pg_circuit.proofs.NodeLemmas.{same_gate-true}
use Rattle.pg_circuit.proofs.MadeLemmas.{not_value}
use Rattle.pg_vec.specs.Number.{number}
use Rattle.pg_vec.specs.There.{AreThere}
use Rattle.pg_vec.specs.AddsNodes.{AddsNodes}
use Rattle.pg_vec.specs.Makes.{MakesGate}
use Rattle.pg_vec.specs.Strings.{same_made}
use Rattle.pg_vec.proofs.Kept.{front_same, front_then, there_later, all_there_later, values_earlier, constant-value, and-makes, adds_more}
use Rattle.pg_vec.proofs.CompareLaws.{same-makes}
use Rattle.pg_vec.proofs.EachLaws.{number-below}
use Rattle.pg_cells.specs.declared.cell.Cell.{Cell}
use Rattle.pg_cells.specs.Cells.{known_of, known_cells}
use Rattle.pg_cells.specs.Over.{place_of, AreCells, IsWhole}
use Rattle.pg_cells.specs.Made.{alike_made, pair_made, row_made, pairs_made, consistent_made}
use Rattle.pg_cells.specs.Means.{each_pair, TellsConsistent}
use Rattle.pg_cells.proofs.StorageLaws.{IsWithin, has_storage, is_pair, is_row, are_pairs, pairs-decide}
use Rattle.pg_cells.proofs.InputLaws.{gates-there, cells-room}
use Rattle.pg_cells.proofs.TouchLaws.{length-gates_from}

pub cells-whole : (nodes : List Node) (w a from : ℕ) (cells : List Cell) → AreCells nodes w a from cells → All (IsWhole (length nodes) w a) cells
cells-whole nodes w a from [] h = All-nil (IsWhole (length nodes) w a)
cells-whole nodes w a from (c ∷ cells) h =
    let room = cells-room nodes w a (place_of c + w) cells h.2 in
    let cell = h.1 in
    All-cons (IsWhole (length nodes) w a) c cells
    (record {
      address = λ k d l. let b = cell.earlier k d l in omega arith;
      address_wide = cell.wide;
      word = subst (AreThere (length nodes)) (sym cell.word) (gates-there (place_of c) w (length nodes) room);
      word_wide = ap length cell.word ∙ length-gates_from w (place_of c);
    })
    (cells-whole nodes w a (place_of c + w) cells h.2)

pub whole-later : (nodes later : List Node) (most w a : ℕ) (c : Cell) → AddsNodes nodes later most → IsWhole (length nodes) w a c → IsWhole (length later) w a c
whole-later nodes later most w a c k h = record {
  address = all_there_later nodes later c.address k.front h.address;
  address_wide = h.address_wide;
  word = all_there_later nodes later c.word k.front h.word;
  word_wide = h.word_wide;
}

pub all-whole-later : (nodes later : List Node) (most w a : ℕ) (cells : List Cell) → AddsNodes nodes later most → All (IsWhole (length nodes) w a) cells → All (IsWhole (length later) w a) cells
all-whole-later nodes later most w a cells k h = All-weaker (IsWhole (length nodes) w a) (IsWhole (length later) w a) (λ c. whole-later nodes later most w a c k) cells h

and-true : (b : Bool) → b ≡ b && true
and-true true = refl
and-true false = refl

and-assoc : (a b c : Bool) → (a && b) && c ≡ a && (b && c)
and-assoc true b c = refl
and-assoc false b c = refl

-- ---- two cells

alike-makes : (nodes : List Node) (so_far at : Gate) (xs ys : List Gate) → IsCircuit nodes → IsThere (length nodes) so_far → IsThere (length nodes) at → AreThere (length nodes) xs → AreThere (length nodes) ys → length xs ≡ length ys →
    MakesGate nodes (alike_made nodes so_far at xs ys) (2 * length xs + 2) (λ v. gate_value v so_far && not (gate_value v at && not (nat_eq (number v xs) (number v ys))))
unfolding alike_made
alike-makes nodes so_far at xs ys h ts ta txs tys e =
    let s = same-makes xs ys nodes (constant_gate true) h h.begun txs tys e in
    let alike = (same_made nodes (constant_gate true) xs ys).0 in
    let n = (same_made nodes (constant_gate true) xs ys).1 in
    let o = and-makes n at (not_gate alike) s.circuit (there_later nodes n at s.adds.front ta) s.there in
    let odd = (and_made n at (not_gate alike)).0 in
    let m = (and_made n at (not_gate alike)).1 in
    let nm = front_then nodes n m s.adds.front o.adds.front in
    let r = and-makes m so_far (not_gate odd) o.circuit (there_later nodes m so_far nm ts) o.there in
    record {
      circuit = r.circuit;
      adds = record { front = front_then nodes m _ nm r.adds.front; few = let p = s.adds.few in let q = o.adds.few in let t = r.adds.few in omega arith; inputs = r.adds.inputs ∙ o.adds.inputs ∙ s.adds.inputs };
      there = r.there;
      value = λ inputs values v.
          let u2 = values_earlier inputs values m _ r.adds.front v in
          let u1 = values_earlier inputs values n m o.adds.front u2 in
          let is = nat_eq (number values xs) (number values ys) in
          let same : gate_value values alike ≡ is = s.value inputs values u1 ∙ ap (λ k. k && is) (constant-value inputs values n true s.circuit u1) in
          r.value inputs values v
          ∙ ap (λ k. gate_value values so_far && k)
          (not_value values odd ∙ ap not (o.value inputs values u2 ∙ ap (λ k. gate_value values at && k) (not_value values alike ∙ ap not same)));
    }

abbrev pub pair_rest : Gate × List Node → Bool → Gate → Cell → Cell → Gate × List Node
pair_rest at b so_far c d = (if b then (so_far, at.1) else alike_made at.1 so_far at.0 c.word d.word)

pair_rest-makes : (nodes : List Node) (w a : ℕ) (so_far : Gate) (c d : Cell) (at : Gate × List Node) (b : Bool) → same_gate at.0 (constant_gate false) ≡ b →
    MakesGate nodes at (2 * a) (λ v. nat_eq (number v c.address) (number v d.address)) → IsThere (length nodes) so_far → IsWhole (length nodes) w a c → IsWhole (length nodes) w a d →
    MakesGate nodes (pair_rest at b so_far c d) (each_pair w a) (λ v. gate_value v so_far && not (nat_eq (number v c.address) (number v d.address) && not (nat_eq (number v c.word) (number v d.word))))
pair_rest-makes nodes w a so_far c d at true e s ts hc hd = record {
  circuit = s.circuit;
  adds = adds_more nodes at.1 (2 * a) (each_pair w a) s.adds (omega arith);
  there = there_later nodes at.1 so_far s.adds.front ts;
  value = λ inputs values v.
      let never : nat_eq (number values c.address) (number values d.address) ≡ false =
      sym (s.value inputs values v) ∙ ap (gate_value values) (same_gate-true at.0 (constant_gate false) e) ∙ constant-value inputs values at.1 false s.circuit v in
      and-true (gate_value values so_far)
      ∙ ap (λ k. gate_value values so_far && not (k && not (nat_eq (number values c.word) (number values d.word)))) (sym never);
}
pair_rest-makes nodes w a so_far c d at false e s ts hc hd =
    let n = at.1 in
    let r = alike-makes n so_far at.0 c.word d.word s.circuit (there_later nodes n so_far s.adds.front ts) s.there (all_there_later nodes n c.word s.adds.front hc.word) (all_there_later nodes n d.word s.adds.front hd.word)
    (hc.word_wide ∙ sym hd.word_wide) in
    record {
      circuit = r.circuit;
      adds = record {
        front = front_then nodes n _ s.adds.front r.adds.front;
        few = let p = s.adds.few in let q = r.adds.few in let ew : 2 * length c.word ≡ 2 * w = ap (λ k. 2 * k) hc.word_wide in omega arith;
        inputs = r.adds.inputs ∙ s.adds.inputs;
      };
      there = r.there;
      value = λ inputs values v.
          let u = values_earlier inputs values n _ r.adds.front v in
          r.value inputs values v
          ∙ ap (λ k. gate_value values so_far && not (k && not (nat_eq (number values c.word) (number values d.word)))) (s.value inputs values u);
    }

pub pair-makes : (nodes : List Node) (w a : ℕ) (so_far : Gate) (c d : Cell) → IsCircuit nodes → IsThere (length nodes) so_far → IsWhole (length nodes) w a c → IsWhole (length nodes) w a d →
    MakesGate nodes (pair_made nodes so_far c d) (each_pair w a) (λ v. gate_value v so_far && is_pair (known_of v c) (known_of v d))
unfolding pair_made is_pair
pair-makes nodes w a so_far c d h ts hc hd =
    let s = same-makes c.address d.address nodes (constant_gate true) h h.begun hc.address hd.address (hc.address_wide ∙ sym hd.address_wide) in
    let at = same_made nodes (constant_gate true) c.address d.address in
    let told : MakesGate nodes at (2 * a) (λ v. nat_eq (number v c.address) (number v d.address)) =
    record {
      circuit = s.circuit;
      adds = adds_more nodes at.1 (2 * length c.address) (2 * a) s.adds (let e : 2 * length c.address ≡ 2 * a = ap (λ k. 2 * k) hc.address_wide in omega arith);
      there = s.there;
      value = λ inputs values v. s.value inputs values v ∙ ap (λ k. k && nat_eq (number values c.address) (number values d.address)) (constant-value inputs values at.1 true s.circuit v);
    } in
    pair_rest-makes nodes w a so_far c d at (same_gate at.0 (constant_gate false)) refl told ts hc hd

-- ---- a cell and others

pub row-makes : (cells : List Cell) (nodes : List Node) (w a : ℕ) (so_far : Gate) (c : Cell) → IsCircuit nodes → IsThere (length nodes) so_far → IsWhole (length nodes) w a c → All (IsWhole (length nodes) w a) cells →
    MakesGate nodes (row_made nodes so_far c cells) (length cells * each_pair w a) (λ v. gate_value v so_far && is_row (known_of v c) (known_cells v cells))
unfolding row_made is_row
row-makes [] nodes w a so_far c h ts hc hs = record {
  circuit = h;
  adds = record { front = front_same nodes; few = omega arith; inputs = refl };
  there = ts;
  value = λ inputs values v. and-true (gate_value values so_far);
}
row-makes (d ∷ cells) nodes w a so_far c h ts hc hs =
    let p = pair-makes nodes w a so_far c d h ts hc (All-head (IsWhole (length nodes) w a) d cells hs) in
    let n = (pair_made nodes so_far c d).1 in
    let r = row-makes cells n w a (pair_made nodes so_far c d).0 c p.circuit p.there (whole-later nodes n (each_pair w a) w a c p.adds hc) (all-whole-later nodes n (each_pair w a) w a cells p.adds (All-tail (IsWhole (length nodes) w a) d cells hs)) in
    record {
      circuit = r.circuit;
      adds = record {
        front = front_then nodes n _ p.adds.front r.adds.front;
        few = let x = p.adds.few in let y = r.adds.few in omega (arith, suc-mul (length cells) (each_pair w a));
        inputs = r.adds.inputs ∙ p.adds.inputs;
      };
      there = r.there;
      value = λ inputs values v.
          let u = values_earlier inputs values n _ r.adds.front v in
          r.value inputs values v
          ∙ ap (λ k. k && is_row (known_of values c) (known_cells values cells)) (p.value inputs values u)
          ∙ and-assoc (gate_value values so_far) (is_pair (known_of values c) (known_of values d)) (is_row (known_of values c) (known_cells values cells));
    }

-- ---- all pairs

pub pairs-makes : (cells : List Cell) (nodes : List Node) (w a most : ℕ) (so_far : Gate) → IsCircuit nodes → IsThere (length nodes) so_far → All (IsWhole (length nodes) w a) cells → length cells ≤ most →
    MakesGate nodes (pairs_made nodes so_far cells) (length cells * (most * each_pair w a)) (λ v. gate_value v so_far && are_pairs (known_cells v cells))
unfolding pairs_made are_pairs
pairs-makes [] nodes w a most so_far h ts hs l = record {
  circuit = h;
  adds = record { front = front_same nodes; few = omega arith; inputs = refl };
  there = ts;
  value = λ inputs values v. and-true (gate_value values so_far);
}
pairs-makes (c ∷ cells) nodes w a most so_far h ts hs l =
    let rest = All-tail (IsWhole (length nodes) w a) c cells hs in
    let p = row-makes cells nodes w a so_far c h ts (All-head (IsWhole (length nodes) w a) c cells hs) rest in
    let n = (row_made nodes so_far c cells).1 in
    let r = pairs-makes cells n w a most (row_made nodes so_far c cells).0 p.circuit p.there (all-whole-later nodes n (length cells * each_pair w a) w a cells p.adds rest) (omega arith) in
    record {
      circuit = r.circuit;
      adds = record {
        front = front_then nodes n _ p.adds.front r.adds.front;
        few =
            let x = p.adds.few in
            let y = r.adds.few in
            let z : length cells * each_pair w a ≤ most * each_pair w a = mul-le (length cells) (each_pair w a) most (each_pair w a) (omega arith) (omega arith) in
            omega (arith, suc-mul (length cells) (most * each_pair w a));
        inputs = r.adds.inputs ∙ p.adds.inputs;
      };
      there = r.there;
      value = λ inputs values v.
          let u = values_earlier inputs values n _ r.adds.front v in
          r.value inputs values v
          ∙ ap (λ k. k && are_pairs (known_cells values cells)) (p.value inputs values u)
          ∙ and-assoc (gate_value values so_far) (is_row (known_of values c) (known_cells values cells)) (are_pairs (known_cells values cells));
    }

-- ---- what it tells

within : (values : List Bool) (places w a : ℕ) (cells : List Cell) → All (IsWhole places w a) cells → All (IsWithin w a) (known_cells values cells)
within values places w a [] h = All-nil (IsWithin w a)
within values places w a (c ∷ cells) h =
    let here = All-head (IsWhole places w a) c cells h in
    let ea : 2 ^ length c.address ≡ 2 ^ a = ap (λ k. 2 ^ k) here.address_wide in
    let ew : 2 ^ length c.word ≡ 2 ^ w = ap (λ k. 2 ^ k) here.word_wide in
    All-cons (IsWithin w a) (known_of values c) (known_cells values cells)
    (record { address = let b = number-below values c.address in omega arith; word = let b = number-below values c.word in omega arith })
    (within values places w a cells (All-tail (IsWhole places w a) c cells h))

pub consistent-makes : (cells : List Cell) (nodes : List Node) (w a : ℕ) → IsCircuit nodes → All (IsWhole (length nodes) w a) cells →
    MakesGate nodes (consistent_made nodes cells) (length cells * (length cells * each_pair w a)) (λ v. are_pairs (known_cells v cells))
unfolding consistent_made
consistent-makes cells nodes w a h hs =
    let r = pairs-makes cells nodes w a (length cells) (constant_gate true) h h.begun hs (omega arith) in
    record {
      circuit = r.circuit;
      adds = r.adds;
      there = r.there;
      value = λ inputs values v.
          r.value inputs values v ∙ ap (λ k. k && are_pairs (known_cells values cells)) (constant-value inputs values _ true r.circuit v);
    }

pub tells : (cells : List Cell) (nodes : List Node) (w a : ℕ) → IsCircuit nodes → All (IsWhole (length nodes) w a) cells →
    TellsConsistent (consistent_made nodes cells).1 w a cells (consistent_made nodes cells).0
tells cells nodes w a h hs =
    let m = consistent-makes cells nodes w a h hs in
    record {
      exact = λ inputs values v.
          let d = pairs-decide (known_cells values cells) in
          let e = m.value inputs values v in
          (λ is. d.0 (sym e ∙ is), λ c. e ∙ d.1 c);
      storage = λ inputs values v is.
          let d = pairs-decide (known_cells values cells) in
          has_storage w a (known_cells values cells) (within values (length nodes) w a cells hs) (d.0 (sym (m.value inputs values v) ∙ is));
    }
