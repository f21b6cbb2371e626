-- The unknowns are there, and all numbers that a kind allows are theirs under some inputs.
use Rattle.std.proofs.Common.{◌≡◌, ℕ, ◌^◌, ◌<◌, Bool, true, false, List, [], ◌∷◌, length, refl, sym, ap, ◌∙◌, arith}
use Rattle.std.proofs.lemmas.List.Elements.{All-nil, All-cons}
use Rattle.pg_circuit.specs.declared.node.Gate.{Gate}
use Rattle.pg_circuit.specs.declared.node.Node.{Node}
use Rattle.pg_circuit.specs.Nodes.{input_count, IsCircuit}
use Rattle.pg_circuit.specs.Grown.{GrowsTo}
use Rattle.pg_circuit.specs.Values.{gate_value, IsThere}
use Rattle.pg_circuit.specs.Made.{constant_gate}
use Rattle.pg_word.specs.Bits.{IsWidth}
use Rattle.pg_vec.specs.Number.{bit_of, number}
use Rattle.pg_vec.specs.There.{AreThere, AreValues}
use Rattle.pg_vec.proofs.Kept.{front_same, front_then, all_there_later, values_earlier, constant-value}
use Rattle.pg_vec.proofs.EachLaws.{number-below}
use Rattle.pg_cells.specs.Made.{inputs_made}
use Rattle.pg_type.specs.declared.kind.Kind.{Kind}
use Rattle.pg_type.specs.declared.kind.Kind.TheVariants.{Privileged, Control, ModeDep, Location, Bound, UControl, ULocation, UBound}
use Rattle.pg_symex.specs.There.{AreBits}
use Rattle.pg_ask.specs.declared.unknowns.Unknowns.{Unknowns}
use Rattle.pg_ask.specs.Unknowns.{modes_made, moves, rebounds, other_made, unknowns_made}
use Rattle.pg_ask.specs.There.{AreUnknowns}
use Rattle.pg_ask.proofs.InputStages.{Begins, begins-same, begins-then, inputs-stage, other-stage}

-- ---- the modes

-- the bits that the modes of a kind's states have
abbrev pub ModesFit : Kind → (first second : ℕ) → Type 0
ModesFit Privileged m n = (m ≡ 0) × (n ≡ 1)
ModesFit Control m n = (m < 2) × (n ≡ m)
ModesFit ModeDep m n = (m ≡ 0) × (n ≡ 1)
ModesFit Location m n = (m < 2) × (n ≡ m)
ModesFit Bound m n = (m < 2) × (n ≡ m)
ModesFit UControl m n = (m ≡ 1) × (n ≡ 1)
ModesFit ULocation m n = (m ≡ 1) × (n ≡ 1)
ModesFit UBound m n = (m ≡ 1) × (n ≡ 1)

pub record SetsModes (made : (List Gate × List Gate) × List Node) (before : List Bool) (m n : ℕ) : Type 0 where
  pub given : List Bool
  pub as_many : length given ≡ input_count made.1
  pub begins : Begins before given
  pub is : (inputs values : List Bool) → Begins given inputs → AreValues inputs made.1 values → (number values made.0.0 ≡ m) × (number values made.0.1 ≡ n)

pub record Modes (kind : Kind) (nodes : List Node) (made : (List Gate × List Gate) × List Node) : Type 0 where
  pub circuit : IsCircuit made.1
  pub front : GrowsTo nodes made.1
  pub first : AreThere (length made.1) made.0.0
  pub first_wide : length made.0.0 ≡ 1
  pub second : AreThere (length made.1) made.0.1
  pub second_wide : length made.0.1 ≡ 1
  pub fit : (inputs values : List Bool) → AreValues inputs made.1 values → ModesFit kind (number values made.0.0) (number values made.0.1)
  pub sets : (before : List Bool) (m n : ℕ) → length before ≡ input_count nodes → ModesFit kind m n → SetsModes made before m n

one_there : (places : ℕ) (b : Bool) → 0 < places → AreThere places (constant_gate b ∷ [])
one_there places b l = All-cons (IsThere places) (constant_gate b) [] l (All-nil (IsThere places))

number-one : (inputs values : List Bool) (nodes : List Node) (b : Bool) → IsCircuit nodes → AreValues inputs nodes values → number values (constant_gate b ∷ []) ≡ bit_of b
number-one inputs values nodes b h v = let e : bit_of (gate_value values (constant_gate b)) ≡ bit_of b = ap bit_of (constant-value inputs values nodes b h v) in omega (arith, e)

record FixedModes (nodes : List Node) (b c : Bool) : Type 0 where
  first : AreThere (length nodes) (constant_gate b ∷ [])
  second : AreThere (length nodes) (constant_gate c ∷ [])
  is : (inputs values : List Bool) → AreValues inputs nodes values → (number values (constant_gate b ∷ []) ≡ bit_of b) × (number values (constant_gate c ∷ []) ≡ bit_of c)

fixed : (nodes : List Node) (b c : Bool) → IsCircuit nodes → FixedModes nodes b c
fixed nodes b c h = record {
  first = one_there (length nodes) b h.begun;
  second = one_there (length nodes) c h.begun;
  is = λ inputs values v. (number-one inputs values nodes b h v, number-one inputs values nodes c h v);
}

both-modes : (nodes : List Node) → IsCircuit nodes → Modes Privileged nodes (modes_made Privileged nodes)
both-modes nodes h =
    let f = fixed nodes false true h in
    record {
      circuit = h;
      front = front_same nodes;
      first = f.first;
      first_wide = refl;
      second = f.second;
      second_wide = refl;
      fit = λ inputs values v. f.is inputs values v;
      sets = λ before m n many fit. record {
        given = before;
        as_many = many;
        begins = begins-same before;
        is = λ inputs values b v. let e = f.is inputs values v in (e.0 ∙ sym fit.0, e.1 ∙ sym fit.1);
      };
    }

user-modes : (nodes : List Node) → IsCircuit nodes → Modes UControl nodes (modes_made UControl nodes)
user-modes nodes h =
    let f = fixed nodes true true h in
    record {
      circuit = h;
      front = front_same nodes;
      first = f.first;
      first_wide = refl;
      second = f.second;
      second_wide = refl;
      fit = λ inputs values v. f.is inputs values v;
      sets = λ before m n many fit. record {
        given = before;
        as_many = many;
        begins = begins-same before;
        is = λ inputs values b v. let e = f.is inputs values v in (e.0 ∙ sym fit.0, e.1 ∙ sym fit.1);
      };
    }

any-modes : (nodes : List Node) → IsCircuit nodes → Modes Control nodes (modes_made Control nodes)
any-modes nodes h =
    let s = inputs-stage nodes 1 h in
    let mode = (inputs_made nodes 1).0 in
    record {
      circuit = s.circuit;
      front = s.front;
      first = s.there;
      first_wide = s.wide;
      second = s.there;
      second_wide = s.wide;
      fit = λ inputs values v. (let b = number-below values mode in let e : 2 ^ length mode ≡ 2 = ap (λ k. 2 ^ k) s.wide in omega (arith, b, e), refl);
      sets = λ before m n many fit.
          let g = s.sets before m many fit.0 in
          record {
            given = g.given;
            as_many = g.as_many;
            begins = g.begins;
            is = λ inputs values b v. let e = g.is inputs values b v (λ k. absurd (cc k)) in (e, e ∙ sym fit.1);
          };
    }

modes-as : (kind other : Kind) (nodes : List Node) (made : (List Gate × List Gate) × List Node) → ((m n : ℕ) → ModesFit kind m n → ModesFit other m n) → ((m n : ℕ) → ModesFit other m n → ModesFit kind m n) → Modes kind nodes made → Modes other nodes made
modes-as kind other nodes made to back h = record {
  circuit = h.circuit;
  front = h.front;
  first = h.first;
  first_wide = h.first_wide;
  second = h.second;
  second_wide = h.second_wide;
  fit = λ inputs values v. to (number values made.0.0) (number values made.0.1) (h.fit inputs values v);
  sets = λ before m n many fit. h.sets before m n many (back m n fit);
}

pub modes-are : (kind : Kind) (nodes : List Node) → IsCircuit nodes → Modes kind nodes (modes_made kind nodes)
modes-are Privileged nodes h = both-modes nodes h
modes-are Control nodes h = any-modes nodes h
modes-are ModeDep nodes h = modes-as Privileged ModeDep nodes (modes_made ModeDep nodes) (λ m n k. k) (λ m n k. k) (both-modes nodes h)
modes-are Location nodes h = modes-as Control Location nodes (modes_made Location nodes) (λ m n k. k) (λ m n k. k) (any-modes nodes h)
modes-are Bound nodes h = modes-as Control Bound nodes (modes_made Bound nodes) (λ m n k. k) (λ m n k. k) (any-modes nodes h)
modes-are UControl nodes h = user-modes nodes h
modes-are ULocation nodes h = modes-as UControl ULocation nodes (modes_made ULocation nodes) (λ m n k. k) (λ m n k. k) (user-modes nodes h)
modes-are UBound nodes h = modes-as UControl UBound nodes (modes_made UBound nodes) (λ m n k. k) (λ m n k. k) (user-modes nodes h)

-- ---- all unknowns

-- numbers that the unknowns of a kind can be
pub record Numbers : Type 0 where
  pub first_mode : ℕ
  pub second_mode : ℕ
  pub p : ℕ
  pub first_l : ℕ
  pub second_l : ℕ
  pub first_b : ℕ
  pub second_b : ℕ
  pub first_size : ℕ
  pub second_size : ℕ
  pub compared : ℕ

pub record MayBe (kind : Kind) (a : ℕ) (x : Numbers) : Type 0 where
  pub modes : ModesFit kind x.first_mode x.second_mode
  pub p : x.p < 2 ^ a
  pub first_l : x.first_l < 2 ^ a
  pub second_l : x.second_l < 2 ^ a
  pub first_b : x.first_b < 2 ^ a
  pub second_b : x.second_b < 2 ^ a
  pub first_size : x.first_size < 2 ^ a
  pub second_size : x.second_size < 2 ^ a
  pub compared : x.compared < 2 ^ a
  pub same_l : moves kind ≡ false → x.first_l ≡ x.second_l
  pub same_b : rebounds kind ≡ false → x.first_b ≡ x.second_b
  pub same_size : rebounds kind ≡ false → x.first_size ≡ x.second_size

-- the unknowns are these numbers
pub record Are (values : List Bool) (u : Unknowns) (x : Numbers) : Type 0 where
  pub first_mode : number values u.first_mode ≡ x.first_mode
  pub second_mode : number values u.second_mode ≡ x.second_mode
  pub p : number values u.p ≡ x.p
  pub first_l : number values u.first_l ≡ x.first_l
  pub second_l : number values u.second_l ≡ x.second_l
  pub first_b : number values u.first_b ≡ x.first_b
  pub second_b : number values u.second_b ≡ x.second_b
  pub first_size : number values u.first_size ≡ x.first_size
  pub second_size : number values u.second_size ≡ x.second_size
  pub compared : number values u.compared ≡ x.compared

-- inputs that begin with these give the unknowns these numbers
pub record SetsAll (made : Unknowns × List Node) (x : Numbers) : Type 0 where
  pub given : List Bool
  pub as_many : length given ≡ input_count made.1
  pub is : (inputs values : List Bool) → Begins given inputs → AreValues inputs made.1 values → Are values made.0 x

pub record UnknownsAre (kind : Kind) (a : ℕ) (nodes : List Node) (made : Unknowns × List Node) : Type 0 where
  pub circuit : IsCircuit made.1
  pub front : GrowsTo nodes made.1
  pub there : AreUnknowns (length made.1) a made.0
  pub modes : (inputs values : List Bool) → AreValues inputs made.1 values → ModesFit kind (number values made.0.first_mode) (number values made.0.second_mode)
  pub same_l : moves kind ≡ false → made.0.second_l ≡ made.0.first_l
  pub same_b : rebounds kind ≡ false → made.0.second_b ≡ made.0.first_b
  pub same_size : rebounds kind ≡ false → made.0.second_size ≡ made.0.first_size
  pub sets : (before : List Bool) (x : Numbers) → length before ≡ input_count nodes → MayBe kind a x → SetsAll made x

other-same : (own : Bool) (a : ℕ) (nodes : List Node) (same : List Gate) → own ≡ false → (other_made own a nodes same).0 ≡ same
other-same false a nodes same e = refl
other-same true a nodes same e = absurd (cc e)

one-width : IsWidth 1
one-width = record { least = omega arith; most = omega arith }

pub unknowns-are : (kind : Kind) (a : ℕ) (nodes : List Node) → IsCircuit nodes → IsWidth a → UnknownsAre kind a nodes (unknowns_made kind a nodes)
unfolding unknowns_made
unknowns-are kind a nodes h width =
    let m1 = modes_made kind nodes in
    let s1 = modes-are kind nodes h in
    let m2 = inputs_made m1.1 a in
    let s2 = inputs-stage m1.1 a s1.circuit in
    let m3 = inputs_made m2.1 a in
    let s3 = inputs-stage m2.1 a s2.circuit in
    let m4 = other_made (moves kind) a m3.1 m3.0 in
    let s4 = other-stage (moves kind) m3.1 a m3.0 s3.circuit s3.there s3.wide in
    let m5 = inputs_made m4.1 a in
    let s5 = inputs-stage m4.1 a s4.circuit in
    let m6 = other_made (rebounds kind) a m5.1 m5.0 in
    let s6 = other-stage (rebounds kind) m5.1 a m5.0 s5.circuit s5.there s5.wide in
    let m7 = inputs_made m6.1 a in
    let s7 = inputs-stage m6.1 a s6.circuit in
    let m8 = other_made (rebounds kind) a m7.1 m7.0 in
    let s8 = other-stage (rebounds kind) m7.1 a m7.0 s7.circuit s7.there s7.wide in
    let m9 = inputs_made m8.1 a in
    let s9 = inputs-stage m8.1 a s8.circuit in
    let n = m9.1 in
    let g8 = s9.front in
    let g7 = front_then m7.1 m8.1 n s8.front g8 in
    let g6 = front_then m6.1 m7.1 n s7.front g7 in
    let g5 = front_then m5.1 m6.1 n s6.front g6 in
    let g4 = front_then m4.1 m5.1 n s5.front g5 in
    let g3 = front_then m3.1 m4.1 n s4.front g4 in
    let g2 = front_then m2.1 m3.1 n s3.front g3 in
    let g1 = front_then m1.1 m2.1 n s2.front g2 in
    let g0 = front_then nodes m1.1 n s1.front g1 in
    let here : (old : List Node) (xs : List Gate) → GrowsTo old n → AreThere (length old) xs → length xs ≡ a → AreBits (length n) a xs = λ old xs g t w. record { there = all_there_later old n xs g t; wide = w; is_width = width } in
    record {
      circuit = s9.circuit;
      front = g0;
      there = record {
        first_mode = record { there = all_there_later m1.1 n m1.0.0 g1 s1.first; wide = s1.first_wide; is_width = one-width };
        second_mode = record { there = all_there_later m1.1 n m1.0.1 g1 s1.second; wide = s1.second_wide; is_width = one-width };
        p = here m2.1 m2.0 g2 s2.there s2.wide;
        first_l = here m3.1 m3.0 g3 s3.there s3.wide;
        second_l = here m4.1 m4.0 g4 s4.there s4.wide;
        first_b = here m5.1 m5.0 g5 s5.there s5.wide;
        second_b = here m6.1 m6.0 g6 s6.there s6.wide;
        first_size = here m7.1 m7.0 g7 s7.there s7.wide;
        second_size = here m8.1 m8.0 g8 s8.there s8.wide;
        compared = here n m9.0 (front_same n) s9.there s9.wide;
      };
      modes = λ inputs values v. s1.fit inputs values (values_earlier inputs values m1.1 n g1 v);
      same_l = λ e. other-same (moves kind) a m3.1 m3.0 e;
      same_b = λ e. other-same (rebounds kind) a m5.1 m5.0 e;
      same_size = λ e. other-same (rebounds kind) a m7.1 m7.0 e;
      sets = λ before x many may.
          let t1 = s1.sets before x.first_mode x.second_mode many may.modes in
          let t2 = s2.sets t1.given x.p t1.as_many may.p in
          let t3 = s3.sets t2.given x.first_l t2.as_many may.first_l in
          let t4 = s4.sets t3.given x.second_l t3.as_many may.second_l in
          let t5 = s5.sets t4.given x.first_b t4.as_many may.first_b in
          let t6 = s6.sets t5.given x.second_b t5.as_many may.second_b in
          let t7 = s7.sets t6.given x.first_size t6.as_many may.first_size in
          let t8 = s8.sets t7.given x.second_size t7.as_many may.second_size in
          let t9 = s9.sets t8.given x.compared t8.as_many may.compared in
          let none : true ≡ false → (xs : List Gate) (values : List Bool) (k : ℕ) → number values xs ≡ k = λ e. absurd (cc e) in
          record {
            given = t9.given;
            as_many = t9.as_many;
            is = λ inputs values b9 v.
                let b8 = begins-then t8.given t9.given inputs t9.begins b9 in
                let b7 = begins-then t7.given t8.given inputs t8.begins b8 in
                let b6 = begins-then t6.given t7.given inputs t7.begins b7 in
                let b5 = begins-then t5.given t6.given inputs t6.begins b6 in
                let b4 = begins-then t4.given t5.given inputs t5.begins b5 in
                let b3 = begins-then t3.given t4.given inputs t4.begins b4 in
                let b2 = begins-then t2.given t3.given inputs t3.begins b3 in
                let b1 = begins-then t1.given t2.given inputs t2.begins b2 in
                let v8 = values_earlier inputs values m8.1 n g8 v in
                let v7 = values_earlier inputs values m7.1 n g7 v in
                let v6 = values_earlier inputs values m6.1 n g6 v in
                let v5 = values_earlier inputs values m5.1 n g5 v in
                let v4 = values_earlier inputs values m4.1 n g4 v in
                let v3 = values_earlier inputs values m3.1 n g3 v in
                let v2 = values_earlier inputs values m2.1 n g2 v in
                let v1 = values_earlier inputs values m1.1 n g1 v in
                let e1 = t1.is inputs values b1 v1 in
                let e3 = t3.is inputs values b3 v3 (λ e. none e [] values x.first_l) in
                let e5 = t5.is inputs values b5 v5 (λ e. none e [] values x.first_b) in
                let e7 = t7.is inputs values b7 v7 (λ e. none e [] values x.first_size) in
                record {
                  first_mode = e1.0;
                  second_mode = e1.1;
                  p = t2.is inputs values b2 v2 (λ e. none e [] values x.p);
                  first_l = e3;
                  second_l = t4.is inputs values b4 v4 (λ e. e3 ∙ may.same_l e);
                  first_b = e5;
                  second_b = t6.is inputs values b6 v6 (λ e. e5 ∙ may.same_b e);
                  first_size = e7;
                  second_size = t8.is inputs values b8 v8 (λ e. e7 ∙ may.same_size e);
                  compared = t9.is inputs values b9 v (λ e. none e [] values x.compared);
                };
          };
    }
