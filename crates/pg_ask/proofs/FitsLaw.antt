-- What the gate is worth that all of it fits.
use Rattle.std.proofs.Common.{◌≡◌, ℕ, ◌-◌, ◌^◌, ◌<◌, ◌≤◌, nat_lt, nat_eq, min, Bool, true, false, not, ◌&&◌, List, length, refl, sym, ap, ◌∙◌, arith}
use Rattle.std.proofs.lemmas.Bool.{false≢true, eqb-true, ltb-true, ltb-false, lt-ltb, le-ltb}
use Rattle.std.proofs.lemmas.Bool.Decides.{nat_tests}
use Rattle.pg_circuit.specs.declared.node.Gate.{Gate}
use Rattle.pg_circuit.specs.declared.node.Node.{Node}
use Rattle.pg_circuit.specs.Nodes.{IsCircuit}
use Rattle.pg_circuit.specs.Grown.{GrowsTo}
use Rattle.pg_circuit.specs.Values.{gate_value, IsThere}
use Rattle.pg_circuit.specs.Made.{constant_gate, and_made}
use Rattle.pg_vec.specs.Number.{number}
use Rattle.pg_vec.specs.There.{AreThere, AreValues}
use Rattle.pg_vec.proofs.Kept.{front_then, there_later, all_there_later, values_earlier, constant-value}
use Rattle.pg_ast.specs.declared.tree.Instr.{Instr}
use Rattle.pg_ast.specs.declared.tree.Desc.{Desc}
use Rattle.pg_lang_meaning.specs.Patterns.{matches}
use Rattle.pg_type.specs.declared.kind.Kind.{Kind}
use Rattle.pg_type.specs.declared.kind.Kind.TheVariants.{Privileged, Control, ModeDep, Location, Bound, UControl, ULocation, UBound}
use Rattle.pg_symex.specs.There.{AreBits}
use Rattle.pg_ask.specs.declared.unknowns.Unknowns.{Unknowns}
use Rattle.pg_ask.specs.There.{AreUnknowns}
use Rattle.pg_ask.specs.Fits.{usable_made, size_made, alike_made, apart_made, matches_made, fits_made}
use Rattle.pg_ask.proofs.Made.{GateIs, and-is, below_made, below-is}
use Rattle.pg_ask.proofs.FitsLaws.{usable-is, size-is, alike-is, differ-is, stays-is, matches-is}
use Rattle.pg_ask.proofs.ThereLaws.{unknowns_on}

-- what the kind makes differ does
abbrev pub apart_of : Kind → Unknowns → List Bool → Bool
apart_of Privileged u v = true
apart_of Control u v = true
apart_of ModeDep u v = true
apart_of Location u v = not (nat_eq (number v u.first_l) (number v u.second_l))
apart_of Bound u v = not (nat_eq (number v u.first_b) (number v u.second_b))
apart_of UControl u v = true
apart_of ULocation u v = not (nat_eq (number v u.first_l) (number v u.second_l))
apart_of UBound u v = not (nat_eq (number v u.first_b) (number v u.second_b))

pub apart-is : (kind : Kind) (nodes : List Node) (so_far : Gate) (a : ℕ) (u : Unknowns) → IsCircuit nodes → IsThere (length nodes) so_far → AreUnknowns (length nodes) a u →
    GateIs nodes (apart_made kind nodes so_far u) (λ v. gate_value v so_far && apart_of kind u v)
apart-is Privileged nodes so_far a u h t un = stays-is nodes so_far h t
apart-is Control nodes so_far a u h t un = stays-is nodes so_far h t
apart-is ModeDep nodes so_far a u h t un = stays-is nodes so_far h t
apart-is Location nodes so_far a u h t un = differ-is nodes so_far u.first_l u.second_l h t un.first_l.there un.second_l.there (un.first_l.wide ∙ sym un.second_l.wide)
apart-is Bound nodes so_far a u h t un = differ-is nodes so_far u.first_b u.second_b h t un.first_b.there un.second_b.there (un.first_b.wide ∙ sym un.second_b.wide)
apart-is UControl nodes so_far a u h t un = stays-is nodes so_far h t
apart-is ULocation nodes so_far a u h t un = differ-is nodes so_far u.first_l u.second_l h t un.first_l.there un.second_l.there (un.first_l.wide ∙ sym un.second_l.wide)
apart-is UBound nodes so_far a u h t un = differ-is nodes so_far u.first_b u.second_b h t un.first_b.there un.second_b.there (un.first_b.wide ∙ sym un.second_b.wide)

-- all of it, as a test
unfoldable pub fits_of : (q : ℕ) → List ℕ → (apart : Bool) → (first_size second_size usable second_usable p word : ℕ) → Bool
fits_of q cs apart m n v w p word =
    ((((((not (nat_lt m 2) && not (nat_lt q m)) && not (nat_lt n 2)) && not (nat_lt q n)) && nat_eq v w) && nat_lt p v) && apart) && matches cs word

pub record Fits (q : ℕ) (cs : List ℕ) (apart : Bool) (first_size second_size usable second_usable p word : ℕ) : Type 0 where
  pub first_least : 2 ≤ first_size
  pub first_most : first_size ≤ q
  pub second_least : 2 ≤ second_size
  pub second_most : second_size ≤ q
  pub alike : usable ≡ second_usable
  pub inside : p < usable
  pub differ : apart ≡ true
  pub at : matches cs word ≡ true

left : (a b : Bool) → a && b ≡ true → a ≡ true
left true b h = refl
left false b h = h

right : (a b : Bool) → a && b ≡ true → b ≡ true
right true b h = h
right false b h = absurd (false≢true h)

both : (a b : Bool) → a ≡ true → b ≡ true → a && b ≡ true
both true b h k = k
both false b h k = absurd (false≢true h)

not_below : (m n : ℕ) → not (nat_lt m n) ≡ true → n ≤ m
not_below m n h = by (nat_lt m n) refl h
  where
    by : (b : Bool) → nat_lt m n ≡ b → not b ≡ true → n ≤ m
    by true e h = absurd (false≢true h)
    by false e h = ltb-false m n e

below_not : (m n : ℕ) → n ≤ m → not (nat_lt m n) ≡ true
below_not m n l = ap not (le-ltb m n l)

same_true : (m n : ℕ) → m ≡ n → nat_eq m n ≡ true
same_true m n e = grind (arith, nat_tests)

pub fits-told : (q : ℕ) (cs : List ℕ) (apart : Bool) (m n v w p word : ℕ) → fits_of q cs apart m n v w p word ≡ true → Fits q cs apart m n v w p word
unfolding fits_of
fits-told q cs apart m n v w p word h =
    let c1 = not (nat_lt m 2) in
    let c2 = not (nat_lt q m) in
    let c3 = not (nat_lt n 2) in
    let c4 = not (nat_lt q n) in
    let c5 = nat_eq v w in
    let c6 = nat_lt p v in
    let h7 = left ((((((c1 && c2) && c3) && c4) && c5) && c6) && apart) (matches cs word) h in
    let h6 = left (((((c1 && c2) && c3) && c4) && c5) && c6) apart h7 in
    let h5 = left ((((c1 && c2) && c3) && c4) && c5) c6 h6 in
    let h4 = left (((c1 && c2) && c3) && c4) c5 h5 in
    let h3 = left ((c1 && c2) && c3) c4 h4 in
    let h2 = left (c1 && c2) c3 h3 in
    record {
      first_least = not_below m 2 (left c1 c2 h2);
      first_most = not_below q m (right c1 c2 h2);
      second_least = not_below n 2 (right (c1 && c2) c3 h3);
      second_most = not_below q n (right ((c1 && c2) && c3) c4 h4);
      alike = eqb-true v w (right (((c1 && c2) && c3) && c4) c5 h5);
      inside = ltb-true p v (right ((((c1 && c2) && c3) && c4) && c5) c6 h6);
      differ = right (((((c1 && c2) && c3) && c4) && c5) && c6) apart h7;
      at = right ((((((c1 && c2) && c3) && c4) && c5) && c6) && apart) (matches cs word) h;
    }

pub told-fits : (q : ℕ) (cs : List ℕ) (apart : Bool) (m n v w p word : ℕ) → Fits q cs apart m n v w p word → fits_of q cs apart m n v w p word ≡ true
unfolding fits_of
told-fits q cs apart m n v w p word f =
    let c1 = not (nat_lt m 2) in
    let c2 = not (nat_lt q m) in
    let c3 = not (nat_lt n 2) in
    let c4 = not (nat_lt q n) in
    let c5 = nat_eq v w in
    let c6 = nat_lt p v in
    let h2 = both c1 c2 (below_not m 2 f.first_least) (below_not q m f.first_most) in
    let h3 = both (c1 && c2) c3 h2 (below_not n 2 f.second_least) in
    let h4 = both ((c1 && c2) && c3) c4 h3 (below_not q n f.second_most) in
    let h5 = both (((c1 && c2) && c3) && c4) c5 h4 (same_true v w f.alike) in
    let h6 = both ((((c1 && c2) && c3) && c4) && c5) c6 h5 (lt-ltb p v f.inside) in
    let h7 = both (((((c1 && c2) && c3) && c4) && c5) && c6) apart h6 f.differ in
    both ((((((c1 && c2) && c3) && c4) && c5) && c6) && apart) (matches cs word) h7 f.at

-- what is made of it
pub record FitsAre (d : Desc) (i : Instr) (kind : Kind) (u : Unknowns) (word : List Gate) (nodes : List Node) (made : (List Gate × Gate) × List Node) : Type 0 where
  pub circuit : IsCircuit made.1
  pub front : GrowsTo nodes made.1
  pub usable : AreBits (length made.1) d.address made.0.0
  pub there : IsThere (length made.1) made.0.1
  pub usable_is : (inputs values : List Bool) → AreValues inputs made.1 values → number values made.0.0 ≡ min (number values u.first_b) (number values u.first_size - number values u.first_l)
  pub value : (inputs values : List Bool) → AreValues inputs made.1 values → gate_value values made.0.1
      ≡ fits_of d.size i.pattern.bytes (apart_of kind u values) (number values u.first_size) (number values u.second_size) (number values made.0.0) (min (number values u.second_b) (number values u.second_size - number values u.second_l)) (number values u.p) (number values word)

pub fits-are : (d : Desc) (i : Instr) (kind : Kind) (u : Unknowns) (word : List Gate) (nodes : List Node) → IsCircuit nodes → AreUnknowns (length nodes) d.address u → AreThere (length nodes) word → length i.pattern.bytes ≤ length word → 2 < 2 ^ d.address → d.size < 2 ^ d.address →
    FitsAre d i kind u word nodes (fits_made d i kind u word nodes)
unfolding fits_made fits_of
fits-are d i kind u word nodes h un tw long l2 lq =
    let a = d.address in
    let q = d.size in
    let m1 = usable_made nodes u.first_l u.first_b u.first_size in
    let s1 = usable-is nodes a u.first_l u.first_b u.first_size h un.first_l.there un.first_b.there un.first_size.there un.first_l.wide un.first_b.wide un.first_size.wide in
    let f1 = s1.front in
    let u1 = unknowns_on nodes m1.1 a u f1 un in
    let m2 = usable_made m1.1 u.second_l u.second_b u.second_size in
    let s2 = usable-is m1.1 a u.second_l u.second_b u.second_size s1.circuit u1.second_l.there u1.second_b.there u1.second_size.there un.second_l.wide un.second_b.wide un.second_size.wide in
    let f2 = front_then nodes m1.1 m2.1 f1 s2.front in
    let u2 = unknowns_on nodes m2.1 a u f2 un in
    let one = constant_gate true in
    let m3 = size_made q a m2.1 one u.first_size in
    let s3 = size-is q a m2.1 one u.first_size s2.circuit s2.circuit.begun u2.first_size.there un.first_size.wide l2 lq in
    let f3 = front_then nodes m2.1 m3.1 f2 s3.front in
    let u3 = unknowns_on nodes m3.1 a u f3 un in
    let m4 = size_made q a m3.1 m3.0 u.second_size in
    let s4 = size-is q a m3.1 m3.0 u.second_size s3.circuit s3.there u3.second_size.there un.second_size.wide l2 lq in
    let f4 = front_then nodes m3.1 m4.1 f3 s4.front in
    let g24 = front_then m2.1 m3.1 m4.1 s3.front s4.front in
    let g14 = front_then m1.1 m2.1 m4.1 s2.front g24 in
    let m5 = alike_made m4.1 m4.0 m1.0 m2.0 in
    let s5 = alike-is m4.1 m4.0 m1.0 m2.0 s4.circuit s4.there (all_there_later m1.1 m4.1 m1.0 g14 s1.there) (all_there_later m2.1 m4.1 m2.0 g24 s2.there) (s1.wide ∙ sym s2.wide) in
    let f5 = front_then nodes m4.1 m5.1 f4 s5.front in
    let g15 = front_then m1.1 m4.1 m5.1 g14 s5.front in
    let u5 = unknowns_on nodes m5.1 a u f5 un in
    let m6 = below_made m5.1 u.p m1.0 in
    let s6 = below-is m5.1 u.p m1.0 s5.circuit u5.p.there (all_there_later m1.1 m5.1 m1.0 g15 s1.there) (un.p.wide ∙ sym s1.wide) in
    let f6 = front_then nodes m5.1 m6.1 f5 s6.front in
    let g16 = front_then m1.1 m5.1 m6.1 g15 s6.front in
    let m7 = and_made m6.1 m5.0 m6.0 in
    let s7 = and-is m6.1 m5.0 m6.0 s6.circuit (there_later m5.1 m6.1 m5.0 s6.front s5.there) s6.there in
    let f7 = front_then nodes m6.1 m7.1 f6 s7.front in
    let g17 = front_then m1.1 m6.1 m7.1 g16 s7.front in
    let u7 = unknowns_on nodes m7.1 a u f7 un in
    let m8 = apart_made kind m7.1 m7.0 u in
    let s8 = apart-is kind m7.1 m7.0 a u s7.circuit s7.there u7 in
    let f8 = front_then nodes m7.1 m8.1 f7 s8.front in
    let g18 = front_then m1.1 m7.1 m8.1 g17 s8.front in
    let m9 = matches_made m8.1 m8.0 i.pattern.bytes word in
    let s9 = matches-is i.pattern.bytes m8.1 m8.0 word s8.circuit s8.there (all_there_later nodes m8.1 word f8 tw) long in
    let f9 = front_then nodes m8.1 m9.1 f8 s9.front in
    let g19 = front_then m1.1 m8.1 m9.1 g18 s9.front in
    record {
      circuit = s9.circuit;
      front = f9;
      usable = record { there = all_there_later m1.1 m9.1 m1.0 g19 s1.there; wide = s1.wide; is_width = un.p.is_width };
      there = s9.there;
      usable_is = λ inputs values v. s1.value inputs values (values_earlier inputs values m1.1 m9.1 g19 v);
      value = λ inputs values v.
          let v8 = values_earlier inputs values m8.1 m9.1 s9.front v in
          let v7 = values_earlier inputs values m7.1 m8.1 s8.front v8 in
          let v6 = values_earlier inputs values m6.1 m7.1 s7.front v7 in
          let v5 = values_earlier inputs values m5.1 m6.1 s6.front v6 in
          let v4 = values_earlier inputs values m4.1 m5.1 s5.front v5 in
          let v3 = values_earlier inputs values m3.1 m4.1 s4.front v4 in
          let v2 = values_earlier inputs values m2.1 m3.1 s3.front v3 in
          let m = number values u.first_size in
          let n = number values u.second_size in
          let x = number values m1.0 in
          let y = min (number values u.second_b) (n - number values u.second_l) in
          let c1 = not (nat_lt m 2) in
          let c2 = not (nat_lt q m) in
          let c3 = not (nat_lt n 2) in
          let c4 = not (nat_lt q n) in
          let c6 = nat_lt (number values u.p) x in
          let e3 : gate_value values m3.0 ≡ c1 && c2 = s3.value inputs values v3 ∙ ap (λ k. (k && c1) && c2) (constant-value inputs values m2.1 true s2.circuit v2) in
          let e4 : gate_value values m4.0 ≡ ((c1 && c2) && c3) && c4 = s4.value inputs values v4 ∙ ap (λ k. (k && c3) && c4) e3 in
          let e5 : gate_value values m5.0 ≡ (((c1 && c2) && c3) && c4) && nat_eq x y =
          s5.value inputs values v5 ∙ ap (λ k. k && nat_eq x (number values m2.0)) e4 ∙ ap (λ k. (((c1 && c2) && c3) && c4) && nat_eq x k) (s2.value inputs values v2) in
          let e7 : gate_value values m7.0 ≡ ((((c1 && c2) && c3) && c4) && nat_eq x y) && c6 =
          s7.value inputs values v7 ∙ ap (λ k. k && gate_value values m6.0) e5 ∙ ap (λ k. ((((c1 && c2) && c3) && c4) && nat_eq x y) && k) (s6.value inputs values v6) in
          s9.value inputs values v
          ∙ ap (λ k. k && matches i.pattern.bytes (number values word)) (s8.value inputs values v8 ∙ ap (λ k. k && apart_of kind u values) e7);
    }
