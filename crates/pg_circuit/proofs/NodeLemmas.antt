-- A node that is looked up among nodes.
use Rattle.std.proofs.Common.{◌≡◌, Bool, true, false, ◌&&◌, ◌||◌, ◌==◌, List, [], ◌∷◌, ◌++◌, length, slice_get, Some, refl, sym, ap, ◌∙◌, arith, true≢false}
use Rattle.std.specs.Cmp.{booleans_Decides}
use Rattle.std.proofs.lemmas.Bool.{eqb-true}
use Rattle.std.proofs.Math.Numerals.{one-add}
use Rattle.pg_circuit.specs.declared.node.Gate.{Gate}
use Rattle.pg_circuit.specs.declared.node.Node.{Node}
use Rattle.pg_circuit.specs.declared.node.Node.TheVariants.{Constant, Input, And, Xor}
use Rattle.pg_circuit.specs.Nodes.{same_gate, same_node, has_node, place_of}
use Rattle.pg_circuit.specs.Made.{with_node}

and_left : (a b : Bool) → a && b ≡ true → a ≡ true
and_left true b h = refl
and_left false b h = h

and_right : (a b : Bool) → a && b ≡ true → b ≡ true
and_right true b h = h
and_right false b h = absurd (true≢false (sym h))

-- what the test calls the same is equal
pub same_gate-true : (x y : Gate) → same_gate x y ≡ true → x ≡ y
same_gate-true x y h =
    let n : x.number ≡ y.number = eqb-true x.number y.number (and_left _ _ h) in
    let b : x.negated ≡ y.negated = (booleans_Decides x.negated y.negated).0 (and_right (x.number == y.number) _ h) in
    λ i. record { number = n i; negated = b i }

pub same_node-true : (n m : Node) → same_node n m ≡ true → n ≡ m
same_node-true Constant Constant h = refl
same_node-true (Input n) (Input m) h = ap (λ k. Input k) (eqb-true n m h)
same_node-true (And x y) (And u v) h =
    let e = same_gate-true x u (and_left _ _ h) in
    let f = same_gate-true y v (and_right (same_gate x u) _ h) in
    λ i. And (e i) (f i)
same_node-true (Xor x y) (Xor u v) h =
    let e = same_gate-true x u (and_left _ _ h) in
    let f = same_gate-true y v (and_right (same_gate x u) _ h) in
    λ i. Xor (e i) (f i)
same_node-true Constant (Input m) h = absurd (true≢false (sym h))
same_node-true Constant (And u v) h = absurd (true≢false (sym h))
same_node-true Constant (Xor u v) h = absurd (true≢false (sym h))
same_node-true (Input n) Constant h = absurd (true≢false (sym h))
same_node-true (Input n) (And u v) h = absurd (true≢false (sym h))
same_node-true (Input n) (Xor u v) h = absurd (true≢false (sym h))
same_node-true (And x y) Constant h = absurd (true≢false (sym h))
same_node-true (And x y) (Input m) h = absurd (true≢false (sym h))
same_node-true (And x y) (Xor u v) h = absurd (true≢false (sym h))
same_node-true (Xor x y) Constant h = absurd (true≢false (sym h))
same_node-true (Xor x y) (Input m) h = absurd (true≢false (sym h))
same_node-true (Xor x y) (And u v) h = absurd (true≢false (sym h))

-- a node that is there stands at its place
pub place_of-there : (ns : List Node) (n : Node) → has_node ns n ≡ true → slice_get ns (place_of ns n) ≡ Some n
place_of-there [] n h = absurd (true≢false (sym h))
place_of-there (m ∷ ns) n h = by (same_node n m) refl (place_of-there ns n)
  where
    by : (b : Bool) → same_node n m ≡ b → (has_node ns n ≡ true → slice_get ns (place_of ns n) ≡ Some n)
        → slice_get (m ∷ ns) (place_of (m ∷ ns) n) ≡ Some n
    by true e later = rw e (ap (λ k. Some k) (sym (same_node-true n m e)))
    by false e later = rw (e, one-add) (later (sym (ap (λ b. b || has_node ns n) e) ∙ h))

-- and else its place is the length
pub place_of-absent : (ns : List Node) (n : Node) → has_node ns n ≡ false → place_of ns n ≡ length ns
place_of-absent [] n h = refl
place_of-absent (m ∷ ns) n h = by (same_node n m) refl (place_of-absent ns n)
  where
    by : (b : Bool) → same_node n m ≡ b → (has_node ns n ≡ false → place_of ns n ≡ length ns) → place_of (m ∷ ns) n ≡ length (m ∷ ns)
    by true e later = absurd (true≢false (sym (ap (λ b. b || has_node ns n) e) ∙ h))
    by false e later = rw e (omega (arith, later (sym (ap (λ b. b || has_node ns n) e) ∙ h)))

pub with_node-there : (ns : List Node) (n : Node) → has_node ns n ≡ true → with_node ns n ≡ ns
with_node-there ns n h = rw h refl

pub with_node-absent : (ns : List Node) (n : Node) → has_node ns n ≡ false → with_node ns n ≡ ns ++ n ∷ []
with_node-absent ns n h = rw h refl
