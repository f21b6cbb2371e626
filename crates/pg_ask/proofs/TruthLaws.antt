-- Assignments of any length: what stands past the nodes does not count.
use Rattle.std.proofs.Common.{◌≡◌, ℕ, zero, suc, ◌+◌, ◌<◌, Bool, true, false, ◌&&◌, ◌||◌, not, if◌then◌else◌, ℤ, pos, negsuc, List, [], ◌∷◌, ◌++◌, length, get_or, refl, sym, ap, ◌∙◌, arith, length-append, add-one}
use Rattle.pg_circuit.specs.declared.node.Gate.{Gate}
use Rattle.pg_circuit.specs.declared.node.Node.{Node}
use Rattle.pg_circuit.specs.declared.node.Node.TheVariants.{Constant, Input, And, Xor}
use Rattle.pg_circuit.specs.Nodes.{IsNext, IsAfter, IsCircuit}
use Rattle.pg_circuit.specs.Made.{gate_at, not_gate}
use Rattle.pg_cnf.specs.Truth.{literal_true, clause_true, clauses_true}
use Rattle.pg_cnf.specs.Encoded.{clause_of, node_clauses, clauses_from, clauses_of}

-- as many values as there are nodes, false where there are none
pub pad : ℕ → List Bool → List Bool
pad zero a = []
pad (suc n) [] = false ∷ pad n []
pad (suc n) (b ∷ a) = b ∷ pad n a

pub length-pad : (n : ℕ) (a : List Bool) → length (pad n a) ≡ n
unfolding pad
length-pad zero a = refl
length-pad (suc n) [] = ap (λ k. suc k) (length-pad n [])
length-pad (suc n) (b ∷ a) = ap (λ k. suc k) (length-pad n a)

pub get_or-pad : (n : ℕ) (a : List Bool) (k : ℕ) → k < n → get_or (pad n a) k false ≡ get_or a k false
unfolding pad
get_or-pad zero a k l = absurd (omega arith)
get_or-pad (suc n) [] zero l = refl
get_or-pad (suc n) [] (suc k) l = get_or-pad n [] k (omega arith) ∙ none k
  where
    none : (k : ℕ) → get_or [] k false ≡ get_or [] (suc k) false
    none k = refl
get_or-pad (suc n) (b ∷ a) zero l = refl
get_or-pad (suc n) (b ∷ a) (suc k) l = get_or-pad n a k (omega arith)

-- ---- assignments that agree on all nodes

clauses-append : (a : List Bool) (cs ds : List (List ℤ)) → clauses_true a (cs ++ ds) ≡ clauses_true a cs && clauses_true a ds
clauses-append a [] ds = refl
clauses-append a (c ∷ cs) ds = by (clause_true a c) (clauses-append a cs ds)
  where
    by : (b : Bool) → clauses_true a (cs ++ ds) ≡ clauses_true a cs && clauses_true a ds →
        b && clauses_true a (cs ++ ds) ≡ (b && clauses_true a cs) && clauses_true a ds
    by true e = e
    by false e = refl

module _ (a b : List Bool) where
  abbrev Agree : List Gate → Type 0
  Agree [] = Unit {0}
  Agree (g ∷ gs) = (get_or a g.number false ≡ get_or b g.number false) × Agree gs

  signed : (k : ℕ) (negated : Bool) → get_or a k false ≡ get_or b k false → literal_true a (if negated then negsuc k else pos (k + 1)) ≡ literal_true b (if negated then negsuc k else pos (k + 1))
  signed k true e = ap not e
  signed k false e = rw add-one e

  clause-same : (gs : List Gate) → Agree gs → clause_true a (clause_of gs) ≡ clause_true b (clause_of gs)
  clause-same [] h = refl
  clause-same (g ∷ gs) h = let e = signed g.number g.negated h.0 in let f = clause-same gs h.1 in λ i. e i || f i

  node-same : (before : List Node) (k : ℕ) (n : Node) → k ≡ length before → IsNext before n → ((j : ℕ) → j < k + 1 → get_or a j false ≡ get_or b j false) → clauses_true a (node_clauses k n) ≡ clauses_true b (node_clauses k n)
  node-same before k Constant e next same = let f = clause-same (not_gate (gate_at k) ∷ []) (same k (omega arith), tt) in λ i. f i && true
  node-same before k (Input m) e next same = refl
  node-same before k (And x y) e next same =
      let v = same k (omega arith) in
      let lx = next.left_before in
      let ly = next.right_before in
      let p = same x.number (omega arith) in
      let q = same y.number (omega arith) in
      let g = gate_at k in
      let c1 = clause-same (not_gate g ∷ x ∷ []) (v, (p, tt)) in
      let c2 = clause-same (not_gate g ∷ y ∷ []) (v, (q, tt)) in
      let c3 = clause-same (g ∷ not_gate x ∷ not_gate y ∷ []) (v, (p, (q, tt))) in
      λ i. c1 i && (c2 i && (c3 i && true))
  node-same before k (Xor x y) e next same =
      let v = same k (omega arith) in
      let lx = next.left_before in
      let ly = next.right_before in
      let p = same x.number (omega arith) in
      let q = same y.number (omega arith) in
      let g = gate_at k in
      let c1 = clause-same (not_gate g ∷ x ∷ y ∷ []) (v, (p, (q, tt))) in
      let c2 = clause-same (not_gate g ∷ not_gate x ∷ not_gate y ∷ []) (v, (p, (q, tt))) in
      let c3 = clause-same (g ∷ not_gate x ∷ y ∷ []) (v, (p, (q, tt))) in
      let c4 = clause-same (g ∷ x ∷ not_gate y ∷ []) (v, (p, (q, tt))) in
      λ i. c1 i && (c2 i && (c3 i && (c4 i && true)))

  nodes-same : (before ns : List Node) (k : ℕ) → k ≡ length before → IsAfter before ns → ((j : ℕ) → j < k + length ns → get_or a j false ≡ get_or b j false) → clauses_true a (clauses_from k ns) ≡ clauses_true b (clauses_from k ns)
  nodes-same before [] k e h same = refl
  nodes-same before (n ∷ ns) k e h same =
      let first = node-same before k n e h.0 (λ j l. same j (omega arith)) in
      let rest = nodes-same (before ++ n ∷ []) ns (k + 1) (omega (arith, length-append before (n ∷ []))) h.1 (λ j l. same j (omega arith)) in
      clauses-append a (node_clauses k n) (clauses_from (k + 1) ns) ∙ (λ i. first i && rest i) ∙ sym (clauses-append b (node_clauses k n) (clauses_from (k + 1) ns))

  all-same : (ns : List Node) (root : Gate) → IsCircuit ns → root.number < length ns → ((j : ℕ) → j < length ns → get_or a j false ≡ get_or b j false) → clauses_true a (clauses_of ns root) ≡ clauses_true b (clauses_of ns root)
  all-same ns root h there same =
      let nodes = nodes-same [] ns 0 refl h.in_order (λ j l. same j (omega arith)) in
      let last = clause-same (root ∷ []) (same root.number there, tt) in
      clauses-append a (clauses_from 0 ns) (clause_of (root ∷ []) ∷ []) ∙ (λ i. nodes i && (last i && true)) ∙ sym (clauses-append b (clauses_from 0 ns) (clause_of (root ∷ []) ∷ []))

pub padded-same : (a : List Bool) (ns : List Node) (root : Gate) → IsCircuit ns → root.number < length ns → clauses_true (pad (length ns) a) (clauses_of ns root) ≡ clauses_true a (clauses_of ns root)
padded-same a ns root h there = all-same (pad (length ns) a) a ns root h there (λ j l. get_or-pad (length ns) a j l)
