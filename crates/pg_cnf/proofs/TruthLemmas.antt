-- The clauses of a circuit are all true exactly on what its nodes are worth.
use Rattle.std.proofs.Common.{◌≡◌, ℕ, zero, suc, ◌+◌, ◌<◌, Bool, true, false, ◌&&◌, ◌||◌, not, if◌then◌else◌, ℤ, pos, negsuc, List, [], ◌∷◌, ◌++◌, length, take, get_or, slice_get, Some, refl, sym, ap, subst, ◌∙◌, arith, append_assoc, length-append, add-zero, add-one, true≢false}
use Rattle.std.specs.List.{list_any}
use Rattle.std.specs.Cmp.{booleans_Decides}
use Rattle.std.proofs.Math.Bool.{beq}
use Rattle.std.proofs.Math.Seq.{get_or-append_seam, take-suc}
use Rattle.std.proofs.lemmas.List.{take_all, get_or-take}
use Rattle.pg_circuit.specs.declared.node.Gate.{Gate}
use Rattle.pg_circuit.specs.declared.node.Node.{Node}
use Rattle.pg_circuit.specs.declared.node.Node.TheVariants.{Constant, Input, And, Xor}
use Rattle.pg_circuit.specs.Nodes.{inputs_at, input_count, IsNext, IsAfter, IsCircuit}
use Rattle.pg_circuit.specs.Values.{differ, gate_value, node_value, values_after}
use Rattle.pg_circuit.specs.Made.{gate_at, not_gate}
use Rattle.pg_circuit.proofs.CircuitLemmas.{input_count-append}
use Rattle.pg_circuit.proofs.ValueLemmas.{node_value-same, value_at}
use Rattle.pg_circuit.proofs.MadeLemmas.{not_value, differ_false}
use Rattle.pg_cnf.specs.Truth.{literal_true, clause_true, clauses_true}
use Rattle.pg_cnf.specs.Encoded.{literal_of, clause_of, and_clauses, xor_clauses, node_clauses, clauses_from, clauses_of, IsRun}

-- a literal has the value of its gate
signed_true : (a : List Bool) (k : ℕ) (b : Bool) → literal_true a (if b then negsuc k else pos (k + 1)) ≡ differ (get_or a k false) b
signed_true a k true = by (get_or a k false)
  where
    by : (v : Bool) → not v ≡ differ v true
    by true = refl
    by false = refl
signed_true a k false = rw add-one (sym (differ_false (get_or a k false)))

literal_true-gate : (a : List Bool) (g : Gate) → literal_true a (literal_of g) ≡ gate_value a g
literal_true-gate a g = signed_true a g.number g.negated

-- and a clause is true where one of its gates is
clause_true-gates : (a : List Bool) (gs : List Gate) → clause_true a (clause_of gs) ≡ list_any (gate_value a) gs
clause_true-gates a [] = refl
clause_true-gates a (g ∷ gs) =
    let e = literal_true-gate a g in let f = clause_true-gates a gs in
    λ i. e i || f i

clauses_true-append : (a : List Bool) (cs ds : List (List ℤ)) → clauses_true a (cs ++ ds) ≡ clauses_true a cs && clauses_true a ds
clauses_true-append a [] ds = refl
clauses_true-append a (c ∷ cs) ds = by (clause_true a c) (clauses_true-append a cs ds)
  where
    by : (b : Bool) → clauses_true a (cs ++ ds) ≡ clauses_true a cs && clauses_true a ds →
        b && clauses_true a (cs ++ ds) ≡ (b && clauses_true a cs) && clauses_true a ds
    by true e = e
    by false e = refl

-- the clauses of an and, on three values
and_table : (v x y : Bool) →
    (not v || (x || false)) && ((not v || (y || false)) && ((v || (not x || (not y || false))) && true)) ≡ beq v (x && y)
and_table true true true = refl
and_table true true false = refl
and_table true false true = refl
and_table true false false = refl
and_table false true true = refl
and_table false true false = refl
and_table false false true = refl
and_table false false false = refl

xor_table : (v x y : Bool) →
    (not v || (x || (y || false))) && ((not v || (not x || (not y || false))) && ((v || (not x || (y || false))) && ((v || (x || (not y || false))) && true)))
    ≡ beq v (differ x y)
xor_table true true true = refl
xor_table true true false = refl
xor_table true false true = refl
xor_table true false false = refl
xor_table false true true = refl
xor_table false true false = refl
xor_table false false true = refl
xor_table false false false = refl

module _ (a : List Bool) where
  and_clauses-true : (v x y : Gate) → clauses_true a (and_clauses v x y) ≡ beq (gate_value a v) (gate_value a x && gate_value a y)
  and_clauses-true v x y =
      let first = clause_true-gates a (not_gate v ∷ x ∷ []) ∙ ap (λ b. b || (gate_value a x || false)) (not_value a v) in
      let second = clause_true-gates a (not_gate v ∷ y ∷ []) ∙ ap (λ b. b || (gate_value a y || false)) (not_value a v) in
      let third = clause_true-gates a (v ∷ not_gate x ∷ not_gate y ∷ []) ∙ (λ i. gate_value a v || (not_value a x i || (not_value a y i || false))) in
      (λ i. first i && (second i && (third i && true))) ∙ and_table (gate_value a v) (gate_value a x) (gate_value a y)

  xor_clauses-true : (v x y : Gate) → clauses_true a (xor_clauses v x y) ≡ beq (gate_value a v) (differ (gate_value a x) (gate_value a y))
  xor_clauses-true v x y =
      let nv = not_value a v in let nx = not_value a x in let ny = not_value a y in
      let first = clause_true-gates a (not_gate v ∷ x ∷ y ∷ []) ∙ (λ i. nv i || (gate_value a x || (gate_value a y || false))) in
      let second = clause_true-gates a (not_gate v ∷ not_gate x ∷ not_gate y ∷ []) ∙ (λ i. nv i || (nx i || (ny i || false))) in
      let third = clause_true-gates a (v ∷ not_gate x ∷ y ∷ []) ∙ (λ i. gate_value a v || (nx i || (gate_value a y || false))) in
      let fourth = clause_true-gates a (v ∷ x ∷ not_gate y ∷ []) ∙ (λ i. gate_value a v || (gate_value a x || (ny i || false))) in
      (λ i. first i && (second i && (third i && (fourth i && true)))) ∙ xor_table (gate_value a v) (gate_value a x) (gate_value a y)

  -- what the clauses of a node say
  abbrev pub IsTied : List Bool → ℕ → Node → Type 0
  IsTied inputs k n = get_or a k false ≡ node_value inputs a n

  at_gate : (k : ℕ) → gate_value a (gate_at k) ≡ get_or a k false
  at_gate k = differ_false (get_or a k false)

  one_false : (v : Bool) → (not v || false) && true ≡ beq v false
  one_false true = refl
  one_false false = refl

  constant-true : (k : ℕ) → clauses_true a (node_clauses k Constant) ≡ beq (gate_value a (gate_at k)) false
  constant-true k =
      (λ i. (clause_true-gates a (not_gate (gate_at k) ∷ []) ∙ ap (λ b. b || false) (not_value a (gate_at k))) i && true)
      ∙ one_false (gate_value a (gate_at k))

  decided : (b v w : Bool) → b ≡ beq v w → b ≡ true → v ≡ w
  decided b v w e h = (booleans_Decides v w).0 (sym e ∙ h)

  granted : (b v w : Bool) → b ≡ beq v w → v ≡ w → b ≡ true
  granted b v w e h = e ∙ (booleans_Decides v w).1 h

  node_clauses-tied : (inputs : List Bool) (k : ℕ) (n : Node) → ((m : ℕ) → n ≡ Input m → get_or a k false ≡ get_or inputs m false) →
      clauses_true a (node_clauses k n) ≡ true → IsTied inputs k n
  node_clauses-tied inputs k Constant read h = sym (at_gate k) ∙ decided _ _ _ (constant-true k) h
  node_clauses-tied inputs k (Input m) read h = read m refl
  node_clauses-tied inputs k (And x y) read h = sym (at_gate k) ∙ decided _ _ _ (and_clauses-true (gate_at k) x y) h
  node_clauses-tied inputs k (Xor x y) read h = sym (at_gate k) ∙ decided _ _ _ (xor_clauses-true (gate_at k) x y) h

  node_clauses-hold : (inputs : List Bool) (k : ℕ) (n : Node) → IsTied inputs k n → clauses_true a (node_clauses k n) ≡ true
  node_clauses-hold inputs k Constant h = granted _ _ _ (constant-true k) (at_gate k ∙ h)
  node_clauses-hold inputs k (Input m) h = refl
  node_clauses-hold inputs k (And x y) h = granted _ _ _ (and_clauses-true (gate_at k) x y) (at_gate k ∙ h)
  node_clauses-hold inputs k (Xor x y) h = granted _ _ _ (xor_clauses-true (gate_at k) x y) (at_gate k ∙ h)

and_left : (b c : Bool) → b && c ≡ true → b ≡ true
and_left true c h = refl
and_left false c h = h

and_right : (b c : Bool) → b && c ≡ true → c ≡ true
and_right true c h = h
and_right false c h = absurd (true≢false (sym h))

-- the values that an assignment has at the inputs
abbrev first_read : Bool → Node → List Bool
first_read v Constant = []
first_read v (Input m) = v ∷ []
first_read v (And x y) = []
first_read v (Xor x y) = []

module _ (a : List Bool) where
  abbrev pub read_inputs : ℕ → List Node → List Bool
  read_inputs k [] = []
  read_inputs k (n ∷ ns) = first_read (get_or a k false) n ++ read_inputs (k + 1) ns

length-first_read : (v : Bool) (n : Node) → length (first_read v n) ≡ inputs_at n
length-first_read v Constant = refl
length-first_read v (Input m) = refl
length-first_read v (And x y) = refl
length-first_read v (Xor x y) = refl

module _ (a : List Bool) where
  length-read_inputs : (k : ℕ) (ns : List Node) → length (read_inputs a k ns) ≡ input_count ns
  length-read_inputs k [] = refl
  length-read_inputs k (n ∷ ns) =
      let v = get_or a k false in
      omega (arith, length-append (first_read v n) (read_inputs a (k + 1) ns), length-first_read v n, length-read_inputs (k + 1) ns)

  read_first : (front rest : List Bool) (before : List Node) (n : Node) (m : ℕ) (v : Bool) → n ≡ Input m → IsNext before n →
      length front ≡ input_count before → v ≡ get_or (front ++ (first_read v n ++ rest)) m false
  read_first front rest before Constant m v e next long = cc
  read_first front rest before (Input k) m v e next long =
      let same : k ≡ m = cc in
      let here : m ≡ length front = sym same ∙ next.1 ∙ sym long in
      sym (ap (λ i. get_or (front ++ v ∷ rest) i false) here ∙ get_or-append_seam front v rest false)
  read_first front rest before (And x y) m v e next long = cc
  read_first front rest before (Xor x y) m v e next long = cc

  read_at : (front : List Bool) (before ns : List Node) → IsAfter before ns → length front ≡ input_count before → (k : ℕ) → length before ≡ k →
      (j m : ℕ) → slice_get ns j ≡ Some (Input m) → get_or a (k + j) false ≡ get_or (front ++ read_inputs a k ns) m false
  read_at front before [] h long k at j m e = cc
  read_at front before (n ∷ ns) h long k at zero m e =
      let v = get_or a k false in
      let same : n ≡ Input m = cc in
      ap (λ i. get_or a i false) (add-zero k) ∙ read_first front (read_inputs a (k + 1) ns) before n m v same h.0 long
  read_at front before (n ∷ ns) h long k at (suc j) m e =
      let v = get_or a k false in
      let further : k + suc j ≡ (k + 1) + j = omega arith in
      ap (λ i. get_or a i false) further
      ∙ read_at (front ++ first_read v n) (before ++ n ∷ []) ns h.1
      (omega (arith, length-append front (first_read v n), length-first_read v n, input_count-append before (n ∷ [])))
      (k + 1) (omega (arith, length-append before (n ∷ []))) j m e
      ∙ ap (λ xs. get_or xs m false) (append_assoc front (first_read v n) (read_inputs a (k + 1) ns))

  -- clauses in order
  all_hold : (inputs : List Bool) (k : ℕ) (ns : List Node) → ((j : ℕ) (n : Node) → slice_get ns j ≡ Some n → IsTied a inputs (k + j) n) →
      clauses_true a (clauses_from k ns) ≡ true
  all_hold inputs k [] h = refl
  all_hold inputs k (n ∷ ns) h =
      let first = node_clauses-hold a inputs k n (subst (λ (i : ℕ). IsTied a inputs i n) (add-zero k) (h 0 n refl)) in
      let further : (j : ℕ) → k + suc j ≡ (k + 1) + j = λ j. omega arith in
      let rest = all_hold inputs (k + 1) ns (λ j m e. subst (λ (i : ℕ). IsTied a inputs i m) (further j) (h (suc j) m e)) in
      clauses_true-append a (node_clauses k n) (clauses_from (k + 1) ns) ∙ (λ i. first i && rest i)

  all_tied : (inputs : List Bool) (k : ℕ) (ns : List Node) →
      ((j m : ℕ) → slice_get ns j ≡ Some (Input m) → get_or a (k + j) false ≡ get_or inputs m false) →
      clauses_true a (clauses_from k ns) ≡ true → (j : ℕ) (n : Node) → slice_get ns j ≡ Some n → IsTied a inputs (k + j) n
  all_tied inputs k [] read h j n e = cc
  all_tied inputs k (m ∷ ns) read h zero n e =
      let both = sym (clauses_true-append a (node_clauses k m) (clauses_from (k + 1) ns)) ∙ h in
      let same : m ≡ n = cc in
      let here : k ≡ k + 0 = omega arith in
      let reads : (i : ℕ) → m ≡ Input i → get_or a k false ≡ get_or inputs i false =
      λ i f. ap (λ (l : ℕ). get_or a l false) here ∙ read 0 i (ap (λ (x : Node). Some x) f) in
      let tied : IsTied a inputs k m = node_clauses-tied a inputs k m reads (and_left _ _ both) in
      subst (λ (i : ℕ). IsTied a inputs i n) here (subst (λ (x : Node). IsTied a inputs k x) same tied)
  all_tied inputs k (m ∷ ns) read h (suc j) n e =
      let both = sym (clauses_true-append a (node_clauses k m) (clauses_from (k + 1) ns)) ∙ h in
      let further : (i : ℕ) → (k + 1) + i ≡ k + suc i = λ i. omega arith in
      subst (λ (i : ℕ). IsTied a inputs i n) (further j)
      (all_tied inputs (k + 1) ns (λ i l f. ap (λ (p : ℕ). get_or a p false) (further i) ∙ read (suc i) l f)
      (and_right (clauses_true a (node_clauses k m)) _ both) j n e)

  -- an assignment that is tied at each node is what the nodes are worth
  fixed : (inputs : List Bool) (before ns : List Node) → IsAfter before ns → (k : ℕ) → length before ≡ k → length a ≡ k + length ns →
      ((j : ℕ) (n : Node) → slice_get ns j ≡ Some n → IsTied a inputs (k + j) n) → values_after inputs (take k a) ns ≡ a
  fixed inputs before [] h k at long tied = take_all k a (omega arith)
  fixed inputs before (n ∷ ns) h k at long tied =
      let here : k + 0 ≡ k = add-zero k in
      let lt : k < length a = omega arith in
      let own : get_or a k false ≡ node_value inputs a n = subst (λ (i : ℕ). IsTied a inputs i n) here (tied 0 n refl) in
      let kept : (i : ℕ) → i < length before → get_or (take k a) i false ≡ get_or a i false = λ i l. get_or-take k a i false (omega arith) in
      let value : node_value inputs (take k a) n ≡ get_or a k false = node_value-same inputs (take k a) a before n h.0 kept ∙ sym own in
      let further : (i : ℕ) → k + suc i ≡ (k + 1) + i = λ i. omega arith in
      let more : take k a ++ node_value inputs (take k a) n ∷ [] ≡ take (k + 1) a =
      ap (λ v. take k a ++ v ∷ []) value ∙ sym (take-suc a k false lt) ∙ ap (λ i. take i a) (sym (add-one k)) in
      ap (λ vs. values_after inputs vs ns) more
      ∙ fixed inputs (before ++ n ∷ []) ns h.1 (k + 1) (omega (arith, length-append before (n ∷ []))) (omega arith)
      (λ j m e. subst (λ (i : ℕ). IsTied a inputs i m) (further j) (tied (suc j) m e))

  module _ (ns : List Node) (root : Gate) (h : IsCircuit ns) where
    root_clause : clause_true a (clause_of (root ∷ [])) ≡ gate_value a root || false
    root_clause = clause_true-gates a (root ∷ [])

    or_false : (b : Bool) → b || false ≡ b
    or_false true = refl
    or_false false = refl

    and_true : (b : Bool) → b && true ≡ b
    and_true true = refl
    and_true false = refl

    pub run_of_true : length a ≡ length ns → clauses_true a (clauses_of ns root) ≡ true → IsRun ns root a
    run_of_true long all =
        let both = sym (clauses_true-append a (clauses_from 0 ns) (clause_of (root ∷ []) ∷ [])) ∙ all in
        let inputs = read_inputs a 0 ns in
        let tied = all_tied inputs 0 ns (read_at [] [] ns h.in_order refl 0 refl) (and_left _ _ both) in
        record {
          inputs = inputs;
          as_many = length-read_inputs 0 ns;
          values = sym (fixed inputs [] ns h.in_order 0 refl (omega (arith, long)) tied);
          holds = sym (or_false (gate_value a root)) ∙ sym root_clause ∙ sym (and_true (clause_true a (clause_of (root ∷ []))))
              ∙ and_right (clauses_true a (clauses_from 0 ns)) _ both;
        }

    pub true_of_run : IsRun ns root a → clauses_true a (clauses_of ns root) ≡ true
    true_of_run r =
        let tied : (j : ℕ) (n : Node) → slice_get ns j ≡ Some n → IsTied a r.inputs (0 + j) n =
        λ j n e. subst (λ (vs : List Bool). get_or vs (0 + j) false ≡ node_value r.inputs vs n) (sym r.values)
        (value_at r.inputs [] [] ns h.in_order refl j n e) in
        let nodes = all_hold r.inputs 0 ns tied in
        let last = and_true (clause_true a (clause_of (root ∷ []))) ∙ root_clause ∙ or_false (gate_value a root) ∙ r.holds in
        clauses_true-append a (clauses_from 0 ns) (clause_of (root ∷ []) ∷ []) ∙ (λ i. nodes i && last i)
