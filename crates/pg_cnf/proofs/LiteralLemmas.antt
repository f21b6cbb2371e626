-- Gates of different nodes make a clause.
use Rattle.std.proofs.Common.{Result, Ok, Err, OnOk, OnErr, length, length-append, ◌≡◌, ℕ, ◌+◌, ◌≤◌, Bool, true, false, if◌then◌else◌, ℤ, pos, negsuc, nat_abs, List, [], ◌∷◌, ◌++◌, refl, sym, ap, subst, arith}
use Rattle.std.specs.Prelude.{⊤}
use Rattle.std.specs.declared.alloc.AllocError.{AllocError}
use Rattle.pg_circuit.specs.declared.node.Gate.{Gate}
use Rattle.pg_cnf.specs.Literals.{AreLiterals, IsAbsent, AreDistinct, IsClause, AreClauses}
use Rattle.pg_cnf.specs.Encoded.{literal_of, clause_of, AreOthers, AreApart}

signed : (k : ℕ) (b : Bool) → nat_abs (if b then negsuc k else pos (k + 1)) ≡ k + 1
signed k true = omega arith
signed k false = refl

-- the variable of a gate's node
pub nat_abs-literal : (g : Gate) → nat_abs (literal_of g) ≡ g.number + 1
nat_abs-literal g = signed g.number g.negated

IsAbsent-others : (g : Gate) (gs : List Gate) → AreOthers g.number gs → IsAbsent (literal_of g) (clause_of gs)
IsAbsent-others g [] h = tt
IsAbsent-others g (k ∷ gs) h =
    ((λ e. h.0 (omega (arith, nat_abs-literal g, nat_abs-literal k, ap nat_abs e))), IsAbsent-others g gs h.1)

AreDistinct-apart : (nodes : ℕ) (gs : List Gate) → AreApart nodes gs → AreDistinct (clause_of gs)
AreDistinct-apart nodes [] h = tt
AreDistinct-apart nodes (g ∷ gs) h = (IsAbsent-others g gs h.1, AreDistinct-apart nodes gs h.2)

AreLiterals-apart : (nodes : ℕ) (gs : List Gate) → AreApart nodes gs → AreLiterals nodes (clause_of gs)
AreLiterals-apart nodes [] h = tt
AreLiterals-apart nodes (g ∷ gs) h =
    ((omega (arith, nat_abs-literal g), omega (arith, nat_abs-literal g, h.0)), AreLiterals-apart nodes gs h.2)

pub IsClause-apart : (nodes : ℕ) (gs : List Gate) → AreApart nodes gs → IsClause nodes (clause_of gs)
IsClause-apart nodes gs h = record { within = AreLiterals-apart nodes gs h; distinct = AreDistinct-apart nodes gs h }

-- more variables
AreLiterals-more : (m n : ℕ) (zs : List ℤ) → m ≤ n → AreLiterals m zs → AreLiterals n zs
AreLiterals-more m n [] le h = tt
AreLiterals-more m n (z ∷ zs) le h = ((h.0.0, omega (arith, h.0.1)), AreLiterals-more m n zs le h.1)

pub IsClause-more : (m n : ℕ) (c : List ℤ) → m ≤ n → IsClause m c → IsClause n c
IsClause-more m n c le h = record { within = AreLiterals-more m n c le h.within; distinct = h.distinct }

pub AreClauses-push : (m : ℕ) (cs : List (List ℤ)) (c : List ℤ) → AreClauses m cs → IsClause m c → AreClauses m (cs ++ c ∷ [])
AreClauses-push m [] c h k = (k, tt)
AreClauses-push m (d ∷ cs) c h k = (h.0, AreClauses-push m cs c h.1 k)

-- the clauses after a push that may fail
pub record Pushed (variables : ℕ) (old new : List (List ℤ)) : Type 0 where
  pub clauses : AreClauses variables new
  pub few : length new ≤ length old + 1

pub push-clauses : (r : Result ⊤ AllocError) (m : ℕ) (old new : List (List ℤ)) (c : List ℤ) → AreClauses m old → IsClause m c →
    OnOk r (new ≡ old ++ c ∷ []) → OnErr r (new ≡ old) → Pushed m old new
push-clauses (Ok u) m old new c h k ok err =
    record { clauses = subst (AreClauses m) (sym ok) (AreClauses-push m old c h k); few = omega (arith, ap length ok, length-append old (c ∷ [])) }
push-clauses (Err e) m old new c h k ok err = record { clauses = subst (AreClauses m) (sym err) h; few = omega (arith, ap length err) }
