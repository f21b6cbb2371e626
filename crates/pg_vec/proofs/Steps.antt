-- The code's steps make what the definitions say.
use Rattle.std.proofs.Common.{◌≡◌, true, false, List, [], ◌∷◌, length, refl, sym, ap, ◌∙◌, subst, arith, Result}
use Rattle.std.specs.Prelude.{IfOk, ◌==◌}
use Rattle.std.proofs.lemmas.Bool.{eqb-true, false≢true}
use Rattle.std.specs.declared.alloc.AllocError.{AllocError}
use Rattle.pg_circuit.specs.declared.node.Gate.{Gate}
use Rattle.pg_circuit.specs.declared.node.Node.{Node}
use Rattle.pg_circuit.specs.Made.{not_gate, and_made}
use Rattle.pg_vec.specs.Gates.{or_made, choice_made, carry_made}
use Rattle.pg_vec.specs.Strings.{carry_into_made}

-- what was made is what is due
ok_along : (r : Result Gate AllocError) (new : List Node) (m due : Gate × List Node) → m ≡ due → IfOk r (λ g. (g, new) ≡ m) → IfOk r (λ g. (g, new) ≡ due)
ok_along r new m due e h = subst (λ (k : Gate × List Node). IfOk r (λ g. (g, new) ≡ k)) e h

pub or_step : (nodes : List Node) (x y not_x not_y neither result : Gate) (new : List Node) → not_x ≡ not_gate x → not_y ≡ not_gate y →
    (neither, new) ≡ and_made nodes not_x not_y → result ≡ not_gate neither → (result, new) ≡ or_made nodes x y
unfolding or_made
or_step nodes x y not_x not_y neither result new ex ey e r =
    ap (λ g. (g, new)) r
    ∙ ap (λ (m : Gate × List Node). (not_gate m.0, m.1)) (e ∙ ap (λ g. and_made nodes g not_y) ex ∙ ap (λ g. and_made nodes (not_gate x) g) ey)

pub choice_step : (r : Result Gate AllocError) (nodes : List Node) (choice x y not_choice left right : Gate) (n m new : List Node) →
    (left, n) ≡ and_made nodes choice x → not_choice ≡ not_gate choice → (right, m) ≡ and_made n not_choice y →
    IfOk r (λ g. (g, new) ≡ or_made m left right) → IfOk r (λ g. (g, new) ≡ choice_made choice nodes x y)
unfolding choice_made
choice_step r nodes choice x y not_choice left right n m new e1 en e2 h =
    ok_along r new (or_made m left right) _
    (ap (λ (k : Gate × List Node). or_made k.1 left k.0) (e2 ∙ ap (λ g. and_made n g y) en)
    ∙ ap (λ (k : Gate × List Node). let q = and_made k.1 (not_gate choice) y in or_made q.1 k.0 q.0) e1)
    h

pub carry_step : (r : Result Gate AllocError) (nodes : List Node) (x y half carry both passed : Gate) (n m new : List Node) →
    (both, n) ≡ and_made nodes x y → (passed, m) ≡ and_made n half carry →
    IfOk r (λ g. (g, new) ≡ or_made m both passed) → IfOk r (λ g. (g, new) ≡ carry_made nodes x y half carry)
unfolding carry_made
carry_step r nodes x y half carry both passed n m new e1 e2 h =
    ok_along r new (or_made m both passed) _
    (ap (λ (k : Gate × List Node). or_made k.1 both k.0) e2
    ∙ ap (λ (k : Gate × List Node). let q = and_made k.1 half carry in or_made q.1 k.0 q.0) e1)
    h

pub carry_into_none : (rest : List Gate) (nodes : List Node) (x y half carry : Gate) → (length rest == 0) ≡ true → (carry, nodes) ≡ carry_into_made rest nodes x y half carry
unfolding carry_into_made
carry_into_none [] nodes x y half carry e = refl
carry_into_none (z ∷ zs) nodes x y half carry e = let l : length (z ∷ zs) ≡ 0 = eqb-true (length (z ∷ zs)) 0 e in absurd (omega arith)

pub carry_into_some : (r : Result Gate AllocError) (rest : List Gate) (nodes : List Node) (x y half carry : Gate) (new : List Node) → (length rest == 0) ≡ false →
    IfOk r (λ g. (g, new) ≡ carry_made nodes x y half carry) → IfOk r (λ g. (g, new) ≡ carry_into_made rest nodes x y half carry)
unfolding carry_into_made
carry_into_some r [] nodes x y half carry new e h = absurd (false≢true (sym e))
carry_into_some r (z ∷ zs) nodes x y half carry new e h = h
