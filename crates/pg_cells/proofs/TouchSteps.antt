-- The code's steps touch as the definitions say.
use Rattle.std.proofs.Common.{◌≡◌, ℕ, ◌+◌, ◌*◌, ◌<◌, List, [], ◌∷◌, ◌++◌, length, get_or, Some, None, Result, Ok, Err, IfOk, OnOk, OnErr, refl, sym, ap, ◌∙◌, subst, arith, length-append}
use Rattle.std.specs.List.{All}
use Rattle.std.specs.declared.alloc.AllocError.{AllocError}
use Rattle.pg_circuit.specs.declared.node.Gate.{Gate}
use Rattle.pg_circuit.specs.declared.node.Node.{Node}
use Rattle.pg_circuit.specs.Nodes.{input_count, IsCircuit}
use Rattle.pg_word.specs.Bits.{IsWidth}
use Rattle.pg_vec.specs.There.{AreThere}
use Rattle.pg_vec.specs.AddsNodes.{AddsNodes}
use Rattle.pg_vec.proofs.Kept.{front_then}
use Rattle.pg_cells.specs.declared.cell.Cell.{Cell}
use Rattle.pg_cells.specs.declared.cell.Write.{Write}
use Rattle.pg_cells.specs.View.{View}
use Rattle.pg_cells.specs.Over.{gates_from, IsWrite, IsOver}
use Rattle.pg_cells.specs.Made.{inputs_from, inputs_made, no_cell, IsFoundAt, found_word, initial_of, initial_made, laid_made, touch_made, with_found, cells_after}
use Rattle.pg_cells.specs.Means.{each_write, touch_most, GrowsBy, IsWordAt}
use Rattle.pg_cells.proofs.InputLaws.{gates-there}
use Rattle.pg_cells.proofs.OverLaws.{IsOver-later}
use Rattle.pg_cells.proofs.TouchLaws.{length-gates_from, length-inputs_from, cell_word, Touches, touches}

-- ---- what is lent to the writes' call

pub ready_writes : (places w a : ℕ) (ws' ws : List Write) (word address : List Gate) → ws' ≡ ws → length word ≡ w → length address ≡ a → All (IsWrite places w a) ws → All (IsWrite places (length word) (length address)) ws'
ready_writes places w a ws' ws word address e ew ea h =
    let h1 = subst (λ n. All (IsWrite places n a) ws) (sym ew) h in
    let h2 = subst (λ n. All (IsWrite places (length word) n) ws) (sym ea) h1 in
    subst (λ (zs : List Write). All (IsWrite places (length word) (length address)) zs) (sym e) h2

pub again_word : (nodes : List Node) (t : View) (place : ℕ) (slice : List Cell) (cell : Cell) (word : List Gate) → IsOver nodes t → place < length t.cells → slice ≡ t.cells → cell ≡ get_or slice place cell → word ≡ cell.word →
    (length word ≡ t.w) × AreThere (length nodes) word
again_word nodes t place slice cell word o l es ec ew =
    let c = cell_word nodes t.w t.a 0 t.cells place cell o.cells l in
    let e : word ≡ (get_or t.cells place cell).word = ew ∙ ap (λ (k : Cell). k.word) (ec ∙ ap (λ (cs : List Cell). get_or cs place cell) es) in
    (ap length e ∙ c.0, subst (AreThere (length nodes)) (sym e) c.1)

pub ready_inputs : (nodes n : List Node) (w : ℕ) (bits word : List Gate) → (bits, n) ≡ inputs_made nodes w → word ≡ bits → (length word ≡ w) × AreThere (length n) word
unfolding inputs_made
ready_inputs nodes n w bits word e ew =
    let b : word ≡ gates_from (length nodes) w = ew ∙ ap (λ (m : List Gate × List Node). m.0) e in
    let k : n ≡ nodes ++ inputs_from (input_count nodes) w = ap (λ (m : List Gate × List Node). m.1) e in
    let long : length n ≡ length nodes + w = ap length k ∙ length-append nodes (inputs_from (input_count nodes) w) ∙ ap (λ i. length nodes + i) (length-inputs_from w (input_count nodes)) in
    (ap length b ∙ length-gates_from w (length nodes), subst (AreThere (length n)) (sym b) (gates-there (length nodes) w (length n) (omega arith)))

pub width_along : (w n : ℕ) → IsWidth w → n ≡ w → IsWidth n
width_along w n h e = subst IsWidth (sym e) h

-- ---- how much is added

laid_grows : (old new : List Node) (t : View) (writes : List Write) (word address : List Gate) → writes ≡ t.writes → length word ≡ t.w → length address ≡ t.a →
    AddsNodes old new (length writes * each_write (length word) (length address)) → AddsNodes old new (length t.writes * each_write t.w t.a)
laid_grows old new t writes word address e ew ea h =
    let h1 = subst (λ n. AddsNodes old new (length writes * each_write n (length address))) ew h in
    let h2 = subst (λ n. AddsNodes old new (length writes * each_write t.w n)) ea h1 in
    subst (λ (zs : List Write). AddsNodes old new (length zs * each_write t.w t.a)) e h2

pub again_grows : (old new : List Node) (t : View) (writes : List Write) (word address : List Gate) → writes ≡ t.writes → length word ≡ t.w → length address ≡ t.a →
    AddsNodes old new (length writes * each_write (length word) (length address)) → GrowsBy old new (touch_most t) t.w
again_grows old new t writes word address e ew ea h =
    let k = laid_grows old new t writes word address e ew ea h in
    record { front = k.front; few = let p = k.few in omega arith; few_inputs = let p = k.inputs in omega arith }

pub inputs_grow : (old new : List Node) (n w : ℕ) → n ≡ w → GrowsBy old new n n → GrowsBy old new w w
inputs_grow old new n w e h = subst (λ k. GrowsBy old new k k) e h

pub first_grows : (old n new : List Node) (t : View) (writes : List Write) (word address : List Gate) → GrowsBy old n t.w t.w → writes ≡ t.writes → length word ≡ t.w → length address ≡ t.a →
    AddsNodes n new (length writes * each_write (length word) (length address)) → GrowsBy old new (touch_most t) t.w
first_grows old n new t writes word address g e ew ea h =
    let k = laid_grows n new t writes word address e ew ea h in
    record {
      front = front_then old n new g.front k.front;
      few = let p = k.few in let q = g.few in omega arith;
      few_inputs = let p = k.inputs in let q = g.few_inputs in omega arith;
    }

-- ---- what is made

pub again_made : (nodes : List Node) (t : View) (address word : List Gate) → found_word t.cells address ≡ Some word → laid_made nodes address t.writes word ≡ touch_made nodes t address
unfolding touch_made initial_made
again_made nodes t address word e = ap (λ o. let m = initial_of nodes t.w o in laid_made m.1 address t.writes m.0) (sym e)

pub again_cells : (nodes : List Node) (t : View) (address word : List Gate) → found_word t.cells address ≡ Some word → t.cells ≡ cells_after nodes t.w t.cells address
unfolding cells_after
again_cells nodes t address word e = ap (with_found nodes t.w t.cells address) (sym e)

pub first_made : (nodes : List Node) (t : View) (address : List Gate) → found_word t.cells address ≡ None →
    (let made = inputs_made nodes t.w in laid_made made.1 address t.writes made.0) ≡ touch_made nodes t address
unfolding touch_made initial_made
first_made nodes t address e = ap (λ o. let m = initial_of nodes t.w o in laid_made m.1 address t.writes m.0) (sym e)

pub first_cells : (nodes : List Node) (t : View) (address : List Gate) → found_word t.cells address ≡ None →
    t.cells ++ record { address = address; word = (inputs_made nodes t.w).0 } ∷ [] ≡ cells_after nodes t.w t.cells address
unfolding cells_after
first_cells nodes t address e = ap (with_found nodes t.w t.cells address) (sym e)

-- ---- the clauses of a touch

-- the word of the cell that was found
pub place_word : (t : View) (slice : List Cell) (at address : List Gate) (place : ℕ) → slice ≡ t.cells → at ≡ address → IsFoundAt slice at place → found_word t.cells address ≡ Some (get_or t.cells place no_cell).word
place_word t slice at address place es ea h =
    let h1 = subst (λ (cs : List Cell). IsFoundAt cs at place) es h in
    (subst (λ (gs : List Gate). IsFoundAt t.cells gs place) ea h1).word

pub place_none : (t : View) (slice : List Cell) (at address : List Gate) → slice ≡ t.cells → at ≡ address → found_word slice at ≡ None → found_word t.cells address ≡ None
place_none t slice at address es ea h = ap (λ (cs : List Cell). found_word cs address) (sym es) ∙ ap (λ (gs : List Gate). found_word slice gs) (sym ea) ∙ h

pub made_ok : (r : Result (List Gate) AllocError) (new : List Node) (m due : List Gate × List Node) → m ≡ due → IfOk r (λ word. (word, new) ≡ m) → IfOk r (λ word. (word, new) ≡ due)
made_ok r new m due e h = subst (λ (k : List Gate × List Node). IfOk r (λ word. (word, new) ≡ k)) e h

pub cells_same : (r : Result (List Gate) AllocError) (t : View) (cells : List Cell) → t.cells ≡ cells → OnOk r (t ≡ record t { cells = cells })
cells_same (Ok word) t cells e = ap (λ (cs : List Cell). let v : View = record t { cells = cs } in v) e
cells_same (Err x) t cells e = tt

pub cells_ok : (r : Result (List Gate) AllocError) (t after : View) (made due : List Cell) → made ≡ due → OnOk r (after ≡ record t { cells = made }) → OnOk r (after ≡ record t { cells = due })
cells_ok r t after made due e h = subst (λ (cs : List Cell). OnOk r (after ≡ record t { cells = cs })) e h

pub err_same : (r : Result (List Gate) AllocError) (t : View) → OnErr r (t ≡ t)
err_same (Ok word) t = tt
err_same (Err x) t = refl

pub record TouchClauses (r : Result (List Gate) AllocError) (new : List Node) (t after : View) (address : List Gate) : Type 0 where
  pub worth : IfOk r (λ word. IsWordAt new after.w after.a after.cells after.writes address word)
  pub there : IfOk r (λ word. AreThere (length new) word)
  pub wide : IfOk r (λ word. length word ≡ t.w)
  pub over : IsOver new after

pub touch_clauses : (r : Result (List Gate) AllocError) (nodes new : List Node) (t after : View) (address : List Gate) → IsCircuit nodes → IsOver nodes t → AreThere (length nodes) address → length address ≡ t.a →
    GrowsBy nodes new (touch_most t) t.w → IfOk r (λ word. (word, new) ≡ touch_made nodes t address) → OnOk r (after ≡ record t { cells = cells_after nodes t.w t.cells address }) → OnErr r (after ≡ t) →
    TouchClauses r new t after address
touch_clauses (Ok word) nodes new t after address h o there wide g made cells err =
    let m = subst (λ (k : List Gate × List Node). Touches nodes t address k) (sym made) (touches nodes t address h o there wide) in
    subst (λ (s : View). TouchClauses (Ok word) new t s address) (sym cells)
    (record { worth = m.worth; there = m.there; wide = m.wide; over = m.over })
touch_clauses (Err x) nodes new t after address h o there wide g made cells err = record {
  worth = tt;
  there = tt;
  wide = tt;
  over = subst (λ (s : View). IsOver new s) (sym err) (IsOver-later nodes new t g.front o);
}
