-- What a touch makes is worth.
use Rattle.std.proofs.Common.{◌≡◌, ℕ, zero, suc, ◌+◌, ◌*◌, ◌^◌, ◌<◌, ◌≤◌, Bool, true, false, ◌&&◌, cond, nat_eq, if◌then◌else◌, List, [], ◌∷◌, ◌++◌, length, get_or, Option, Some, None, refl, sym, ap, ◌∙◌, subst, arith, append_assoc, length-append}
use Rattle.std.specs.List.{All}
use Rattle.std.proofs.Math.Nat.{suc-mul}
use Rattle.std.proofs.lemmas.Bool.{false≢true}
use Rattle.std.proofs.lemmas.Option.{slice_get-get_or}
use Rattle.std.proofs.lemmas.List.{append-nil, take_at, get_or_at, get_or-append-add, length_push, length-map, get_or-map, map-append}
use Rattle.std.proofs.lemmas.List.Elements.{All-head, All-tail}
use Rattle.pg_circuit.specs.declared.node.Gate.{Gate}
use Rattle.pg_circuit.specs.declared.node.Node.{Node}
use Rattle.pg_circuit.specs.declared.node.Node.TheVariants.{Constant, Input}
use Rattle.pg_circuit.specs.Nodes.{same_gate, input_count, IsCircuit}
use Rattle.pg_circuit.specs.Values.{gate_value}
use Rattle.pg_circuit.specs.Made.{constant_gate, and_made}
use Rattle.pg_circuit.specs.Grown.{GrowsTo}
use Rattle.pg_circuit.proofs.NodeLemmas.{same_gate-true}
use Rattle.pg_circuit.proofs.CircuitLemmas.{input_count-append, IsCircuit-push}
use Rattle.pg_vec.specs.Number.{number}
use Rattle.pg_vec.specs.There.{AreThere}
use Rattle.pg_vec.specs.Makes.{MakesBits}
use Rattle.pg_vec.specs.Strings.{same_made}
use Rattle.pg_vec.proofs.Kept.{front_same, front_then, there_later, all_there_later, values_earlier, constant-value, and-makes}
use Rattle.pg_vec.proofs.CompareLaws.{same-makes}
use Rattle.pg_vec.proofs.EachLaws.{mux-makes, number-below}
use Rattle.pg_cells.specs.declared.cell.Cell.{Cell}
use Rattle.pg_cells.specs.declared.cell.Write.{Write}
use Rattle.pg_cells.specs.View.{View}
use Rattle.pg_cells.specs.Storage.{Known, Agrees}
use Rattle.pg_cells.specs.Cells.{known_of, known_cells, puts_of}
use Rattle.pg_cells.specs.Over.{gates_from, place_of, IsCell, AreCells, IsWrite, IsOver}
use Rattle.pg_cells.specs.Made.{inputs_from, inputs_made, same_gates, found_word, initial_of, initial_made, hit_made, over_made, laid_made, touch_made, with_found, cells_after}
use Rattle.pg_cells.specs.Means.{each_write, touch_most, GrowsBy, IsWordAt}
use Rattle.pg_cells.proofs.StorageLaws.{laid_word, written-at}
use Rattle.pg_cells.proofs.InputLaws.{gates-there, cells-room}
use Rattle.pg_cells.proofs.OverLaws.{AreCells-later, AreWrites-later, AreCells-push}

-- ---- inputs

pub length-gates_from : (w k : ℕ) → length (gates_from k w) ≡ w
length-gates_from zero k = refl
length-gates_from (suc w) k = ap (λ n. suc n) (length-gates_from w (k + 1))

pub length-inputs_from : (w n : ℕ) → length (inputs_from n w) ≡ w
length-inputs_from zero n = refl
length-inputs_from (suc w) n = ap (λ n. suc n) (length-inputs_from w (n + 1))

pub input_count-inputs_from : (w n : ℕ) → input_count (inputs_from n w) ≡ w
input_count-inputs_from zero n = refl
input_count-inputs_from (suc w) n = omega (arith, input_count-inputs_from w (n + 1))

get_or-inputs_from : (w n i : ℕ) → i < w → get_or (inputs_from n w) i Constant ≡ Input (n + i)
get_or-inputs_from zero n i l = absurd (omega arith)
get_or-inputs_from (suc w) n zero l = ap (λ k. Input k) (omega arith)
get_or-inputs_from (suc w) n (suc i) l = let e : n + 1 + i ≡ n + suc i = omega arith in get_or-inputs_from w (n + 1) i (omega arith) ∙ ap (λ k. Input k) e

inputs-circuit : (w : ℕ) (nodes : List Node) → IsCircuit nodes → IsCircuit (nodes ++ inputs_from (input_count nodes) w)
inputs-circuit zero nodes h = subst IsCircuit (sym (append-nil nodes)) h
inputs-circuit (suc w) nodes h =
    let n = input_count nodes in
    let next = nodes ++ Input n ∷ [] in
    let e : input_count next ≡ n + 1 = omega (arith, input_count-append nodes (Input n ∷ [])) in
    let r = inputs-circuit w next (IsCircuit-push nodes (Input n) h (h.begun, refl)) in
    subst IsCircuit (ap (λ k. next ++ inputs_from k w) e ∙ append_assoc nodes (Input n ∷ []) (inputs_from (n + 1) w)) r

-- what is known of the word before all writes
record IsInitial (nodes : List Node) (w a : ℕ) (address : List Gate) (cells : List Cell) (made : List Gate × List Node) : Type 0 where
  circuit : IsCircuit made.1
  front : GrowsTo nodes made.1
  few : length made.1 ≤ length nodes + w
  few_inputs : input_count made.1 ≤ input_count nodes + w
  there : AreThere (length made.1) made.0
  wide : length made.0 ≡ w
  are_cells : AreCells made.1 w a 0 cells
  value : (values : List Bool) (storage : List ℕ) → Agrees storage (known_cells values cells) → number values made.0 ≡ get_or storage (number values address) 0

pub inputs-front : (nodes : List Node) (w : ℕ) → GrowsTo nodes (nodes ++ inputs_from (input_count nodes) w)
inputs-front nodes w = take_at nodes (inputs_from (input_count nodes) w) (length nodes) refl

new_cell : (w a : ℕ) (nodes : List Node) (address : List Gate) → 1 ≤ w → AreThere (length nodes) address → length address ≡ a →
    IsCell (nodes ++ inputs_from (input_count nodes) w) w a (record { address = address; word = gates_from (length nodes) w })
new_cell zero a nodes address least t e = absurd (omega arith)
new_cell (suc w) a nodes address least t e =
    let ins = inputs_from (input_count nodes) (suc w) in
    let front = ap input_count (inputs-front nodes (suc w)) in
    record {
      wide = e;
      earlier = t;
      word = refl;
      inputs = λ i l.
          slice_get-get_or (nodes ++ ins) (length nodes + i) Constant (omega (arith, length-append nodes ins, length-inputs_from (suc w) (input_count nodes)))
          ∙ ap (λ n. Some n) (get_or-append-add nodes ins i Constant ∙ get_or-inputs_from (suc w) (input_count nodes) i l ∙ ap (λ n. Input (n + i)) (sym front));
    }

new_place : (w : ℕ) (nodes : List Node) (address : List Gate) → 1 ≤ w → place_of (record { address = address; word = gates_from (length nodes) w }) ≡ length nodes
new_place zero nodes address l = absurd (omega arith)
new_place (suc w) nodes address l = refl

last_agrees : (values : List Bool) (storage : List ℕ) (cells : List Cell) (c : Cell) → Agrees storage (known_cells values (cells ++ c ∷ [])) → number values c.word ≡ get_or storage (number values c.address) 0
last_agrees values storage cells c h =
    let all = known_cells values (cells ++ c ∷ []) in
    let k = known_of values c in
    let e : all ≡ known_cells values cells ++ k ∷ [] = map-append (known_of values) cells (c ∷ []) in
    let at : get_or all (length cells) k ≡ k =
    ap (λ (ks : List Known). get_or ks (length cells) k) e ∙ get_or_at (known_cells values cells) k [] k (length cells) (length-map cells (known_of values)) in
    let l : length cells < length all = omega (arith, length-map (cells ++ c ∷ []) (known_of values), length_push cells c) in
    let r = h (length cells) k l in
    sym (subst (λ (x : Known). get_or storage x.address 0 ≡ x.word) at r)

inputs-initial : (nodes : List Node) (w a : ℕ) (cells : List Cell) (address : List Gate) → IsCircuit nodes → 1 ≤ w → AreCells nodes w a 0 cells → AreThere (length nodes) address → length address ≡ a →
    IsInitial nodes w a address (cells ++ record { address = address; word = gates_from (length nodes) w } ∷ []) (gates_from (length nodes) w, nodes ++ inputs_from (input_count nodes) w)
inputs-initial nodes w a cells address h least are t e =
    let ins = inputs_from (input_count nodes) w in
    let c : Cell = record { address = address; word = gates_from (length nodes) w } in
    let long : length (nodes ++ ins) ≡ length nodes + w = omega (arith, length-append nodes ins, length-inputs_from w (input_count nodes)) in
    let place : place_of c ≡ length nodes = new_place w nodes address least in
    record {
      circuit = inputs-circuit w nodes h;
      front = inputs-front nodes w;
      few = omega arith;
      few_inputs = omega (arith, input_count-append nodes ins, input_count-inputs_from w (input_count nodes));
      there = gates-there (length nodes) w (length (nodes ++ ins)) (omega arith);
      wide = length-gates_from w (length nodes);
      are_cells = AreCells-push nodes (nodes ++ ins) w a 0 cells c (inputs-front nodes w) are (omega arith) (new_cell w a nodes address least t e) (omega arith);
      value = λ values storage agrees. last_agrees values storage cells c agrees;
    }

-- ---- a cell that is found

same_gates-true : (xs ys : List Gate) → same_gates xs ys ≡ true → xs ≡ ys
same_gates-true [] [] h = refl
same_gates-true [] (_ ∷ _) h = absurd (false≢true h)
same_gates-true (_ ∷ _) [] h = absurd (false≢true h)
same_gates-true (x ∷ xs) (y ∷ ys) h = by (same_gate x y) refl h (same_gates-true xs ys)
  where
    by : (b : Bool) → same_gate x y ≡ b → b && same_gates xs ys ≡ true → (same_gates xs ys ≡ true → xs ≡ ys) → x ∷ xs ≡ y ∷ ys
    by true e k rest = let head = same_gate-true x y e in let tail = rest k in λ i. head i ∷ tail i
    by false e k rest = absurd (false≢true k)

-- a cell with a word, at the address
record IsFound (cells : List Cell) (address word : List Gate) : Type 0 where
  place : ℕ
  cell : Cell
  in_range : place < length cells
  is : get_or cells place cell ≡ cell
  address_is : cell.address ≡ address
  word_is : cell.word ≡ word

found : (cells : List Cell) (address word : List Gate) → found_word cells address ≡ Some word → IsFound cells address word
found [] address word h = cc
found (c ∷ cells) address word h = by (same_gates c.address address) refl h (found cells address word)
  where
    by : (b : Bool) → same_gates c.address address ≡ b → (if b then Some c.word else found_word cells address) ≡ Some word → (found_word cells address ≡ Some word → IsFound cells address word) →
        IsFound (c ∷ cells) address word
    by true e k rest = record { place = 0; cell = c; in_range = omega arith; is = refl; address_is = same_gates-true c.address address e; word_is = cc }
    by false e k rest =
        let r = rest k in
        record { place = suc r.place; cell = r.cell; in_range = let l = r.in_range in omega arith; is = r.is; address_is = r.address_is; word_is = r.word_is }

-- a cell of the list is one of those after a place, so its word is there
pub cell_word : (nodes : List Node) (w a from : ℕ) (cells : List Cell) (k : ℕ) (d : Cell) → AreCells nodes w a from cells → k < length cells →
    (length (get_or cells k d).word ≡ w) × AreThere (length nodes) (get_or cells k d).word
cell_word nodes w a from [] k d h l = absurd (omega arith)
cell_word nodes w a from (c ∷ cells) zero d h l =
    let room = cells-room nodes w a (place_of c + w) cells h.2 in
    (ap length h.1.word ∙ length-gates_from w (place_of c), subst (AreThere (length nodes)) (sym h.1.word) (gates-there (place_of c) w (length nodes) room))
cell_word nodes w a from (c ∷ cells) (suc k) d h l = cell_word nodes w a (place_of c + w) cells k d h.2 (omega arith)

found-initial : (nodes : List Node) (w a : ℕ) (cells : List Cell) (address word : List Gate) → IsCircuit nodes → AreCells nodes w a 0 cells → found_word cells address ≡ Some word →
    IsInitial nodes w a address cells (word, nodes)
found-initial nodes w a cells address word h are e =
    let f = found cells address word e in
    let c = f.cell in
    let at = cell_word nodes w a 0 cells f.place c are f.in_range in
    let same : (get_or cells f.place c).word ≡ word = ap (λ (d : Cell). d.word) f.is ∙ f.word_is in
    record {
      circuit = h;
      front = front_same nodes;
      few = omega arith;
      few_inputs = omega arith;
      there = subst (AreThere (length nodes)) same at.1;
      wide = ap length (sym same) ∙ at.0;
      are_cells = are;
      value = λ values storage agrees.
          let k = known_of values c in
          let l : f.place < length (known_cells values cells) = let r = f.in_range in omega (arith, length-map cells (known_of values)) in
          let is : get_or (known_cells values cells) f.place k ≡ k = get_or-map (known_of values) cells f.place c k f.in_range ∙ ap (known_of values) f.is in
          let r = subst (λ (x : Known). get_or storage x.address 0 ≡ x.word) is (agrees f.place k l) in
          ap (number values) (sym f.word_is) ∙ sym r ∙ ap (λ (gs : List Gate). get_or storage (number values gs) 0) f.address_is;
    }

initial-by : (nodes : List Node) (w a : ℕ) (cells : List Cell) (address : List Gate) (o : Option (List Gate)) → found_word cells address ≡ o → IsCircuit nodes → 1 ≤ w → AreCells nodes w a 0 cells →
    AreThere (length nodes) address → length address ≡ a → IsInitial nodes w a address (with_found nodes w cells address o) (initial_of nodes w o)
unfolding inputs_made
initial-by nodes w a cells address None e h least are t wide = inputs-initial nodes w a cells address h least are t wide
initial-by nodes w a cells address (Some word) e h least are t wide = found-initial nodes w a cells address word h are e

initial-is : (nodes : List Node) (t : View) (address : List Gate) → IsCircuit nodes → IsOver nodes t → AreThere (length nodes) address → length address ≡ t.a →
    IsInitial nodes t.w t.a address (cells_after nodes t.w t.cells address) (initial_made nodes t.w t.cells address)
unfolding initial_made cells_after
initial-is nodes t address h o there wide = initial-by nodes t.w t.a t.cells address (found_word t.cells address) refl h o.word_width.least o.cells there wide

-- ---- writes that are laid over a word

over-makes : (nodes : List Node) (w a : ℕ) (address : List Gate) (x : Write) (word : List Gate) → IsCircuit nodes → AreThere (length nodes) address → length address ≡ a → IsWrite (length nodes) w a x →
    AreThere (length nodes) word → length word ≡ w →
    MakesBits nodes (over_made nodes address x word) w (each_write w a) (λ v. cond (gate_value v x.guard && nat_eq (number v address) (number v x.address)) (number v x.value) (number v word))
unfolding over_made hit_made
over-makes nodes w a address x word h ta wa wx tw ww =
    let s = same-makes address x.address nodes (constant_gate true) h h.begun ta wx.address (wa ∙ sym wx.address_wide) in
    let same = (same_made nodes (constant_gate true) address x.address).0 in
    let n = (same_made nodes (constant_gate true) address x.address).1 in
    let g = and-makes n x.guard same s.circuit (there_later nodes n x.guard s.adds.front wx.guard) s.there in
    let hit = (and_made n x.guard same).0 in
    let m = (and_made n x.guard same).1 in
    let nm = front_then nodes n m s.adds.front g.adds.front in
    let b = mux-makes m hit x.value word g.circuit g.there (all_there_later nodes m x.value nm wx.value) (all_there_later nodes m word nm tw) (wx.value_wide ∙ sym ww) in
    record {
      circuit = b.circuit;
      adds = record {
        front = front_then nodes m _ nm b.adds.front;
        few =
            let p = s.adds.few in let q = g.adds.few in let r = b.adds.few in
            let ea : 2 * length address ≡ 2 * a = ap (λ k. 2 * k) wa in
            let ew : length x.value * 3 ≡ w * 3 = ap (λ k. k * 3) wx.value_wide in
            omega arith;
        inputs = b.adds.inputs ∙ g.adds.inputs ∙ s.adds.inputs;
      };
      there = b.there;
      wide = b.wide ∙ wx.value_wide;
      value = λ inputs values v.
          let u2 = values_earlier inputs values m _ b.adds.front v in
          let u1 = values_earlier inputs values n m g.adds.front u2 in
          let is = nat_eq (number values address) (number values x.address) in
          let at : gate_value values same ≡ is = s.value inputs values u1 ∙ ap (λ k. k && is) (constant-value inputs values n true s.circuit u1) in
          b.value inputs values v
          ∙ ap (λ k. cond k (number values x.value) (number values word)) (g.value inputs values u2 ∙ ap (λ k. gate_value values x.guard && k) at);
    }

pub laid-makes : (writes : List Write) (nodes : List Node) (w a : ℕ) (address word : List Gate) → IsCircuit nodes → AreThere (length nodes) address → length address ≡ a → All (IsWrite (length nodes) w a) writes →
    AreThere (length nodes) word → length word ≡ w →
    MakesBits nodes (laid_made nodes address writes word) w (length writes * each_write w a) (λ v. laid_word (number v address) (puts_of v writes) (number v word))
unfolding laid_made laid_word
laid-makes [] nodes w a address word h ta wa ws tw ww = record {
  circuit = h;
  adds = record { front = front_same nodes; few = omega arith; inputs = refl };
  there = tw;
  wide = ww;
  value = λ inputs values v. refl;
}
laid-makes (x ∷ writes) nodes w a address word h ta wa ws tw ww =
    let o = over-makes nodes w a address x word h ta wa (All-head (IsWrite (length nodes) w a) x writes ws) tw ww in
    let n = (over_made nodes address x word).1 in
    let r = laid-makes writes n w a address (over_made nodes address x word).0 o.circuit (all_there_later nodes n address o.adds.front ta) wa
    (AreWrites-later nodes n w a writes o.adds.front (All-tail (IsWrite (length nodes) w a) x writes ws)) o.there o.wide in
    record {
      circuit = r.circuit;
      adds = record {
        front = front_then nodes n _ o.adds.front r.adds.front;
        few = let p = o.adds.few in let q = r.adds.few in omega (arith, suc-mul (length writes) (each_write w a));
        inputs = r.adds.inputs ∙ o.adds.inputs;
      };
      there = r.there;
      wide = r.wide;
      value = λ inputs values v.
          let u = values_earlier inputs values n _ r.adds.front v in
          r.value inputs values v ∙ ap (laid_word (number values address) (puts_of values writes)) (o.value inputs values u);
    }

-- ---- a touch

pub record Touches (nodes : List Node) (t : View) (address : List Gate) (made : List Gate × List Node) : Type 0 where
  pub circuit : IsCircuit made.1
  pub grows : GrowsBy nodes made.1 (touch_most t) t.w
  pub there : AreThere (length made.1) made.0
  pub wide : length made.0 ≡ t.w
  pub over : IsOver made.1 (record t { cells = cells_after nodes t.w t.cells address })
  pub worth : IsWordAt made.1 t.w t.a (cells_after nodes t.w t.cells address) t.writes address made.0

pub touches : (nodes : List Node) (t : View) (address : List Gate) → IsCircuit nodes → IsOver nodes t → AreThere (length nodes) address → length address ≡ t.a → Touches nodes t address (touch_made nodes t address)
unfolding touch_made
touches nodes t address h o ta wa =
    let i = initial-is nodes t address h o ta wa in
    let word = (initial_made nodes t.w t.cells address).0 in
    let n = (initial_made nodes t.w t.cells address).1 in
    let r = laid-makes t.writes n t.w t.a address word i.circuit (all_there_later nodes n address i.front ta) wa (AreWrites-later nodes n t.w t.a t.writes i.front o.writes) i.there i.wide in
    let end = (laid_made n address t.writes word).1 in
    let front = front_then nodes n end i.front r.adds.front in
    record {
      circuit = r.circuit;
      grows = record {
        front = front;
        few = let p = i.few in let q = r.adds.few in omega arith;
        few_inputs = let p = i.few_inputs in let q = r.adds.inputs in omega arith;
      };
      there = r.there;
      wide = r.wide;
      over = record {
        word_width = o.word_width;
        address_least = o.address_least;
        address_most = o.address_most;
        cells = AreCells-later n end t.w t.a 0 (cells_after nodes t.w t.cells address) r.adds.front i.are_cells;
        writes = AreWrites-later nodes end t.w t.a t.writes front o.writes;
      };
      worth = λ inputs values storage v s agrees.
          let at : number values address < length storage =
          let b = number-below values address in let e : 2 ^ length address ≡ 2 ^ t.a = ap (λ k. 2 ^ k) wa in omega (arith, s.size) in
          r.value inputs values v
          ∙ ap (laid_word (number values address) (puts_of values t.writes)) (i.value values storage agrees)
          ∙ sym (written-at (puts_of values t.writes) storage (number values address) at);
    }
