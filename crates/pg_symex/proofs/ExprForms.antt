-- What each form makes of its parts, which were made right.
use Rattle.std.proofs.Common.{◌≡◌, ℕ, Bool, List, [], ◌∷◌, length, Option, Some, refl, sym, ap, ◌∙◌, subst}
use Rattle.pg_circuit.specs.declared.node.Gate.{Gate}
use Rattle.pg_circuit.specs.declared.node.Node.{Node}
use Rattle.pg_circuit.specs.Nodes.{IsCircuit}
use Rattle.pg_circuit.specs.Values.{gate_value}
use Rattle.pg_circuit.specs.Grown.{GrowsTo}
use Rattle.pg_word.specs.Bits.{IsWidth}
use Rattle.pg_vec.specs.Number.{number}
use Rattle.pg_vec.specs.There.{AreValues}
use Rattle.pg_vec.specs.Makes.{MakesBits}
use Rattle.pg_vec.proofs.Kept.{front_same, front_then, there_later, all_there_later, values_earlier}
use Rattle.pg_cells.specs.declared.cell.Write.{Write}
use Rattle.pg_cells.proofs.OverLaws.{IsOver-later}
use Rattle.pg_lang_meaning.specs.Values.{Bits, bits, Entry, Lets, Meaning, with_value}
use Rattle.pg_lang_valid.specs.Widths.{LetWidths}
use Rattle.pg_symex.specs.declared.regs.Regs.{Regs}
use Rattle.pg_symex.specs.Flow.{SymEntry, SymLets, Flow, view_of, with_nodes}
use Rattle.pg_symex.specs.Numbers.{value_of, entry_value, lets_value, window_value}
use Rattle.pg_symex.specs.There.{AreBits, AreRegs, IsSymEntry, LetsAre, IsFlow}
use Rattle.pg_symex.specs.Follows.{Follows, Makes}
use Rattle.pg_symex.proofs.FollowsLaws.{one-follows, two-follow, three-follow}
use Rattle.pg_symex.proofs.CellLaws.{stay-same, stay-then}

-- ---- what stays

pub bits-later : (before after : List Node) (n : ℕ) (xs : List Gate) → GrowsTo before after → AreBits (length before) n xs → AreBits (length after) n xs
bits-later before after n xs g h = record { there = all_there_later before after xs g h.there; wide = h.wide; is_width = h.is_width }

pub regs-later : (before after : List Node) (a : ℕ) (r : Regs) → GrowsTo before after → AreRegs (length before) a r → AreRegs (length after) a r
regs-later before after a r g h = record {
  mode = bits-later before after 1 r.mode g h.mode;
  p = bits-later before after a r.p g h.p;
  l = bits-later before after a r.l g h.l;
  b = bits-later before after a r.b g h.b;
  v = bits-later before after a r.v g h.v;
}

pub entry-later : (before after : List Node) (at : SymEntry) → GrowsTo before after → IsSymEntry (length before) at → IsSymEntry (length after) at
entry-later before after at g h = record {
  regs = regs-later before after at.a at.regs g h.regs;
  word = bits-later before after at.w at.word g h.word;
  pattern = h.pattern;
}

pub lets-later : (before after : List Node) (lets : SymLets) (ws : LetWidths) → GrowsTo before after → LetsAre (length before) lets ws → LetsAre (length after) lets ws
lets-later before after [] [] g h = h
lets-later before after [] (w ∷ ws) g h = h
lets-later before after (l ∷ ls) [] g h = h
lets-later before after (l ∷ ls) (w ∷ ws) g h = (h.0, bits-later before after w.1 l.1 g h.1, lets-later before after ls ws g h.2)

-- the same cells over nodes that have grown
pub flow-later : (at : SymEntry) (writes : List Write) (f : Flow) (nodes : List Node) → GrowsTo f.nodes nodes → IsCircuit nodes → IsFlow at writes f → IsFlow at writes (with_nodes f nodes)
flow-later at writes f nodes g c h = record {
  circuit = c;
  over = IsOver-later f.nodes nodes (view_of at writes f.cells) g h.over;
  live = there_later f.nodes nodes f.live g h.live;
  mem_trap = there_later f.nodes nodes f.mem_trap g h.mem_trap;
}

pub bits_same : (n m j k : ℕ) → n ≡ m → j ≡ k → bits n j ≡ bits m k
bits_same n m j k e h = ap (λ i. bits i j) e ∙ ap (bits m) h

-- the same that was made, and the same meaning
pub makes_as : (at : SymEntry) (lets : SymLets) (writes : List Write) (f : Flow) (n : ℕ) (made due : List Gate × Flow) (meant due_meaning : Meaning) → due ≡ made →
    ((e : Entry) (ls : Lets) (window : List ℕ) → due_meaning e ls window ≡ meant e ls window) → Makes at lets writes f n made meant → Makes at lets writes f n due due_meaning
makes_as at lets writes f n made due meant due_meaning e m h =
    let is : Makes at lets writes f n made due_meaning = record {
      flow = h.flow;
      front = h.front;
      cells = h.cells;
      bits = h.bits;
      worth = λ inputs values storage v s agrees.
          let P : Option Bits → Type 0 = λ o. Follows (gate_value values f.live) (gate_value values f.mem_trap) (gate_value values made.1.live) (gate_value values made.1.mem_trap) (value_of values made.0) o in
          subst P (sym (m (entry_value values at) (lets_value values lets) (window_value values storage at writes))) (h.worth inputs values storage v s agrees);
    } in
    subst (λ (k : List Gate × Flow). Makes at lets writes f n k due_meaning) (sym e) is

-- ---- a form with no part

pub leaf_makes : (at : SymEntry) (lets : SymLets) (writes : List Write) (f : Flow) (n : ℕ) (xs : List Gate) (meant : Entry → Lets → Bits) → IsFlow at writes f → AreBits (length f.nodes) n xs →
    ((inputs values : List Bool) → AreValues inputs f.nodes values → value_of values xs ≡ meant (entry_value values at) (lets_value values lets)) →
    Makes at lets writes f n (xs, f) (λ e ls window. Some (meant e ls))
leaf_makes at lets writes f n xs meant fl b is = record {
  flow = fl;
  front = front_same f.nodes;
  cells = stay-same f.cells;
  bits = b;
  worth = λ inputs values storage v s agrees. (refl, refl, is inputs values v);
}

-- ---- a form with one part

pub one_makes : (at : SymEntry) (lets : SymLets) (writes : List Write) (f : Flow) (n : ℕ) (part : List Gate × Flow) (meant : Meaning) → Makes at lets writes f n part meant →
    (made : List Gate × List Node) (m most : ℕ) (worth : List Bool → ℕ) → MakesBits part.1.nodes made m most worth → IsWidth m →
    (go : Bits → Bits) → ((values : List Bool) → go (value_of values part.0) ≡ bits m (worth values)) →
    Makes at lets writes f m (made.0, with_nodes part.1 made.1) (λ e ls window. with_value (meant e ls window) (λ x. Some (go x)))
one_makes at lets writes f n part meant h made m most worth b is go e =
    record {
      flow = flow-later at writes part.1 made.1 b.adds.front b.circuit h.flow;
      front = front_then f.nodes part.1.nodes made.1 h.front b.adds.front;
      cells = h.cells;
      bits = record { there = b.there; wide = b.wide; is_width = is };
      worth = λ inputs values storage v s agrees.
          let u = values_earlier inputs values part.1.nodes made.1 b.adds.front v in
          one-follows (gate_value values f.live) (gate_value values f.mem_trap) (gate_value values part.1.live) (gate_value values part.1.mem_trap) (value_of values part.0) (value_of values made.0) _ go (h.worth inputs values storage u s agrees)
          (e values ∙ sym (bits_same (length made.0) m (number values made.0) (worth values) b.wide (b.value inputs values v)));
    }

-- ---- a form with two parts

pub two_make : (at : SymEntry) (lets : SymLets) (writes : List Write) (f : Flow) (j k : ℕ) (part next : List Gate × Flow) (meant then_meant : Meaning) →
    Makes at lets writes f j part meant → Makes at lets writes part.1 k next then_meant →
    (made : List Gate × List Node) (m most : ℕ) (worth : List Bool → ℕ) → MakesBits next.1.nodes made m most worth → IsWidth m →
    (go : Bits → Bits → Bits) → ((values : List Bool) → go (value_of values part.0) (value_of values next.0) ≡ bits m (worth values)) →
    Makes at lets writes f m (made.0, with_nodes next.1 made.1) (λ e ls window. with_value (meant e ls window) (λ x. with_value (then_meant e ls window) (λ y. Some (go x y))))
two_make at lets writes f j k part next meant then_meant h i made m most worth b is go e =
    record {
      flow = flow-later at writes next.1 made.1 b.adds.front b.circuit i.flow;
      front = front_then f.nodes part.1.nodes made.1 h.front (front_then part.1.nodes next.1.nodes made.1 i.front b.adds.front);
      cells = stay-then f.cells part.1.cells next.1.cells h.cells i.cells;
      bits = record { there = b.there; wide = b.wide; is_width = is };
      worth = λ inputs values storage v s agrees.
          let u = values_earlier inputs values next.1.nodes made.1 b.adds.front v in
          let t = values_earlier inputs values part.1.nodes next.1.nodes i.front u in
          two-follow (gate_value values f.live) (gate_value values f.mem_trap) (gate_value values part.1.live) (gate_value values part.1.mem_trap) (gate_value values next.1.live) (gate_value values next.1.mem_trap) (value_of values part.0) (value_of values next.0) (value_of values made.0) _ _ go
          (h.worth inputs values storage t s (i.cells.agrees values storage agrees)) (i.worth inputs values storage u s agrees)
          (e values ∙ sym (bits_same (length made.0) m (number values made.0) (worth values) b.wide (b.value inputs values v)));
    }

-- ---- a form with three parts

pub three_make : (at : SymEntry) (lets : SymLets) (writes : List Write) (f : Flow) (i j k : ℕ) (first second third : List Gate × Flow) (meant_1 meant_2 meant_3 : Meaning) →
    Makes at lets writes f i first meant_1 → Makes at lets writes first.1 j second meant_2 → Makes at lets writes second.1 k third meant_3 →
    (made : List Gate × List Node) (m most : ℕ) (worth : List Bool → ℕ) → MakesBits third.1.nodes made m most worth → IsWidth m →
    (go : Bits → Bits → Bits → Bits) → ((values : List Bool) → go (value_of values first.0) (value_of values second.0) (value_of values third.0) ≡ bits m (worth values)) →
    Makes at lets writes f m (made.0, with_nodes third.1 made.1)
    (λ e ls window. with_value (meant_1 e ls window) (λ t. with_value (meant_2 e ls window) (λ x. with_value (meant_3 e ls window) (λ y. Some (go t x y)))))
three_make at lets writes f i j k first second third meant_1 meant_2 meant_3 h1 h2 h3 made m most worth b is go e =
    record {
      flow = flow-later at writes third.1 made.1 b.adds.front b.circuit h3.flow;
      front = front_then f.nodes first.1.nodes made.1 h1.front (front_then first.1.nodes second.1.nodes made.1 h2.front
          (front_then second.1.nodes third.1.nodes made.1 h3.front b.adds.front));
      cells = stay-then f.cells first.1.cells third.1.cells h1.cells (stay-then first.1.cells second.1.cells third.1.cells h2.cells h3.cells);
      bits = record { there = b.there; wide = b.wide; is_width = is };
      worth = λ inputs values storage v s agrees.
          let u3 = values_earlier inputs values third.1.nodes made.1 b.adds.front v in
          let u2 = values_earlier inputs values second.1.nodes third.1.nodes h3.front u3 in
          let u1 = values_earlier inputs values first.1.nodes second.1.nodes h2.front u2 in
          let a2 = h3.cells.agrees values storage agrees in
          three-follow (gate_value values f.live) (gate_value values f.mem_trap) (gate_value values first.1.live) (gate_value values first.1.mem_trap) (gate_value values second.1.live) (gate_value values second.1.mem_trap) (gate_value values third.1.live) (gate_value values third.1.mem_trap) (value_of values first.0) (value_of values second.0) (value_of values third.0) (value_of values made.0) _ _ _ go
          (h1.worth inputs values storage u1 s (h2.cells.agrees values storage a2)) (h2.worth inputs values storage u2 s a2) (h3.worth inputs values storage u3 s agrees)
          (e values ∙ sym (bits_same (length made.0) m (number values made.0) (worth values) b.wide (b.value inputs values v)));
    }
