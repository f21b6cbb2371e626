-- Accesses, and loads.
use Rattle.std.proofs.Common.{◌≡◌, ℕ, ◌^◌, ◌<◌, nat_lt, Bool, true, false, not, ◌&&◌, ◌||◌, List, [], ◌∷◌, length, take, get_or, Option, refl, sym, ap, ◌∙◌, subst, arith}
use Rattle.std.specs.Prelude.{if◌then◌else◌}
use Rattle.std.proofs.lemmas.List.Elements.{All-get_or}
use Rattle.pg_circuit.specs.declared.node.Gate.{Gate}
use Rattle.pg_circuit.specs.declared.node.Node.{Node}
use Rattle.pg_circuit.specs.Nodes.{IsCircuit}
use Rattle.pg_circuit.specs.Values.{gate_value, IsThere}
use Rattle.pg_circuit.specs.Grown.{GrowsTo}
use Rattle.pg_circuit.specs.Made.{constant_gate, not_gate, and_made}
use Rattle.pg_circuit.proofs.MadeLemmas.{not_value}
use Rattle.pg_word.specs.Bits.{below_bit}
use Rattle.pg_vec.specs.Number.{number, bit_of}
use Rattle.pg_vec.specs.There.{AreValues}
use Rattle.pg_vec.specs.Gates.{or_made}
use Rattle.pg_vec.specs.Strings.{lt_made}
use Rattle.pg_vec.proofs.Kept.{front_then, there_later, values_earlier, and-makes}
use Rattle.pg_vec.proofs.GateLaws.{or-makes}
use Rattle.pg_vec.proofs.EachLaws.{number-below}
use Rattle.pg_vec.proofs.OpLaws.{lt_worth}
use Rattle.pg_cells.specs.declared.cell.Cell.{Cell}
use Rattle.pg_cells.specs.declared.cell.Write.{Write}
use Rattle.pg_cells.specs.Storage.{Agrees, written}
use Rattle.pg_cells.specs.Cells.{known_cells, puts_of}
use Rattle.pg_cells.specs.Made.{touch_made, cells_after}
use Rattle.pg_cells.proofs.TouchLaws.{touches}
use Rattle.pg_lang_meaning.specs.Values.{Bits, bits, Meaning, with_value, loaded}
use Rattle.pg_symex.specs.Flow.{SymEntry, SymLets, Flow, view_of}
use Rattle.pg_symex.specs.Numbers.{value_of, window_value}
use Rattle.pg_symex.specs.There.{AreBits, IsSymEntry, IsFlow}
use Rattle.pg_symex.specs.Exprs.{bit_0, guarded_made, access_made, word_made, load_made}
use Rattle.pg_symex.specs.Follows.{Follows, CellsStay, Makes}
use Rattle.pg_symex.proofs.FollowsLaws.{then-follows}
use Rattle.pg_symex.proofs.CellLaws.{stay-then, cells-stay}
use Rattle.pg_symex.proofs.ExprForms.{bits-later, flow-later, entry-later, bits_same}
use Rattle.pg_symex.proofs.OpLaw.{own_width, one_is_width}
use Rattle.pg_symex.proofs.WindowLaws.{loaded-first, length-written}

-- ---- values of one bit

pub bit_0-there : (places : ℕ) (xs : List Gate) → AreBits places 1 xs → IsThere places (bit_0 xs)
bit_0-there places xs h = All-get_or (IsThere places) xs 0 (constant_gate false) (omega (arith, h.wide)) h.there

pub bit_0-later : (before after : List Node) (xs : List Gate) → GrowsTo before after → AreBits (length before) (length xs) xs → IsThere (length after) (bit_0 xs)
bit_0-later before after xs g h =
    let least = h.is_width.least in
    there_later before after (bit_0 xs) g (All-get_or (IsThere (length before)) xs 0 (constant_gate false) (omega (arith, least)) h.there)

pub number-bit_0 : (values : List Bool) (xs : List Gate) → length xs ≡ 1 → number values xs ≡ bit_of (gate_value values (bit_0 xs))
number-bit_0 values [] e = absurd (omega (arith, e))
number-bit_0 values (x ∷ []) e = omega arith
number-bit_0 values (x ∷ y ∷ xs) e = absurd (omega (arith, e))

bit-below : (b : Bool) (x y : ℕ) → bit_of b ≡ below_bit x y → b ≡ nat_lt x y
bit-below b x y = by b (nat_lt x y)
  where
    by : (b c : Bool) → bit_of b ≡ (if c then 1 else 0) → b ≡ c
    by true true e = refl
    by true false e = absurd (omega (arith, e))
    by false true e = absurd (omega (arith, e))
    by false false e = refl

-- ---- guards

-- what an access leaves: the same cells over nodes that have grown, and guards that say whether it was usable
pub record Guards (at : SymEntry) (writes : List Write) (nodes : List Node) (f g : Flow) (usable : List Bool → Bool) : Type 0 where
  pub flow : IsFlow at writes g
  pub front : GrowsTo nodes g.nodes
  pub cells : g.cells ≡ f.cells
  pub live : (inputs values : List Bool) → AreValues inputs g.nodes values → gate_value values g.live ≡ (gate_value values f.live && usable values)
  pub mem_trap : (inputs values : List Bool) → AreValues inputs g.nodes values → gate_value values g.mem_trap ≡ (gate_value values f.mem_trap || (gate_value values f.live && not (usable values)))

pub guarded : (at : SymEntry) (writes : List Write) (f : Flow) (usable : Gate) (nodes : List Node) → IsFlow at writes f → GrowsTo f.nodes nodes → IsCircuit nodes → IsThere (length nodes) usable →
    Guards at writes nodes f (guarded_made f usable nodes) (λ values. gate_value values usable)
unfolding guarded_made
guarded at writes f usable nodes h g c t =
    let o = and-makes nodes f.live (not_gate usable) c (there_later f.nodes nodes f.live g h.live) t in
    let n1 = (and_made nodes f.live (not_gate usable)).1 in
    let outside = (and_made nodes f.live (not_gate usable)).0 in
    let f1 = front_then f.nodes nodes n1 g o.adds.front in
    let m = or-makes n1 f.mem_trap outside o.circuit (there_later f.nodes n1 f.mem_trap f1 h.mem_trap) o.there in
    let n2 = (or_made n1 f.mem_trap outside).1 in
    let mem_trap = (or_made n1 f.mem_trap outside).0 in
    let f2 = front_then f.nodes n1 n2 f1 m.adds.front in
    let g2 = front_then nodes n1 n2 o.adds.front m.adds.front in
    let l = and-makes n2 f.live usable m.circuit (there_later f.nodes n2 f.live f2 h.live) (there_later nodes n2 usable g2 t) in
    let n3 = (and_made n2 f.live usable).1 in
    let live = (and_made n2 f.live usable).0 in
    let f3 = front_then f.nodes n2 n3 f2 l.adds.front in
    let later = flow-later at writes f n3 f3 l.circuit h in
    record {
      flow = record { circuit = l.circuit; over = later.over; live = l.there; mem_trap = there_later n2 n3 mem_trap l.adds.front m.there };
      front = front_then nodes n2 n3 g2 l.adds.front;
      cells = refl;
      live = λ inputs values v. l.value inputs values v;
      mem_trap = λ inputs values v.
          let u2 = values_earlier inputs values n2 n3 l.adds.front v in
          let u1 = values_earlier inputs values n1 n2 m.adds.front u2 in
          m.value inputs values u2
          ∙ ap (λ k. gate_value values f.mem_trap || k) (o.value inputs values u1 ∙ ap (λ k. gate_value values f.live && k) (not_value values usable));
    }

pub accessed : (at : SymEntry) (writes : List Write) (f : Flow) (address : List Gate) → IsFlow at writes f → IsSymEntry (length f.nodes) at → AreBits (length f.nodes) at.a address →
    Guards at writes f.nodes f (access_made at f address) (λ values. nat_lt (number values address) (number values at.regs.v))
unfolding access_made
accessed at writes f address h is b =
    let v = is.regs.v in
    let m = lt_worth f.nodes _ address at.regs.v h.circuit b.there v.there (b.wide ∙ sym v.wide) (own_width _ at.a address b) (own_width _ at.a at.regs.v v) refl in
    let us = (lt_made f.nodes address at.regs.v).0 in
    let n = (lt_made f.nodes address at.regs.v).1 in
    let one : AreBits (length n) 1 us = record { there = m.there; wide = m.wide; is_width = one_is_width } in
    let g = guarded at writes f (bit_0 us) n h m.adds.front m.circuit (bit_0-there (length n) us one) in
    let after = guarded_made f (bit_0 us) n in
    let is_below : (inputs values : List Bool) → AreValues inputs after.nodes values → gate_value values (bit_0 us) ≡ nat_lt (number values address) (number values at.regs.v) =
    λ inputs values w. bit-below (gate_value values (bit_0 us)) (number values address) (number values at.regs.v)
    (sym (number-bit_0 values us m.wide) ∙ m.value inputs values (values_earlier inputs values n after.nodes g.front w)) in
    record {
      flow = g.flow;
      front = front_then f.nodes n after.nodes m.adds.front g.front;
      cells = g.cells;
      live = λ inputs values w. g.live inputs values w ∙ ap (λ k. gate_value values f.live && k) (is_below inputs values w);
      mem_trap = λ inputs values w. g.mem_trap inputs values w ∙ ap (λ k. gate_value values f.mem_trap || (gate_value values f.live && not k)) (is_below inputs values w);
    }

-- ---- loads

-- what follows an access to an address, and the word there
load-follows : (w v : ℕ) (storage : List ℕ) (at : ℕ) (live mem_trap l t : Bool) (x : Bits) (b : Bool) → at < length storage → nat_lt at v ≡ b → l ≡ (live && b) → t ≡ (mem_trap || (live && not b)) →
    x ≡ bits w (get_or storage at 0) → Follows live mem_trap l t x (loaded w (take v storage) at)
load-follows w v storage at live mem_trap l t x true below e hl ht hx =
    let P : Option Bits → Type 0 = λ o. Follows live mem_trap l t x o in
    subst P (sym (loaded-first w v storage at true below e)) (hl ∙ and-true live, ht ∙ ap (λ k. mem_trap || k) (and-false live) ∙ or-false mem_trap, hx)
  where
    and-true : (c : Bool) → (c && true) ≡ c
    and-true true = refl
    and-true false = refl

    and-false : (c : Bool) → (c && false) ≡ false
    and-false true = refl
    and-false false = refl

    or-false : (c : Bool) → (c || false) ≡ c
    or-false true = refl
    or-false false = refl
load-follows w v storage at live mem_trap l t x false below e hl ht hx =
    let P : Option Bits → Type 0 = λ o. Follows live mem_trap l t x o in
    subst P (sym (loaded-first w v storage at false below e)) (hl ∙ and-false live, ht ∙ ap (λ k. mem_trap || k) (and-true live))
  where
    and-true : (c : Bool) → (c && true) ≡ c
    and-true true = refl
    and-true false = refl

    and-false : (c : Bool) → (c && false) ≡ false
    and-false true = refl
    and-false false = refl

pub load_makes : (at : SymEntry) (lets : SymLets) (writes : List Write) (f : Flow) (part : List Gate × Flow) (meant : Meaning) → IsSymEntry (length f.nodes) at → Makes at lets writes f at.a part meant →
    Makes at lets writes f at.w (load_made at writes part.1 part.0) (λ e ls window. with_value (meant e ls window) (λ x. loaded e.w window x.value))
unfolding word_made
load_makes at lets writes f part meant is h =
    let entry = entry-later f.nodes part.1.nodes at h.front is in
    let g = accessed at writes part.1 part.0 h.flow entry h.bits in
    let after = access_made at part.1 part.0 in
    let address = bits-later part.1.nodes after.nodes at.a part.0 g.front h.bits in
    let t = touches after.nodes (view_of at writes after.cells) part.0 g.flow.circuit g.flow.over address.there address.wide in
    let word = (touch_made after.nodes (view_of at writes after.cells) part.0).0 in
    let n = (touch_made after.nodes (view_of at writes after.cells) part.0).1 in
    record {
      flow = record {
        circuit = t.circuit;
        over = t.over;
        live = there_later after.nodes n after.live t.grows.front g.flow.live;
        mem_trap = there_later after.nodes n after.mem_trap t.grows.front g.flow.mem_trap;
      };
      front = front_then f.nodes part.1.nodes n h.front (front_then part.1.nodes after.nodes n g.front t.grows.front);
      cells = stay-then f.cells part.1.cells (cells_after after.nodes at.w after.cells part.0) h.cells
          (let P : List Cell → Type 0 = λ cs. CellsStay cs (cells_after after.nodes at.w after.cells part.0) in subst P g.cells (cells-stay after.nodes at.w after.cells part.0));
      bits = record { there = t.there; wide = t.wide; is_width = is.word.is_width };
      worth = λ inputs values storage v s agrees.
          let u = values_earlier inputs values after.nodes n t.grows.front v in
          let u0 = values_earlier inputs values part.1.nodes after.nodes g.front u in
          let old = let P : List Cell → Type 0 = λ cs. Agrees storage (known_cells values cs) in
          subst P g.cells ((cells-stay after.nodes at.w after.cells part.0).agrees values storage agrees) in
          let below : number values part.0 < length (written storage (puts_of values writes)) =
          let e : 2 ^ length part.0 ≡ 2 ^ at.a = ap (λ k. 2 ^ k) h.bits.wide in
          omega (arith, number-below values part.0, s.size, length-written (puts_of values writes) storage) in
          then-follows (gate_value values f.live) (gate_value values f.mem_trap) (gate_value values part.1.live) (gate_value values part.1.mem_trap) (gate_value values after.live) (gate_value values after.mem_trap) (value_of values part.0) (value_of values word) _ (λ x. loaded at.w (window_value values storage at writes) x.value)
          (h.worth inputs values storage u0 s old)
          (load-follows at.w (number values at.regs.v) (written storage (puts_of values writes)) (number values part.0) (gate_value values part.1.live) (gate_value values part.1.mem_trap) (gate_value values after.live) (gate_value values after.mem_trap) (value_of values word)
          (nat_lt (number values part.0) (number values at.regs.v)) below refl (g.live inputs values u) (g.mem_trap inputs values u)
          (bits_same (length word) at.w (number values word) _ t.wide (t.worth inputs values storage v s agrees)));
    }
