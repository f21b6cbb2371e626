-- What two runs over one storage tell.
use Rattle.std.proofs.Common.{◌≡◌, ℕ, ◌^◌, Bool, true, false, List, [], length, take, get_or, slice_get, Some, refl, sym, ap, ◌∙◌}
use Rattle.std.proofs.lemmas.List.Elements.{All-nil}
use Rattle.pg_circuit.specs.declared.node.Gate.{Gate}
use Rattle.pg_circuit.specs.declared.node.Node.{Node}
use Rattle.pg_circuit.specs.Nodes.{IsCircuit}
use Rattle.pg_circuit.specs.Grown.{GrowsTo}
use Rattle.pg_circuit.specs.Values.{gate_value}
use Rattle.pg_word.specs.declared.psw.Psw.{Psw}
use Rattle.pg_word.specs.Psw.{mode_of}
use Rattle.pg_vec.specs.Number.{number}
use Rattle.pg_vec.specs.There.{AreValues}
use Rattle.pg_vec.proofs.Kept.{front_then, there_later, values_earlier}
use Rattle.pg_cells.specs.declared.cell.Cell.{Cell}
use Rattle.pg_cells.specs.declared.cell.Write.{Write}
use Rattle.pg_cells.specs.Storage.{IsStorage, Agrees, written}
use Rattle.pg_cells.specs.Cells.{known_cells, puts_of}
use Rattle.pg_cells.specs.Over.{IsWrite, IsOver}
use Rattle.pg_cells.specs.Made.{touch_made, cells_after}
use Rattle.pg_cells.proofs.TouchLaws.{touches}
use Rattle.pg_ast.specs.declared.tree.Instr.{Instr}
use Rattle.pg_ast.specs.declared.tree.Desc.{Desc}
use Rattle.pg_lang_meaning.specs.Bodies.{Course, MemTrapped, Trapped, Going, After, body}
use Rattle.pg_lang_valid.specs.Valid.{IsValid}
use Rattle.pg_symex.specs.declared.regs.Regs.{Regs}
use Rattle.pg_symex.specs.Flow.{SymRun}
use Rattle.pg_symex.specs.Numbers.{entry_psw}
use Rattle.pg_symex.specs.There.{AreBits, AreRegs}
use Rattle.pg_symex.specs.Follows.{CellsStay}
use Rattle.pg_symex.specs.Body.{run_made}
use Rattle.pg_symex.specs.Runs.{Tells, AllRunRight}
use Rattle.pg_symex.proofs.CellLaws.{stay-then, cells-stay}
use Rattle.pg_symex.proofs.WindowLaws.{length-written}
use Rattle.pg_ask.specs.declared.unknowns.Unknowns.{Unknowns}
use Rattle.pg_ask.specs.declared.ends.End.{End}
use Rattle.pg_ask.specs.Unknowns.{first_regs, second_regs}
use Rattle.pg_ask.specs.There.{AreUnknowns, AreEnd}
use Rattle.pg_ask.specs.Ends.{end_of, view_for, Ended, end_made, Both, both_made}
use Rattle.pg_ask.proofs.ThereLaws.{bits_on, unknowns_on, end_on}

-- the registers that follow
abbrev pub end_psw : List Bool → End → Psw
end_psw values e = record { mode = mode_of (number values e.mode); p = number values e.p; l = number values e.l; b = number values e.b }

-- what a run leaves that no trap ended: the registers, and the window of a storage, whose word at the compared address is known
pub record Leaves (values : List Bool) (a v : ℕ) (compared : List Gate) (e : End) (x : After) : Type 0 where
  pub mem_trap : gate_value values e.mem_trap ≡ false
  pub trap : gate_value values e.trap ≡ false
  pub psw : x.psw ≡ end_psw values e
  pub storage : List ℕ
  pub size : length storage ≡ 2 ^ a
  pub window : x.window ≡ take v storage
  pub word : number values e.word ≡ get_or storage (number values compared) 0

-- how a run ended, from the course of the body
abbrev pub EndTells : List Bool → (a v : ℕ) → List Gate → End → Course After → Type 0
EndTells values a v compared e MemTrapped = (gate_value values e.mem_trap ≡ true) × (gate_value values e.trap ≡ false)
EndTells values a v compared e Trapped = (gate_value values e.mem_trap ≡ false) × (gate_value values e.trap ≡ true)
EndTells values a v compared e (Going x) = Leaves values a v compared e x

pub record EndIs (d : Desc) (i : Instr) (regs : Regs) (compared : List Gate) (nodes : List Node) (cells : List Cell) (ended : Ended) : Type 0 where
  pub circuit : IsCircuit ended.nodes
  pub front : GrowsTo nodes ended.nodes
  pub stay : CellsStay cells ended.cells
  pub over : IsOver ended.nodes (view_for d ended.cells [])
  pub there : AreEnd (length ended.nodes) d.word d.address ended.end
  pub tells : (inputs values : List Bool) (storage : List ℕ) → AreValues inputs ended.nodes values → IsStorage d.word d.address storage → Agrees storage (known_cells values ended.cells) →
      EndTells values d.address (number values regs.v) compared ended.end (body d i (take (number values regs.v) storage) (entry_psw values regs) (get_or storage (number values regs.p) 0))

no-writes : (nodes : List Node) (d : Desc) (cells : List Cell) (writes : List Write) → IsOver nodes (view_for d cells writes) → IsOver nodes (view_for d cells [])
no-writes nodes d cells writes h = record {
  word_width = h.word_width;
  address_least = h.address_least;
  address_most = h.address_most;
  cells = h.cells;
  writes = All-nil (IsWrite (length nodes) d.word d.address);
}

tells-end : (values : List Bool) (storage after : List ℕ) (a v : ℕ) (compared word : List Gate) (r : SymRun) (c : Course After) → Tells values storage v r c → after ≡ written storage (puts_of values r.writes) → length after ≡ 2 ^ a →
    number values word ≡ get_or after (number values compared) 0 → EndTells values a v compared (end_of r word) c
tells-end values storage after a v compared word r MemTrapped h e s w = h
tells-end values storage after a v compared word r Trapped h e s w = h
tells-end values storage after a v compared word r (Going x) h e s w = record {
  mem_trap = h.0;
  trap = h.1;
  psw = h.2;
  storage = after;
  size = s;
  window = h.3 ∙ ap (take v) (sym e);
  word = w;
}

pub end-is : (d : Desc) (k : ℕ) (i : Instr) (regs : Regs) (compared : List Gate) (nodes : List Node) (cells : List Cell) → AllRunRight d → IsValid d → slice_get d.instrs k ≡ Some i → IsCircuit nodes → IsOver nodes (view_for d cells []) →
    AreRegs (length nodes) d.address regs → AreBits (length nodes) d.address compared → EndIs d i regs compared nodes cells (end_made d i regs compared nodes cells)
unfolding end_made
end-is d k i regs compared nodes cells right valid here circuit over are tc =
    let r = run_made d i regs nodes cells [] in
    let s = right k i regs nodes cells valid here circuit over are in
    let n1 = r.flow.nodes in
    let view = view_for d r.flow.cells r.writes in
    let c1 = bits_on nodes n1 d.address compared s.front tc in
    let t = touches n1 view compared s.circuit s.over c1.there c1.wide in
    let word = (touch_made n1 view compared).0 in
    let n2 = (touch_made n1 view compared).1 in
    let after = cells_after n1 d.word r.flow.cells compared in
    let g = t.grows.front in
    let stays = cells-stay n1 d.word r.flow.cells compared in
    let next = s.next in
    record {
      circuit = t.circuit;
      front = front_then nodes n1 n2 s.front g;
      stay = stay-then cells r.flow.cells after s.stay stays;
      over = no-writes n2 d after r.writes t.over;
      there = record {
        mem_trap = there_later n1 n2 r.flow.mem_trap g s.mem_trap;
        trap = there_later n1 n2 r.trap g s.trap;
        mode = bits_on n1 n2 1 r.next.mode g next.mode;
        p = bits_on n1 n2 d.address r.next.p g next.p;
        l = bits_on n1 n2 d.address r.next.l g next.l;
        b = bits_on n1 n2 d.address r.next.b g next.b;
        word = record { there = t.there; wide = t.wide; is_width = over.word_width };
      };
      tells = λ inputs values storage v z agrees.
          let u = values_earlier inputs values n1 n2 g v in
          let written_is = written storage (puts_of values r.writes) in
          let size : length written_is ≡ 2 ^ d.address = length-written (puts_of values r.writes) storage ∙ z.size in
          tells-end values storage written_is d.address (number values regs.v) compared word r _ (s.tells inputs values storage u z (stays.agrees values storage agrees)) refl size (t.worth inputs values storage v z agrees);
    }

-- both runs
pub record BothAre (d : Desc) (i : Instr) (u : Unknowns) (v : List Gate) (nodes : List Node) (cells : List Cell) (both : Both) : Type 0 where
  pub circuit : IsCircuit both.nodes
  pub front : GrowsTo nodes both.nodes
  pub stay : CellsStay cells both.cells
  pub over : IsOver both.nodes (view_for d both.cells [])
  pub first_there : AreEnd (length both.nodes) d.word d.address both.first
  pub second_there : AreEnd (length both.nodes) d.word d.address both.second
  pub first : (inputs values : List Bool) (storage : List ℕ) → AreValues inputs both.nodes values → IsStorage d.word d.address storage → Agrees storage (known_cells values both.cells) →
      EndTells values d.address (number values v) u.compared both.first (body d i (take (number values v) storage) (entry_psw values (first_regs u v)) (get_or storage (number values u.p) 0))
  pub second : (inputs values : List Bool) (storage : List ℕ) → AreValues inputs both.nodes values → IsStorage d.word d.address storage → Agrees storage (known_cells values both.cells) →
      EndTells values d.address (number values v) u.compared both.second (body d i (take (number values v) storage) (entry_psw values (second_regs u v)) (get_or storage (number values u.p) 0))

pub both-are : (d : Desc) (k : ℕ) (i : Instr) (u : Unknowns) (v : List Gate) (nodes : List Node) (cells : List Cell) → AllRunRight d → IsValid d → slice_get d.instrs k ≡ Some i → IsCircuit nodes → IsOver nodes (view_for d cells []) →
    AreUnknowns (length nodes) d.address u → AreBits (length nodes) d.address v → BothAre d i u v nodes cells (both_made d i u v nodes cells)
unfolding both_made
both-are d k i u v nodes cells right valid here circuit over un tv =
    let a = d.address in
    let regs : AreRegs (length nodes) a (first_regs u v) = record { mode = un.first_mode; p = un.p; l = un.first_l; b = un.first_b; v = tv } in
    let one = end_made d i (first_regs u v) u.compared nodes cells in
    let s = end-is d k i (first_regs u v) u.compared nodes cells right valid here circuit over regs un.compared in
    let n1 = one.nodes in
    let u1 = unknowns_on nodes n1 a u s.front un in
    let v1 = bits_on nodes n1 a v s.front tv in
    let again : AreRegs (length n1) a (second_regs u v) = record { mode = u1.second_mode; p = u1.p; l = u1.second_l; b = u1.second_b; v = v1 } in
    let two = end_made d i (second_regs u v) u.compared n1 one.cells in
    let t = end-is d k i (second_regs u v) u.compared n1 one.cells right valid here s.circuit s.over again u1.compared in
    let n2 = two.nodes in
    record {
      circuit = t.circuit;
      front = front_then nodes n1 n2 s.front t.front;
      stay = stay-then cells one.cells two.cells s.stay t.stay;
      over = t.over;
      first_there = end_on n1 n2 d.word a one.end t.front s.there;
      second_there = t.there;
      first = λ inputs values storage w z agrees. s.tells inputs values storage (values_earlier inputs values n1 n2 t.front w) z (t.stay.agrees values storage agrees);
      second = λ inputs values storage w z agrees. t.tells inputs values storage w z agrees;
    }
