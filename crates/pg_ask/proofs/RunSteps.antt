-- Runs in code, and what they leave.
use Rattle.std.proofs.Common.{◌≡◌, ℕ, zero, suc, ◌<◌, List, [], ◌∷◌, length, slice_get, Some, refl, sym, ap, ◌∙◌, subst, arith}
use Rattle.pg_circuit.specs.declared.node.Gate.{Gate}
use Rattle.pg_circuit.specs.declared.node.Node.{Node}
use Rattle.pg_circuit.specs.Nodes.{IsCircuit}
use Rattle.pg_circuit.specs.Grown.{GrowsTo}
use Rattle.pg_cells.specs.declared.cell.Cell.{Cell}
use Rattle.pg_cells.specs.View.{View}
use Rattle.pg_cells.specs.Over.{IsOver}
use Rattle.pg_cells.specs.Made.{touch_made, cells_after}
use Rattle.pg_ast.specs.declared.tree.Instr.{Instr}
use Rattle.pg_ast.specs.declared.tree.Desc.{Desc}
use Rattle.pg_lang_valid.specs.Valid.{IsValid}
use Rattle.pg_symex.specs.declared.regs.Regs.{Regs}
use Rattle.pg_symex.specs.declared.symbolic.SymOutcome.{SymOutcome}
use Rattle.pg_symex.specs.Flow.{SymRun}
use Rattle.pg_symex.specs.There.{AreBits, AreRegs}
use Rattle.pg_symex.specs.Body.{run_made}
use Rattle.pg_symex.specs.Outcome.{IsOutcome}
use Rattle.pg_symex.proofs.RunLaw.{all_run_right}
use Rattle.pg_ask.specs.declared.unknowns.Unknowns.{Unknowns}
use Rattle.pg_ask.specs.declared.ends.End.{End}
use Rattle.pg_ask.specs.Unknowns.{first_regs, second_regs}
use Rattle.pg_ask.specs.There.{AreUnknowns, AreEnd}
use Rattle.pg_ask.specs.Ends.{view_for, end_made, both_made}
use Rattle.pg_ask.specs.Ended.{IsEnded, AreBoth}
use Rattle.pg_ask.proofs.BothLaws.{end-is}

-- an instruction of a number below the count
pub some_at : (is : List Instr) (k : ℕ) → k < length is → (i : Instr) × (slice_get is k ≡ Some i)
some_at [] k l = absurd (omega arith)
some_at (i ∷ is) zero l = (i, refl)
some_at (i ∷ is) (suc k) l = some_at is k (omega arith)

-- ---- one run

-- the view after the run
pub view_run : (d : Desc) (t0 t1 : View) (r : SymRun) (n1 : List Node) (o : SymOutcome) → t0 ≡ view_for d t0.cells [] → t1 ≡ record t0 { cells = t1.cells; writes = t1.writes } → IsOutcome r n1 t1 o → t1 ≡ view_for d r.flow.cells r.writes
view_run d t0 t1 r n1 o v e h =
    e
    ∙ ap (λ k. let x : View = record { w = k; a = t0.a; cells = t1.cells; writes = t1.writes } in x) (ap (λ (x : View). x.w) v)
    ∙ ap (λ k. let x : View = record { w = d.word; a = k; cells = t1.cells; writes = t1.writes } in x) (ap (λ (x : View). x.a) v)
    ∙ ap (λ cs. view_for d cs t1.writes) h.cells
    ∙ ap (λ ws. view_for d r.flow.cells ws) h.stand

pub outcome_none : (d : Desc) (i : Instr) (regs : Regs) (n0 n1 : List Node) (t0 t1 : View) (o : SymOutcome) → t0 ≡ view_for d t0.cells [] → IsOutcome (run_made d i regs n0 t0.cells t0.writes) n1 t1 o → IsOutcome (run_made d i regs n0 t0.cells []) n1 t1 o
outcome_none d i regs n0 n1 t0 t1 o v h = subst (λ ws. IsOutcome (run_made d i regs n0 t0.cells ws) n1 t1 o) (ap (λ (x : View). x.writes) v) h

-- the cells are over the circuit after the run
pub run_over : (d : Desc) (k : ℕ) (regs : Regs) (n0 n1 : List Node) (t0 t1 : View) (o : SymOutcome) → IsValid d → k < length d.instrs → IsCircuit n0 → IsOver n0 t0 → AreRegs (length n0) d.address regs → t0 ≡ view_for d t0.cells [] → t1 ≡ record t0 { cells = t1.cells; writes = t1.writes } →
    ((i : Instr) → slice_get d.instrs k ≡ Some i → IsOutcome (run_made d i regs n0 t0.cells t0.writes) n1 t1 o) → IsOver n1 t1
run_over d k regs n0 n1 t0 t1 o valid l h over are v e made =
    let some = some_at d.instrs k l in
    let i = some.0 in
    let out = outcome_none d i regs n0 n1 t0 t1 o v (made i some.1) in
    let s = all_run_right d k i regs n0 t0.cells valid some.1 h (subst (λ (x : View). IsOver n0 x) v over) are in
    let r = run_made d i regs n0 t0.cells [] in
    subst (λ (ns : List Node). IsOver ns t1) (sym out.nodes_are) (subst (λ (x : View). IsOver r.flow.nodes x) (sym (view_run d t0 t1 r n1 o v e out)) s.over)

abbrev pub end_as : SymOutcome → List Gate → End
end_as o word = record { mem_trap = o.mem_trap; trap = o.trap; mode = o.mode; p = o.p; l = o.l; b = o.b; word = word }

pub ended_step : (d : Desc) (i : Instr) (regs : Regs) (compared : List Gate) (n0 n1 n2 : List Node) (t0 t1 t2 t3 : View) (o : SymOutcome) (word : List Gate) → t0 ≡ view_for d t0.cells [] → t1 ≡ record t0 { cells = t1.cells; writes = t1.writes } →
    IsOutcome (run_made d i regs n0 t0.cells t0.writes) n1 t1 o → (word, n2) ≡ touch_made n1 t1 compared → t2 ≡ record t1 { cells = cells_after n1 t1.w t1.cells compared } → t3 ≡ record t2 { writes = [] } →
    IsEnded (end_made d i regs compared n0 t0.cells) (end_as o word) n2 t3.cells
unfolding end_made
ended_step d i regs compared n0 n1 n2 t0 t1 t2 t3 o word v e h m c w =
    let out = outcome_none d i regs n0 n1 t0 t1 o v h in
    let r = run_made d i regs n0 t0.cells [] in
    let view = view_run d t0 t1 r n1 o v e out in
    let touched : (word, n2) ≡ touch_made r.flow.nodes (view_for d r.flow.cells r.writes) compared = m ∙ ap (λ (x : View). touch_made n1 x compared) view ∙ ap (λ (ns : List Node). touch_made ns (view_for d r.flow.cells r.writes) compared) out.nodes_are in
    let word_is : word ≡ (touch_made r.flow.nodes (view_for d r.flow.cells r.writes) compared).0 = ap (λ (p : List Gate × List Node). p.0) touched in
    record {
      end_is = λ j. record { mem_trap = out.mem_trap j; trap = out.trap j; mode = out.mode j; p = out.p j; l = out.l j; b = out.b j; word = word_is j };
      nodes_are = ap (λ (p : List Gate × List Node). p.1) touched;
      cells_are =
          ap (λ (x : View). x.cells) w ∙ ap (λ (x : View). x.cells) c
          ∙ ap (λ (x : View). cells_after n1 x.w x.cells compared) view
          ∙ ap (λ (ns : List Node). cells_after ns d.word r.flow.cells compared) out.nodes_are;
    }

pub view_end : (d : Desc) (t0 t1 t2 t3 : View) (cells : List Cell) → t0 ≡ view_for d t0.cells [] → t1 ≡ record t0 { cells = t1.cells; writes = t1.writes } → t2 ≡ record t1 { cells = cells } → t3 ≡ record t2 { writes = [] } → t3 ≡ view_for d t3.cells []
view_end d t0 t1 t2 t3 cells v e c w =
    let width : t3.w ≡ d.word = ap (λ (x : View). x.w) w ∙ ap (λ (x : View). x.w) c ∙ ap (λ (x : View). x.w) e ∙ ap (λ (x : View). x.w) v in
    let address : t3.a ≡ d.address = ap (λ (x : View). x.a) w ∙ ap (λ (x : View). x.a) c ∙ ap (λ (x : View). x.a) e ∙ ap (λ (x : View). x.a) v in
    let writes : t3.writes ≡ [] = ap (λ (x : View). x.writes) w in
    λ j. record { w = width j; a = address j; cells = t3.cells; writes = writes j }

-- what an end leaves
pub record EndLeaves (d : Desc) (n0 nodes : List Node) (cells : List Cell) (e : End) : Type 0 where
  pub there : AreEnd (length nodes) d.word d.address e
  pub front : GrowsTo n0 nodes
  pub over : IsOver nodes (view_for d cells [])

pub end_leaves : (d : Desc) (k : ℕ) (regs : Regs) (compared : List Gate) (n0 nodes : List Node) (old cells : List Cell) (e : End) → IsValid d → k < length d.instrs → IsCircuit n0 → IsOver n0 (view_for d old []) → AreRegs (length n0) d.address regs → AreBits (length n0) d.address compared →
    ((i : Instr) → slice_get d.instrs k ≡ Some i → IsEnded (end_made d i regs compared n0 old) e nodes cells) → EndLeaves d n0 nodes cells e
end_leaves d k regs compared n0 nodes old cells e valid l h over are tc made =
    let some = some_at d.instrs k l in
    let i = some.0 in
    let m = made i some.1 in
    let due = end_made d i regs compared n0 old in
    let s = end-is d k i regs compared n0 old (all_run_right d) valid some.1 h over are tc in
    let there : AreEnd (length due.nodes) d.word d.address e = subst (λ (x : End). AreEnd (length due.nodes) d.word d.address x) (sym m.end_is) s.there in
    let all : EndLeaves d n0 due.nodes cells e = record { there = there; front = s.front; over = subst (λ (cs : List Cell). IsOver due.nodes (view_for d cs [])) (sym m.cells_are) s.over } in
    subst (λ (ns : List Node). EndLeaves d n0 ns cells e) (sym m.nodes_are) all

-- ---- both runs

pub both_step : (d : Desc) (i : Instr) (u : Unknowns) (v : List Gate) (n0 n1 n2 : List Node) (c0 c1 c2 : List Cell) (regs others : Regs) (e f : End) → regs ≡ first_regs u v → others ≡ second_regs u v → IsEnded (end_made d i regs u.compared n0 c0) e n1 c1 →
    IsEnded (end_made d i others u.compared n1 c1) f n2 c2 → AreBoth (both_made d i u v n0 c0) (record { first = e; second = f }) n2 c2
unfolding both_made
both_step d i u v n0 n1 n2 c0 c1 c2 regs others e f er eo h k =
    let one = end_made d i (first_regs u v) u.compared n0 c0 in
    let a : IsEnded one e n1 c1 = subst (λ z. IsEnded (end_made d i z u.compared n0 c0) e n1 c1) er h in
    let b : IsEnded (end_made d i (second_regs u v) u.compared n1 c1) f n2 c2 = subst (λ z. IsEnded (end_made d i z u.compared n1 c1) f n2 c2) eo k in
    let b1 : IsEnded (end_made d i (second_regs u v) u.compared one.nodes c1) f n2 c2 = subst (λ z. IsEnded (end_made d i (second_regs u v) u.compared z c1) f n2 c2) a.nodes_are b in
    let b2 : IsEnded (end_made d i (second_regs u v) u.compared one.nodes one.cells) f n2 c2 = subst (λ z. IsEnded (end_made d i (second_regs u v) u.compared one.nodes z) f n2 c2) a.cells_are b1 in
    record { first_is = a.end_is; second_is = b2.end_is; nodes_are = b2.nodes_are; cells_are = b2.cells_are }

pub regs_first : (places a : ℕ) (u : Unknowns) (v : List Gate) (regs : Regs) → regs ≡ first_regs u v → AreUnknowns places a u → AreBits places a v → AreRegs places a regs
regs_first places a u v regs e un tv = subst (λ r. AreRegs places a r) (sym e) (record { mode = un.first_mode; p = un.p; l = un.first_l; b = un.first_b; v = tv })

pub regs_second : (places a : ℕ) (u : Unknowns) (v : List Gate) (regs : Regs) → regs ≡ second_regs u v → AreUnknowns places a u → AreBits places a v → AreRegs places a regs
regs_second places a u v regs e un tv = subst (λ r. AreRegs places a r) (sym e) (record { mode = un.second_mode; p = un.p; l = un.second_l; b = un.second_b; v = tv })
