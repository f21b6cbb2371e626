-- After a run the touched cells are over the circuit that there is then.
use Rattle.std.proofs.Common.{◌≡◌, ℕ, ◌<◌, List, [], length, slice_get, Some, sym, ap, ◌∙◌, subst, inl, inr}
use Rattle.std.proofs.lemmas.Option.{slice_get_cases}
use Rattle.std.proofs.Math.Nat.{not-le_of_lt}
use Rattle.pg_circuit.specs.declared.node.Node.{Node}
use Rattle.pg_cells.specs.View.{View}
use Rattle.pg_cells.specs.Over.{IsOver}
use Rattle.pg_ast.specs.declared.tree.Instr.{Instr}
use Rattle.pg_ast.specs.declared.tree.Desc.{Desc}
use Rattle.pg_symex.specs.declared.regs.Regs.{Regs}
use Rattle.pg_symex.specs.declared.symbolic.SymOutcome.{SymOutcome}
use Rattle.pg_symex.specs.Flow.{SymRun}
use Rattle.pg_symex.specs.Body.{run_made}
use Rattle.pg_symex.specs.Runs.{RunsAs}
use Rattle.pg_symex.specs.Outcome.{IsOutcome}

-- cells of these widths that are those of a run
pub over_of : (after : List Node) (t : View) (r : SymRun) (w a : ℕ) → after ≡ r.flow.nodes → t.cells ≡ r.flow.cells → t.writes ≡ r.writes → t.w ≡ w → t.a ≡ a →
    IsOver r.flow.nodes (record { w = w; a = a; cells = r.flow.cells; writes = r.writes }) → IsOver after t
over_of after t r w a n cs ws e f h =
    let is : t ≡ (let v : View = record { w = w; a = a; cells = r.flow.cells; writes = r.writes } in v) =
    ap (λ k. let v : View = record { w = k; a = t.a; cells = t.cells; writes = t.writes } in v) e
    ∙ ap (λ k. let v : View = record { w = w; a = k; cells = t.cells; writes = t.writes } in v) f
    ∙ ap (λ xs. let v : View = record { w = w; a = a; cells = xs; writes = t.writes } in v) cs
    ∙ ap (λ xs. let v : View = record { w = w; a = a; cells = r.flow.cells; writes = xs } in v) ws in
    subst (λ nodes. IsOver nodes t) (sym n) (subst (λ (v : View). IsOver r.flow.nodes v) (sym is) h)

-- cells of a machine's widths that a run of one of its instructions has left, where no write stood before
pub over_after : (d : Desc) (k : ℕ) (regs : Regs) (nodes : List Node) (old : View) (after : List Node) (t : View) (o : SymOutcome) →
    k < length d.instrs → old.writes ≡ [] →
    ((i : Instr) → slice_get d.instrs k ≡ Some i → old.writes ≡ [] → RunsAs d i regs nodes old.cells (run_made d i regs nodes old.cells [])) →
    ((i : Instr) → slice_get d.instrs k ≡ Some i → IsOutcome (run_made d i regs nodes old.cells old.writes) after t o) →
    t.w ≡ d.word → t.a ≡ d.address → IsOver after t
over_after d k regs nodes old after t o within none runs made e f = elim ((slice_get_cases d.instrs k).1) [
  | inl s ↦
      let out : IsOutcome (run_made d s.0 regs nodes old.cells []) after t o =
      subst (λ ws. IsOutcome (run_made d s.0 regs nodes old.cells ws) after t o) none (made s.0 s.2) in
      over_of after t (run_made d s.0 regs nodes old.cells []) d.word d.address out.nodes_are out.cells out.stand e f (runs s.0 s.2 none).over
  | inr n ↦ absurd (not-le_of_lt within n.0)
]
