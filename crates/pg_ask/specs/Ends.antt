-- Two runs of one body over one storage, and that they end as a kind asks, as a gate.
use Rattle.std.specs.Prelude.{true, List, []}
use Rattle.pg_circuit.specs.declared.node.Gate.{Gate}
use Rattle.pg_circuit.specs.declared.node.Node.{Node}
use Rattle.pg_circuit.specs.Made.{constant_gate, not_gate, and_made, xor_made}
use Rattle.pg_vec.specs.Gates.{then_made, or_made}
use Rattle.pg_vec.specs.Strings.{lt_made, same_made}
use Rattle.pg_cells.specs.declared.cell.Cell.{Cell}
use Rattle.pg_cells.specs.declared.cell.Write.{Write}
use Rattle.pg_cells.specs.View.{View}
use Rattle.pg_cells.specs.Made.{touch_made, cells_after}
use Rattle.pg_ast.specs.declared.tree.Instr.{Instr}
use Rattle.pg_ast.specs.declared.tree.Desc.{Desc}
use Rattle.pg_type.specs.declared.kind.Kind.{Kind}
use Rattle.pg_type.specs.declared.kind.Kind.TheVariants.{Privileged, Control, ModeDep, Location, Bound, UControl, ULocation, UBound}
use Rattle.pg_symex.specs.declared.regs.Regs.{Regs}
use Rattle.pg_symex.specs.Flow.{SymRun}
use Rattle.pg_symex.specs.Exprs.{bit_0}
use Rattle.pg_symex.specs.Body.{run_made}
use Rattle.pg_ask.specs.declared.unknowns.Unknowns.{Unknowns}
use Rattle.pg_ask.specs.declared.ends.End.{End}
use Rattle.pg_ask.specs.Unknowns.{first_regs, second_regs}
use Rattle.pg_ask.specs.Fits.{alike_made}

-- how a run ended, and the word that it leaves at the compared address
abbrev pub end_of : SymRun → List Gate → End
end_of r word = record { mem_trap = r.flow.mem_trap; trap = r.trap; mode = r.next.mode; p = r.next.p; l = r.next.l; b = r.next.b; word = word }

-- the touched cells of a description's machine
abbrev pub view_for : Desc → List Cell → List Write → View
view_for d cells writes = record { w = d.word; a = d.address; cells = cells; writes = writes }

-- one run over cells under no write: how it ended, and the nodes and cells after it
pub record Ended : Type 0 where
  pub end : End
  pub nodes : List Node
  pub cells : List Cell

unfoldable pub end_made : Desc → Instr → Regs → List Gate → List Node → List Cell → Ended
end_made d i regs compared nodes cells =
    let r = run_made d i regs nodes cells [] in
    let word = touch_made r.flow.nodes (view_for d r.flow.cells r.writes) compared in
    record { end = end_of r word.0; nodes = word.1; cells = cells_after r.flow.nodes d.word r.flow.cells compared }

-- two runs over one storage, the second with none of the first one's writes: how each ended, and the nodes and cells after both
pub record Both : Type 0 where
  pub first : End
  pub second : End
  pub nodes : List Node
  pub cells : List Cell

unfoldable pub both_made : Desc → Instr → Unknowns → List Gate → List Node → List Cell → Both
both_made d i u v nodes cells =
    let first = end_made d i (first_regs u v) u.compared nodes cells in
    let second = end_made d i (second_regs u v) u.compared first.nodes first.cells in
    record { first = first.end; second = second.end; nodes = second.nodes; cells = second.cells }

-- done: neither trap
abbrev pub done_made : List Node → End → Gate × List Node
done_made nodes e = and_made nodes (not_gate e.mem_trap) (not_gate e.trap)

-- the first is done, with another mode or another R than before
unfoldable pub control_made : List Node → Unknowns → End → Gate × List Node
control_made nodes u first =
    then_made (done_made nodes first) (λ done after_done.
    then_made (same_made after_done (constant_gate true) first.mode u.first_mode) (λ mode after_mode.
    then_made (alike_made after_mode mode first.l u.first_l) (λ l after_l.
    then_made (alike_made after_l l first.b u.first_b) (λ b after_b.
    and_made after_b done (not_gate b)))))

-- what two done runs leave differs: P, or the word at the compared address, where that is usable
unfoldable pub seen_apart_made : List Node → Unknowns → List Gate → (first second : End) → Gate × List Node
seen_apart_made nodes u v first second =
    then_made (same_made nodes (constant_gate true) first.p second.p) (λ same_p after_p.
    then_made (same_made after_p (constant_gate true) first.word second.word) (λ same_word after_word.
    then_made (lt_made after_word u.compared v) (λ inside after_inside.
    then_made (and_made after_inside (bit_0 inside) (not_gate same_word)) (λ odd after_odd.
    or_made after_odd (not_gate same_p) odd))))

-- the second is done; or it does not memory trap, and the first traps
unfoldable pub broken_made : List Node → (first second : End) → Gate × List Node
broken_made nodes first second =
    then_made (done_made nodes second) (λ done after_done.
    then_made (and_made after_done first.trap (not_gate second.mem_trap)) (λ odd after_odd.
    or_made after_odd done odd))

-- the second is done, and the first is not, or leaves something else
unfoldable pub mode_made : List Node → Unknowns → List Gate → (first second : End) → Gate × List Node
mode_made nodes u v first second =
    then_made (done_made nodes first) (λ first_done after_first.
    then_made (done_made after_first second) (λ second_done after_second.
    then_made (seen_apart_made after_second u v first second) (λ apart after_apart.
    then_made (or_made after_apart (not_gate first_done) apart) (λ differ after_differ.
    and_made after_differ second_done differ))))

-- one of both is done; or both are, and leave different things
unfoldable pub either_made : List Node → Unknowns → List Gate → (first second : End) → Gate × List Node
either_made nodes u v first second =
    then_made (done_made nodes first) (λ first_done after_first.
    then_made (done_made after_first second) (λ second_done after_second.
    then_made (seen_apart_made after_second u v first second) (λ apart after_apart.
    then_made (xor_made after_apart first_done second_done) (λ one after_one.
    then_made (and_made after_one first_done second_done) (λ two after_two.
    then_made (and_made after_two two apart) (λ differ after_differ.
    or_made after_differ one differ))))))

-- both runs end as the kind asks
abbrev pub ends_made : Kind → List Node → Unknowns → List Gate → (first second : End) → Gate × List Node
ends_made Privileged nodes u v first second = broken_made nodes first second
ends_made Control nodes u v first second = control_made nodes u first
ends_made ModeDep nodes u v first second = mode_made nodes u v first second
ends_made Location nodes u v first second = either_made nodes u v first second
ends_made Bound nodes u v first second = either_made nodes u v first second
ends_made UControl nodes u v first second = control_made nodes u first
ends_made ULocation nodes u v first second = either_made nodes u v first second
ends_made UBound nodes u v first second = either_made nodes u v first second
