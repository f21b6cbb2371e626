-- What statements are made of, one form after another: a body under way, and what it is after them.
use Rattle.std.specs.Prelude.{ℕ, false, List, [], ◌∷◌, ◌++◌, Option, None, Some}
use Rattle.pg_circuit.specs.declared.node.Gate.{Gate}
use Rattle.pg_circuit.specs.declared.node.Node.{Node}
use Rattle.pg_circuit.specs.Made.{constant_gate, not_gate, and_made}
use Rattle.pg_vec.specs.Gates.{or_made}
use Rattle.pg_vec.specs.Strings.{mux_made}
use Rattle.pg_ast.specs.declared.tree.Expr.{Expr}
use Rattle.pg_ast.specs.declared.tree.Stmt.{Stmt}
use Rattle.pg_ast.specs.declared.tree.Stmt.TheOpen.{Stmt-F, Let, Store, Pc, Mode, Rel, Bound, Trap, If}
use Rattle.pg_ast.specs.declared.tree.Stmt.TheFolds.{fold-Stmt}
use Rattle.pg_symex.specs.declared.regs.Next.{Next}
use Rattle.pg_symex.specs.Flow.{SymEntry, SymRun, with_nodes}
use Rattle.pg_symex.specs.Exprs.{bit_0, then_bits, with_made, access_made, expr_made}

-- what a statement makes of a body under way
abbrev pub SymDeed : Type 0
SymDeed = SymEntry → SymRun → SymRun

-- goes on with the bits of an expression
abbrev pub with_expr : Expr → SymEntry → SymRun → (List Gate → SymRun → SymRun) → SymRun
with_expr e at r next = then_bits (expr_made e at r.lets r.writes r.flow) (λ x f. next x (record r { flow = f }))

-- a let is visible from the next statement on
abbrev pub let_made : List ℕ → List Gate → SymRun → SymRun
let_made name x r = record r { lets = (name, x) ∷ r.lets }

-- a write, done where its place is reached
abbrev pub with_write : List Gate → List Gate → SymRun → SymRun
with_write address value r = record r { writes = r.writes ++ record { guard = r.flow.live; address = address; value = value } ∷ [] }

-- a store: the access, and then the write
abbrev pub store_made : SymEntry → List Gate → List Gate → SymRun → SymRun
store_made at address value r = with_write address value (record r { flow = access_made at r.flow address })

-- an assignment, of which the last that is reached counts
unfoldable pub assigned : List Gate → List Gate → (List Gate → Next) → SymRun → SymRun
assigned xs old put r =
    with_made (mux_made r.flow.nodes r.flow.live xs old) (λ bits after. record r { flow = with_nodes r.flow after; next = put bits })

abbrev pub assign_p : List Gate → SymRun → SymRun
assign_p xs r = assigned xs r.next.p (λ bits. record r.next { p = bits }) r

abbrev pub assign_mode : List Gate → SymRun → SymRun
assign_mode xs r = assigned xs r.next.mode (λ bits. record r.next { mode = bits }) r

abbrev pub assign_l : List Gate → SymRun → SymRun
assign_l xs r = assigned xs r.next.l (λ bits. record r.next { l = bits }) r

abbrev pub assign_b : List Gate → SymRun → SymRun
assign_b xs r = assigned xs r.next.b (λ bits. record r.next { b = bits }) r

-- a trap: what stands after it is not reached
unfoldable pub trap_made : SymRun → SymRun
trap_made r =
    with_made (or_made r.flow.nodes r.trap r.flow.live) (λ trap after.
    record r { flow = record r.flow { nodes = after; live = constant_gate false }; trap = trap })

-- statements in order
unfoldable pub in_order_made : List SymDeed → SymDeed
in_order_made [] at r = r
in_order_made (deed ∷ deeds) at r = in_order_made deeds at (deed at r)

-- the lets that were visible before a block
abbrev pub with_lets_of : SymRun → SymRun → SymRun
with_lets_of before r = record r { lets = before.lets }

-- a block inside a body: its lets end with it
abbrev pub block_made : List SymDeed → SymDeed
block_made deeds at r = with_lets_of r (in_order_made deeds at r)

abbrev pub else_made : Option (List SymDeed) → SymDeed
else_made None at r = r
else_made (Some deeds) at r = block_made deeds at r

-- an if: one arm where its place is reached and the test is true, then the other where it is false; after both, a place is
-- reached where either arm's end is
abbrev pub with_live : Gate → List Node → SymRun → SymRun
with_live live nodes r = record r { flow = record r.flow { nodes = nodes; live = live } }

unfoldable pub joined_made : Gate → SymRun → SymRun
joined_made first r = with_made (or_made r.flow.nodes first r.flow.live) (λ live after. with_live live after r)

abbrev pub other_made : SymDeed → SymEntry → Gate → SymRun → SymRun
other_made other at live r = joined_made r.flow.live (other at (with_live live r.flow.nodes r))

unfoldable pub if_made : SymDeed → SymDeed → SymEntry → Gate → SymRun → SymRun
if_made held other at test r =
    with_made (and_made r.flow.nodes r.flow.live test) (λ first after_first.
    with_made (and_made after_first r.flow.live (not_gate test)) (λ second after_second.
    other_made other at second (held at (with_live first after_second r))))

-- one layer of a statement, what each statement inside makes standing in its place
abbrev pub stmt_step : Stmt-F SymDeed → SymDeed
stmt_step (Let n e) at r = with_expr e at r (λ x s. let_made n.bytes x s)
stmt_step (Store a e) at r = with_expr a at r (λ address s. with_expr e at s (λ value t. store_made at address value t))
stmt_step (Pc e) at r = with_expr e at r (λ x s. assign_p x s)
stmt_step (Mode e) at r = with_expr e at r (λ x s. assign_mode x s)
stmt_step (Rel e) at r = with_expr e at r (λ x s. assign_l x s)
stmt_step (Bound e) at r = with_expr e at r (λ x s. assign_b x s)
stmt_step Trap at r = trap_made r
stmt_step (If c held other) at r = with_expr c at r (λ test s. if_made (block_made held) (else_made other) at (bit_0 test) s)

-- what a statement makes of a body under way
unfoldable pub stmt_made : Stmt → SymDeed
stmt_made = fold-Stmt SymDeed stmt_step
