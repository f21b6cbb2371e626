-- What expressions are made of, one form after another: the bits of the value, and what is kept after it.
use Rattle.std.specs.Prelude.{ℕ, zero, suc, ◌+◌, ◌-◌, ◌/◌, ◌%◌, ◌==◌, if◌then◌else◌, false, List, [], ◌∷◌, Option, None, Some, bytes_eq, slice_index_or}
use Rattle.pg_circuit.specs.declared.node.Gate.{Gate}
use Rattle.pg_circuit.specs.declared.node.Node.{Node}
use Rattle.pg_circuit.specs.Made.{constant_gate, not_gate, and_made}
use Rattle.pg_vec.specs.Gates.{or_made}
use Rattle.pg_vec.specs.Strings.{cut_bits, bits_not_made, cat_made, cut_made, ext_made, sext_made, bits_and_made, bits_or_made, bits_xor_made, mux_made, add_made, sub_made, mul_made, lt_made, eq_made, shl_made, shr_made}
use Rattle.pg_cells.specs.declared.cell.Write.{Write}
use Rattle.pg_cells.specs.Made.{touch_made, cells_after}
use Rattle.pg_ast.specs.declared.tree.Op.{Op}
use Rattle.pg_ast.specs.declared.tree.Op.TheVariants.{Add, Sub, Mul, And, Or, Xor, Eq, Lt, Shl, Shr}
use Rattle.pg_ast.specs.declared.tree.Expr.{Expr}
use Rattle.pg_ast.specs.declared.tree.Expr.TheOpen.{Expr-F, Lit, Name, Pc, Mode, Rel, Bound, Load, Not, Bin, Cat, Cut, Ext, Sext, Sel}
use Rattle.pg_ast.specs.declared.tree.Expr.TheFolds.{fold-Expr}
use Rattle.pg_lang_meaning.specs.Patterns.{Field, field_of}
use Rattle.pg_symex.specs.Flow.{SymEntry, SymLets, Flow, view_of, with_nodes}

-- ---- what needs no node

-- a literal: its lowest bits, bit 0 first
unfoldable pub literal_bits : ℕ → ℕ → List Gate
literal_bits v zero = []
literal_bits v (suc n) = constant_gate (v % 2 == 1) ∷ literal_bits (v / 2) n

-- the bits of a let; a name that is none has none (in a valid description there is no such name)
unfoldable pub let_bits : SymLets → List ℕ → List Gate
let_bits [] name = []
let_bits (l ∷ older) name = (if bytes_eq l.0 name then l.1 else let_bits older name)

-- the bits of a field of the word that was fetched
abbrev pub field_bits : Field → List Gate → List Gate
field_bits f word = cut_bits word (f.low + f.width - 1) f.low

abbrev pub field_or_let_bits : Option Field → SymEntry → SymLets → List ℕ → List Gate
field_or_let_bits None at lets name = let_bits lets name
field_or_let_bits (Some f) at lets name = field_bits f at.word

abbrev pub name_bits : SymEntry → SymLets → List ℕ → List Gate
name_bits at lets name = field_or_let_bits (field_of at.pattern name) at lets name

-- the bit of a value of one bit
abbrev pub bit_0 : List Gate → Gate
bit_0 xs = slice_index_or xs 0 (constant_gate false)

-- ---- one thing after another

-- what is made next of bits that were made, from what is kept then
abbrev pub then_bits : {B : Type 0} → List Gate × Flow → (List Gate → Flow → B) → B
then_bits made next = next made.0 made.1

-- the same of what needs nodes alone
abbrev pub with_made : {A B : Type 0} → A × List Node → (A → List Node → B) → B
with_made made next = next made.0 made.1

-- bits that need nodes alone
abbrev pub made_in : Flow → List Gate × List Node → List Gate × Flow
made_in f made = (made.0, with_nodes f made.1)

abbrev pub op_made : Op → List Node → List Gate → List Gate → List Gate × List Node
op_made Add = add_made
op_made Sub = sub_made
op_made Mul = mul_made
op_made And = bits_and_made
op_made Or = bits_or_made
op_made Xor = bits_xor_made
op_made Eq = eq_made
op_made Lt = lt_made
op_made Shl = shl_made
op_made Shr = shr_made

-- ---- cells

-- the guards after an access that is usable where a gate is true: mem_trap or (live and not usable), and live and usable
unfoldable pub guarded_made : Flow → Gate → List Node → Flow
guarded_made f usable nodes =
    with_made (and_made nodes f.live (not_gate usable)) (λ outside after_outside.
    with_made (or_made after_outside f.mem_trap outside) (λ mem_trap after_mem_trap.
    with_made (and_made after_mem_trap f.live usable) (λ live after_live.
    record { nodes = after_live; cells = f.cells; live = live; mem_trap = mem_trap })))

-- an access to an address: usable where the address is below v
unfoldable pub access_made : SymEntry → Flow → List Gate → Flow
access_made at f address =
    with_made (lt_made f.nodes address at.regs.v) (λ usable after_usable. guarded_made f (bit_0 usable) after_usable)

-- the word at an address, after the writes so far
unfoldable pub word_made : SymEntry → List Write → Flow → List Gate → List Gate × Flow
word_made at writes f address =
    with_made (touch_made f.nodes (view_of at writes f.cells) address) (λ word after_word.
    (word, record f { nodes = after_word; cells = cells_after f.nodes at.w f.cells address }))

-- a load: the access, and then the word
abbrev pub load_made : SymEntry → List Write → Flow → List Gate → List Gate × Flow
load_made at writes f address = word_made at writes (access_made at f address) address

-- ---- expressions

-- what a part of an expression is made of
abbrev pub Making : Type 0
Making = SymEntry → SymLets → List Write → Flow → List Gate × Flow

-- one layer of an expression, what each part is made of standing in its place; parts from left to right, all of them
abbrev pub expr_step : Expr-F Making → Making
expr_step (Lit v n) at lets writes f = (literal_bits v n, f)
expr_step (Name n) at lets writes f = (name_bits at lets n.bytes, f)
expr_step Pc at lets writes f = (at.regs.p, f)
expr_step Mode at lets writes f = (at.regs.mode, f)
expr_step Rel at lets writes f = (at.regs.l, f)
expr_step Bound at lets writes f = (at.regs.b, f)
expr_step (Load e) at lets writes f = then_bits (e at lets writes f) (λ x g. load_made at writes g x)
expr_step (Not e) at lets writes f = then_bits (e at lets writes f) (λ x g. made_in g (bits_not_made g.nodes x))
expr_step (Bin op l r) at lets writes f =
    then_bits (l at lets writes f) (λ x g. then_bits (r at lets writes g) (λ y h. made_in h (op_made op h.nodes x y)))
expr_step (Cat l r) at lets writes f =
    then_bits (l at lets writes f) (λ x g. then_bits (r at lets writes g) (λ y h. made_in h (cat_made h.nodes x y)))
expr_step (Cut e j k) at lets writes f = then_bits (e at lets writes f) (λ x g. made_in g (cut_made g.nodes x j k))
expr_step (Ext e n) at lets writes f = then_bits (e at lets writes f) (λ x g. made_in g (ext_made g.nodes x n))
expr_step (Sext e n) at lets writes f = then_bits (e at lets writes f) (λ x g. made_in g (sext_made g.nodes x n))
expr_step (Sel c l r) at lets writes f =
    then_bits (c at lets writes f) (λ test g. then_bits (l at lets writes g) (λ x h. then_bits (r at lets writes h) (λ y k.
    made_in k (mux_made k.nodes (bit_0 test) x y))))

-- an expression: its bits, and what is kept after it
unfoldable pub expr_made : Expr → Making
expr_made = fold-Expr Making expr_step
