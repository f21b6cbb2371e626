-- The equations of what expressions are made of, one for each form.
use Rattle.std.proofs.Common.{◌≡◌, ℕ, List, ap}
use Rattle.pg_vec.specs.Strings.{bits_not_made, cat_made, cut_made, ext_made, sext_made, mux_made}
use Rattle.pg_cells.specs.declared.cell.Write.{Write}
use Rattle.pg_ast.specs.declared.name.Name.{Name as Names}
use Rattle.pg_ast.specs.declared.tree.Op.{Op}
use Rattle.pg_ast.specs.declared.tree.Expr.{Expr}
use Rattle.pg_ast.specs.declared.tree.Expr.TheVariants.{Lit, Name, Pc, Mode, Rel, Bound, Load, Not, Bin, Cat, Cut, Ext, Sext, Sel}
use Rattle.pg_lang_meaning.proofs.Folds.{expr-bin, expr-bound, expr-cat, expr-cut, expr-ext, expr-lit, expr-load, expr-mode, expr-name, expr-not, expr-pc, expr-rel, expr-sel, expr-sext}
use Rattle.pg_symex.specs.Flow.{SymEntry, SymLets, Flow}
use Rattle.pg_symex.specs.Exprs.{literal_bits, name_bits, bit_0, then_bits, made_in, op_made, load_made, Making, expr_step, expr_made}

pub made-lit : (v n : ℕ) (at : SymEntry) (lets : SymLets) (writes : List Write) (f : Flow) → expr_made (Lit v n) at lets writes f ≡ (literal_bits v n, f)
unfolding expr_made
made-lit v n at lets writes f = ap (λ m. m at lets writes f) (expr-lit Making expr_step v n)

pub made-name : (n : Names) (at : SymEntry) (lets : SymLets) (writes : List Write) (f : Flow) → expr_made (Name n) at lets writes f ≡ (name_bits at lets n.bytes, f)
unfolding expr_made
made-name n at lets writes f = ap (λ m. m at lets writes f) (expr-name Making expr_step n)

pub made-pc : (at : SymEntry) (lets : SymLets) (writes : List Write) (f : Flow) → expr_made Pc at lets writes f ≡ (at.regs.p, f)
unfolding expr_made
made-pc at lets writes f = ap (λ m. m at lets writes f) (expr-pc Making expr_step)

pub made-mode : (at : SymEntry) (lets : SymLets) (writes : List Write) (f : Flow) → expr_made Mode at lets writes f ≡ (at.regs.mode, f)
unfolding expr_made
made-mode at lets writes f = ap (λ m. m at lets writes f) (expr-mode Making expr_step)

pub made-rel : (at : SymEntry) (lets : SymLets) (writes : List Write) (f : Flow) → expr_made Rel at lets writes f ≡ (at.regs.l, f)
unfolding expr_made
made-rel at lets writes f = ap (λ m. m at lets writes f) (expr-rel Making expr_step)

pub made-bound : (at : SymEntry) (lets : SymLets) (writes : List Write) (f : Flow) → expr_made Bound at lets writes f ≡ (at.regs.b, f)
unfolding expr_made
made-bound at lets writes f = ap (λ m. m at lets writes f) (expr-bound Making expr_step)

pub made-load : (e : Expr) (at : SymEntry) (lets : SymLets) (writes : List Write) (f : Flow) → expr_made (Load e) at lets writes f ≡ then_bits (expr_made e at lets writes f) (λ x g. load_made at writes g x)
unfolding expr_made
made-load e at lets writes f = ap (λ m. m at lets writes f) (expr-load Making expr_step e)

pub made-not : (e : Expr) (at : SymEntry) (lets : SymLets) (writes : List Write) (f : Flow) → expr_made (Not e) at lets writes f ≡ then_bits (expr_made e at lets writes f) (λ x g. made_in g (bits_not_made g.nodes x))
unfolding expr_made
made-not e at lets writes f = ap (λ m. m at lets writes f) (expr-not Making expr_step e)

pub made-bin : (op : Op) (l r : Expr) (at : SymEntry) (lets : SymLets) (writes : List Write) (f : Flow) → expr_made (Bin op l r) at lets writes f ≡ then_bits (expr_made l at lets writes f) (λ x g. then_bits (expr_made r at lets writes g) (λ y h. made_in h (op_made op h.nodes x y)))
unfolding expr_made
made-bin op l r at lets writes f = ap (λ m. m at lets writes f) (expr-bin Making expr_step op l r)

pub made-cat : (l r : Expr) (at : SymEntry) (lets : SymLets) (writes : List Write) (f : Flow) → expr_made (Cat l r) at lets writes f ≡ then_bits (expr_made l at lets writes f) (λ x g. then_bits (expr_made r at lets writes g) (λ y h. made_in h (cat_made h.nodes x y)))
unfolding expr_made
made-cat l r at lets writes f = ap (λ m. m at lets writes f) (expr-cat Making expr_step l r)

pub made-cut : (e : Expr) (j k : ℕ) (at : SymEntry) (lets : SymLets) (writes : List Write) (f : Flow) → expr_made (Cut e j k) at lets writes f ≡ then_bits (expr_made e at lets writes f) (λ x g. made_in g (cut_made g.nodes x j k))
unfolding expr_made
made-cut e j k at lets writes f = ap (λ m. m at lets writes f) (expr-cut Making expr_step e j k)

pub made-ext : (e : Expr) (n : ℕ) (at : SymEntry) (lets : SymLets) (writes : List Write) (f : Flow) → expr_made (Ext e n) at lets writes f ≡ then_bits (expr_made e at lets writes f) (λ x g. made_in g (ext_made g.nodes x n))
unfolding expr_made
made-ext e n at lets writes f = ap (λ m. m at lets writes f) (expr-ext Making expr_step e n)

pub made-sext : (e : Expr) (n : ℕ) (at : SymEntry) (lets : SymLets) (writes : List Write) (f : Flow) → expr_made (Sext e n) at lets writes f ≡ then_bits (expr_made e at lets writes f) (λ x g. made_in g (sext_made g.nodes x n))
unfolding expr_made
made-sext e n at lets writes f = ap (λ m. m at lets writes f) (expr-sext Making expr_step e n)

pub made-sel : (c l r : Expr) (at : SymEntry) (lets : SymLets) (writes : List Write) (f : Flow) → expr_made (Sel c l r) at lets writes f ≡ then_bits (expr_made c at lets writes f) (λ test g. then_bits (expr_made l at lets writes g) (λ x h. then_bits (expr_made r at lets writes h) (λ y k. made_in k (mux_made k.nodes (bit_0 test) x y))))
unfolding expr_made
made-sel c l r at lets writes f = ap (λ m. m at lets writes f) (expr-sel Making expr_step c l r)

pub ruleset made_rules = (made-lit, made-name, made-pc, made-mode, made-rel, made-bound, made-load, made-not, made-bin, made-cat, made-cut, made-ext, made-sext, made-sel)
