use Rattle.std.proofs.Common.{◌≡◌, ◌<◌, ◌∙◌, length, refl, sym, ap, subst, rules, arith}
use Rattle.std.specs.Prelude.{IfOk}
use Rattle.pg_circuit.specs.declared.node.Gate.{Gate}
use Rattle.pg_circuit.specs.declared.circuit.Circuit.{Circuit}
use Rattle.pg_vec.specs.Strings.{bits_not_made, cat_made, cut_made, ext_made, sext_made, mux_made}
use Rattle.pg_cells.specs.View.{View}
use Rattle.pg_ast.specs.declared.tree.Expr.TheVariants.{Lit, Name, Pc, Mode, Rel, Bound, Load, Not, Bin, Cat, Cut, Ext, Sext, Sel}
use Rattle.pg_symex.specs.EntryView.{entry_as}
use Rattle.pg_symex.specs.FlowView.{flow_as}
use Rattle.pg_symex.specs.There.{AreBits}
use Rattle.pg_symex.specs.Exprs.{literal_bits, name_bits, bit_0, op_made}
use Rattle.pg_vec.proofs.Kept.{front_then, all_there_later}
use Rattle.pg_symex.proofs.MadeEquations as mades
use Rattle.pg_symex.proofs.AccessLaws.{bit_0-later}
use Rattle.pg_symex.proofs.Typing.{part, part-load, part-not, part-bin_left, part-bin_right, part-cat_left, part-cat_right, part-cut, part-ext, part-sext, part-sel_test, part-sel_left, part-sel_right}
use Rattle.pg_symex.proofs.ExprSteps.{adds_none, cost-not, cost-load, cost-bin, cost-cat, cost-cut, cost-ext, cost-sext, cost-sel, one_first, one_last, two_first, two_second, two_last, two_end, three_first, three_second, load_second, load_last, sel_last, writes_same, leaf_made, made_one, made_two, made_three, made_load, value_is, width_as, address_width, op_widths, cat_most, cut_range, ext_range, sext_range, sel_widths, lit_range, name_width, touch_over, sel_third}
use Rattle.pg_symex.proofs.exprs.+exprs.Goals as goal

pub load-expr-requires : goal.load-expr-requires
load-expr-requires t c = let h = part (part-load _ _ c.args.x.now) refl c.get.ensures c.requires.typed in (omega (arith, h.fewer), let typed = h.typed in search (rules, typed))

pub load-returns-in_err-address-clause-kept : goal.load-returns-in_err-address-clause-kept
load-returns-in_err-address-clause-kept t c = one_first _ _ _ c.args.x.now c.get.result.now (Load c.args.x.now) c.get.ensures (cost-load c.args.x.now) c.expr.ensures.kept

pub load-access-requires-clause-address : goal.load-access-requires-clause-address
load-access-requires-clause-address t c =
    let w = address_width (entry_as c.args.at.now) c.args.lets.now c.args.x.now _ c.requires.typed (width_as (entry_as c.args.at.now) c.args.lets.now c.args.x.now c.get.result.now _ c.get.ensures c.in_ok-address.ensures.value.width) in
    subst (λ k. AreBits (length c.expr.new.c.nodes) k c.in_ok-address.address) w c.in_ok-address.ensures.value.are_bits

pub load-returns-in_err-access-clause-kept : goal.load-returns-in_err-access-clause-kept
load-returns-in_err-access-clause-kept t c = load_second _ _ c.expr.new.c.nodes c.access.new.circuit.nodes c.args.x.now c.get.result.now c.get.ensures c.expr.ensures.kept c.access.ensures.kept

pub load-touch-requires-clause-over : goal.load-touch-requires-clause-over
load-touch-requires-clause-over t c =
    let w = address_width (entry_as c.args.at.now) c.args.lets.now c.args.x.now _ c.requires.typed (width_as (entry_as c.args.at.now) c.args.lets.now c.args.x.now c.get.result.now _ c.get.ensures c.in_ok-address.ensures.value.width) in
    touch_over (entry_as c.args.at.now) c.args.lets.now c.get.result.now c.args.c.now.nodes c.expr.new.c.nodes c.access.new.circuit.nodes c.expr.new.t c.expr.new.g c.access.new.guards c.in_ok-address.address c.in_ok-address.ensures.value w c.in_ok-access.ensures.made

pub load-touch-requires-clause-width : goal.load-touch-requires-clause-width
load-touch-requires-clause-width t c =
    let w = address_width (entry_as c.args.at.now) c.args.lets.now c.args.x.now _ c.requires.typed (width_as (entry_as c.args.at.now) c.args.lets.now c.args.x.now c.get.result.now _ c.get.ensures c.in_ok-address.ensures.value.width) in
    w ∙ sym (ap (λ (v : View). v.a) c.in_ok-address.ensures.value.ready.view)

pub load-returns-clause-made : goal.load-returns-clause-made
load-returns-clause-made t c =
    made_load (entry_as c.args.at.now) c.args.lets.now c.args.x.now c.get.result.now c.args.t.now c.expr.new.t c.touch.new.self (flow_as c.args.c.now.nodes c.args.t.now.cells c.args.g.now) c.in_ok-address.address c.expr.new.c.nodes c.access.new.circuit.nodes c.touch.new.circuit.nodes c.expr.new.g c.access.new.guards c.touch.result
    c.get.ensures c.in_ok-address.ensures.value.ready.view c.in_ok-address.ensures.made c.in_ok-access.ensures.made c.touch.ensures.made c.touch.ensures.cells

pub load-returns-clause-kept : goal.load-returns-clause-kept
load-returns-clause-kept t c = load_last _ _ _ c.expr.new.c.nodes c.access.new.circuit.nodes c.touch.new.circuit.nodes c.args.x.now c.get.result.now c.get.ensures (writes_same c.in_ok-address.ensures.made) c.expr.ensures.kept c.access.ensures.kept c.touch.ensures.grows.front c.touch.ensures.few

pub not-expr-requires : goal.not-expr-requires
not-expr-requires t c = let h = part (part-not _ _ c.args.x.now) refl c.get.ensures c.requires.typed in (omega (arith, h.fewer), let typed = h.typed in search (rules, typed))

pub not-returns-in_err-bits-clause-kept : goal.not-returns-in_err-bits-clause-kept
not-returns-in_err-bits-clause-kept t c = one_first _ _ _ c.args.x.now c.get.result.now (Not c.args.x.now) c.get.ensures (cost-not c.args.x.now) c.expr.ensures.kept

pub not-returns-clause-made : goal.not-returns-clause-made
not-returns-clause-made t c =
    made_one (entry_as c.args.at.now) c.args.lets.now c.args.x.now c.get.result.now (Not c.args.x.now) (λ n b. bits_not_made n b) c.args.t.now c.expr.new.t (flow_as c.args.c.now.nodes c.args.t.now.cells c.args.g.now) c.in_ok-bits.bits c.expr.new.c.nodes c.not.new.circuit.nodes c.expr.new.g c.not.result
    (mades.made-not c.args.x.now (entry_as c.args.at.now) c.args.lets.now c.args.t.now.writes (flow_as c.args.c.now.nodes c.args.t.now.cells c.args.g.now)) c.get.ensures c.in_ok-bits.ensures.made c.not.ensures.made

pub not-returns-clause-kept : goal.not-returns-clause-kept
not-returns-clause-kept t c = one_last _ _ c.expr.new.c.nodes c.not.new.circuit.nodes c.args.x.now c.get.result.now (Not c.args.x.now) c.get.ensures (cost-not c.args.x.now) (ap (λ (k : Circuit). k.nodes) c.not.ensures.same) c.expr.ensures.kept

pub cut-expr-requires : goal.cut-expr-requires
cut-expr-requires t c = let h = part (part-cut _ _ c.args.x.now c.args.high c.args.low) refl c.get.ensures c.requires.typed in (omega (arith, h.fewer), let typed = h.typed in search (rules, typed))

pub cut-returns-in_err-bits-clause-kept : goal.cut-returns-in_err-bits-clause-kept
cut-returns-in_err-bits-clause-kept t c = one_first _ _ _ c.args.x.now c.get.result.now (Cut c.args.x.now c.args.high c.args.low) c.get.ensures (cost-cut c.args.x.now c.args.high c.args.low) c.expr.ensures.kept

pub cut-returns-clause-made : goal.cut-returns-clause-made
cut-returns-clause-made t c =
    made_one (entry_as c.args.at.now) c.args.lets.now c.args.x.now c.get.result.now (Cut c.args.x.now c.args.high c.args.low) (λ n b. cut_made n b c.args.high c.args.low) c.args.t.now c.expr.new.t (flow_as c.args.c.now.nodes c.args.t.now.cells c.args.g.now) c.in_ok-bits.bits c.expr.new.c.nodes c.cut.new.circuit.nodes c.expr.new.g c.cut.result
    (mades.made-cut c.args.x.now c.args.high c.args.low (entry_as c.args.at.now) c.args.lets.now c.args.t.now.writes (flow_as c.args.c.now.nodes c.args.t.now.cells c.args.g.now)) c.get.ensures c.in_ok-bits.ensures.made c.cut.ensures.made

pub cut-returns-clause-kept : goal.cut-returns-clause-kept
cut-returns-clause-kept t c = one_last _ _ c.expr.new.c.nodes c.cut.new.circuit.nodes c.args.x.now c.get.result.now (Cut c.args.x.now c.args.high c.args.low) c.get.ensures (cost-cut c.args.x.now c.args.high c.args.low) (ap (λ (k : Circuit). k.nodes) c.cut.ensures.same) c.expr.ensures.kept

pub ext-expr-requires : goal.ext-expr-requires
ext-expr-requires t c = let h = part (part-ext _ _ c.args.x.now c.args.to) refl c.get.ensures c.requires.typed in (omega (arith, h.fewer), let typed = h.typed in search (rules, typed))

pub ext-returns-in_err-bits-clause-kept : goal.ext-returns-in_err-bits-clause-kept
ext-returns-in_err-bits-clause-kept t c = one_first _ _ _ c.args.x.now c.get.result.now (Ext c.args.x.now c.args.to) c.get.ensures (cost-ext c.args.x.now c.args.to) c.expr.ensures.kept

pub ext-returns-clause-made : goal.ext-returns-clause-made
ext-returns-clause-made t c =
    made_one (entry_as c.args.at.now) c.args.lets.now c.args.x.now c.get.result.now (Ext c.args.x.now c.args.to) (λ n b. ext_made n b c.args.to) c.args.t.now c.expr.new.t (flow_as c.args.c.now.nodes c.args.t.now.cells c.args.g.now) c.in_ok-bits.bits c.expr.new.c.nodes c.ext.new.circuit.nodes c.expr.new.g c.ext.result
    (mades.made-ext c.args.x.now c.args.to (entry_as c.args.at.now) c.args.lets.now c.args.t.now.writes (flow_as c.args.c.now.nodes c.args.t.now.cells c.args.g.now)) c.get.ensures c.in_ok-bits.ensures.made c.ext.ensures.made

pub ext-returns-clause-kept : goal.ext-returns-clause-kept
ext-returns-clause-kept t c = one_last _ _ c.expr.new.c.nodes c.ext.new.circuit.nodes c.args.x.now c.get.result.now (Ext c.args.x.now c.args.to) c.get.ensures (cost-ext c.args.x.now c.args.to) (ap (λ (k : Circuit). k.nodes) c.ext.ensures.same) c.expr.ensures.kept

pub sext-expr-requires : goal.sext-expr-requires
sext-expr-requires t c = let h = part (part-sext _ _ c.args.x.now c.args.to) refl c.get.ensures c.requires.typed in (omega (arith, h.fewer), let typed = h.typed in search (rules, typed))

pub sext-returns-in_err-bits-clause-kept : goal.sext-returns-in_err-bits-clause-kept
sext-returns-in_err-bits-clause-kept t c = one_first _ _ _ c.args.x.now c.get.result.now (Sext c.args.x.now c.args.to) c.get.ensures (cost-sext c.args.x.now c.args.to) c.expr.ensures.kept

pub sext-returns-clause-made : goal.sext-returns-clause-made
sext-returns-clause-made t c =
    made_one (entry_as c.args.at.now) c.args.lets.now c.args.x.now c.get.result.now (Sext c.args.x.now c.args.to) (λ n b. sext_made n b c.args.to) c.args.t.now c.expr.new.t (flow_as c.args.c.now.nodes c.args.t.now.cells c.args.g.now) c.in_ok-bits.bits c.expr.new.c.nodes c.sext.new.circuit.nodes c.expr.new.g c.sext.result
    (mades.made-sext c.args.x.now c.args.to (entry_as c.args.at.now) c.args.lets.now c.args.t.now.writes (flow_as c.args.c.now.nodes c.args.t.now.cells c.args.g.now)) c.get.ensures c.in_ok-bits.ensures.made c.sext.ensures.made

pub sext-returns-clause-kept : goal.sext-returns-clause-kept
sext-returns-clause-kept t c = one_last _ _ c.expr.new.c.nodes c.sext.new.circuit.nodes c.args.x.now c.get.result.now (Sext c.args.x.now c.args.to) c.get.ensures (cost-sext c.args.x.now c.args.to) (ap (λ (k : Circuit). k.nodes) c.sext.ensures.same) c.expr.ensures.kept

pub cut-overflow_cast-high : goal.cut-overflow_cast-high
cut-overflow_cast-high t c = let r = cut_range (entry_as c.args.at.now) c.args.lets.now c.args.x.now c.args.high c.args.low _ c.requires.typed (width_as (entry_as c.args.at.now) c.args.lets.now c.args.x.now c.get.result.now _ c.get.ensures c.in_ok-bits.ensures.value.width) in let m = c.in_ok-bits.ensures.value.are_bits.is_width.most in omega (arith, r.1, m)

pub cut-overflow_cast-low : goal.cut-overflow_cast-low
cut-overflow_cast-low t c = let r = cut_range (entry_as c.args.at.now) c.args.lets.now c.args.x.now c.args.high c.args.low _ c.requires.typed (width_as (entry_as c.args.at.now) c.args.lets.now c.args.x.now c.get.result.now _ c.get.ensures c.in_ok-bits.ensures.value.width) in let m = c.in_ok-bits.ensures.value.are_bits.is_width.most in omega (arith, r.0, r.1, m)

pub cut-cut-requires-clause-order : goal.cut-cut-requires-clause-order
cut-cut-requires-clause-order t c = (cut_range (entry_as c.args.at.now) c.args.lets.now c.args.x.now c.args.high c.args.low _ c.requires.typed (width_as (entry_as c.args.at.now) c.args.lets.now c.args.x.now c.get.result.now _ c.get.ensures c.in_ok-bits.ensures.value.width)).0

pub cut-cut-requires-clause-within : goal.cut-cut-requires-clause-within
cut-cut-requires-clause-within t c = (cut_range (entry_as c.args.at.now) c.args.lets.now c.args.x.now c.args.high c.args.low _ c.requires.typed (width_as (entry_as c.args.at.now) c.args.lets.now c.args.x.now c.get.result.now _ c.get.ensures c.in_ok-bits.ensures.value.width)).1

pub ext-overflow_cast-to : goal.ext-overflow_cast-to
ext-overflow_cast-to t c = let r = ext_range (entry_as c.args.at.now) c.args.lets.now c.args.x.now c.args.to _ c.requires.typed (width_as (entry_as c.args.at.now) c.args.lets.now c.args.x.now c.get.result.now _ c.get.ensures c.in_ok-bits.ensures.value.width) in omega (arith, r.1)

pub ext-ext-requires-clause-wider : goal.ext-ext-requires-clause-wider
ext-ext-requires-clause-wider t c = (ext_range (entry_as c.args.at.now) c.args.lets.now c.args.x.now c.args.to _ c.requires.typed (width_as (entry_as c.args.at.now) c.args.lets.now c.args.x.now c.get.result.now _ c.get.ensures c.in_ok-bits.ensures.value.width)).0

pub ext-ext-requires-clause-most : goal.ext-ext-requires-clause-most
ext-ext-requires-clause-most t c = (ext_range (entry_as c.args.at.now) c.args.lets.now c.args.x.now c.args.to _ c.requires.typed (width_as (entry_as c.args.at.now) c.args.lets.now c.args.x.now c.get.result.now _ c.get.ensures c.in_ok-bits.ensures.value.width)).1

pub sext-overflow_cast-to : goal.sext-overflow_cast-to
sext-overflow_cast-to t c = let r = sext_range (entry_as c.args.at.now) c.args.lets.now c.args.x.now c.args.to _ c.requires.typed (width_as (entry_as c.args.at.now) c.args.lets.now c.args.x.now c.get.result.now _ c.get.ensures c.in_ok-bits.ensures.value.width) in omega (arith, r.1)

pub sext-sext-requires-clause-wider : goal.sext-sext-requires-clause-wider
sext-sext-requires-clause-wider t c = (sext_range (entry_as c.args.at.now) c.args.lets.now c.args.x.now c.args.to _ c.requires.typed (width_as (entry_as c.args.at.now) c.args.lets.now c.args.x.now c.get.result.now _ c.get.ensures c.in_ok-bits.ensures.value.width)).0

pub sext-sext-requires-clause-most : goal.sext-sext-requires-clause-most
sext-sext-requires-clause-most t c = (sext_range (entry_as c.args.at.now) c.args.lets.now c.args.x.now c.args.to _ c.requires.typed (width_as (entry_as c.args.at.now) c.args.lets.now c.args.x.now c.get.result.now _ c.get.ensures c.in_ok-bits.ensures.value.width)).1

pub bin-expr-requires : goal.bin-expr-requires
bin-expr-requires t c = let h = part (part-bin_left _ _ c.args.op c.args.x.now c.args.y.now) refl c.get.ensures c.requires.typed in (omega (arith, h.fewer), let typed = h.typed in search (rules, typed))

pub bin-expr-requires-2 : goal.bin-expr-requires-2
bin-expr-requires-2 t c = let h = part (part-bin_right _ _ c.args.op c.args.x.now c.args.y.now) refl c.get-2.ensures c.requires.typed in (omega (arith, h.fewer), let typed = h.typed in search (rules, typed))

pub bin-returns-in_err-left-clause-kept : goal.bin-returns-in_err-left-clause-kept
bin-returns-in_err-left-clause-kept t c = two_first _ _ _ c.args.x.now c.args.y.now c.get.result.now (Bin c.args.op c.args.x.now c.args.y.now) c.get.ensures (cost-bin c.args.op c.args.x.now c.args.y.now) c.expr.ensures.kept

pub bin-returns-in_err-right-clause-kept : goal.bin-returns-in_err-right-clause-kept
bin-returns-in_err-right-clause-kept t c = two_second _ _ _ c.expr.new.c.nodes c.expr-2.new.c.nodes c.args.x.now c.args.y.now c.get.result.now c.get-2.result.now (Bin c.args.op c.args.x.now c.args.y.now) c.get.ensures c.get-2.ensures (cost-bin c.args.op c.args.x.now c.args.y.now) (writes_same c.in_ok-left.ensures.made) c.expr.ensures.kept c.expr-2.ensures.kept

pub bin-returns-clause-made : goal.bin-returns-clause-made
bin-returns-clause-made t c =
    made_two (entry_as c.args.at.now) c.args.lets.now c.args.x.now c.args.y.now c.get.result.now c.get-2.result.now (Bin c.args.op c.args.x.now c.args.y.now) (λ n u v. op_made c.args.op n u v) c.args.t.now c.expr.new.t c.expr-2.new.t (flow_as c.args.c.now.nodes c.args.t.now.cells c.args.g.now) c.in_ok-left.left c.in_ok-right.right c.expr.new.c.nodes c.expr-2.new.c.nodes c.operate.new.circuit.nodes c.expr.new.g c.expr-2.new.g c.operate.result
    (mades.made-bin c.args.op c.args.x.now c.args.y.now (entry_as c.args.at.now) c.args.lets.now c.args.t.now.writes (flow_as c.args.c.now.nodes c.args.t.now.cells c.args.g.now)) c.get.ensures c.get-2.ensures c.in_ok-left.ensures.made c.in_ok-right.ensures.made c.operate.ensures.made

pub bin-returns-clause-kept : goal.bin-returns-clause-kept
bin-returns-clause-kept t c = two_last _ _ _ c.expr.new.c.nodes c.expr-2.new.c.nodes c.operate.new.circuit.nodes c.args.x.now c.args.y.now c.get.result.now c.get-2.result.now (Bin c.args.op c.args.x.now c.args.y.now) c.get.ensures c.get-2.ensures (cost-bin c.args.op c.args.x.now c.args.y.now) (writes_same c.in_ok-left.ensures.made) c.expr.ensures.kept c.expr-2.ensures.kept c.operate.ensures.kept

pub cat-expr-requires : goal.cat-expr-requires
cat-expr-requires t c = let h = part (part-cat_left _ _ c.args.x.now c.args.y.now) refl c.get.ensures c.requires.typed in (omega (arith, h.fewer), let typed = h.typed in search (rules, typed))

pub cat-expr-requires-2 : goal.cat-expr-requires-2
cat-expr-requires-2 t c = let h = part (part-cat_right _ _ c.args.x.now c.args.y.now) refl c.get-2.ensures c.requires.typed in (omega (arith, h.fewer), let typed = h.typed in search (rules, typed))

pub cat-returns-in_err-left-clause-kept : goal.cat-returns-in_err-left-clause-kept
cat-returns-in_err-left-clause-kept t c = two_first _ _ _ c.args.x.now c.args.y.now c.get.result.now (Cat c.args.x.now c.args.y.now) c.get.ensures (cost-cat c.args.x.now c.args.y.now) c.expr.ensures.kept

pub cat-returns-in_err-right-clause-kept : goal.cat-returns-in_err-right-clause-kept
cat-returns-in_err-right-clause-kept t c = two_second _ _ _ c.expr.new.c.nodes c.expr-2.new.c.nodes c.args.x.now c.args.y.now c.get.result.now c.get-2.result.now (Cat c.args.x.now c.args.y.now) c.get.ensures c.get-2.ensures (cost-cat c.args.x.now c.args.y.now) (writes_same c.in_ok-left.ensures.made) c.expr.ensures.kept c.expr-2.ensures.kept

pub cat-returns-clause-made : goal.cat-returns-clause-made
cat-returns-clause-made t c =
    made_two (entry_as c.args.at.now) c.args.lets.now c.args.x.now c.args.y.now c.get.result.now c.get-2.result.now (Cat c.args.x.now c.args.y.now) (λ n u v. cat_made n u v) c.args.t.now c.expr.new.t c.expr-2.new.t (flow_as c.args.c.now.nodes c.args.t.now.cells c.args.g.now) c.in_ok-left.left c.in_ok-right.right c.expr.new.c.nodes c.expr-2.new.c.nodes c.cat.new.circuit.nodes c.expr.new.g c.expr-2.new.g c.cat.result
    (mades.made-cat c.args.x.now c.args.y.now (entry_as c.args.at.now) c.args.lets.now c.args.t.now.writes (flow_as c.args.c.now.nodes c.args.t.now.cells c.args.g.now)) c.get.ensures c.get-2.ensures c.in_ok-left.ensures.made c.in_ok-right.ensures.made c.cat.ensures.made

pub cat-returns-clause-kept : goal.cat-returns-clause-kept
cat-returns-clause-kept t c = two_end _ _ _ c.expr.new.c.nodes c.expr-2.new.c.nodes c.cat.new.circuit.nodes c.args.x.now c.args.y.now c.get.result.now c.get-2.result.now (Cat c.args.x.now c.args.y.now) c.get.ensures c.get-2.ensures (cost-cat c.args.x.now c.args.y.now) (writes_same c.in_ok-left.ensures.made) (ap (λ (k : Circuit). k.nodes) c.cat.ensures.same) c.expr.ensures.kept c.expr-2.ensures.kept

pub bin-operate-requires-clause-widths : goal.bin-operate-requires-clause-widths
bin-operate-requires-clause-widths t c = op_widths (entry_as c.args.at.now) c.args.lets.now c.args.op c.args.x.now c.args.y.now _ _ c.requires.typed (width_as (entry_as c.args.at.now) c.args.lets.now c.args.x.now c.get.result.now _ c.get.ensures c.in_ok-left.ensures.value.width) (width_as (entry_as c.args.at.now) c.args.lets.now c.args.y.now c.get-2.result.now _ c.get-2.ensures c.in_ok-right.ensures.value.width)

pub cat-cat-requires-clause-most : goal.cat-cat-requires-clause-most
cat-cat-requires-clause-most t c = cat_most (entry_as c.args.at.now) c.args.lets.now c.args.x.now c.args.y.now _ _ c.requires.typed (width_as (entry_as c.args.at.now) c.args.lets.now c.args.x.now c.get.result.now _ c.get.ensures c.in_ok-left.ensures.value.width) (width_as (entry_as c.args.at.now) c.args.lets.now c.args.y.now c.get-2.result.now _ c.get-2.ensures c.in_ok-right.ensures.value.width)

pub sel-expr-requires : goal.sel-expr-requires
sel-expr-requires t c = let h = part (part-sel_test _ _ c.args.test.now c.args.x.now c.args.y.now) refl c.get.ensures c.requires.typed in (omega (arith, h.fewer), let typed = h.typed in search (rules, typed))

pub sel-expr-requires-2 : goal.sel-expr-requires-2
sel-expr-requires-2 t c = let h = part (part-sel_left _ _ c.args.test.now c.args.x.now c.args.y.now) refl c.get-2.ensures c.requires.typed in (omega (arith, h.fewer), let typed = h.typed in search (rules, typed))

pub sel-expr-requires-3 : goal.sel-expr-requires-3
sel-expr-requires-3 t c = let h = part (part-sel_right _ _ c.args.test.now c.args.x.now c.args.y.now) refl c.get-3.ensures c.requires.typed in (omega (arith, h.fewer), let typed = h.typed in search (rules, typed))

pub sel-returns-in_err-choice-clause-kept : goal.sel-returns-in_err-choice-clause-kept
sel-returns-in_err-choice-clause-kept t c = three_first _ _ _ c.args.test.now c.args.x.now c.args.y.now c.get.result.now (Sel c.args.test.now c.args.x.now c.args.y.now) c.get.ensures (cost-sel c.args.test.now c.args.x.now c.args.y.now) c.expr.ensures.kept

pub sel-returns-in_err-left-clause-kept : goal.sel-returns-in_err-left-clause-kept
sel-returns-in_err-left-clause-kept t c = three_second _ _ _ c.expr.new.c.nodes c.expr-2.new.c.nodes c.args.test.now c.args.x.now c.args.y.now c.get.result.now c.get-2.result.now (Sel c.args.test.now c.args.x.now c.args.y.now) c.get.ensures c.get-2.ensures (cost-sel c.args.test.now c.args.x.now c.args.y.now) (writes_same c.in_ok-choice.ensures.made) c.expr.ensures.kept c.expr-2.ensures.kept

pub sel-returns-in_err-right-clause-kept : goal.sel-returns-in_err-right-clause-kept
sel-returns-in_err-right-clause-kept t c = sel_third _ _ _ _ c.expr.new.c.nodes c.expr-2.new.c.nodes c.expr-3.new.c.nodes c.args.test.now c.args.x.now c.args.y.now c.get.result.now c.get-2.result.now c.get-3.result.now c.get.ensures c.get-2.ensures c.get-3.ensures (writes_same c.in_ok-choice.ensures.made) (writes_same c.in_ok-left.ensures.made) c.expr.ensures.kept c.expr-2.ensures.kept c.expr-3.ensures.kept

pub sel-returns-clause-kept : goal.sel-returns-clause-kept
sel-returns-clause-kept t c = sel_last _ _ _ _ c.expr.new.c.nodes c.expr-2.new.c.nodes c.expr-3.new.c.nodes c.mux.new.circuit.nodes c.args.test.now c.args.x.now c.args.y.now c.get.result.now c.get-2.result.now c.get-3.result.now c.get.ensures c.get-2.ensures c.get-3.ensures (writes_same c.in_ok-choice.ensures.made) (writes_same c.in_ok-left.ensures.made) c.expr.ensures.kept c.expr-2.ensures.kept c.expr-3.ensures.kept c.mux.ensures.kept

pub sel-mux-requires-clause-same_width : goal.sel-mux-requires-clause-same_width
sel-mux-requires-clause-same_width t c = sel_widths (entry_as c.args.at.now) c.args.lets.now c.args.test.now c.args.x.now c.args.y.now _ _ _ c.requires.typed (width_as (entry_as c.args.at.now) c.args.lets.now c.args.test.now c.get.result.now _ c.get.ensures c.in_ok-choice.ensures.value.width) (width_as (entry_as c.args.at.now) c.args.lets.now c.args.x.now c.get-2.result.now _ c.get-2.ensures c.in_ok-left.ensures.value.width) (width_as (entry_as c.args.at.now) c.args.lets.now c.args.y.now c.get-3.result.now _ c.get-3.ensures c.in_ok-right.ensures.value.width)

pub sel-returns-clause-made : goal.sel-returns-clause-made
sel-returns-clause-made t c =
    let Q : Gate → Type 0 = λ z. IfOk c.mux.result (λ bits. (bits, c.mux.new.circuit.nodes) ≡ mux_made c.expr-3.new.c.nodes z c.in_ok-left.left c.in_ok-right.right) in
    made_three (entry_as c.args.at.now) c.args.lets.now c.args.test.now c.args.x.now c.args.y.now c.get.result.now c.get-2.result.now c.get-3.result.now (Sel c.args.test.now c.args.x.now c.args.y.now) (λ n a u v. mux_made n (bit_0 a) u v) c.args.t.now c.expr.new.t c.expr-2.new.t c.expr-3.new.t (flow_as c.args.c.now.nodes c.args.t.now.cells c.args.g.now) c.in_ok-choice.choice c.in_ok-left.left c.in_ok-right.right c.expr.new.c.nodes c.expr-2.new.c.nodes c.expr-3.new.c.nodes c.mux.new.circuit.nodes c.expr.new.g c.expr-2.new.g c.expr-3.new.g c.mux.result
    (mades.made-sel c.args.test.now c.args.x.now c.args.y.now (entry_as c.args.at.now) c.args.lets.now c.args.t.now.writes (flow_as c.args.c.now.nodes c.args.t.now.cells c.args.g.now)) c.get.ensures c.get-2.ensures c.get-3.ensures c.in_ok-choice.ensures.made c.in_ok-left.ensures.made c.in_ok-right.ensures.made (subst Q c.bit_0.ensures c.mux.ensures.made)

pub expr-literal-requires-clause-some : goal.expr-literal-requires-clause-some
expr-literal-requires-clause-some t c = (lit_range (entry_as c.args.at.now) c.args.lets.now c.args.e.now c.in-Lit.value c.in-Lit.width c.in-Lit.is c.requires.typed).0

pub expr-literal-requires-clause-most : goal.expr-literal-requires-clause-most
expr-literal-requires-clause-most t c = (lit_range (entry_as c.args.at.now) c.args.lets.now c.args.e.now c.in-Lit.value c.in-Lit.width c.in-Lit.is c.requires.typed).1

pub expr-name_gates-requires-clause-width : goal.expr-name_gates-requires-clause-width
expr-name_gates-requires-clause-width t c = name_width (entry_as c.args.at.now) c.args.lets.now c.args.e.now c.in-Name.name c.as_bytes.result.now c.args.c.now.nodes c.args.t.now c.args.g.now c.in-Name.is c.as_bytes.ensures c.requires.ready c.requires.typed

pub expr-returns-in-Lit-clause-made : goal.expr-returns-in-Lit-clause-made
expr-returns-in-Lit-clause-made t c = leaf_made (entry_as c.args.at.now) c.args.lets.now c.args.e.now (Lit c.in-Lit.value c.in-Lit.width) c.args.t.now c.args.c.now.nodes c.args.g.now (literal_bits c.in-Lit.value c.in-Lit.width) (literal_bits c.in-Lit.value c.in-Lit.width) c.literal.result c.in-Lit.is (mades.made-lit c.in-Lit.value c.in-Lit.width (entry_as c.args.at.now) c.args.lets.now c.args.t.now.writes (flow_as c.args.c.now.nodes c.args.t.now.cells c.args.g.now)) refl c.literal.ensures

pub expr-returns-in-Lit-clause-value : goal.expr-returns-in-Lit-clause-value
expr-returns-in-Lit-clause-value t c =
    value_is (entry_as c.args.at.now) c.args.lets.now c.args.e.now c.args.e.now c.args.c.now.nodes c.args.c.now.nodes c.args.t.now c.args.t.now c.args.g.now c.args.g.now c.literal.result refl c.requires.ready c.requires.typed
    (leaf_made (entry_as c.args.at.now) c.args.lets.now c.args.e.now (Lit c.in-Lit.value c.in-Lit.width) c.args.t.now c.args.c.now.nodes c.args.g.now (literal_bits c.in-Lit.value c.in-Lit.width) (literal_bits c.in-Lit.value c.in-Lit.width) c.literal.result c.in-Lit.is (mades.made-lit c.in-Lit.value c.in-Lit.width (entry_as c.args.at.now) c.args.lets.now c.args.t.now.writes (flow_as c.args.c.now.nodes c.args.t.now.cells c.args.g.now)) refl c.literal.ensures)

pub expr-returns-in-Name-clause-made : goal.expr-returns-in-Name-clause-made
expr-returns-in-Name-clause-made t c = leaf_made (entry_as c.args.at.now) c.args.lets.now c.args.e.now (Name c.in-Name.name) c.args.t.now c.args.c.now.nodes c.args.g.now (name_bits (entry_as c.args.at.now) c.args.lets.now c.in-Name.name.bytes) (name_bits (entry_as c.args.at.now) c.args.lets.now c.as_bytes.result.now) c.name_gates.result c.in-Name.is (mades.made-name c.in-Name.name (entry_as c.args.at.now) c.args.lets.now c.args.t.now.writes (flow_as c.args.c.now.nodes c.args.t.now.cells c.args.g.now)) (ap (name_bits (entry_as c.args.at.now) c.args.lets.now) c.as_bytes.ensures) c.name_gates.ensures

pub expr-returns-in-Name-clause-value : goal.expr-returns-in-Name-clause-value
expr-returns-in-Name-clause-value t c =
    value_is (entry_as c.args.at.now) c.args.lets.now c.args.e.now c.args.e.now c.args.c.now.nodes c.args.c.now.nodes c.args.t.now c.args.t.now c.args.g.now c.args.g.now c.name_gates.result refl c.requires.ready c.requires.typed
    (leaf_made (entry_as c.args.at.now) c.args.lets.now c.args.e.now (Name c.in-Name.name) c.args.t.now c.args.c.now.nodes c.args.g.now (name_bits (entry_as c.args.at.now) c.args.lets.now c.in-Name.name.bytes) (name_bits (entry_as c.args.at.now) c.args.lets.now c.as_bytes.result.now) c.name_gates.result c.in-Name.is (mades.made-name c.in-Name.name (entry_as c.args.at.now) c.args.lets.now c.args.t.now.writes (flow_as c.args.c.now.nodes c.args.t.now.cells c.args.g.now)) (ap (name_bits (entry_as c.args.at.now) c.args.lets.now) c.as_bytes.ensures) c.name_gates.ensures)

pub expr-returns-in-Pc-clause-made : goal.expr-returns-in-Pc-clause-made
expr-returns-in-Pc-clause-made t c = leaf_made (entry_as c.args.at.now) c.args.lets.now c.args.e.now Pc c.args.t.now c.args.c.now.nodes c.args.g.now c.args.at.now.regs.now.p c.as_slice.result.now c.from_slice.result c.in-Pc.is (mades.made-pc (entry_as c.args.at.now) c.args.lets.now c.args.t.now.writes (flow_as c.args.c.now.nodes c.args.t.now.cells c.args.g.now)) c.as_slice.ensures.gates c.from_slice.ensures

pub expr-returns-in-Pc-clause-value : goal.expr-returns-in-Pc-clause-value
expr-returns-in-Pc-clause-value t c =
    value_is (entry_as c.args.at.now) c.args.lets.now c.args.e.now c.args.e.now c.args.c.now.nodes c.args.c.now.nodes c.args.t.now c.args.t.now c.args.g.now c.args.g.now c.from_slice.result refl c.requires.ready c.requires.typed
    (leaf_made (entry_as c.args.at.now) c.args.lets.now c.args.e.now Pc c.args.t.now c.args.c.now.nodes c.args.g.now c.args.at.now.regs.now.p c.as_slice.result.now c.from_slice.result c.in-Pc.is (mades.made-pc (entry_as c.args.at.now) c.args.lets.now c.args.t.now.writes (flow_as c.args.c.now.nodes c.args.t.now.cells c.args.g.now)) c.as_slice.ensures.gates c.from_slice.ensures)

pub expr-returns-in-Mode-clause-made : goal.expr-returns-in-Mode-clause-made
expr-returns-in-Mode-clause-made t c = leaf_made (entry_as c.args.at.now) c.args.lets.now c.args.e.now Mode c.args.t.now c.args.c.now.nodes c.args.g.now c.args.at.now.regs.now.mode c.as_slice-in-Mode.result.now c.from_slice-in-Mode.result c.in-Mode.is (mades.made-mode (entry_as c.args.at.now) c.args.lets.now c.args.t.now.writes (flow_as c.args.c.now.nodes c.args.t.now.cells c.args.g.now)) c.as_slice-in-Mode.ensures.gates c.from_slice-in-Mode.ensures

pub expr-returns-in-Mode-clause-value : goal.expr-returns-in-Mode-clause-value
expr-returns-in-Mode-clause-value t c =
    value_is (entry_as c.args.at.now) c.args.lets.now c.args.e.now c.args.e.now c.args.c.now.nodes c.args.c.now.nodes c.args.t.now c.args.t.now c.args.g.now c.args.g.now c.from_slice-in-Mode.result refl c.requires.ready c.requires.typed
    (leaf_made (entry_as c.args.at.now) c.args.lets.now c.args.e.now Mode c.args.t.now c.args.c.now.nodes c.args.g.now c.args.at.now.regs.now.mode c.as_slice-in-Mode.result.now c.from_slice-in-Mode.result c.in-Mode.is (mades.made-mode (entry_as c.args.at.now) c.args.lets.now c.args.t.now.writes (flow_as c.args.c.now.nodes c.args.t.now.cells c.args.g.now)) c.as_slice-in-Mode.ensures.gates c.from_slice-in-Mode.ensures)

pub expr-returns-in-Rel-clause-made : goal.expr-returns-in-Rel-clause-made
expr-returns-in-Rel-clause-made t c = leaf_made (entry_as c.args.at.now) c.args.lets.now c.args.e.now Rel c.args.t.now c.args.c.now.nodes c.args.g.now c.args.at.now.regs.now.l c.as_slice-in-Rel.result.now c.from_slice-in-Rel.result c.in-Rel.is (mades.made-rel (entry_as c.args.at.now) c.args.lets.now c.args.t.now.writes (flow_as c.args.c.now.nodes c.args.t.now.cells c.args.g.now)) c.as_slice-in-Rel.ensures.gates c.from_slice-in-Rel.ensures

pub expr-returns-in-Rel-clause-value : goal.expr-returns-in-Rel-clause-value
expr-returns-in-Rel-clause-value t c =
    value_is (entry_as c.args.at.now) c.args.lets.now c.args.e.now c.args.e.now c.args.c.now.nodes c.args.c.now.nodes c.args.t.now c.args.t.now c.args.g.now c.args.g.now c.from_slice-in-Rel.result refl c.requires.ready c.requires.typed
    (leaf_made (entry_as c.args.at.now) c.args.lets.now c.args.e.now Rel c.args.t.now c.args.c.now.nodes c.args.g.now c.args.at.now.regs.now.l c.as_slice-in-Rel.result.now c.from_slice-in-Rel.result c.in-Rel.is (mades.made-rel (entry_as c.args.at.now) c.args.lets.now c.args.t.now.writes (flow_as c.args.c.now.nodes c.args.t.now.cells c.args.g.now)) c.as_slice-in-Rel.ensures.gates c.from_slice-in-Rel.ensures)

pub expr-returns-in-Bound-clause-made : goal.expr-returns-in-Bound-clause-made
expr-returns-in-Bound-clause-made t c = leaf_made (entry_as c.args.at.now) c.args.lets.now c.args.e.now Bound c.args.t.now c.args.c.now.nodes c.args.g.now c.args.at.now.regs.now.b c.as_slice-in-Bound.result.now c.from_slice-in-Bound.result c.in-Bound.is (mades.made-bound (entry_as c.args.at.now) c.args.lets.now c.args.t.now.writes (flow_as c.args.c.now.nodes c.args.t.now.cells c.args.g.now)) c.as_slice-in-Bound.ensures.gates c.from_slice-in-Bound.ensures

pub expr-returns-in-Bound-clause-value : goal.expr-returns-in-Bound-clause-value
expr-returns-in-Bound-clause-value t c =
    value_is (entry_as c.args.at.now) c.args.lets.now c.args.e.now c.args.e.now c.args.c.now.nodes c.args.c.now.nodes c.args.t.now c.args.t.now c.args.g.now c.args.g.now c.from_slice-in-Bound.result refl c.requires.ready c.requires.typed
    (leaf_made (entry_as c.args.at.now) c.args.lets.now c.args.e.now Bound c.args.t.now c.args.c.now.nodes c.args.g.now c.args.at.now.regs.now.b c.as_slice-in-Bound.result.now c.from_slice-in-Bound.result c.in-Bound.is (mades.made-bound (entry_as c.args.at.now) c.args.lets.now c.args.t.now.writes (flow_as c.args.c.now.nodes c.args.t.now.cells c.args.g.now)) c.as_slice-in-Bound.ensures.gates c.from_slice-in-Bound.ensures)

pub expr-returns-in-Load-clause-value : goal.expr-returns-in-Load-clause-value
expr-returns-in-Load-clause-value t c =
    value_is (entry_as c.args.at.now) c.args.lets.now c.args.e.now (Load c.in-Load.x) c.args.c.now.nodes c.load.new.c.nodes c.args.t.now c.load.new.t c.args.g.now c.load.new.g c.load.result c.in-Load.is c.requires.ready c.requires.typed c.load.ensures.made

pub expr-returns-in-Not-clause-value : goal.expr-returns-in-Not-clause-value
expr-returns-in-Not-clause-value t c =
    value_is (entry_as c.args.at.now) c.args.lets.now c.args.e.now (Not c.in-Not.x) c.args.c.now.nodes c.not.new.c.nodes c.args.t.now c.not.new.t c.args.g.now c.not.new.g c.not.result c.in-Not.is c.requires.ready c.requires.typed c.not.ensures.made

pub expr-returns-in-Bin-clause-value : goal.expr-returns-in-Bin-clause-value
expr-returns-in-Bin-clause-value t c =
    value_is (entry_as c.args.at.now) c.args.lets.now c.args.e.now (Bin c.in-Bin.op c.in-Bin.x c.in-Bin.y) c.args.c.now.nodes c.bin.new.c.nodes c.args.t.now c.bin.new.t c.args.g.now c.bin.new.g c.bin.result c.in-Bin.is c.requires.ready c.requires.typed c.bin.ensures.made

pub expr-returns-in-Cat-clause-value : goal.expr-returns-in-Cat-clause-value
expr-returns-in-Cat-clause-value t c =
    value_is (entry_as c.args.at.now) c.args.lets.now c.args.e.now (Cat c.in-Cat.x c.in-Cat.y) c.args.c.now.nodes c.cat.new.c.nodes c.args.t.now c.cat.new.t c.args.g.now c.cat.new.g c.cat.result c.in-Cat.is c.requires.ready c.requires.typed c.cat.ensures.made

pub expr-returns-in-Cut-clause-value : goal.expr-returns-in-Cut-clause-value
expr-returns-in-Cut-clause-value t c =
    value_is (entry_as c.args.at.now) c.args.lets.now c.args.e.now (Cut c.in-Cut.x c.in-Cut.high c.in-Cut.low) c.args.c.now.nodes c.cut.new.c.nodes c.args.t.now c.cut.new.t c.args.g.now c.cut.new.g c.cut.result c.in-Cut.is c.requires.ready c.requires.typed c.cut.ensures.made

pub expr-returns-in-Ext-clause-value : goal.expr-returns-in-Ext-clause-value
expr-returns-in-Ext-clause-value t c =
    value_is (entry_as c.args.at.now) c.args.lets.now c.args.e.now (Ext c.in-Ext.x c.in-Ext.to) c.args.c.now.nodes c.ext.new.c.nodes c.args.t.now c.ext.new.t c.args.g.now c.ext.new.g c.ext.result c.in-Ext.is c.requires.ready c.requires.typed c.ext.ensures.made

pub expr-returns-in-Sext-clause-value : goal.expr-returns-in-Sext-clause-value
expr-returns-in-Sext-clause-value t c =
    value_is (entry_as c.args.at.now) c.args.lets.now c.args.e.now (Sext c.in-Sext.x c.in-Sext.to) c.args.c.now.nodes c.sext.new.c.nodes c.args.t.now c.sext.new.t c.args.g.now c.sext.new.g c.sext.result c.in-Sext.is c.requires.ready c.requires.typed c.sext.ensures.made

pub expr-returns-in-Sel-clause-value : goal.expr-returns-in-Sel-clause-value
expr-returns-in-Sel-clause-value t c =
    value_is (entry_as c.args.at.now) c.args.lets.now c.args.e.now (Sel c.in-Sel.test c.in-Sel.x c.in-Sel.y) c.args.c.now.nodes c.sel.new.c.nodes c.args.t.now c.sel.new.t c.args.g.now c.sel.new.g c.sel.result c.in-Sel.is c.requires.ready c.requires.typed c.sel.ensures.made

pub bin-operate-requires-clause-left : goal.bin-operate-requires-clause-left
bin-operate-requires-clause-left t c = all_there_later _ _ c.in_ok-left.left c.in_ok-right.ensures.value.front c.in_ok-left.ensures.value.are_bits.there

pub cat-cat-requires-clause-left : goal.cat-cat-requires-clause-left
cat-cat-requires-clause-left t c = all_there_later _ _ c.in_ok-left.left c.in_ok-right.ensures.value.front c.in_ok-left.ensures.value.are_bits.there

pub load-touch-requires-clause-there : goal.load-touch-requires-clause-there
load-touch-requires-clause-there t c = all_there_later _ _ c.in_ok-address.address c.access.ensures.kept.front c.in_ok-address.ensures.value.are_bits.there

pub sel-mux-requires-clause-choice : goal.sel-mux-requires-clause-choice
sel-mux-requires-clause-choice t c = subst (λ (g : Gate). g.number < length c.expr-3.new.c.nodes) (sym c.bit_0.ensures) (bit_0-later _ _ c.in_ok-choice.choice (front_then _ _ _ c.in_ok-left.ensures.value.front c.in_ok-right.ensures.value.front) c.in_ok-choice.ensures.value.are_bits)

pub sel-mux-requires-clause-left : goal.sel-mux-requires-clause-left
sel-mux-requires-clause-left t c = all_there_later _ _ c.in_ok-left.left c.in_ok-right.ensures.value.front c.in_ok-left.ensures.value.are_bits.there

pub sel-mux-requires-clause-right : goal.sel-mux-requires-clause-right
sel-mux-requires-clause-right t c = c.in_ok-right.ensures.value.are_bits.there

pub expr-returns-in-Lit-clause-kept : goal.expr-returns-in-Lit-clause-kept
expr-returns-in-Lit-clause-kept t c = adds_none _ _ _

pub expr-returns-in-Name-clause-kept : goal.expr-returns-in-Name-clause-kept
expr-returns-in-Name-clause-kept t c = adds_none _ _ _

pub expr-returns-in-Pc-clause-kept : goal.expr-returns-in-Pc-clause-kept
expr-returns-in-Pc-clause-kept t c = adds_none _ _ _

pub expr-returns-in-Mode-clause-kept : goal.expr-returns-in-Mode-clause-kept
expr-returns-in-Mode-clause-kept t c = adds_none _ _ _

pub expr-returns-in-Rel-clause-kept : goal.expr-returns-in-Rel-clause-kept
expr-returns-in-Rel-clause-kept t c = adds_none _ _ _

pub expr-returns-in-Bound-clause-kept : goal.expr-returns-in-Bound-clause-kept
expr-returns-in-Bound-clause-kept t c = adds_none _ _ _
