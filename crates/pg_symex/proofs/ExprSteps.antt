-- What the code's forms are due to make of their parts, what they cost, and what widths their parts have.
use Rattle.std.proofs.Common.{◌≡◌, ℕ, ◌+◌, ◌-◌, ◌*◌, ◌^◌, ◌<◌, ◌≤◌, ◌==◌, nat_le, nat_lt, ◌&&◌, List, length, Option, None, Some, IsSome, Result, Ok, Err, refl, sym, ap, ◌∙◌, subst, arith}
use Rattle.std.specs.Prelude.{IfOk, OnOk}
use Rattle.std.proofs.lemmas.Bool.{eqb-true, leb-true, ltb-true}
use Rattle.pg_circuit.specs.declared.node.Gate.{Gate}
use Rattle.pg_circuit.specs.declared.node.Node.{Node}
use Rattle.pg_circuit.specs.Grown.{GrowsTo}
use Rattle.pg_word.specs.Bits.{IsWidth}
use Rattle.pg_vec.specs.AddsNodes.{AddsNodes}
use Rattle.pg_vec.proofs.Kept.{front_same, front_then}
use Rattle.pg_cells.specs.declared.cell.Cell.{Cell}
use Rattle.pg_cells.specs.declared.cell.Write.{Write}
use Rattle.pg_cells.specs.View.{View}
use Rattle.pg_cells.specs.Over.{IsOver}
use Rattle.pg_cells.specs.Made.{touch_made, cells_after}
use Rattle.pg_ast.specs.declared.name.Name.{Name as Names}
use Rattle.pg_ast.specs.declared.tree.Op.{Op}
use Rattle.pg_ast.specs.declared.tree.Expr.{Expr}
use Rattle.pg_ast.specs.declared.tree.Expr.TheVariants.{Lit, Name, Load, Not, Bin, Cat, Cut, Ext, Sext, Sel}
use Rattle.pg_lang_meaning.specs.Patterns.{field_of}
use Rattle.pg_lang_meaning.proofs.PatternLemmas.{field_of-within}
use Rattle.pg_lang_meaning.specs.Values.{value}
use Rattle.pg_lang_valid.specs.Limits.{Tally, both, expr_tally}
use Rattle.pg_lang_valid.specs.Widths.{where_holds, with_width, op_width, cut_width, widened_width, choice_width, width_of}
use Rattle.pg_lang_valid.proofs.CheckLemmas.{and_both}
use Rattle.pg_lang_valid.proofs.WidthEquations as widths
use Rattle.pg_lang_valid.proofs.CheckExprEquations.{expr_tally-load, expr_tally-not, expr_tally-bin, expr_tally-cat, expr_tally-cut, expr_tally-ext, expr_tally-sext, expr_tally-sel}
use Rattle.pg_symex.specs.declared.guards.Guards.{Guards}
use Rattle.pg_symex.specs.Flow.{SymEntry, SymLets, Flow, view_of}
use Rattle.pg_symex.specs.FlowView.{flow_as}
use Rattle.pg_symex.specs.There.{AreBits, sym_setting, IsFlow}
use Rattle.pg_symex.specs.Exprs.{name_bits, then_bits, made_in, access_made, word_made, load_made, expr_made}
use Rattle.pg_symex.specs.Follows.{Makes}
use Rattle.pg_symex.specs.Calls.{widths_of, IsReady, IsTyped, IsMade, IsValue, Adds, expr_cost}
use Rattle.pg_symex.proofs.MadeEquations as mades
use Rattle.pg_symex.proofs.ExprForms.{entry-later, lets-later}
use Rattle.pg_symex.proofs.LeafLaws.{name-there}
use Rattle.pg_symex.proofs.AccessLaws.{accessed}
use Rattle.pg_symex.proofs.ExprLaw.{expr_right}
use Rattle.pg_symex.proofs.Typing.{with_go, with_both, holds, use_width}

-- ---- what is added

pub adds_none : (ws : List Write) (nodes : List Node) (most : ℕ) → Adds ws nodes nodes most
adds_none ws nodes most = record { front = front_same nodes; few = λ h. omega arith }

pub adds_nodes : (ws : List Write) (a b : List Node) (m k : ℕ) → m ≤ k → AddsNodes a b m → Adds ws a b k
adds_nodes ws a b m k l h = record { front = h.front; few = λ w. let f = h.few in omega arith }

pub adds_more : (ws : List Write) (a b : List Node) (m k : ℕ) → m ≤ k → Adds ws a b m → Adds ws a b k
adds_more ws a b m k l h = record { front = h.front; few = λ w. let f = h.few w in omega arith }

pub adds_then : (ws vs : List Write) (a b c : List Node) (m n k : ℕ) → vs ≡ ws → m + n ≤ k → Adds ws a b m → Adds vs b c n → Adds ws a c k
adds_then ws vs a b c m n k e l h i = record {
  front = front_then a b c h.front i.front;
  few = λ w. let f = h.few w in let g = i.few (subst (λ (x : List Write). length x ≤ 72) (sym e) w) in omega arith;
}

-- ---- what forms cost

pub each : ℕ
each = 3 * 2 ^ 15

cost : (e : Expr) (t : Tally) → expr_tally e ≡ t → expr_cost e ≡ t.expressions * (3 * 2 ^ 15)
cost e t h = ap (λ (u : Tally). u.expressions * (3 * 2 ^ 15)) h

pub cost-load : (e : Expr) → expr_cost (Load e) ≡ 3 * 2 ^ 15 + expr_cost e
unfolding both
cost-load e = cost (Load e) _ (expr_tally-load e) ∙ (omega arith)

pub cost-not : (e : Expr) → expr_cost (Not e) ≡ 3 * 2 ^ 15 + expr_cost e
unfolding both
cost-not e = cost (Not e) _ (expr_tally-not e) ∙ (omega arith)

pub cost-bin : (op : Op) (x y : Expr) → expr_cost (Bin op x y) ≡ 3 * 2 ^ 15 + expr_cost x + expr_cost y
unfolding both
cost-bin op x y = cost (Bin op x y) _ (expr_tally-bin op x y) ∙ (omega arith)

pub cost-cat : (x y : Expr) → expr_cost (Cat x y) ≡ 3 * 2 ^ 15 + expr_cost x + expr_cost y
unfolding both
cost-cat x y = cost (Cat x y) _ (expr_tally-cat x y) ∙ (omega arith)

pub cost-cut : (e : Expr) (j k : ℕ) → expr_cost (Cut e j k) ≡ 3 * 2 ^ 15 + expr_cost e
unfolding both
cost-cut e j k = cost (Cut e j k) _ (expr_tally-cut e j k) ∙ (omega arith)

pub cost-ext : (e : Expr) (n : ℕ) → expr_cost (Ext e n) ≡ 3 * 2 ^ 15 + expr_cost e
unfolding both
cost-ext e n = cost (Ext e n) _ (expr_tally-ext e n) ∙ (omega arith)

pub cost-sext : (e : Expr) (n : ℕ) → expr_cost (Sext e n) ≡ 3 * 2 ^ 15 + expr_cost e
unfolding both
cost-sext e n = cost (Sext e n) _ (expr_tally-sext e n) ∙ (omega arith)

pub cost-sel : (c x y : Expr) → expr_cost (Sel c x y) ≡ 3 * 2 ^ 15 + expr_cost c + expr_cost x + expr_cost y
unfolding both
cost-sel c x y = cost (Sel c x y) _ (expr_tally-sel c x y) ∙ (omega arith)

-- a form with one part: where the part ended it, and after its own gates
pub one_first : (ws : List Write) (a b : List Node) (x y whole : Expr) → y ≡ x → expr_cost whole ≡ 3 * 2 ^ 15 + expr_cost x → Adds ws a b (expr_cost y) → Adds ws a b (expr_cost whole)
one_first ws a b x y whole e c h = adds_more ws a b (expr_cost y) (expr_cost whole) (let same : expr_cost y ≡ expr_cost x = ap expr_cost e in omega (arith, same, c)) h

pub one_last : (ws : List Write) (a b d : List Node) (x y whole : Expr) → y ≡ x → expr_cost whole ≡ 3 * 2 ^ 15 + expr_cost x → d ≡ b → Adds ws a b (expr_cost y) → Adds ws a d (expr_cost whole)
one_last ws a b d x y whole e c s h = subst (λ (n : List Node). Adds ws a n (expr_cost whole)) (sym s) (one_first ws a b x y whole e c h)

-- a form with two
pub two_first : (ws : List Write) (a b : List Node) (x y u whole : Expr) → u ≡ x → expr_cost whole ≡ 3 * 2 ^ 15 + expr_cost x + expr_cost y → Adds ws a b (expr_cost u) → Adds ws a b (expr_cost whole)
two_first ws a b x y u whole e c h = adds_more ws a b (expr_cost u) (expr_cost whole) (let same : expr_cost u ≡ expr_cost x = ap expr_cost e in omega (arith, same, c)) h

pub two_second : (ws vs : List Write) (a b d : List Node) (x y u v whole : Expr) → u ≡ x → v ≡ y → expr_cost whole ≡ 3 * 2 ^ 15 + expr_cost x + expr_cost y → vs ≡ ws →
    Adds ws a b (expr_cost u) → Adds vs b d (expr_cost v) → Adds ws a d (expr_cost whole)
two_second ws vs a b d x y u v whole e f c s h i =
    adds_then ws vs a b d (expr_cost u) (expr_cost v) (expr_cost whole) s
    (let p : expr_cost u ≡ expr_cost x = ap expr_cost e in let q : expr_cost v ≡ expr_cost y = ap expr_cost f in omega (arith, p, q, c)) h i

pub two_last : (ws vs : List Write) (a b d n : List Node) (x y u v whole : Expr) → u ≡ x → v ≡ y → expr_cost whole ≡ 3 * 2 ^ 15 + expr_cost x + expr_cost y → vs ≡ ws →
    Adds ws a b (expr_cost u) → Adds vs b d (expr_cost v) → AddsNodes d n (2 ^ 15) → Adds ws a n (expr_cost whole)
two_last ws vs a b d n x y u v whole e f c s h i k =
    let p : expr_cost u ≡ expr_cost x = ap expr_cost e in
    let q : expr_cost v ≡ expr_cost y = ap expr_cost f in
    adds_then ws ws a d n (expr_cost u + expr_cost v) (2 ^ 15) (expr_cost whole) refl (omega (arith, p, q, c))
    (adds_then ws vs a b d (expr_cost u) (expr_cost v) (expr_cost u + expr_cost v) s (omega arith) h i) (adds_nodes ws d n (2 ^ 15) (2 ^ 15) (omega arith) k)

pub two_end : (ws vs : List Write) (a b d n : List Node) (x y u v whole : Expr) → u ≡ x → v ≡ y → expr_cost whole ≡ 3 * 2 ^ 15 + expr_cost x + expr_cost y → vs ≡ ws → n ≡ d →
    Adds ws a b (expr_cost u) → Adds vs b d (expr_cost v) → Adds ws a n (expr_cost whole)
two_end ws vs a b d n x y u v whole e f c s k h i = subst (λ (m : List Node). Adds ws a m (expr_cost whole)) (sym k) (two_second ws vs a b d x y u v whole e f c s h i)

-- a form with three
pub three_first : (ws : List Write) (a b : List Node) (p x y t whole : Expr) → t ≡ p → expr_cost whole ≡ 3 * 2 ^ 15 + expr_cost p + expr_cost x + expr_cost y → Adds ws a b (expr_cost t) → Adds ws a b (expr_cost whole)
three_first ws a b p x y t whole e c h = adds_more ws a b (expr_cost t) (expr_cost whole) (let same : expr_cost t ≡ expr_cost p = ap expr_cost e in omega (arith, same, c)) h

pub three_second : (ws vs : List Write) (a b d : List Node) (p x y t u whole : Expr) → t ≡ p → u ≡ x → expr_cost whole ≡ 3 * 2 ^ 15 + expr_cost p + expr_cost x + expr_cost y → vs ≡ ws →
    Adds ws a b (expr_cost t) → Adds vs b d (expr_cost u) → Adds ws a d (expr_cost whole)
three_second ws vs a b d p x y t u whole e f c s h i =
    adds_then ws vs a b d (expr_cost t) (expr_cost u) (expr_cost whole) s
    (let j : expr_cost t ≡ expr_cost p = ap expr_cost e in let q : expr_cost u ≡ expr_cost x = ap expr_cost f in omega (arith, j, q, c)) h i

pub three_third : (ws vs us : List Write) (a b d n : List Node) (p x y t u v whole : Expr) → t ≡ p → u ≡ x → v ≡ y → expr_cost whole ≡ 3 * 2 ^ 15 + expr_cost p + expr_cost x + expr_cost y → vs ≡ ws → us ≡ vs →
    Adds ws a b (expr_cost t) → Adds vs b d (expr_cost u) → Adds us d n (expr_cost v) → Adds ws a n (expr_cost p + expr_cost x + expr_cost y)
three_third ws vs us a b d n p x y t u v whole e f g c s r h i k =
    let j : expr_cost t ≡ expr_cost p = ap expr_cost e in
    let q : expr_cost u ≡ expr_cost x = ap expr_cost f in
    let o : expr_cost v ≡ expr_cost y = ap expr_cost g in
    adds_then ws us a d n (expr_cost t + expr_cost u) (expr_cost v) (expr_cost p + expr_cost x + expr_cost y) (r ∙ s) (omega (arith, j, q, o))
    (adds_then ws vs a b d (expr_cost t) (expr_cost u) (expr_cost t + expr_cost u) s (omega arith) h i) k

-- ---- what is made

pub writes_same : {due : List Gate × Flow} {bits : List Gate} {old : View} {nodes : List Node} {t : View} {g : Guards} → IsMade due bits old nodes t g → t.writes ≡ old.writes
writes_same h = ap (λ (v : View). v.writes) h.view

view_then : (t0 t1 t2 : View) (cells : List Cell) → t1 ≡ record t0 { cells = t1.cells } → t2 ≡ record t1 { cells = cells } → t2 ≡ record t0 { cells = t2.cells }
view_then t0 t1 t2 cells h k =
    k ∙ ap (λ (v : View). record v { cells = cells }) h ∙ ap (λ (c : List Cell). record t0 { cells = c }) (sym (ap (λ (v : View). v.cells) k))

-- a form with no part
pub leaf_made : {E : Type 0} (at : SymEntry) (lets : SymLets) (whole form : Expr) (t : View) (nodes : List Node) (g : Guards) (xs ys : List Gate) (r : Result (List Gate) E) → whole ≡ form →
    expr_made form at lets t.writes (flow_as nodes t.cells g) ≡ (xs, flow_as nodes t.cells g) → ys ≡ xs → IfOk r (λ bits. bits ≡ ys) →
    IfOk r (λ bits. IsMade (expr_made whole at lets t.writes (flow_as nodes t.cells g)) bits t nodes t g)
leaf_made at lets whole form t nodes g xs ys (Ok bits) e m s h = record {
  made = ap (λ (b : List Gate). (b, flow_as nodes t.cells g)) (h ∙ s) ∙ sym m ∙ ap (λ z. expr_made z at lets t.writes (flow_as nodes t.cells g)) (sym e);
  view = refl;
}
leaf_made at lets whole form t nodes g xs ys (Err x) e m s h = tt

pub made_one : {E : Type 0} (at : SymEntry) (lets : SymLets) (x u whole : Expr) (F : List Node → List Gate → List Gate × List Node) (t0 t1 : View) (f : Flow) (left : List Gate) (n1 n2 : List Node) (g1 : Guards) (r : Result (List Gate) E) →
    expr_made whole at lets t0.writes f ≡ then_bits (expr_made x at lets t0.writes f) (λ b g. made_in g (F g.nodes b)) → u ≡ x →
    IsMade (expr_made u at lets t0.writes f) left t0 n1 t1 g1 → IfOk r (λ bits. (bits, n2) ≡ F n1 left) → IfOk r (λ bits. IsMade (expr_made whole at lets t0.writes f) bits t0 n2 t1 g1)
made_one at lets x u whole F t0 t1 f left n1 n2 g1 (Err e) w s h k = tt
made_one at lets x u whole F t0 t1 f left n1 n2 g1 (Ok bits) w s h k = record {
  made =
      ap (λ (m : List Gate × List Node). made_in (flow_as n1 t1.cells g1) m) k
      ∙ ap (λ (m : List Gate × Flow). made_in m.1 (F m.1.nodes m.0)) h.made
      ∙ ap (λ z. then_bits (expr_made z at lets t0.writes f) (λ b g. made_in g (F g.nodes b))) s
      ∙ sym w;
  view = h.view;
}

pub made_two : {E : Type 0} (at : SymEntry) (lets : SymLets) (x y u v whole : Expr) (F : List Node → List Gate → List Gate → List Gate × List Node) (t0 t1 t2 : View) (f : Flow) (left right : List Gate) (n1 n2 n3 : List Node) (g1 g2 : Guards) (r : Result (List Gate) E) →
    expr_made whole at lets t0.writes f ≡ then_bits (expr_made x at lets t0.writes f) (λ b g. then_bits (expr_made y at lets t0.writes g) (λ c h. made_in h (F h.nodes b c))) → u ≡ x → v ≡ y →
    IsMade (expr_made u at lets t0.writes f) left t0 n1 t1 g1 → IsMade (expr_made v at lets t1.writes (flow_as n1 t1.cells g1)) right t1 n2 t2 g2 → IfOk r (λ bits. (bits, n3) ≡ F n2 left right) →
    IfOk r (λ bits. IsMade (expr_made whole at lets t0.writes f) bits t0 n3 t2 g2)
made_two at lets x y u v whole F t0 t1 t2 f left right n1 n2 n3 g1 g2 (Err e) w s q h i k = tt
made_two at lets x y u v whole F t0 t1 t2 f left right n1 n2 n3 g1 g2 (Ok bits) w s q h i k = record {
  made =
      ap (λ (m : List Gate × List Node). made_in (flow_as n2 t2.cells g2) m) k
      ∙ ap (λ (m : List Gate × Flow). made_in m.1 (F m.1.nodes left m.0)) i.made
      ∙ ap (λ (ws : List Write). then_bits (expr_made v at lets ws (flow_as n1 t1.cells g1)) (λ c h. made_in h (F h.nodes left c))) (writes_same h)
      ∙ ap (λ z. then_bits (expr_made z at lets t0.writes (flow_as n1 t1.cells g1)) (λ c h. made_in h (F h.nodes left c))) q
      ∙ ap (λ (m : List Gate × Flow). then_bits (expr_made y at lets t0.writes m.1) (λ c h. made_in h (F h.nodes m.0 c))) h.made
      ∙ ap (λ z. then_bits (expr_made z at lets t0.writes f) (λ b g. then_bits (expr_made y at lets t0.writes g) (λ c h. made_in h (F h.nodes b c)))) s
      ∙ sym w;
  view = view_then t0 t1 t2 t2.cells h.view i.view;
}

pub made_three : {E : Type 0} (at : SymEntry) (lets : SymLets) (p x y t u v whole : Expr) (F : List Node → List Gate → List Gate → List Gate → List Gate × List Node) (t0 t1 t2 t3 : View) (f : Flow) (test left right : List Gate) (n1 n2 n3 n4 : List Node) (g1 g2 g3 : Guards) (r : Result (List Gate) E) →
    expr_made whole at lets t0.writes f ≡ then_bits (expr_made p at lets t0.writes f) (λ a e. then_bits (expr_made x at lets t0.writes e) (λ b g. then_bits (expr_made y at lets t0.writes g) (λ c h. made_in h (F h.nodes a b c)))) → t ≡ p → u ≡ x → v ≡ y →
    IsMade (expr_made t at lets t0.writes f) test t0 n1 t1 g1 → IsMade (expr_made u at lets t1.writes (flow_as n1 t1.cells g1)) left t1 n2 t2 g2 → IsMade (expr_made v at lets t2.writes (flow_as n2 t2.cells g2)) right t2 n3 t3 g3 →
    IfOk r (λ bits. (bits, n4) ≡ F n3 test left right) → IfOk r (λ bits. IsMade (expr_made whole at lets t0.writes f) bits t0 n4 t3 g3)
made_three at lets p x y t u v whole F t0 t1 t2 t3 f test left right n1 n2 n3 n4 g1 g2 g3 (Err e) w s q o h i j k = tt
made_three at lets p x y t u v whole F t0 t1 t2 t3 f test left right n1 n2 n3 n4 g1 g2 g3 (Ok bits) w s q o h i j k = record {
  made =
      ap (λ (m : List Gate × List Node). made_in (flow_as n3 t3.cells g3) m) k
      ∙ ap (λ (m : List Gate × Flow). made_in m.1 (F m.1.nodes test left m.0)) j.made
      ∙ ap (λ (ws : List Write). then_bits (expr_made v at lets ws (flow_as n2 t2.cells g2)) (λ c h. made_in h (F h.nodes test left c))) (writes_same i ∙ writes_same h)
      ∙ ap (λ z. then_bits (expr_made z at lets t0.writes (flow_as n2 t2.cells g2)) (λ c h. made_in h (F h.nodes test left c))) o
      ∙ ap (λ (m : List Gate × Flow). then_bits (expr_made y at lets t0.writes m.1) (λ c h. made_in h (F h.nodes test m.0 c))) i.made
      ∙ ap (λ (ws : List Write). then_bits (expr_made u at lets ws (flow_as n1 t1.cells g1)) (λ b g. then_bits (expr_made y at lets t0.writes g) (λ c h. made_in h (F h.nodes test b c)))) (writes_same h)
      ∙ ap (λ z. then_bits (expr_made z at lets t0.writes (flow_as n1 t1.cells g1)) (λ b g. then_bits (expr_made y at lets t0.writes g) (λ c h. made_in h (F h.nodes test b c)))) q
      ∙ ap (λ (m : List Gate × Flow). then_bits (expr_made x at lets t0.writes m.1) (λ b g. then_bits (expr_made y at lets t0.writes g) (λ c h. made_in h (F h.nodes m.0 b c)))) h.made
      ∙ ap (λ z. then_bits (expr_made z at lets t0.writes f) (λ a e. then_bits (expr_made x at lets t0.writes e) (λ b g. then_bits (expr_made y at lets t0.writes g) (λ c h. made_in h (F h.nodes a b c))))) s
      ∙ sym w;
  view = view_then t0 t1 t3 t3.cells h.view (view_then t1 t2 t3 t3.cells i.view j.view);
}

-- a load
pub made_load : {E : Type 0} (at : SymEntry) (lets : SymLets) (x u : Expr) (t0 t1 t3 : View) (f : Flow) (left : List Gate) (n1 n2 n3 : List Node) (g1 g2 : Guards) (r : Result (List Gate) E) → u ≡ x → t1 ≡ view_of at t1.writes t1.cells →
    IsMade (expr_made u at lets t0.writes f) left t0 n1 t1 g1 → ((cells : List Cell) → flow_as n2 cells g2 ≡ access_made at (flow_as n1 cells g1) left) →
    IfOk r (λ word. (word, n3) ≡ touch_made n2 t1 left) → OnOk r (t3 ≡ record t1 { cells = cells_after n2 t1.w t1.cells left }) →
    IfOk r (λ bits. IsMade (expr_made (Load x) at lets t0.writes f) bits t0 n3 t3 g2)
unfolding word_made
made_load at lets x u t0 t1 t3 f left n1 n2 n3 g1 g2 (Err e) s v h a m c = tt
made_load at lets x u t0 t1 t3 f left n1 n2 n3 g1 g2 (Ok bits) s v h a m c =
    let f2 = flow_as n2 t1.cells g2 in
    let w : t1.w ≡ at.w = ap (λ (k : View). k.w) v in
    let cells : t3.cells ≡ cells_after n2 at.w t1.cells left = ap (λ (k : View). k.cells) c ∙ ap (λ k. cells_after n2 k t1.cells left) w in
    record {
      made =
          ap (λ (cs : List Cell). (bits, flow_as n3 cs g2)) cells
          ∙ ap (λ (k : List Gate × List Node). (k.0, flow_as k.1 (cells_after n2 at.w t1.cells left) g2)) (m ∙ ap (λ (k : View). touch_made n2 k left) v)
          ∙ ap (λ (ws : List Write). word_made at ws f2 left) (writes_same h)
          ∙ ap (λ (k : Flow). word_made at t0.writes k left) (a t1.cells)
          ∙ ap (λ (k : List Gate × Flow). load_made at t0.writes k.1 k.0) h.made
          ∙ ap (λ z. then_bits (expr_made z at lets t0.writes f) (λ b g. load_made at t0.writes g b)) s
          ∙ sym (mades.made-load x at lets t0.writes f);
      view = view_then t0 t1 t3 (cells_after n2 t1.w t1.cells left) h.view c;
    }

-- ---- what follows of what was made

some_width : (o : Option ℕ) → IsSome o → (n : ℕ) × (o ≡ Some n)
some_width None h = absurd (cc h)
some_width (Some n) h = (n, refl)

pub value_is : {E : Type 0} (at : SymEntry) (lets : SymLets) (whole form : Expr) (n0 nodes : List Node) (t0 t : View) (g0 g : Guards) (r : Result (List Gate) E) → whole ≡ form → IsReady at lets n0 t0 g0 → IsTyped at lets whole →
    IfOk r (λ bits. IsMade (expr_made form at lets t0.writes (flow_as n0 t0.cells g0)) bits t0 nodes t g) → IfOk r (λ bits. IsValue at lets whole n0 bits nodes t g)
value_is at lets whole form n0 nodes t0 t g0 g (Err e) is ready typed h = tt
value_is at lets whole form n0 nodes t0 t g0 g (Ok bits) is ready typed h =
    let f0 = flow_as n0 t0.cells g0 in
    let w = some_width (width_of (sym_setting at) whole (widths_of lets)) typed.some in
    let due : (bits, flow_as nodes t.cells g) ≡ expr_made whole at lets t0.writes f0 = h.made ∙ ap (λ z. expr_made z at lets t0.writes f0) (sym is) in
    let P : List Gate × Flow → Type 0 = λ m. Makes at lets t0.writes f0 w.0 m (value whole) in
    let m : Makes at lets t0.writes f0 w.0 (bits, flow_as nodes t.cells g) (value whole) =
    subst P (sym due) (expr_right whole at lets (widths_of lets) t0.writes f0 w.0 ready.entry ready.lets_are ready.flow w.1) in
    let writes = writes_same h in
    record {
      ready = record {
        entry = entry-later n0 nodes at m.front ready.entry;
        lets_are = lets-later n0 nodes lets (widths_of lets) m.front ready.lets_are;
        view = h.view ∙ ap (λ (v : View). record v { cells = t.cells }) ready.view ∙ ap (λ (ws : List Write). view_of at ws t.cells) (sym writes);
        flow = subst (λ (ws : List Write). IsFlow at ws (flow_as nodes t.cells g)) (sym writes) m.flow;
      };
      front = m.front;
      are_bits = subst (λ k. AreBits (length nodes) k bits) (sym m.bits.wide) m.bits;
      width = w.1 ∙ ap (λ k. Some k) (sym m.bits.wide);
    }

-- ---- widths of parts

-- what is known of a part, of an expression that is known by an equation
pub width_as : (at : SymEntry) (lets : SymLets) (x u : Expr) (n : ℕ) → u ≡ x → width_of (sym_setting at) u (widths_of lets) ≡ Some n → width_of (sym_setting at) x (widths_of lets) ≡ Some n
width_as at lets x u n e h = subst (λ z. width_of (sym_setting at) z (widths_of lets) ≡ Some n) e h

pub address_width : (at : SymEntry) (lets : SymLets) (x : Expr) (n : ℕ) → IsTyped at lets (Load x) → width_of (sym_setting at) x (widths_of lets) ≡ Some n → n ≡ at.a
address_width at lets x n h w =
    eqb-true n at.a (holds (n == at.a) at.w (with_go _ (λ k. where_holds (k == at.a) at.w) n w (use_width at lets (Load x) _ (widths.width_of-load x (sym_setting at) (widths_of lets)) h)))

pub op_widths : (at : SymEntry) (lets : SymLets) (op : Op) (x y : Expr) (n m : ℕ) → IsTyped at lets (Bin op x y) → width_of (sym_setting at) x (widths_of lets) ≡ Some n → width_of (sym_setting at) y (widths_of lets) ≡ Some m → IsSome (op_width op n m)
op_widths at lets op x y n m h w v = with_both _ _ (op_width op) n m w v (use_width at lets (Bin op x y) _ (widths.width_of-bin op x y (sym_setting at) (widths_of lets)) h)

pub cat_most : (at : SymEntry) (lets : SymLets) (x y : Expr) (n m : ℕ) → IsTyped at lets (Cat x y) → width_of (sym_setting at) x (widths_of lets) ≡ Some n → width_of (sym_setting at) y (widths_of lets) ≡ Some m → n + m ≤ 64
cat_most at lets x y n m h w v =
    leb-true (n + m) 64 (holds (nat_le (n + m) 64) (n + m) (with_both _ _ (λ j k. where_holds (nat_le (j + k) 64) (j + k)) n m w v (use_width at lets (Cat x y) _ (widths.width_of-cat x y (sym_setting at) (widths_of lets)) h)))

pub cut_range : (at : SymEntry) (lets : SymLets) (x : Expr) (j k n : ℕ) → IsTyped at lets (Cut x j k) → width_of (sym_setting at) x (widths_of lets) ≡ Some n → (k ≤ j) × (j < n)
cut_range at lets x j k n h w =
    let both = and_both (nat_le k j) (nat_lt j n) (holds (nat_le k j && nat_lt j n) (j - k + 1) (with_go _ (λ m. cut_width m j k) n w (use_width at lets (Cut x j k) _ (widths.width_of-cut x j k (sym_setting at) (widths_of lets)) h))) in
    (leb-true k j both.0, ltb-true j n both.1)

widened : (n to : ℕ) → IsSome (widened_width n to) → (n ≤ to) × (to ≤ 64)
widened n to h = let both = and_both (nat_le n to) (nat_le to 64) (holds (nat_le n to && nat_le to 64) to h) in (leb-true n to both.0, leb-true to 64 both.1)

pub ext_range : (at : SymEntry) (lets : SymLets) (x : Expr) (to n : ℕ) → IsTyped at lets (Ext x to) → width_of (sym_setting at) x (widths_of lets) ≡ Some n → (n ≤ to) × (to ≤ 64)
ext_range at lets x to n h w = widened n to (with_go _ (λ k. widened_width k to) n w (use_width at lets (Ext x to) _ (widths.width_of-ext x to (sym_setting at) (widths_of lets)) h))

pub sext_range : (at : SymEntry) (lets : SymLets) (x : Expr) (to n : ℕ) → IsTyped at lets (Sext x to) → width_of (sym_setting at) x (widths_of lets) ≡ Some n → (n ≤ to) × (to ≤ 64)
sext_range at lets x to n h w = widened n to (with_go _ (λ k. widened_width k to) n w (use_width at lets (Sext x to) _ (widths.width_of-sext x to (sym_setting at) (widths_of lets)) h))

with_three : (o p q : Option ℕ) (go : ℕ → ℕ → ℕ → Option ℕ) (n m k : ℕ) → o ≡ Some n → p ≡ Some m → q ≡ Some k → IsSome (with_width o (λ x. with_width p (λ y. with_width q (λ z. go x y z)))) → IsSome (go n m k)
with_three o p q go n m k e f g h = with_both p q (go n) m k f g (with_go o (λ x. with_width p (λ y. with_width q (λ z. go x y z))) n e h)

pub sel_widths : (at : SymEntry) (lets : SymLets) (p x y : Expr) (t n m : ℕ) → IsTyped at lets (Sel p x y) → width_of (sym_setting at) p (widths_of lets) ≡ Some t → width_of (sym_setting at) x (widths_of lets) ≡ Some n →
    width_of (sym_setting at) y (widths_of lets) ≡ Some m → n ≡ m
sel_widths at lets p x y t n m h u v w =
    let both = and_both (t == 1) (n == m) (holds ((t == 1) && (n == m)) n (with_three _ _ _ choice_width t n m u v w (use_width at lets (Sel p x y) _ (widths.width_of-sel p x y (sym_setting at) (widths_of lets)) h))) in
    eqb-true n m both.1

pub lit_range : (at : SymEntry) (lets : SymLets) (whole : Expr) (v n : ℕ) → whole ≡ Lit v n → IsTyped at lets whole → (1 ≤ n) × (n ≤ 64)
lit_range at lets whole v n e h =
    let typed : IsTyped at lets (Lit v n) = subst (IsTyped at lets) e h in
    let test = holds (nat_le 1 n && nat_le n 64 && nat_lt v (2 ^ n)) n (use_width at lets (Lit v n) _ (widths.width_of-lit v n (sym_setting at) (widths_of lets)) typed) in
    let range = and_both (nat_le 1 n) (nat_le n 64) ((and_both (nat_le 1 n && nat_le n 64) (nat_lt v (2 ^ n)) test).0) in
    (leb-true 1 n range.0, leb-true n 64 range.1)

pub name_width : (at : SymEntry) (lets : SymLets) (whole : Expr) (m : Names) (bytes : List ℕ) (nodes : List Node) (t : View) (g : Guards) → whole ≡ Name m → bytes ≡ m.bytes → IsReady at lets nodes t g → IsTyped at lets whole → IsWidth (length (name_bits at lets bytes))
name_width at lets whole m bytes nodes t g e s ready h =
    let typed : IsTyped at lets (Name m) = subst (IsTyped at lets) e h in
    let w = some_width _ (use_width at lets (Name m) _ (widths.width_of-name m (sym_setting at) (widths_of lets)) typed) in
    let b = name-there (field_of at.pattern m.bytes) at lets (widths_of lets) m.bytes w.0 nodes ready.flow.circuit ready.entry (field_of-within at.pattern m.bytes) ready.lets_are w.1 in
    let P : List ℕ → Type 0 = λ k. IsWidth (length (name_bits at lets k)) in
    subst P (sym s) (subst IsWidth (sym b.wide) b.is_width)

-- ---- the access of a load

-- after the access, all is ready for the touch
pub touch_over : (at : SymEntry) (lets : SymLets) (e : Expr) (old n1 n2 : List Node) (t1 : View) (g1 g2 : Guards) (address : List Gate) → IsValue at lets e old address n1 t1 g1 → length address ≡ at.a →
    ((cells : List Cell) → flow_as n2 cells g2 ≡ access_made at (flow_as n1 cells g1) address) → IsOver n2 t1
touch_over at lets e old n1 n2 t1 g1 g2 address h w a =
    let ready = h.ready in
    let g = accessed at t1.writes (flow_as n1 t1.cells g1) address ready.flow ready.entry (subst (λ k. AreBits (length n1) k address) w h.are_bits) in
    let P : Flow → Type 0 = λ f. IsOver f.nodes (view_of at t1.writes f.cells) in
    subst (λ (v : View). IsOver n2 v) (sym ready.view) (subst P (sym (a t1.cells)) g.flow.over)

pub load_second : (ws : List Write) (a b d : List Node) (x u : Expr) → u ≡ x → Adds ws a b (expr_cost u) → AddsNodes b d (2 ^ 15 + 3) → Adds ws a d (expr_cost (Load x))
load_second ws a b d x u e h k =
    let same : expr_cost u ≡ expr_cost x = ap expr_cost e in
    adds_then ws ws a b d (expr_cost u) (2 ^ 15 + 3) (expr_cost (Load x)) refl (omega (arith, same, cost-load x)) h (adds_nodes ws b d (2 ^ 15 + 3) (2 ^ 15 + 3) (omega arith) k)

pub load_last : (ws vs : List Write) (a b d n : List Node) (x u : Expr) → u ≡ x → vs ≡ ws → Adds ws a b (expr_cost u) → AddsNodes b d (2 ^ 15 + 3) → GrowsTo d n → (length vs ≤ 72 → length n ≤ length d + 2 ^ 15) → Adds ws a n (expr_cost (Load x))
load_last ws vs a b d n x u e s h k g f =
    let same : expr_cost u ≡ expr_cost x = ap expr_cost e in
    adds_then ws vs a d n (expr_cost u + (2 ^ 15 + 3)) (2 ^ 15) (expr_cost (Load x)) s (omega (arith, same, cost-load x))
    (adds_then ws ws a b d (expr_cost u) (2 ^ 15 + 3) (expr_cost u + (2 ^ 15 + 3)) refl (omega arith) h (adds_nodes ws b d (2 ^ 15 + 3) (2 ^ 15 + 3) (omega arith) k))
    (record { front = g; few = f })

pub sel_last : (ws vs us : List Write) (a b d n m : List Node) (p x y t u v : Expr) → t ≡ p → u ≡ x → v ≡ y → vs ≡ ws → us ≡ vs →
    Adds ws a b (expr_cost t) → Adds vs b d (expr_cost u) → Adds us d n (expr_cost v) → AddsNodes n m (2 ^ 15) → Adds ws a m (expr_cost (Sel p x y))
sel_last ws vs us a b d n m p x y t u v e f g s r h i k j =
    adds_then ws ws a n m (expr_cost p + expr_cost x + expr_cost y) (2 ^ 15) (expr_cost (Sel p x y)) refl (omega (arith, cost-sel p x y))
    (three_third ws vs us a b d n p x y t u v (Sel p x y) e f g (cost-sel p x y) s r h i k) (adds_nodes ws n m (2 ^ 15) (2 ^ 15) (omega arith) j)

pub sel_third : (ws vs us : List Write) (a b d n : List Node) (p x y t u v : Expr) → t ≡ p → u ≡ x → v ≡ y → vs ≡ ws → us ≡ vs →
    Adds ws a b (expr_cost t) → Adds vs b d (expr_cost u) → Adds us d n (expr_cost v) → Adds ws a n (expr_cost (Sel p x y))
sel_third ws vs us a b d n p x y t u v e f g s r h i k =
    adds_more ws a n (expr_cost p + expr_cost x + expr_cost y) (expr_cost (Sel p x y)) (omega (arith, cost-sel p x y))
    (three_third ws vs us a b d n p x y t u v (Sel p x y) e f g (cost-sel p x y) s r h i k)
