-- Every expression that keeps to the table of widths is made right.
use Rattle.std.proofs.Common.{◌≡◌, ℕ, zero, suc, ◌+◌, ◌-◌, ◌^◌, ◌<◌, ◌≤◌, ◌==◌, nat_le, nat_lt, Bool, true, false, ◌&&◌, List, length, cond, Option, None, Some, refl, sym, ap, ◌∙◌, subst, arith}
use Rattle.std.specs.Prelude.{if◌then◌else◌}
use Rattle.std.proofs.lemmas.Bool.{eqb-true, leb-true, ltb-true}
use Rattle.pg_circuit.specs.declared.node.Gate.{Gate}
use Rattle.pg_circuit.specs.Values.{gate_value}
use Rattle.pg_word.specs.Psw.{mode_of, bit_of}
use Rattle.pg_word.specs.Bits.{IsWidth, complement_of, bits_between, joined, sign_extended}
use Rattle.pg_vec.specs.Number.{number, bit_of as bit_number}
use Rattle.pg_vec.specs.Makes.{MakesBits}
use Rattle.pg_vec.specs.Strings.{bits_not_made, cat_made, cut_made, ext_made, sext_made, mux_made}
use Rattle.pg_vec.proofs.Kept.{front_then, constant-value}
use Rattle.pg_vec.proofs.EachLaws.{number-below}
use Rattle.pg_vec.proofs.OpLaws.{not_worth, cat_worth, cut_worth, ext_worth, sext_worth, mux_worth}
use Rattle.pg_ast.specs.declared.name.Name.{Name as Names}
use Rattle.pg_ast.specs.declared.tree.Op.{Op}
use Rattle.pg_ast.specs.declared.tree.Expr.{Expr}
use Rattle.pg_ast.specs.declared.tree.Expr.TheVariants.{Lit, Name, Pc, Mode, Rel, Bound, Load, Not, Bin, Cat, Cut, Ext, Sext, Sel, rolls-Lit, rolls-Name, rolls-Pc, rolls-Mode, rolls-Rel, rolls-Bound, rolls-Load, rolls-Not, rolls-Bin, rolls-Cat, rolls-Cut, rolls-Ext, rolls-Sext, rolls-Sel}
use Rattle.pg_ast.specs.declared.tree.Expr.TheOpen as Open
use Rattle.pg_ast.specs.declared.tree.Expr.TheFolds.{ind-Expr, map-Expr}
use Rattle.pg_ast.specs.declared.tree.Expr.TheViews.{roll-Expr}
use Rattle.pg_lang_meaning.specs.Patterns.{field_of}
use Rattle.pg_lang_meaning.proofs.PatternLemmas.{field_of-within}
use Rattle.pg_lang_meaning.specs.Values.{bits, name_value, op_value, value}
use Rattle.pg_lang_meaning.proofs.ValueEquations as values
use Rattle.pg_lang_valid.specs.Widths.{where_holds, with_width, op_width, cut_width, widened_width, choice_width, width_of}
use Rattle.pg_lang_valid.proofs.CheckLemmas.{and_both}
use Rattle.pg_lang_valid.proofs.WidthEquations as widths
use Rattle.pg_symex.specs.There.{AreBits, sym_setting}
use Rattle.pg_symex.specs.Exprs.{literal_bits, name_bits, bit_0, op_made, expr_made}
use Rattle.pg_symex.specs.Follows.{Makes, IsRight}
use Rattle.pg_symex.proofs.MadeEquations as mades
use Rattle.pg_symex.proofs.ExprForms.{bits-later, entry-later, lets-later, bits_same, makes_as, leaf_makes, one_makes, two_make, three_make}
use Rattle.pg_symex.proofs.LeafLaws.{length-literal, literal-there, number-literal, name-there, name-is}
use Rattle.pg_symex.proofs.AccessLaws.{bit_0-there, number-bit_0, load_makes}
use Rattle.pg_symex.proofs.OpLaw.{where_holds_some, op_makes, own_width}

with_width_some : (o : Option ℕ) (go : ℕ → Option ℕ) (m : ℕ) → with_width o go ≡ Some m → (n : ℕ) × (o ≡ Some n) × (go n ≡ Some m)
with_width_some None go m h = absurd (cc h)
with_width_some (Some n) go m h = (n, refl, h)

right-lit : (v k : ℕ) → IsRight (Lit v k)
right-lit v k at lets ws writes f n is ls fl h =
    let t = where_holds_some (nat_le 1 k && nat_le k 64 && nat_lt v (2 ^ k)) k n (sym (widths.width_of-lit v k (sym_setting at) ws) ∙ h) in
    let both = and_both (nat_le 1 k && nat_le k 64) (nat_lt v (2 ^ k)) t.0 in
    let range = and_both (nat_le 1 k) (nat_le k 64) both.0 in
    let fits = ltb-true v (2 ^ k) both.1 in
    let w : IsWidth n = subst IsWidth t.1 (record { least = leb-true 1 k range.0; most = leb-true k 64 range.1 }) in
    makes_as at lets writes f n _ _ _ (value (Lit v k)) (mades.made-lit v k at lets writes f) (values.value-lit v k)
    (leaf_makes at lets writes f n (literal_bits v k) (λ e l. bits k v) fl
    (record { there = literal-there k v (length f.nodes) fl.circuit.begun; wide = length-literal k v ∙ t.1; is_width = w })
    (λ inputs vs are. bits_same _ k _ v (length-literal k v) (number-literal k v vs fits (λ b. constant-value inputs vs f.nodes b fl.circuit are))))

right-name : (m : Names) → IsRight (Name m)
right-name m at lets ws writes f n is ls fl h =
    makes_as at lets writes f n _ _ _ (value (Name m)) (mades.made-name m at lets writes f) (values.value-name m)
    (leaf_makes at lets writes f n (name_bits at lets m.bytes) (λ e l. name_value e l m.bytes) fl
    (name-there (field_of at.pattern m.bytes) at lets ws m.bytes n f.nodes fl.circuit is (field_of-within at.pattern m.bytes) ls (sym (widths.width_of-name m (sym_setting at) ws) ∙ h))
    (λ inputs vs are. name-is (field_of at.pattern m.bytes) at lets m.bytes f.nodes fl.circuit is (field_of-within at.pattern m.bytes) inputs vs are))

-- a register, of the width of an address
reg_bits : (places a n : ℕ) (xs : List Gate) → AreBits places a xs → a ≡ n → AreBits places n xs
reg_bits places a n xs h e = subst (λ k. AreBits places k xs) e h

right-pc : IsRight Pc
right-pc at lets ws writes f n is ls fl h =
    makes_as at lets writes f n _ _ _ (value Pc) (mades.made-pc at lets writes f) values.value-pc
    (leaf_makes at lets writes f n at.regs.p (λ e l. bits e.a e.psw.p) fl (reg_bits _ at.a n at.regs.p is.regs.p (cc (widths.width_of-pc (sym_setting at) ws, h)))
    (λ inputs vs are. bits_same _ at.a _ _ is.regs.p.wide refl))

right-rel : IsRight Rel
right-rel at lets ws writes f n is ls fl h =
    makes_as at lets writes f n _ _ _ (value Rel) (mades.made-rel at lets writes f) values.value-rel
    (leaf_makes at lets writes f n at.regs.l (λ e l. bits e.a e.psw.l) fl (reg_bits _ at.a n at.regs.l is.regs.l (cc (widths.width_of-rel (sym_setting at) ws, h)))
    (λ inputs vs are. bits_same _ at.a _ _ is.regs.l.wide refl))

right-bound : IsRight Bound
right-bound at lets ws writes f n is ls fl h =
    makes_as at lets writes f n _ _ _ (value Bound) (mades.made-bound at lets writes f) values.value-bound
    (leaf_makes at lets writes f n at.regs.b (λ e l. bits e.a e.psw.b) fl (reg_bits _ at.a n at.regs.b is.regs.b (cc (widths.width_of-bound (sym_setting at) ws, h)))
    (λ inputs vs are. bits_same _ at.a _ _ is.regs.b.wide refl))

-- the bit of the mode of a bit
bit_of-mode_of : (k : ℕ) → k < 2 → bit_of (mode_of k) ≡ k
bit_of-mode_of zero l = refl
bit_of-mode_of (suc zero) l = refl
bit_of-mode_of (suc (suc k)) l = absurd (omega arith)

right-mode : IsRight Mode
right-mode at lets ws writes f n is ls fl h =
    makes_as at lets writes f n _ _ _ (value Mode) (mades.made-mode at lets writes f) values.value-mode
    (leaf_makes at lets writes f n at.regs.mode (λ e l. bits 1 (bit_of e.psw.mode)) fl (reg_bits _ 1 n at.regs.mode is.regs.mode (cc (widths.width_of-mode (sym_setting at) ws, h)))
    (λ inputs vs are. bits_same _ 1 _ _ is.regs.mode.wide (sym (bit_of-mode_of (number vs at.regs.mode)
    (let e : 2 ^ length at.regs.mode ≡ 2 ^ 1 = ap (λ k. 2 ^ k) is.regs.mode.wide in omega (arith, number-below vs at.regs.mode))))))

right-load : (e : Expr) → IsRight e → IsRight (Load e)
right-load e he at lets ws writes f n is ls fl h =
    let t = with_width_some (width_of (sym_setting at) e ws) (λ k. where_holds (k == at.a) at.w) n (sym (widths.width_of-load e (sym_setting at) ws) ∙ h) in
    let u = where_holds_some (t.0 == at.a) at.w n t.2 in
    let width : width_of (sym_setting at) e ws ≡ Some at.a = t.1 ∙ ap (λ k. Some k) (eqb-true t.0 at.a u.0) in
    subst (λ k. Makes at lets writes f k (expr_made (Load e) at lets writes f) (value (Load e))) u.1
    (makes_as at lets writes f at.w _ _ _ (value (Load e)) (mades.made-load e at lets writes f) (values.value-load e)
    (load_makes at lets writes f (expr_made e at lets writes f) (value e) is (he at lets ws writes f at.a is ls fl width)))

right-not : (e : Expr) → IsRight e → IsRight (Not e)
right-not e he at lets ws writes f n is ls fl h =
    let p = he at lets ws writes f n is ls fl (sym (widths.width_of-not e (sym_setting at) ws) ∙ h) in
    let part = expr_made e at lets writes f in
    makes_as at lets writes f n _ _ _ (value (Not e)) (mades.made-not e at lets writes f) (values.value-not e)
    (one_makes at lets writes f n part (value e) p (bits_not_made part.1.nodes part.0) n 0 (λ v. complement_of (length part.0) (number v part.0))
    (subst (λ k. MakesBits part.1.nodes (bits_not_made part.1.nodes part.0) k 0 (λ v. complement_of (length part.0) (number v part.0))) p.bits.wide
    (not_worth part.1.nodes _ part.0 p.flow.circuit p.bits.there refl)) p.bits.is_width
    (λ x. bits x.width (complement_of x.width x.value)) (λ vs. bits_same _ n _ _ p.bits.wide refl))

right-bin : (op : Op) (l r : Expr) → IsRight l → IsRight r → IsRight (Bin op l r)
right-bin op l r hl hr at lets ws writes f n is ls fl h =
    let s = with_width_some (width_of (sym_setting at) l ws) (λ x. with_width (width_of (sym_setting at) r ws) (λ y. op_width op x y)) n (sym (widths.width_of-bin op l r (sym_setting at) ws) ∙ h) in
    let t = with_width_some (width_of (sym_setting at) r ws) (λ y. op_width op s.0 y) n s.2 in
    let part = expr_made l at lets writes f in
    let next = expr_made r at lets writes part.1 in
    let p = hl at lets ws writes f s.0 is ls fl s.1 in
    let q = hr at lets ws writes part.1 t.0 (entry-later f.nodes part.1.nodes at p.front is) (lets-later f.nodes part.1.nodes lets ws p.front ls) p.flow t.1 in
    let m = op_makes op next.1.nodes part.0 next.0 s.0 t.0 n q.flow.circuit (bits-later part.1.nodes next.1.nodes s.0 part.0 q.front p.bits) q.bits t.2 in
    makes_as at lets writes f n _ _ _ (value (Bin op l r)) (mades.made-bin op l r at lets writes f) (values.value-bin op l r)
    (two_make at lets writes f s.0 t.0 part next (value l) (value r) p q (op_made op next.1.nodes part.0 next.0) n (2 ^ 15) _ m.makes m.is_width (op_value op)
    (λ vs. bits_same _ n _ _ (m.width vs) refl))

right-cat : (l r : Expr) → IsRight l → IsRight r → IsRight (Cat l r)
right-cat l r hl hr at lets ws writes f n is ls fl h =
    let s = with_width_some (width_of (sym_setting at) l ws) (λ x. with_width (width_of (sym_setting at) r ws) (λ y. where_holds (nat_le (x + y) 64) (x + y))) n (sym (widths.width_of-cat l r (sym_setting at) ws) ∙ h) in
    let t = with_width_some (width_of (sym_setting at) r ws) (λ y. where_holds (nat_le (s.0 + y) 64) (s.0 + y)) n s.2 in
    let u = where_holds_some (nat_le (s.0 + t.0) 64) (s.0 + t.0) n t.2 in
    let part = expr_made l at lets writes f in
    let next = expr_made r at lets writes part.1 in
    let p = hl at lets ws writes f s.0 is ls fl s.1 in
    let q = hr at lets ws writes part.1 t.0 (entry-later f.nodes part.1.nodes at p.front is) (lets-later f.nodes part.1.nodes lets ws p.front ls) p.flow t.1 in
    let x = bits-later part.1.nodes next.1.nodes s.0 part.0 q.front p.bits in
    let most = leb-true (s.0 + t.0) 64 u.0 in
    let e : length part.0 + length next.0 ≡ n = omega (arith, x.wide, q.bits.wide, u.1) in
    makes_as at lets writes f n _ _ _ (value (Cat l r)) (mades.made-cat l r at lets writes f) (values.value-cat l r)
    (two_make at lets writes f s.0 t.0 part next (value l) (value r) p q (cat_made next.1.nodes part.0 next.0) n 0 (λ v. joined (number v part.0) (length next.0) (number v next.0))
    (subst (λ k. MakesBits next.1.nodes (cat_made next.1.nodes part.0 next.0) k 0 (λ v. joined (number v part.0) (length next.0) (number v next.0))) e
    (cat_worth next.1.nodes _ part.0 next.0 q.flow.circuit x.there q.bits.there refl))
    (record { least = omega (arith, e, x.wide, x.is_width.least); most = omega (arith, most, u.1) })
    (λ x y. bits (x.width + y.width) (joined x.value y.width y.value))
    (λ vs. bits_same _ n _ _ e refl))

right-cut : (e : Expr) (j k : ℕ) → IsRight e → IsRight (Cut e j k)
right-cut e j k he at lets ws writes f n is ls fl h =
    let s = with_width_some (width_of (sym_setting at) e ws) (λ m. cut_width m j k) n (sym (widths.width_of-cut e j k (sym_setting at) ws) ∙ h) in
    let u = where_holds_some (nat_le k j && nat_lt j s.0) (j - k + 1) n s.2 in
    let range = and_both (nat_le k j) (nat_lt j s.0) u.0 in
    let order = leb-true k j range.0 in
    let within = ltb-true j s.0 range.1 in
    let part = expr_made e at lets writes f in
    let p = he at lets ws writes f s.0 is ls fl s.1 in
    makes_as at lets writes f n _ _ _ (value (Cut e j k)) (mades.made-cut e j k at lets writes f) (values.value-cut e j k)
    (one_makes at lets writes f s.0 part (value e) p (cut_made part.1.nodes part.0 j k) n 0 (λ v. bits_between (number v part.0) j k)
    (subst (λ m. MakesBits part.1.nodes (cut_made part.1.nodes part.0 j k) m 0 (λ v. bits_between (number v part.0) j k)) u.1
    (cut_worth part.1.nodes _ part.0 j k p.flow.circuit p.bits.there order (omega (arith, within, p.bits.wide)) refl))
    (record { least = omega (arith, u.1); most = omega (arith, u.1, within, p.bits.is_width.most) })
    (λ x. bits (j - k + 1) (bits_between x.value j k)) (λ vs. bits_same _ n _ _ u.1 refl))

-- the width that an expression is widened to
widen_range : (n to m : ℕ) → widened_width n to ≡ Some m → (n ≤ to) × (to ≤ 64) × (to ≡ m)
widen_range n to m h =
    let u = where_holds_some (nat_le n to && nat_le to 64) to m h in
    let range = and_both (nat_le n to) (nat_le to 64) u.0 in
    (leb-true n to range.0, leb-true to 64 range.1, u.1)

right-ext : (e : Expr) (to : ℕ) → IsRight e → IsRight (Ext e to)
right-ext e to he at lets ws writes f n is ls fl h =
    let s = with_width_some (width_of (sym_setting at) e ws) (λ k. widened_width k to) n (sym (widths.width_of-ext e to (sym_setting at) ws) ∙ h) in
    let r = widen_range s.0 to n s.2 in
    let part = expr_made e at lets writes f in
    let p = he at lets ws writes f s.0 is ls fl s.1 in
    subst (λ k. Makes at lets writes f k (expr_made (Ext e to) at lets writes f) (value (Ext e to))) r.2
    (makes_as at lets writes f to _ _ _ (value (Ext e to)) (mades.made-ext e to at lets writes f) (values.value-ext e to)
    (one_makes at lets writes f s.0 part (value e) p (ext_made part.1.nodes part.0 to) to 0 (λ v. number v part.0)
    (ext_worth part.1.nodes _ part.0 to p.flow.circuit p.bits.there (omega (arith, p.bits.wide, r.0)) refl)
    (record { least = omega (arith, p.bits.is_width.least, r.0); most = r.1 })
    (λ x. bits to x.value) (λ vs. refl)))

right-sext : (e : Expr) (to : ℕ) → IsRight e → IsRight (Sext e to)
right-sext e to he at lets ws writes f n is ls fl h =
    let s = with_width_some (width_of (sym_setting at) e ws) (λ k. widened_width k to) n (sym (widths.width_of-sext e to (sym_setting at) ws) ∙ h) in
    let r = widen_range s.0 to n s.2 in
    let part = expr_made e at lets writes f in
    let p = he at lets ws writes f s.0 is ls fl s.1 in
    subst (λ k. Makes at lets writes f k (expr_made (Sext e to) at lets writes f) (value (Sext e to))) r.2
    (makes_as at lets writes f to _ _ _ (value (Sext e to)) (mades.made-sext e to at lets writes f) (values.value-sext e to)
    (one_makes at lets writes f s.0 part (value e) p (sext_made part.1.nodes part.0 to) to 0 (λ v. sign_extended (number v part.0) (length part.0) to)
    (sext_worth part.1.nodes _ part.0 to p.flow.circuit p.bits.there (omega (arith, p.bits.wide, p.bits.is_width.least)) (omega (arith, p.bits.wide, r.0)) refl)
    (record { least = omega (arith, p.bits.is_width.least, r.0); most = r.1 })
    (λ x. bits to (sign_extended x.value x.width to)) (λ vs. refl)))

-- one of two values, by a bit
chosen : (b : Bool) (t w u x y : ℕ) → t ≡ bit_number b → u ≡ w → (if t == 1 then bits w x else bits u y) ≡ bits w (cond b x y)
chosen true t w u x y e s = ap (λ k. if k == 1 then bits w x else bits u y) e
chosen false t w u x y e s = ap (λ k. if k == 1 then bits w x else bits u y) e ∙ ap (λ k. bits k y) s

right-sel : (c l r : Expr) → IsRight c → IsRight l → IsRight r → IsRight (Sel c l r)
right-sel c l r hc hl hr at lets ws writes f n is ls fl h =
    let q = with_width_some (width_of (sym_setting at) c ws) (λ k. with_width (width_of (sym_setting at) l ws) (λ x. with_width (width_of (sym_setting at) r ws) (λ y. choice_width k x y))) n (sym (widths.width_of-sel c l r (sym_setting at) ws) ∙ h) in
    let s = with_width_some (width_of (sym_setting at) l ws) (λ x. with_width (width_of (sym_setting at) r ws) (λ y. choice_width q.0 x y)) n q.2 in
    let t = with_width_some (width_of (sym_setting at) r ws) (λ y. choice_width q.0 s.0 y) n s.2 in
    let u = where_holds_some ((q.0 == 1) && (s.0 == t.0)) s.0 n t.2 in
    let tests = and_both (q.0 == 1) (s.0 == t.0) u.0 in
    let one = eqb-true q.0 1 tests.0 in
    let same = eqb-true s.0 t.0 tests.1 in
    let first = expr_made c at lets writes f in
    let second = expr_made l at lets writes first.1 in
    let third = expr_made r at lets writes second.1 in
    let h1 = hc at lets ws writes f q.0 is ls fl q.1 in
    let is1 = entry-later f.nodes first.1.nodes at h1.front is in
    let ls1 = lets-later f.nodes first.1.nodes lets ws h1.front ls in
    let h2 = hl at lets ws writes first.1 s.0 is1 ls1 h1.flow s.1 in
    let h3 = hr at lets ws writes second.1 t.0 (entry-later first.1.nodes second.1.nodes at h2.front is1) (lets-later first.1.nodes second.1.nodes lets ws h2.front ls1) h2.flow t.1 in
    let test = bits-later first.1.nodes third.1.nodes 1 first.0 (front_then first.1.nodes second.1.nodes third.1.nodes h2.front h3.front) (subst (λ k. AreBits (length first.1.nodes) k first.0) one h1.bits) in
    let x = bits-later second.1.nodes third.1.nodes s.0 second.0 h3.front h2.bits in
    let e : length second.0 ≡ n = x.wide ∙ u.1 in
    let wide : length third.0 ≡ length second.0 = h3.bits.wide ∙ sym same ∙ sym x.wide in
    makes_as at lets writes f n _ _ _ (value (Sel c l r)) (mades.made-sel c l r at lets writes f) (values.value-sel c l r)
    (three_make at lets writes f q.0 s.0 t.0 first second third (value c) (value l) (value r) h1 h2 h3 (mux_made third.1.nodes (bit_0 first.0) second.0 third.0) n (2 ^ 15)
    (λ v. cond (gate_value v (bit_0 first.0)) (number v second.0) (number v third.0))
    (subst (λ k. MakesBits third.1.nodes (mux_made third.1.nodes (bit_0 first.0) second.0 third.0) k (2 ^ 15) (λ v. cond (gate_value v (bit_0 first.0)) (number v second.0) (number v third.0))) e
    (mux_worth third.1.nodes _ (bit_0 first.0) second.0 third.0 h3.flow.circuit (bit_0-there (length third.1.nodes) first.0 test) x.there h3.bits.there (sym wide) (own_width _ s.0 second.0 x) refl))
    (subst IsWidth u.1 x.is_width)
    (λ t x y. if t.value == 1 then x else y)
    (λ vs. chosen (gate_value vs (bit_0 first.0)) (number vs first.0) (length second.0) (length third.0) (number vs second.0) (number vs third.0) (number-bit_0 vs first.0 test.wide) wide ∙ bits_same _ n _ _ e refl))

right-layer : (y : Open.Expr-F ((e : Expr) × IsRight e)) → IsRight (roll-Expr (map-Expr ((e : Expr) × IsRight e) Expr (λ p. p.0) y))
right-layer (Open.Lit v w) = subst IsRight (sym (rolls-Lit v w)) (right-lit v w)
right-layer (Open.Name n) = subst IsRight (sym (rolls-Name n)) (right-name n)
right-layer Open.Pc = subst IsRight (sym rolls-Pc) right-pc
right-layer Open.Mode = subst IsRight (sym rolls-Mode) right-mode
right-layer Open.Rel = subst IsRight (sym rolls-Rel) right-rel
right-layer Open.Bound = subst IsRight (sym rolls-Bound) right-bound
right-layer (Open.Load e) = subst IsRight (sym (rolls-Load e.0)) (right-load e.0 e.1)
right-layer (Open.Not e) = subst IsRight (sym (rolls-Not e.0)) (right-not e.0 e.1)
right-layer (Open.Bin op x y) = subst IsRight (sym (rolls-Bin op x.0 y.0)) (right-bin op x.0 y.0 x.1 y.1)
right-layer (Open.Cat x y) = subst IsRight (sym (rolls-Cat x.0 y.0)) (right-cat x.0 y.0 x.1 y.1)
right-layer (Open.Cut e h k) = subst IsRight (sym (rolls-Cut e.0 h k)) (right-cut e.0 h k e.1)
right-layer (Open.Ext e n) = subst IsRight (sym (rolls-Ext e.0 n)) (right-ext e.0 n e.1)
right-layer (Open.Sext e n) = subst IsRight (sym (rolls-Sext e.0 n)) (right-sext e.0 n e.1)
right-layer (Open.Sel c x y) = subst IsRight (sym (rolls-Sel c.0 x.0 y.0)) (right-sel c.0 x.0 y.0 c.1 x.1 y.1)

-- every expression is made right
pub expr_right : (e : Expr) → IsRight e
expr_right = ind-Expr IsRight (λ x y is. subst (λ z. IsRight (roll-Expr z)) is (right-layer y))
