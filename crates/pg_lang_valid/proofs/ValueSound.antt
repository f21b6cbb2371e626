-- A well-typed expression has a value of its width, or memory traps.
use Rattle.std.proofs.Common.{◌≡◌, ℕ, ◌+◌, ◌-◌, ◌^◌, ◌<◌, ◌≤◌, Bool, true, false, ◌&&◌, ◌==◌, nat_le, nat_lt, if◌then◌else◌, List, [], ◌∷◌, length, Option, None, Some, bytes_eq, refl, sym, ◌∙◌, subst, arith, lit<, lit≤, inl, inr}
use Rattle.std.proofs.lemmas.Bool.{eqb-true, leb-true, ltb-true}
use Rattle.std.proofs.lemmas.Option.{slice_get_cases}
use Rattle.std.proofs.lemmas.List.Elements.{All-get_or}
use Rattle.std.proofs.lemmas.Nat.{or_lt, xor_lt, pow_pos}
use Rattle.std.proofs.Math.Nat.{mod-lt}
use Rattle.std.specs.Int.Bits.{and_lt}
use Rattle.pg_word.specs.declared.psw.Mode.{Mode as Modes}
use Rattle.pg_word.specs.declared.psw.Mode.TheVariants.{S, U}
use Rattle.pg_word.specs.Psw.{bit_of}
use Rattle.pg_word.specs.Bits.{IsWidth, joined}
use Rattle.pg_word.proofs.Numbers.{below_pow_wider, sum_of_below, difference_of_below, product_of_below, complement_of_below, left_shifted_below, right_shifted_below, bits_between_below, joined_below, sign_extended_below, equal_bit_below, below_bit_below}
use Rattle.pg_ast.specs.declared.name.Name.{Name as Names}
use Rattle.pg_ast.specs.declared.tree.Op.{Op}
use Rattle.pg_ast.specs.declared.tree.Op.TheVariants.{Add, Sub, Mul, And, Or, Xor, Eq, Lt, Shl, Shr}
use Rattle.pg_ast.specs.declared.tree.Expr.{Expr}
use Rattle.pg_ast.specs.declared.tree.Expr.TheVariants.{Lit, Name, Pc, Mode, Rel, Bound, Load, Not, Bin, Cat, Cut, Ext, Sext, Sel, rolls-Lit, rolls-Name, rolls-Pc, rolls-Mode, rolls-Rel, rolls-Bound, rolls-Load, rolls-Not, rolls-Bin, rolls-Cat, rolls-Cut, rolls-Ext, rolls-Sext, rolls-Sel}
use Rattle.pg_ast.specs.declared.tree.Expr.TheOpen as Open
use Rattle.pg_ast.specs.declared.tree.Expr.TheFolds.{ind-Expr, map-Expr}
use Rattle.pg_ast.specs.declared.tree.Expr.TheViews.{roll-Expr}
use Rattle.pg_lang_meaning.specs.Patterns.{Field, field_of, field_value}
use Rattle.pg_lang_meaning.specs.Values.{Bits, bits, Entry, Lets, let_value, field_or_let, op_value, with_value, loaded, value}
use Rattle.pg_lang_valid.specs.Widths.{LetWidths, let_width, field_or_let_width, where_holds, with_width, op_width, cut_width, widened_width, choice_width, width_of}
use Rattle.pg_lang_valid.specs.Typed.{IsEntry, setting_at, HasWidth, LetsFit, AreWords}
use Rattle.pg_lang_meaning.proofs.PatternLemmas.{LiesWithin, field_of-within}
use Rattle.pg_lang_meaning.proofs.ValueEquations as values
use Rattle.pg_lang_valid.proofs.CheckLemmas.{and_both}
use Rattle.pg_lang_valid.proofs.WidthEquations as widths

-- a value of n bits, or a memory trap
abbrev pub OnValue : ℕ → Option Bits → Type 0
OnValue n None = Unit {0}
OnValue n (Some x) = HasWidth n x

where_holds_some : (b : Bool) (n m : ℕ) → where_holds b n ≡ Some m → (b ≡ true) × (n ≡ m)
where_holds_some true n m h = (refl, cc h)
where_holds_some false n m h = absurd (cc h)

with_width_some : (o : Option ℕ) (go : ℕ → Option ℕ) (m : ℕ) → with_width o go ≡ Some m → (n : ℕ) × (o ≡ Some n) × (go n ≡ Some m)
with_width_some None go m h = absurd (cc h)
with_width_some (Some n) go m h = (n, refl, h)

on_with_value : (o : Option Bits) (go : Bits → Option Bits) (n m : ℕ) → OnValue n o → ((x : Bits) → HasWidth n x → OnValue m (go x)) → OnValue m (with_value o go)
on_with_value None go n m h after = tt
on_with_value (Some x) go n m h after = after x h

is_one : IsWidth 1
is_one = record { least = lit≤ tt; most = lit≤ tt }

of_width : (w m v : ℕ) → w ≡ m → v < 2 ^ w → IsWidth m → HasWidth m (bits w v)
of_width w m v e fits is = record { width = e; fits = subst (λ k. v < 2 ^ k) e fits; is_width = is }

own : (n : ℕ) (x : Bits) → HasWidth n x → x.value < 2 ^ x.width
own n x h = subst (λ k. x.value < 2 ^ k) (sym h.width) h.fits

-- both sides of one width
same_widths : (x y : Bits) (n k m : ℕ) → HasWidth n x → HasWidth k y → where_holds (n == k) n ≡ Some m →
    (x.width ≡ m) × (y.value < 2 ^ x.width) × IsWidth m
same_widths x y n k m hx hy e =
    let test = where_holds_some (n == k) n m e in
    let same : n ≡ k = eqb-true n k test.0 in (
      hx.width ∙ test.1,
      subst (λ w. y.value < 2 ^ w) (sym same ∙ sym hx.width) hy.fits,
      subst IsWidth test.1 hx.is_width,
    )

op_sound : (op : Op) (x y : Bits) (n k m : ℕ) → HasWidth n x → HasWidth k y → op_width op n k ≡ Some m → HasWidth m (op_value op x y)
op_sound Add x y n k m hx hy e = let s = same_widths x y n k m hx hy e in of_width x.width m _ s.0 (sum_of_below x.width x.value y.value) s.2
op_sound Sub x y n k m hx hy e = let s = same_widths x y n k m hx hy e in of_width x.width m _ s.0 (difference_of_below x.width x.value y.value) s.2
op_sound Mul x y n k m hx hy e = let s = same_widths x y n k m hx hy e in of_width x.width m _ s.0 (product_of_below x.width x.value y.value) s.2
op_sound And x y n k m hx hy e = let s = same_widths x y n k m hx hy e in of_width x.width m _ s.0 (and_lt x.width x.value y.value (own n x hx) s.1) s.2
op_sound Or x y n k m hx hy e = let s = same_widths x y n k m hx hy e in of_width x.width m _ s.0 (or_lt x.width x.value y.value (own n x hx) s.1) s.2
op_sound Xor x y n k m hx hy e = let s = same_widths x y n k m hx hy e in of_width x.width m _ s.0 (xor_lt x.width x.value y.value (own n x hx) s.1) s.2
op_sound Eq x y n k m hx hy e = let t = where_holds_some (n == k) 1 m e in of_width 1 m _ t.1 (equal_bit_below x.value y.value) (subst IsWidth t.1 is_one)
op_sound Lt x y n k m hx hy e = let t = where_holds_some (n == k) 1 m e in of_width 1 m _ t.1 (below_bit_below x.value y.value) (subst IsWidth t.1 is_one)
op_sound Shl x y n k m hx hy e = let t : n ≡ m = cc e in of_width x.width m _ (hx.width ∙ t) (left_shifted_below x.width x.value y.value) (subst IsWidth t hx.is_width)
op_sound Shr x y n k m hx hy e = let t : n ≡ m = cc e in of_width x.width m _ (hx.width ∙ t) (right_shifted_below x.width x.value y.value (own n x hx)) (subst IsWidth t hx.is_width)

-- a name: a field or a let
let_sound : (lets : Lets) (ws : LetWidths) (name : List ℕ) (n : ℕ) → LetsFit lets ws → let_width ws name ≡ Some n → HasWidth n (let_value lets name)
unfolding let_width let_value
let_sound [] [] name n fit h = absurd (cc h)
let_sound [] (w ∷ ws) name n fit h = absurd fit
let_sound (l ∷ ls) [] name n fit h = absurd fit
let_sound (l ∷ ls) (w ∷ ws) name n fit h =
    by_name (bytes_eq l.0 name) (subst (λ z. (if bytes_eq z name then Some w.1 else let_width ws name) ≡ Some n) (sym fit.0) h)
    fit.1 (let_sound ls ws name n fit.2)
  where
    by_name : (b : Bool) → (if b then Some w.1 else let_width ws name) ≡ Some n → HasWidth w.1 l.1 →
        (let_width ws name ≡ Some n → HasWidth n (let_value ls name)) → HasWidth n (if b then l.1 else let_value ls name)
    by_name true e this older = let same : w.1 ≡ n = cc e in subst (λ k. HasWidth k l.1) same this
    by_name false e this older = older e

-- a power of two is some number
field_fits : (f : Field) (word : ℕ) → field_value f word < 2 ^ f.width
field_fits f word = mod-lt _ (pow_pos f.width)

name_sound : (o : Option Field) (at : Entry) (lets : Lets) (ws : LetWidths) (name : List ℕ) (n : ℕ) → length at.pattern ≤ 64 →
    ((f : Field) → o ≡ Some f → LiesWithin f (length at.pattern)) → LetsFit lets ws →
    field_or_let_width o ws name ≡ Some n → HasWidth n (field_or_let o at lets name)
name_sound None at lets ws name n short inside fit h = let_sound lets ws name n fit h
name_sound (Some f) at lets ws name n short inside fit h =
    let lies = inside f refl in
    of_width f.width n _ (cc h) (field_fits f at.word) (subst IsWidth (cc h) (record { least = lies.some; most = omega (arith, lies.within) }))

bit_fits : (m : Modes) → bit_of m < 2
bit_fits S = lit< tt
bit_fits U = lit< tt

-- a load of a cell of the window
loaded_sound : (w : ℕ) (window : List ℕ) (address : ℕ) → IsWidth w → AreWords w window → OnValue w (loaded w window address)
loaded_sound w window address is words = elim ((slice_get_cases window address).1) [
  | inl h ↦ rw h.2 (record { width = refl; fits = subst (λ c. c < 2 ^ w) h.3 (All-get_or (λ c. c < 2 ^ w) window address h.0 h.1 words); is_width = is })
  | inr h ↦ rw h.1 tt
]

-- at every entry in range, under lets of their widths and in a window of words, the value has the width of the expression
abbrev pub IsSound : Expr → Type 0
IsSound e = (at : Entry) (lets : Lets) (ws : LetWidths) (window : List ℕ) (n : ℕ) → IsEntry at → LetsFit lets ws → AreWords at.w window →
    width_of (setting_at at) e ws ≡ Some n → OnValue n (value e at lets window)

sound-lit : (v k : ℕ) → IsSound (Lit v k)
sound-lit v k at lets ws window n is fit words h =
    let t = where_holds_some (nat_le 1 k && nat_le k 64 && nat_lt v (2 ^ k)) k n (sym (widths.width_of-lit v k (setting_at at) ws) ∙ h) in
    let both = and_both (nat_le 1 k && nat_le k 64) (nat_lt v (2 ^ k)) t.0 in
    let range = and_both (nat_le 1 k) (nat_le k 64) both.0 in
    rw (values.value-lit v k at lets window) (of_width k n v t.1 (ltb-true v (2 ^ k) both.1)
    (subst IsWidth t.1 (record { least = leb-true 1 k range.0; most = leb-true k 64 range.1 })))

sound-name : (m : Names) → IsSound (Name m)
sound-name m at lets ws window n is fit words h =
    rw (values.value-name m at lets window)
    (name_sound (field_of at.pattern m.bytes) at lets ws m.bytes n is.pattern (field_of-within at.pattern m.bytes) fit
    (sym (widths.width_of-name m (setting_at at) ws) ∙ h))

sound-pc : IsSound Pc
sound-pc at lets ws window n is fit words h =
    let e : at.a ≡ n = cc (widths.width_of-pc (setting_at at) ws, h) in
    rw (values.value-pc at lets window) (of_width at.a n at.psw.p e is.psw.p (subst IsWidth e is.address_width))

sound-mode : IsSound Mode
sound-mode at lets ws window n is fit words h =
    let e : 1 ≡ n = cc (widths.width_of-mode (setting_at at) ws, h) in
    rw (values.value-mode at lets window) (of_width 1 n (bit_of at.psw.mode) e (bit_fits at.psw.mode) (subst IsWidth e is_one))

sound-rel : IsSound Rel
sound-rel at lets ws window n is fit words h =
    let e : at.a ≡ n = cc (widths.width_of-rel (setting_at at) ws, h) in
    rw (values.value-rel at lets window) (of_width at.a n at.psw.l e is.psw.l (subst IsWidth e is.address_width))

sound-bound : IsSound Bound
sound-bound at lets ws window n is fit words h =
    let e : at.a ≡ n = cc (widths.width_of-bound (setting_at at) ws, h) in
    rw (values.value-bound at lets window) (of_width at.a n at.psw.b e is.psw.b (subst IsWidth e is.address_width))

sound-load : (e : Expr) → IsSound e → IsSound (Load e)
sound-load e he at lets ws window n is fit words h =
    let t = with_width_some (width_of (setting_at at) e ws) (λ k. where_holds (k == at.a) at.w) n (sym (widths.width_of-load e (setting_at at) ws) ∙ h) in
    let u = where_holds_some (t.0 == at.a) at.w n t.2 in
    rw (values.value-load e at lets window)
    (on_with_value (value e at lets window) (λ x. loaded at.w window x.value) t.0 n (he at lets ws window t.0 is fit words t.1)
    (λ x hx. subst (λ k. OnValue k (loaded at.w window x.value)) u.1 (loaded_sound at.w window x.value is.word_width words)))

sound-not : (e : Expr) → IsSound e → IsSound (Not e)
sound-not e he at lets ws window n is fit words h =
    rw (values.value-not e at lets window)
    (on_with_value (value e at lets window) _ n n (he at lets ws window n is fit words (sym (widths.width_of-not e (setting_at at) ws) ∙ h))
    (λ x hx. of_width x.width n _ hx.width (complement_of_below x.width x.value) hx.is_width))

sound-bin : (op : Op) (l r : Expr) → IsSound l → IsSound r → IsSound (Bin op l r)
sound-bin op l r hl hr at lets ws window n is fit words h =
    let s = with_width_some (width_of (setting_at at) l ws) (λ x. with_width (width_of (setting_at at) r ws) (λ y. op_width op x y)) n (sym (widths.width_of-bin op l r (setting_at at) ws) ∙ h) in
    let t = with_width_some (width_of (setting_at at) r ws) (λ y. op_width op s.0 y) n s.2 in
    rw (values.value-bin op l r at lets window)
    (on_with_value (value l at lets window) _ s.0 n (hl at lets ws window s.0 is fit words s.1)
    (λ x hx. on_with_value (value r at lets window) _ t.0 n (hr at lets ws window t.0 is fit words t.1)
    (λ y hy. op_sound op x y s.0 t.0 n hx hy t.2)))

sound-cat : (l r : Expr) → IsSound l → IsSound r → IsSound (Cat l r)
sound-cat l r hl hr at lets ws window n is fit words h =
    let s = with_width_some (width_of (setting_at at) l ws) (λ x. with_width (width_of (setting_at at) r ws) (λ y. where_holds (nat_le (x + y) 64) (x + y))) n (sym (widths.width_of-cat l r (setting_at at) ws) ∙ h) in
    let t = with_width_some (width_of (setting_at at) r ws) (λ y. where_holds (nat_le (s.0 + y) 64) (s.0 + y)) n s.2 in
    let u = where_holds_some (nat_le (s.0 + t.0) 64) (s.0 + t.0) n t.2 in
    rw (values.value-cat l r at lets window)
    (on_with_value (value l at lets window) _ s.0 n (hl at lets ws window s.0 is fit words s.1)
    (λ x hx. on_with_value (value r at lets window) _ t.0 n (hr at lets ws window t.0 is fit words t.1)
    (λ y hy. cat_width x y s.0 t.0 n hx hy (leb-true (s.0 + t.0) 64 u.0) u.1)))
  where
    cat_width : (x y : Bits) (j k m : ℕ) → HasWidth j x → HasWidth k y → j + k ≤ 64 → j + k ≡ m →
        HasWidth m (bits (x.width + y.width) (joined x.value y.width y.value))
    cat_width x y j k m hx hy most e = of_width (x.width + y.width) m _ (omega (arith, hx.width, hy.width))
        (joined_below x.width y.width x.value y.value (own j x hx) (own k y hy))
        (record { least = omega (arith, hx.is_width.least); most = omega arith })

sound-cut : (e : Expr) (j k : ℕ) → IsSound e → IsSound (Cut e j k)
sound-cut e j k he at lets ws window n is fit words h =
    let s = with_width_some (width_of (setting_at at) e ws) (λ m. cut_width m j k) n (sym (widths.width_of-cut e j k (setting_at at) ws) ∙ h) in
    let u = where_holds_some (nat_le k j && nat_lt j s.0) (j - k + 1) n s.2 in
    let range = and_both (nat_le k j) (nat_lt j s.0) u.0 in
    let below = ltb-true j s.0 range.1 in
    rw (values.value-cut e j k at lets window)
    (on_with_value (value e at lets window) _ s.0 n (he at lets ws window s.0 is fit words s.1)
    (λ x hx. of_width (j - k + 1) n _ u.1 (bits_between_below x.value j k)
    (record { least = omega (arith, u.1); most = omega (arith, u.1, below, hx.is_width.most) })))

widen_range : (n to m : ℕ) → widened_width n to ≡ Some m → (n ≤ to) × (to ≤ 64) × (to ≡ m)
widen_range n to m h =
    let u = where_holds_some (nat_le n to && nat_le to 64) to m h in
    let range = and_both (nat_le n to) (nat_le to 64) u.0 in
    (leb-true n to range.0, leb-true to 64 range.1, u.1)

sound-ext : (e : Expr) (to : ℕ) → IsSound e → IsSound (Ext e to)
sound-ext e to he at lets ws window n is fit words h =
    let s = with_width_some (width_of (setting_at at) e ws) (λ k. widened_width k to) n (sym (widths.width_of-ext e to (setting_at at) ws) ∙ h) in
    let r = widen_range s.0 to n s.2 in
    rw (values.value-ext e to at lets window)
    (on_with_value (value e at lets window) _ s.0 n (he at lets ws window s.0 is fit words s.1)
    (λ x hx. of_width to n x.value r.2 (below_pow_wider x.value s.0 to hx.fits r.0)
    (subst IsWidth r.2 (record { least = omega (arith, hx.is_width.least, r.0); most = r.1 }))))

sound-sext : (e : Expr) (to : ℕ) → IsSound e → IsSound (Sext e to)
sound-sext e to he at lets ws window n is fit words h =
    let s = with_width_some (width_of (setting_at at) e ws) (λ k. widened_width k to) n (sym (widths.width_of-sext e to (setting_at at) ws) ∙ h) in
    let r = widen_range s.0 to n s.2 in
    rw (values.value-sext e to at lets window)
    (on_with_value (value e at lets window) _ s.0 n (he at lets ws window s.0 is fit words s.1)
    (λ x hx. of_width to n _ r.2 (sign_extended_below x.value x.width to (own s.0 x hx) (omega (arith, hx.width, r.0)))
    (subst IsWidth r.2 (record { least = omega (arith, hx.is_width.least, r.0); most = r.1 }))))

choose_width : (b : Bool) (n : ℕ) (x y : Bits) → HasWidth n x → HasWidth n y → HasWidth n (if b then x else y)
choose_width true n x y hx hy = hx
choose_width false n x y hx hy = hy

choose_typed : (b : Bool) (k m n : ℕ) (x y : Bits) → k ≡ n → k ≡ m → HasWidth k x → HasWidth m y → OnValue n (Some (if b then x else y))
choose_typed b k m n x y e same hx hy = choose_width b n x y (subst (λ j. HasWidth j x) e hx) (subst (λ j. HasWidth j y) (sym same ∙ e) hy)

sound-sel : (c l r : Expr) → IsSound c → IsSound l → IsSound r → IsSound (Sel c l r)
sound-sel c l r hc hl hr at lets ws window n is fit words h =
    let q = with_width_some (width_of (setting_at at) c ws) (λ k. with_width (width_of (setting_at at) l ws) (λ x. with_width (width_of (setting_at at) r ws) (λ y. choice_width k x y))) n (sym (widths.width_of-sel c l r (setting_at at) ws) ∙ h) in
    let s = with_width_some (width_of (setting_at at) l ws) (λ x. with_width (width_of (setting_at at) r ws) (λ y. choice_width q.0 x y)) n q.2 in
    let t = with_width_some (width_of (setting_at at) r ws) (λ y. choice_width q.0 s.0 y) n s.2 in
    let u = where_holds_some ((q.0 == 1) && (s.0 == t.0)) s.0 n t.2 in
    let same = eqb-true s.0 t.0 ((and_both (q.0 == 1) (s.0 == t.0) u.0).1) in
    rw (values.value-sel c l r at lets window)
    (on_with_value (value c at lets window) _ q.0 n (hc at lets ws window q.0 is fit words q.1)
    (λ test htest. on_with_value (value l at lets window) _ s.0 n (hl at lets ws window s.0 is fit words s.1)
    (λ x hx. on_with_value (value r at lets window) _ t.0 n (hr at lets ws window t.0 is fit words t.1)
    (λ y hy. choose_typed (test.value == 1) s.0 t.0 n x y u.1 same hx hy))))

sound-layer : (y : Open.Expr-F ((e : Expr) × IsSound e)) → IsSound (roll-Expr (map-Expr ((e : Expr) × IsSound e) Expr (λ p. p.0) y))
sound-layer (Open.Lit v w) = subst IsSound (sym (rolls-Lit v w)) (sound-lit v w)
sound-layer (Open.Name n) = subst IsSound (sym (rolls-Name n)) (sound-name n)
sound-layer Open.Pc = subst IsSound (sym rolls-Pc) sound-pc
sound-layer Open.Mode = subst IsSound (sym rolls-Mode) sound-mode
sound-layer Open.Rel = subst IsSound (sym rolls-Rel) sound-rel
sound-layer Open.Bound = subst IsSound (sym rolls-Bound) sound-bound
sound-layer (Open.Load e) = subst IsSound (sym (rolls-Load e.0)) (sound-load e.0 e.1)
sound-layer (Open.Not e) = subst IsSound (sym (rolls-Not e.0)) (sound-not e.0 e.1)
sound-layer (Open.Bin op x y) = subst IsSound (sym (rolls-Bin op x.0 y.0)) (sound-bin op x.0 y.0 x.1 y.1)
sound-layer (Open.Cat x y) = subst IsSound (sym (rolls-Cat x.0 y.0)) (sound-cat x.0 y.0 x.1 y.1)
sound-layer (Open.Cut e h k) = subst IsSound (sym (rolls-Cut e.0 h k)) (sound-cut e.0 h k e.1)
sound-layer (Open.Ext e n) = subst IsSound (sym (rolls-Ext e.0 n)) (sound-ext e.0 n e.1)
sound-layer (Open.Sext e n) = subst IsSound (sym (rolls-Sext e.0 n)) (sound-sext e.0 n e.1)
sound-layer (Open.Sel c x y) = subst IsSound (sym (rolls-Sel c.0 x.0 y.0)) (sound-sel c.0 x.0 y.0 c.1 x.1 y.1)

-- every expression is sound
pub value-sound : (e : Expr) → IsSound e
value-sound = ind-Expr IsSound (λ x y is. subst (λ z. IsSound (roll-Expr z)) is (sound-layer y))
