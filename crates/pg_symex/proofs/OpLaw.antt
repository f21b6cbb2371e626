-- What an operator makes of two strings of widths that it takes.
use Rattle.std.proofs.Common.{◌≡◌, ℕ, ◌==◌, ◌^◌, Bool, true, false, List, Some, length, refl, sym, ◌∙◌, subst, lit≤}
use Rattle.std.proofs.lemmas.Bool.{eqb-true}
use Rattle.pg_circuit.specs.declared.node.Gate.{Gate}
use Rattle.pg_circuit.specs.declared.node.Node.{Node}
use Rattle.pg_circuit.specs.Nodes.{IsCircuit}
use Rattle.pg_word.specs.Bits.{IsWidth}
use Rattle.pg_vec.specs.Makes.{MakesBits}
use Rattle.pg_vec.proofs.OpLaws.{add_worth, sub_worth, mul_worth, and_worth, or_worth, xor_worth, eq_worth, lt_worth, shl_worth, shr_worth}
use Rattle.pg_ast.specs.declared.tree.Op.{Op}
use Rattle.pg_ast.specs.declared.tree.Op.TheVariants.{Add, Sub, Mul, And, Or, Xor, Eq, Lt, Shl, Shr}
use Rattle.pg_lang_meaning.specs.Values.{op_value}
use Rattle.pg_lang_valid.specs.Widths.{where_holds, op_width}
use Rattle.pg_symex.specs.Numbers.{value_of}
use Rattle.pg_symex.specs.There.{AreBits}
use Rattle.pg_symex.specs.Exprs.{op_made}

pub where_holds_some : (b : Bool) (n m : ℕ) → where_holds b n ≡ Some m → (b ≡ true) × (n ≡ m)
where_holds_some true n m h = (refl, cc h)
where_holds_some false n m h = absurd (cc h)

pub record OpMakes (op : Op) (nodes : List Node) (xs ys : List Gate) (n : ℕ) : Type 0 where
  pub makes : MakesBits nodes (op_made op nodes xs ys) n (2 ^ 15) (λ v. (op_value op (value_of v xs) (value_of v ys)).value)
  pub width : (v : List Bool) → (op_value op (value_of v xs) (value_of v ys)).width ≡ n
  pub is_width : IsWidth n

pub one_is_width : IsWidth 1
one_is_width = record { least = lit≤ tt; most = lit≤ tt }

-- both sides are of one width, which is that of the result
same_widths : (places j k n : ℕ) (xs ys : List Gate) → AreBits places j xs → AreBits places k ys → where_holds (j == k) j ≡ Some n → (length xs ≡ length ys) × (length xs ≡ n)
same_widths places j k n xs ys hx hy e =
    let t = where_holds_some (j == k) j n e in
    (hx.wide ∙ eqb-true j k t.0 ∙ sym hy.wide, hx.wide ∙ t.1)

pub own_width : (places j : ℕ) (xs : List Gate) → AreBits places j xs → IsWidth (length xs)
own_width places j xs h = subst IsWidth (sym h.wide) h.is_width

-- an operator whose result is as wide as its left side
wide_op : (op : Op) (nodes : List Node) (xs ys : List Gate) (n : ℕ) → length xs ≡ n → IsWidth (length xs) → MakesBits nodes (op_made op nodes xs ys) (length xs) (2 ^ 15) (λ v. (op_value op (value_of v xs) (value_of v ys)).value) →
    ((v : List Bool) → (op_value op (value_of v xs) (value_of v ys)).width ≡ length xs) → OpMakes op nodes xs ys n
wide_op op nodes xs ys n e is m w = record {
  makes = subst (λ k. MakesBits nodes (op_made op nodes xs ys) k (2 ^ 15) (λ v. (op_value op (value_of v xs) (value_of v ys)).value)) e m;
  width = λ v. w v ∙ e;
  is_width = subst IsWidth e is;
}

-- a comparison, which has one bit
bit_op : (op : Op) (nodes : List Node) (xs ys : List Gate) (n : ℕ) → 1 ≡ n → MakesBits nodes (op_made op nodes xs ys) 1 (2 ^ 15) (λ v. (op_value op (value_of v xs) (value_of v ys)).value) →
    ((v : List Bool) → (op_value op (value_of v xs) (value_of v ys)).width ≡ 1) → OpMakes op nodes xs ys n
bit_op op nodes xs ys n e m w = record {
  makes = subst (λ k. MakesBits nodes (op_made op nodes xs ys) k (2 ^ 15) (λ v. (op_value op (value_of v xs) (value_of v ys)).value)) e m;
  width = λ v. w v ∙ e;
  is_width = subst IsWidth e one_is_width;
}

pub op_makes : (op : Op) (nodes : List Node) (xs ys : List Gate) (j k n : ℕ) → IsCircuit nodes → AreBits (length nodes) j xs → AreBits (length nodes) k ys → op_width op j k ≡ Some n → OpMakes op nodes xs ys n
op_makes Add nodes xs ys j k n h hx hy e =
    let s = same_widths (length nodes) j k n xs ys hx hy e in
    wide_op Add nodes xs ys n s.1 (own_width _ j xs hx) (add_worth nodes _ xs ys h hx.there hy.there s.0 (own_width _ j xs hx) (own_width _ k ys hy) refl) (λ v. refl)
op_makes Sub nodes xs ys j k n h hx hy e =
    let s = same_widths (length nodes) j k n xs ys hx hy e in
    wide_op Sub nodes xs ys n s.1 (own_width _ j xs hx) (sub_worth nodes _ xs ys h hx.there hy.there s.0 (own_width _ j xs hx) (own_width _ k ys hy) refl) (λ v. refl)
op_makes Mul nodes xs ys j k n h hx hy e =
    let s = same_widths (length nodes) j k n xs ys hx hy e in
    wide_op Mul nodes xs ys n s.1 (own_width _ j xs hx) (mul_worth nodes _ xs ys h hx.there hy.there s.0 (own_width _ j xs hx) (own_width _ k ys hy) refl) (λ v. refl)
op_makes And nodes xs ys j k n h hx hy e =
    let s = same_widths (length nodes) j k n xs ys hx hy e in
    wide_op And nodes xs ys n s.1 (own_width _ j xs hx) (and_worth nodes _ xs ys h hx.there hy.there s.0 (own_width _ j xs hx) (own_width _ k ys hy) refl) (λ v. refl)
op_makes Or nodes xs ys j k n h hx hy e =
    let s = same_widths (length nodes) j k n xs ys hx hy e in
    wide_op Or nodes xs ys n s.1 (own_width _ j xs hx) (or_worth nodes _ xs ys h hx.there hy.there s.0 (own_width _ j xs hx) (own_width _ k ys hy) refl) (λ v. refl)
op_makes Xor nodes xs ys j k n h hx hy e =
    let s = same_widths (length nodes) j k n xs ys hx hy e in
    wide_op Xor nodes xs ys n s.1 (own_width _ j xs hx) (xor_worth nodes _ xs ys h hx.there hy.there s.0 (own_width _ j xs hx) (own_width _ k ys hy) refl) (λ v. refl)
op_makes Eq nodes xs ys j k n h hx hy e =
    let t = where_holds_some (j == k) 1 n e in
    bit_op Eq nodes xs ys n t.1 (eq_worth nodes _ xs ys h hx.there hy.there (hx.wide ∙ eqb-true j k t.0 ∙ sym hy.wide) (own_width _ j xs hx) (own_width _ k ys hy) refl) (λ v. refl)
op_makes Lt nodes xs ys j k n h hx hy e =
    let t = where_holds_some (j == k) 1 n e in
    bit_op Lt nodes xs ys n t.1 (lt_worth nodes _ xs ys h hx.there hy.there (hx.wide ∙ eqb-true j k t.0 ∙ sym hy.wide) (own_width _ j xs hx) (own_width _ k ys hy) refl) (λ v. refl)
op_makes Shl nodes xs ys j k n h hx hy e =
    wide_op Shl nodes xs ys n (hx.wide ∙ cc e) (own_width _ j xs hx) (shl_worth nodes _ xs ys h hx.there hy.there (own_width _ j xs hx) (own_width _ k ys hy) refl) (λ v. refl)
op_makes Shr nodes xs ys j k n h hx hy e =
    wide_op Shr nodes xs ys n (hx.wide ∙ cc e) (own_width _ j xs hx) (shr_worth nodes _ xs ys h hx.there hy.there (own_width _ j xs hx) (own_width _ k ys hy) refl) (λ v. refl)
