-- What follows where one part comes after another, over plain values.
use Rattle.std.proofs.Common.{◌≡◌, Bool, true, false, ◌||◌, Option, None, Some, refl, sym, ap, ◌∙◌, subst}
use Rattle.pg_lang_meaning.specs.Values.{Bits, with_value}
use Rattle.pg_symex.specs.Follows.{Follows}

or-false : (b : Bool) → (b || false) ≡ b
or-false true = refl
or-false false = refl

-- a place that is not reached stays so, and tells nothing more
pub nothing-follows : (mem_trap then_live then_trap : Bool) (x : Bits) (o : Option Bits) → Follows false mem_trap then_live then_trap x o → (then_live ≡ false) × (then_trap ≡ mem_trap)
nothing-follows mem_trap then_live then_trap x None h = (h.0, h.1 ∙ or-false mem_trap)
nothing-follows mem_trap then_live then_trap x (Some y) h = (h.0, h.1)

pub unreached : (live mem_trap then_live then_trap : Bool) (x : Bits) (o : Option Bits) → live ≡ false → Follows live mem_trap then_live then_trap x o → (then_live ≡ false) × (then_trap ≡ mem_trap)
unreached true mem_trap then_live then_trap x o e h = absurd (cc e)
unreached false mem_trap then_live then_trap x o e h = nothing-follows mem_trap then_live then_trap x o h

-- after a part that memory trapped nothing follows, whatever is made then
after-none : (live mem_trap l1 t1 l2 t2 : Bool) (x y : Bits) (o : Option Bits) → Follows live mem_trap l1 t1 x None → Follows l1 t1 l2 t2 y o → (l2 ≡ false) × (t2 ≡ (mem_trap || live))
after-none live mem_trap l1 t1 l2 t2 x y o h k = let u = unreached l1 t1 l2 t2 y o h.0 k in (u.0, u.1 ∙ h.1)

after-some : (live mem_trap l1 t1 l2 t2 : Bool) (x y z : Bits) (o : Option Bits) → Follows live mem_trap l1 t1 x (Some z) → Follows l1 t1 l2 t2 y o → Follows live mem_trap l2 t2 y o
after-some live mem_trap l1 t1 l2 t2 x y z None h k = (k.0, k.1 ∙ cc (h.0, h.1))
after-some live mem_trap l1 t1 l2 t2 x y z (Some u) h k = (k.0 ∙ h.0, k.1 ∙ h.1, k.2)

-- one part
pub one-follows : (live mem_trap l1 t1 : Bool) (x z : Bits) (o : Option Bits) (go : Bits → Bits) → Follows live mem_trap l1 t1 x o → go x ≡ z →
    Follows live mem_trap l1 t1 z (with_value o (λ y. Some (go y)))
one-follows live mem_trap l1 t1 x z None go h e = h
one-follows live mem_trap l1 t1 x z (Some y) go h e = (h.0, h.1, sym e ∙ ap go h.2)

-- one part, and something that may memory trap after it
pub then-follows : (live mem_trap l1 t1 l2 t2 : Bool) (x y : Bits) (o : Option Bits) (go : Bits → Option Bits) → Follows live mem_trap l1 t1 x o → Follows l1 t1 l2 t2 y (go x) →
    Follows live mem_trap l2 t2 y (with_value o go)
then-follows live mem_trap l1 t1 l2 t2 x y None go h k = after-none live mem_trap l1 t1 l2 t2 x y (go x) h k
then-follows live mem_trap l1 t1 l2 t2 x y (Some z) go h k =
    after-some live mem_trap l1 t1 l2 t2 x y z (go z) h (let P : Bits → Type 0 = λ u. Follows l1 t1 l2 t2 y (go u) in subst P h.2 k)

-- two parts
pub two-follow : (live mem_trap l1 t1 l2 t2 : Bool) (x y z : Bits) (o p : Option Bits) (go : Bits → Bits → Bits) → Follows live mem_trap l1 t1 x o → Follows l1 t1 l2 t2 y p → go x y ≡ z →
    Follows live mem_trap l2 t2 z (with_value o (λ u. with_value p (λ v. Some (go u v))))
two-follow live mem_trap l1 t1 l2 t2 x y z o p go h k e =
    then-follows live mem_trap l1 t1 l2 t2 x z o (λ u. with_value p (λ v. Some (go u v))) h (one-follows l1 t1 l2 t2 y z p (go x) k e)

-- three parts
pub three-follow : (live mem_trap l1 t1 l2 t2 l3 t3 : Bool) (c x y z : Bits) (o p q : Option Bits) (go : Bits → Bits → Bits → Bits) →
    Follows live mem_trap l1 t1 c o → Follows l1 t1 l2 t2 x p → Follows l2 t2 l3 t3 y q → go c x y ≡ z →
    Follows live mem_trap l3 t3 z (with_value o (λ t. with_value p (λ u. with_value q (λ v. Some (go t u v)))))
three-follow live mem_trap l1 t1 l2 t2 l3 t3 c x y z o p q go h k m e =
    then-follows live mem_trap l1 t1 l3 t3 c z o (λ t. with_value p (λ u. with_value q (λ v. Some (go t u v)))) h
    (two-follow l1 t1 l2 t2 l3 t3 x y z p q (go c) k m e)
