-- That runs end as a kind asks, as a test and of the courses of the body.
use Rattle.std.proofs.Common.{◌≡◌, ℕ, ◌^◌, ◌<◌, ◌≤◌, Bool, true, false, List, sym, ap, ◌∙◌, subst}
use Rattle.pg_circuit.specs.declared.node.Gate.{Gate}
use Rattle.pg_circuit.specs.Values.{gate_value}
use Rattle.pg_word.specs.Psw.{mode_of}
use Rattle.pg_vec.specs.Number.{number}
use Rattle.pg_lang_meaning.specs.Bodies.{Course, Going, After}
use Rattle.pg_type.specs.declared.kind.Kind.{Kind}
use Rattle.pg_type.specs.declared.kind.Kind.TheVariants.{Privileged, Control, ModeDep, Location, Bound, UControl, ULocation, UBound}
use Rattle.pg_type.specs.Kinds.{ChangesControl}
use Rattle.pg_type.specs.Pair.{Pair, Ends}
use Rattle.pg_ask.specs.declared.unknowns.Unknowns.{Unknowns}
use Rattle.pg_ask.specs.declared.ends.End.{End}
use Rattle.pg_ask.proofs.EndsLaws.{stays_of, seen_apart_of, ends_of, ends_at}
use Rattle.pg_ask.proofs.BothLaws.{EndTells}
use Rattle.pg_ask.proofs.CourseLaws.{mem_of, trap_of, told, broken-told, told-broken, control-told, told-control, changes-told, told-changes, SeenApart, compared_for, apart-told, told-apart, mode-told, told-mode, either-told, told-either}

-- two runs, and the pair of which they are
pub record RunsOf (values : List Bool) (a v : ℕ) (u : Unknowns) (usable : List Gate) (e f : End) (x : Pair) (c d : Course After) : Type 0 where
  pub first : EndTells values a v u.compared e c
  pub second : EndTells values a v u.compared f d
  pub usable_is : number values usable ≡ v
  pub end_mode : number values e.mode < 2
  pub first_mode : number values u.first_mode < 2
  pub mode : x.first.mode ≡ mode_of (number values u.first_mode)
  pub l : x.first.l ≡ number values u.first_l
  pub b : x.first.b ≡ number values u.first_b

test-is : (kind : Kind) (values : List Bool) (a v : ℕ) (u : Unknowns) (usable : List Gate) (e f : End) (x : Pair) (c d : Course After) → RunsOf values a v u usable e f x c d →
    ends_at kind u usable e f values ≡ ends_of kind (mem_of c) (trap_of c) (mem_of d) (trap_of d) (stays_of u e values) (seen_apart_of u usable e f values)
test-is kind values a v u usable e f x c d r =
    let s = stays_of u e values in
    let t = seen_apart_of u usable e f values in
    let h = told values a v u.compared e c r.first in
    let k = told values a v u.compared f d r.second in
    ap (λ z. ends_of kind z (gate_value values e.trap) (gate_value values f.mem_trap) (gate_value values f.trap) s t) h.0
    ∙ ap (λ z. ends_of kind (mem_of c) z (gate_value values f.mem_trap) (gate_value values f.trap) s t) h.1
    ∙ ap (λ z. ends_of kind (mem_of c) (trap_of c) z (gate_value values f.trap) s t) k.0
    ∙ ap (λ z. ends_of kind (mem_of c) (trap_of c) (mem_of d) z s t) k.1

pub ends-told : (kind : Kind) (values : List Bool) (a v : ℕ) (u : Unknowns) (usable : List Gate) (e f : End) (x : Pair) (c d : Course After) → RunsOf values a v u usable e f x c d → ends_at kind u usable e f values ≡ true → Ends kind x c d
ends-told kind values a v u usable e f x c d r h = by kind (sym (test-is kind values a v u usable e f x c d r) ∙ h)
  where
    changes : (y : After) → c ≡ Going y → stays_of u e values ≡ false → ChangesControl x.first (Going y)
    changes y k t = changes-told values u e x.first y r.end_mode r.first_mode ((subst (λ z. EndTells values a v u.compared e z) k r.first).psw) r.mode r.l r.b t

    apart : (y z : After) → c ≡ Going y → d ≡ Going z → seen_apart_of u usable e f values ≡ true → SeenApart y z
    apart y z k l t = apart-told values a v u usable e f y z (subst (λ w. EndTells values a v u.compared e w) k r.first) (subst (λ w. EndTells values a v u.compared f w) l r.second) r.usable_is t

    by : (kind : Kind) → ends_of kind (mem_of c) (trap_of c) (mem_of d) (trap_of d) (stays_of u e values) (seen_apart_of u usable e f values) ≡ true → Ends kind x c d
    by Privileged t = broken-told c d t
    by Control t = control-told x.first c (stays_of u e values) t changes
    by ModeDep t = mode-told c d (seen_apart_of u usable e f values) t apart
    by Location t = either-told c d (seen_apart_of u usable e f values) t apart
    by Bound t = either-told c d (seen_apart_of u usable e f values) t apart
    by UControl t = control-told x.first c (stays_of u e values) t changes
    by ULocation t = either-told c d (seen_apart_of u usable e f values) t apart
    by UBound t = either-told c d (seen_apart_of u usable e f values) t apart

pub told-ends : (kind : Kind) (values : List Bool) (a v : ℕ) (u : Unknowns) (usable : List Gate) (e f : End) (x : Pair) (c d : Course After) → RunsOf values a v u usable e f x c d → v ≤ 2 ^ a → number values u.compared ≡ compared_for v c d → Ends kind x c d →
    ends_at kind u usable e f values ≡ true
told-ends kind values a v u usable e f x c d r room at h = test-is kind values a v u usable e f x c d r ∙ by kind h
  where
    changes : (y : After) → c ≡ Going y → ChangesControl x.first (Going y) → stays_of u e values ≡ false
    changes y k t = told-changes values u e x.first y ((subst (λ z. EndTells values a v u.compared e z) k r.first).psw) r.mode r.l r.b t

    apart : (y z : After) → c ≡ Going y → d ≡ Going z → SeenApart y z → seen_apart_of u usable e f values ≡ true
    apart y z k l t =
        told-apart values a v u usable e f y z (subst (λ w. EndTells values a v u.compared e w) k r.first) (subst (λ w. EndTells values a v u.compared f w) l r.second) r.usable_is room
        (at ∙ ap (λ w. compared_for v w d) k ∙ ap (λ w. compared_for v (Going y) w) l) t

    by : (kind : Kind) → Ends kind x c d → ends_of kind (mem_of c) (trap_of c) (mem_of d) (trap_of d) (stays_of u e values) (seen_apart_of u usable e f values) ≡ true
    by Privileged t = told-broken c d t
    by Control t = told-control x.first c (stays_of u e values) t changes
    by ModeDep t = told-mode c d (seen_apart_of u usable e f values) t apart
    by Location t = told-either c d (seen_apart_of u usable e f values) t apart
    by Bound t = told-either c d (seen_apart_of u usable e f values) t apart
    by UControl t = told-control x.first c (stays_of u e values) t changes
    by ULocation t = told-either c d (seen_apart_of u usable e f values) t apart
    by UBound t = told-either c d (seen_apart_of u usable e f values) t apart
