-- The tests of how runs end, and how the courses of the body end.
use Rattle.std.proofs.Common.{◌≡◌, ℕ, zero, suc, ◌^◌, ◌<◌, ◌≤◌, nat_lt, nat_eq, Bool, true, false, not, ◌&&◌, ◌||◌, inl, inr, List, [], ◌∷◌, length, get_or, refl, sym, ap, ◌∙◌, subst, arith}
use Rattle.std.specs.Prelude.{◌≢◌, ◌⊎◌, if◌then◌else◌}
use Rattle.std.proofs.lemmas.Bool.{false≢true, eqb-true, eqb-false, ltb-true, lt-ltb}
use Rattle.std.proofs.lemmas.List.{length-take, get_or-take}
use Rattle.pg_circuit.specs.declared.node.Gate.{Gate}
use Rattle.pg_circuit.specs.Values.{differ, gate_value}
use Rattle.pg_word.specs.declared.psw.Psw.{Psw}
use Rattle.pg_word.specs.Psw.{mode_of}
use Rattle.pg_vec.specs.Number.{number}
use Rattle.pg_lang_meaning.specs.Bodies.{Course, MemTrapped, Trapped, Going, After}
use Rattle.pg_type.specs.Kinds.{SeenDone, observed, IsDone, IsTrap, IsNoMemTrap, ChangesControl}
use Rattle.pg_ask.specs.declared.unknowns.Unknowns.{Unknowns}
use Rattle.pg_ask.specs.declared.ends.End.{End}
use Rattle.pg_ask.proofs.EndsLaws.{done_of, stays_of, seen_apart_of}
use Rattle.pg_ask.proofs.BothLaws.{end_psw, Leaves, EndTells}

-- ---- which trap ended a course

abbrev pub mem_of : Course After → Bool
mem_of MemTrapped = true
mem_of Trapped = false
mem_of (Going x) = false

abbrev pub trap_of : Course After → Bool
trap_of MemTrapped = false
trap_of Trapped = true
trap_of (Going x) = false

pub told : (values : List Bool) (a v : ℕ) (compared : List Gate) (e : End) (c : Course After) → EndTells values a v compared e c → (gate_value values e.mem_trap ≡ mem_of c) × (gate_value values e.trap ≡ trap_of c)
told values a v compared e MemTrapped h = h
told values a v compared e Trapped h = h
told values a v compared e (Going x) h = (h.mem_trap, h.trap)

abbrev pub is_done : Course After → Bool
is_done c = done_of (mem_of c) (trap_of c)

-- ---- not privileged

pub broken-told : (c d : Course After) → is_done d || (trap_of c && not (mem_of d)) ≡ true → IsDone d ⊎ (IsNoMemTrap d × IsTrap c)
broken-told c (Going y) h = inl tt
broken-told Trapped Trapped h = inr (tt, tt)
broken-told MemTrapped Trapped h = absurd (false≢true h)
broken-told (Going x) Trapped h = absurd (false≢true h)
broken-told MemTrapped MemTrapped h = absurd (false≢true h)
broken-told Trapped MemTrapped h = absurd (false≢true h)
broken-told (Going x) MemTrapped h = absurd (false≢true h)

pub told-broken : (c d : Course After) → IsDone d ⊎ (IsNoMemTrap d × IsTrap c) → is_done d || (trap_of c && not (mem_of d)) ≡ true
told-broken c (Going y) h = refl
told-broken Trapped Trapped h = refl
told-broken MemTrapped Trapped (inl h) = absurd h
told-broken MemTrapped Trapped (inr h) = absurd h.1
told-broken (Going x) Trapped (inl h) = absurd h
told-broken (Going x) Trapped (inr h) = absurd h.1
told-broken c MemTrapped (inl h) = absurd h
told-broken c MemTrapped (inr h) = absurd h.0

-- ---- control

pub control-told : (old : Psw) (c : Course After) (stays : Bool) → is_done c && not stays ≡ true → ((x : After) → c ≡ Going x → stays ≡ false → ChangesControl old (Going x)) → ChangesControl old c
control-told old MemTrapped stays h f = absurd (false≢true h)
control-told old Trapped stays h f = absurd (false≢true h)
control-told old (Going x) true h f = absurd (false≢true h)
control-told old (Going x) false h f = f x refl refl

pub told-control : (old : Psw) (c : Course After) (stays : Bool) → ChangesControl old c → ((x : After) → c ≡ Going x → ChangesControl old (Going x) → stays ≡ false) → is_done c && not stays ≡ true
told-control old MemTrapped stays h f = absurd h
told-control old Trapped stays h f = absurd h
told-control old (Going x) stays h f = ap not (f x refl h)

mode-same : (m n : ℕ) → m < 2 → n < 2 → mode_of m ≡ mode_of n → m ≡ n
mode-same zero zero l k e = refl
mode-same zero (suc n) l k e = absurd (cc e)
mode-same (suc m) zero l k e = absurd (cc e)
mode-same (suc m) (suc n) l k e = omega arith

pub apart-test : (m n : ℕ) → m ≢ n → nat_eq m n ≡ false
apart-test m n h = by (nat_eq m n) refl
  where
    by : (b : Bool) → nat_eq m n ≡ b → b ≡ false
    by true e = absurd (h (eqb-true m n e))
    by false e = refl

one-false : (a b c : Bool) → (a && b) && c ≡ false → (a ≡ false) ⊎ (b ≡ false) ⊎ (c ≡ false)
one-false false b c h = inl refl
one-false true false c h = inr (inl refl)
one-false true true c h = inr (inr h)

false-one : (a b c : Bool) → (a ≡ false) ⊎ (b ≡ false) ⊎ (c ≡ false) → (a && b) && c ≡ false
false-one false b c h = refl
false-one true false c h = refl
false-one true true false h = refl
false-one true true true (inl h) = h
false-one true true true (inr (inl h)) = h
false-one true true true (inr (inr h)) = h

-- the tests on numbers are those on registers
pub changes-told : (values : List Bool) (u : Unknowns) (e : End) (old : Psw) (x : After) → number values e.mode < 2 → number values u.first_mode < 2 → x.psw ≡ end_psw values e →
    old.mode ≡ mode_of (number values u.first_mode) → old.l ≡ number values u.first_l → old.b ≡ number values u.first_b → stays_of u e values ≡ false → ChangesControl old (Going x)
changes-told values u e old x lm ln psw om ol ob h =
    let m = number values e.mode in
    let n = number values u.first_mode in
    let by : (nat_eq m n ≡ false) ⊎ (nat_eq (number values e.l) (number values u.first_l) ≡ false) ⊎ (nat_eq (number values e.b) (number values u.first_b) ≡ false) → ChangesControl old (Going x) =
    λ s. elim s [
      | inl t ↦ inl (λ z. eqb-false m n t (mode-same m n lm ln (sym (ap (λ (p : Psw). p.mode) psw) ∙ z ∙ om)))
      | inr r ↦ elim r [
        | inl t ↦ inr (inl (λ z. eqb-false (number values e.l) (number values u.first_l) t (sym (ap (λ (p : Psw). p.l) psw) ∙ z ∙ ol)))
        | inr t ↦ inr (inr (λ z. eqb-false (number values e.b) (number values u.first_b) t (sym (ap (λ (p : Psw). p.b) psw) ∙ z ∙ ob)))
      ]
    ] in
    by (one-false (nat_eq m n) (nat_eq (number values e.l) (number values u.first_l)) (nat_eq (number values e.b) (number values u.first_b)) h)

pub told-changes : (values : List Bool) (u : Unknowns) (e : End) (old : Psw) (x : After) → x.psw ≡ end_psw values e →
    old.mode ≡ mode_of (number values u.first_mode) → old.l ≡ number values u.first_l → old.b ≡ number values u.first_b → ChangesControl old (Going x) → stays_of u e values ≡ false
told-changes values u e old x psw om ol ob h =
    let m = number values e.mode in
    let n = number values u.first_mode in
    let a = nat_eq m n in
    let b = nat_eq (number values e.l) (number values u.first_l) in
    let c = nat_eq (number values e.b) (number values u.first_b) in
    let by : (x.psw.mode ≢ old.mode) ⊎ (x.psw.l ≢ old.l) ⊎ (x.psw.b ≢ old.b) → (a ≡ false) ⊎ (b ≡ false) ⊎ (c ≡ false) =
    λ s. elim s [
      | inl t ↦ inl (apart-test m n (λ z. t (ap (λ (p : Psw). p.mode) psw ∙ ap mode_of z ∙ sym om)))
      | inr r ↦ elim r [
        | inl t ↦ inr (inl (apart-test _ _ (λ z. t (ap (λ (p : Psw). p.l) psw ∙ z ∙ sym ol))))
        | inr t ↦ inr (inr (apart-test _ _ (λ z. t (ap (λ (p : Psw). p.b) psw ∙ z ∙ sym ob))))
      ]
    ] in
    false-one a b c (by h)

-- ---- what is seen

-- two done courses are seen apart
abbrev pub SeenApart : (x y : After) → Type 0
SeenApart x y = SeenDone x.window x.psw.p ≢ SeenDone y.window y.psw.p

pub apart-told : (values : List Bool) (a v : ℕ) (u : Unknowns) (usable : List Gate) (e f : End) (x y : After) → Leaves values a v u.compared e x → Leaves values a v u.compared f y → number values usable ≡ v → seen_apart_of u usable e f values ≡ true → SeenApart x y
apart-told values a v u usable e f x y h k uv t z =
    let c = number values u.compared in
    let same_p : x.psw.p ≡ y.psw.p = cc z in
    let same_window : x.window ≡ y.window = cc z in
    let p_is : number values e.p ≡ number values f.p = sym (ap (λ (q : Psw). q.p) h.psw) ∙ same_p ∙ ap (λ (q : Psw). q.p) k.psw in
    let words : c < v → number values e.word ≡ number values f.word = λ l.
    h.word ∙ sym (get_or-take v h.storage c 0 l) ∙ ap (λ (cs : List ℕ). get_or cs c 0) (sym h.window ∙ same_window ∙ k.window) ∙ get_or-take v k.storage c 0 l ∙ sym k.word in
    by (nat_eq (number values e.p) (number values f.p)) (nat_lt c (number values usable)) (nat_eq (number values e.word) (number values f.word)) refl refl refl p_is (λ l. words (subst (λ n. c < n) uv l)) t
  where
    by : (b1 b2 b3 : Bool) → nat_eq (number values e.p) (number values f.p) ≡ b1 → nat_lt (number values u.compared) (number values usable) ≡ b2 → nat_eq (number values e.word) (number values f.word) ≡ b3 →
        number values e.p ≡ number values f.p → (number values u.compared < number values usable → number values e.word ≡ number values f.word) → not b1 || (b2 && not b3) ≡ true → ⊥
    by false b2 b3 e1 e2 e3 p w h = eqb-false _ _ e1 p
    by true false b3 e1 e2 e3 p w h = false≢true h
    by true true true e1 e2 e3 p w h = false≢true h
    by true true false e1 e2 e3 p w h = eqb-false _ _ e3 (w (ltb-true _ _ e2))

-- ---- where two windows differ first

unfoldable pub first_apart : List ℕ → List ℕ → ℕ
first_apart [] ys = 0
first_apart (x ∷ xs) [] = 0
first_apart (x ∷ xs) (y ∷ ys) = (if nat_eq x y then suc (first_apart xs ys) else 0)

pub record ApartAt (xs ys : List ℕ) (k : ℕ) : Type 0 where
  pub in_range : k < length xs
  pub differ : get_or xs k 0 ≢ get_or ys k 0

pub apart-at : (xs ys : List ℕ) → length xs ≡ length ys → xs ≢ ys → ApartAt xs ys (first_apart xs ys)
unfolding first_apart
apart-at [] [] e h = absurd (h refl)
apart-at [] (y ∷ ys) e h = absurd (omega arith)
apart-at (x ∷ xs) [] e h = absurd (omega arith)
apart-at (x ∷ xs) (y ∷ ys) e h = by (nat_eq x y) refl (λ k. apart-at xs ys (omega arith) k)
  where
    by : (b : Bool) → nat_eq x y ≡ b → (xs ≢ ys → ApartAt xs ys (first_apart xs ys)) → ApartAt (x ∷ xs) (y ∷ ys) (if b then suc (first_apart xs ys) else 0)
    by true t later =
        let same = eqb-true x y t in
        let rest = later (λ z. h (λ i. same i ∷ z i)) in
        record { in_range = let l = rest.in_range in omega arith; differ = rest.differ }
    by false t later = record { in_range = omega arith; differ = eqb-false x y t }

-- the address that shows where two courses leave other windows, where there is one below v
abbrev pub compared_for : (v : ℕ) → Course After → Course After → ℕ
compared_for v MemTrapped d = 0
compared_for v Trapped d = 0
compared_for v (Going x) MemTrapped = 0
compared_for v (Going x) Trapped = 0
compared_for v (Going x) (Going y) = (if nat_lt (first_apart x.window y.window) v then first_apart x.window y.window else 0)

pub compared-below : (v n : ℕ) (c d : Course After) → v ≤ n → 0 < n → compared_for v c d < n
compared-below v n MemTrapped d l z = z
compared-below v n Trapped d l z = z
compared-below v n (Going x) MemTrapped l z = z
compared-below v n (Going x) Trapped l z = z
compared-below v n (Going x) (Going y) l z = by (nat_lt (first_apart x.window y.window) v) refl
  where
    by : (b : Bool) → nat_lt (first_apart x.window y.window) v ≡ b → (if b then first_apart x.window y.window else 0) < n
    by true t = let k = ltb-true _ _ t in omega arith
    by false t = z

pub told-apart : (values : List Bool) (a v : ℕ) (u : Unknowns) (usable : List Gate) (e f : End) (x y : After) → Leaves values a v u.compared e x → Leaves values a v u.compared f y → number values usable ≡ v → v ≤ 2 ^ a →
    number values u.compared ≡ compared_for v (Going x) (Going y) → SeenApart x y → seen_apart_of u usable e f values ≡ true
told-apart values a v u usable e f x y h k uv room at z = by (nat_eq (number values e.p) (number values f.p)) refl
  where
    long : (w : After) (g : End) → Leaves values a v u.compared g w → length w.window ≡ v
    long w g l = ap length l.window ∙ (let s = l.size in omega (arith, length-take v l.storage, s))

    words : number values e.p ≡ number values f.p → nat_lt (number values u.compared) (number values usable) && not (nat_eq (number values e.word) (number values f.word)) ≡ true
    words same =
        let p_is : x.psw.p ≡ y.psw.p = ap (λ (q : Psw). q.p) h.psw ∙ same ∙ sym (ap (λ (q : Psw). q.p) k.psw) in
        let windows : x.window ≢ y.window = λ w. z (λ i. SeenDone (w i) (p_is i)) in
        let lx = long x e h in
        let ly = long y f k in
        let first = apart-at x.window y.window (lx ∙ sym ly) windows in
        let m = first_apart x.window y.window in
        let inside : m < v = let l = first.in_range in omega arith in
        let c = number values u.compared in
        let c_is : c ≡ m = at ∙ ap (λ b. (if b then m else 0)) (lt-ltb m v inside) in
        let c_inside : c < v = omega arith in
        let first_word : number values e.word ≡ get_or x.window m 0 = h.word ∙ sym (get_or-take v h.storage c 0 c_inside) ∙ ap (λ (cs : List ℕ). get_or cs c 0) (sym h.window) ∙ ap (λ n. get_or x.window n 0) c_is in
        let second_word : number values f.word ≡ get_or y.window m 0 = k.word ∙ sym (get_or-take v k.storage c 0 c_inside) ∙ ap (λ (cs : List ℕ). get_or cs c 0) (sym k.window) ∙ ap (λ n. get_or y.window n 0) c_is in
        let below : nat_lt c (number values usable) ≡ true = lt-ltb c (number values usable) (omega arith) in
        let other : nat_eq (number values e.word) (number values f.word) ≡ false = apart-test _ _ (λ w. first.differ (sym first_word ∙ w ∙ second_word)) in
        ap (λ b. b && not (nat_eq (number values e.word) (number values f.word))) below ∙ ap not other

    by : (b : Bool) → nat_eq (number values e.p) (number values f.p) ≡ b → not b || (nat_lt (number values u.compared) (number values usable) && not (nat_eq (number values e.word) (number values f.word))) ≡ true
    by false t = refl
    by true t = words (eqb-true _ _ t)

-- ---- seen apart, of any courses

pub mode-told : (c d : Course After) (apart : Bool) → is_done d && (not (is_done c) || apart) ≡ true → ((x y : After) → c ≡ Going x → d ≡ Going y → apart ≡ true → SeenApart x y) → IsDone d × (observed c ≢ observed d)
mode-told c MemTrapped apart h f = absurd (false≢true h)
mode-told c Trapped apart h f = absurd (false≢true h)
mode-told MemTrapped (Going y) apart h f = (tt, λ z. absurd (cc z))
mode-told Trapped (Going y) apart h f = (tt, λ z. absurd (cc z))
mode-told (Going x) (Going y) apart h f = (tt, f x y refl refl h)

pub told-mode : (c d : Course After) (apart : Bool) → IsDone d × (observed c ≢ observed d) → ((x y : After) → c ≡ Going x → d ≡ Going y → SeenApart x y → apart ≡ true) → is_done d && (not (is_done c) || apart) ≡ true
told-mode c MemTrapped apart h f = absurd h.0
told-mode c Trapped apart h f = absurd h.0
told-mode MemTrapped (Going y) apart h f = refl
told-mode Trapped (Going y) apart h f = refl
told-mode (Going x) (Going y) apart h f = f x y refl refl h.1

pub either-told : (c d : Course After) (apart : Bool) → differ (is_done c) (is_done d) || ((is_done c && is_done d) && apart) ≡ true → ((x y : After) → c ≡ Going x → d ≡ Going y → apart ≡ true → SeenApart x y) → (IsDone c ⊎ IsDone d) × (observed c ≢ observed d)
either-told MemTrapped MemTrapped apart h f = absurd (false≢true h)
either-told MemTrapped Trapped apart h f = absurd (false≢true h)
either-told Trapped MemTrapped apart h f = absurd (false≢true h)
either-told Trapped Trapped apart h f = absurd (false≢true h)
either-told MemTrapped (Going y) apart h f = (inr tt, λ z. absurd (cc z))
either-told Trapped (Going y) apart h f = (inr tt, λ z. absurd (cc z))
either-told (Going x) MemTrapped apart h f = (inl tt, λ z. absurd (cc z))
either-told (Going x) Trapped apart h f = (inl tt, λ z. absurd (cc z))
either-told (Going x) (Going y) apart h f = (inl tt, f x y refl refl h)

pub told-either : (c d : Course After) (apart : Bool) → (IsDone c ⊎ IsDone d) × (observed c ≢ observed d) → ((x y : After) → c ≡ Going x → d ≡ Going y → SeenApart x y → apart ≡ true) → differ (is_done c) (is_done d) || ((is_done c && is_done d) && apart) ≡ true
told-either MemTrapped MemTrapped apart h f = absurd (h.1 refl)
told-either MemTrapped Trapped apart h f = elim h.0 [ inl k ↦ absurd k | inr k ↦ absurd k ]
told-either Trapped MemTrapped apart h f = elim h.0 [ inl k ↦ absurd k | inr k ↦ absurd k ]
told-either Trapped Trapped apart h f = absurd (h.1 refl)
told-either MemTrapped (Going y) apart h f = refl
told-either Trapped (Going y) apart h f = refl
told-either (Going x) MemTrapped apart h f = refl
told-either (Going x) Trapped apart h f = refl
told-either (Going x) (Going y) apart h f = f x y refl refl h.1
