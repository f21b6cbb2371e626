-- A well-typed statement leaves a body in range, or traps.
use Rattle.std.proofs.Common.{◌≡◌, ℕ, ◌+◌, ◌^◌, ◌<◌, Bool, true, false, ◌==◌, nat_lt, if◌then◌else◌, List, [], ◌∷◌, map, length, slice_set, Option, None, Some, Ok, Err, refl, sym, ◌∙◌, ap, subst}
use Rattle.std.specs.Option.{option_map}
use Rattle.std.proofs.lemmas.Bool.{eqb-true}
use Rattle.std.proofs.lemmas.List.Elements.{All-set}
use Rattle.std.proofs.Math.ListN.{length-set}
use Rattle.pg_ast.specs.declared.name.Name.{Name as Names}
use Rattle.pg_ast.specs.declared.tree.Expr.{Expr}
use Rattle.pg_ast.specs.declared.tree.Stmt.{Stmt}
use Rattle.pg_ast.specs.declared.tree.Stmt.TheVariants.{Let, Store, Pc, Mode, Rel, Bound, Trap, If, rolls-Let, rolls-Store, rolls-Pc, rolls-Mode, rolls-Rel, rolls-Bound, rolls-Trap, rolls-If}
use Rattle.pg_ast.specs.declared.tree.Stmt.TheOpen as Open
use Rattle.pg_ast.specs.declared.tree.Stmt.TheFolds.{ind-Stmt, map-Stmt}
use Rattle.pg_ast.specs.declared.tree.Stmt.TheViews.{roll-Stmt}
use Rattle.pg_lang_meaning.specs.Values.{Bits, Entry, value}
use Rattle.pg_lang_meaning.specs.Bodies.{Course, MemTrapped, Trapped, Going, then_do, with_bits, Run, let_deed, store_deed, with_p, with_mode, with_l, with_b, in_order, block_deed, else_deed, deed_of}
use Rattle.pg_lang_valid.specs.declared.fault.WidthClash.TheVariants as clash
use Rattle.pg_lang_valid.specs.Widths.{Setting, Judged, width_in, LetWidths, judged_of, width_of, Fare, Breaks, Keeps, wants, binds, then_fares, fares_in_order, fares_if_any, after_block, fare_of}
use Rattle.pg_lang_valid.specs.Typed.{IsEntry, setting_at, LetsFit, RunFits}
use Rattle.pg_lang_valid.proofs.ValueSound.{OnValue, value-sound}
use Rattle.pg_lang_meaning.proofs.DeedEquations as deeds
use Rattle.pg_lang_valid.proofs.FareEquations as fares

-- what is left, unless a trap of either kind ended it
abbrev pub OnGoing : {X : Type 0} → Course X → (X → Type 0) → Type 0
OnGoing MemTrapped P = Unit {0}
OnGoing Trapped P = Unit {0}
OnGoing (Going x) P = P x

-- a body under way that keeps the length of its window
pub record RunKeeps (at : Entry) (old new : Run) (ws : LetWidths) : Type 0 where
  pub fits : RunFits at new ws
  pub same_length : length new.window ≡ length old.window

-- an expression of the width that is wanted, and nothing else changed
pub record Wanted (width : ℕ) (o : Option ℕ) (lets after : LetWidths) : Type 0 where
  pub is : o ≡ Some width
  pub same : lets ≡ after

of_judged : (width : ℕ) (j : Judged) (place : ℕ) (lets : LetWidths) (next : ℕ) (after : LetWidths) → wants width j place lets ≡ Keeps next after → Wanted width (width_in j) lets after
of_judged width (Err how) place lets next after h = absurd (cc h)
of_judged width (Ok n) place lets next after h = by_test (n == width) (eqb-true n width) h
  where
    by_test : (b : Bool) → (b ≡ true → n ≡ width) → (if b then Keeps (place + 1) lets else Breaks place (clash.Wanted width n)) ≡ Keeps next after → Wanted width (Some n) lets after
    by_test true tells e = record { is = ap (λ k. Some k) (tells refl); same = cc e }
    by_test false tells e = absurd (cc e)

pub wants_keeps : (width : ℕ) (at : Setting) (e : Expr) (place : ℕ) (lets : LetWidths) (next : ℕ) (after : LetWidths) → wants width (judged_of at e lets) place lets ≡ Keeps next after → Wanted width (width_of at e lets) lets after
unfolding width_of
wants_keeps width at e place lets next after h = of_judged width (judged_of at e lets) place lets next after h

pub then_fares_keeps : (f : Fare) (go : ℕ → LetWidths → Fare) (next : ℕ) (after : LetWidths) → then_fares f go ≡ Keeps next after →
    (n : ℕ) × (l : LetWidths) × (f ≡ Keeps n l) × (go n l ≡ Keeps next after)
then_fares_keeps (Breaks place how) go next after h = absurd (cc h)
then_fares_keeps (Keeps n l) go next after h = (n, l, refl, h)

pub after_block_keeps : (lets : LetWidths) (f : Fare) (next : ℕ) (after : LetWidths) → after_block lets f ≡ Keeps next after →
    (inner : LetWidths) × (f ≡ Keeps next inner) × (lets ≡ after)
after_block_keeps lets (Breaks place how) next after h = absurd (cc h)
after_block_keeps lets (Keeps n inner) next after h = (inner, cc h, cc h)

pub on_then : {X Y : Type 0} (c : Course X) (go : X → Course Y) (P : X → Type 0) (Q : Y → Type 0) → OnGoing c P → ((x : X) → P x → OnGoing (go x) Q) → OnGoing (then_do c go) Q
on_then MemTrapped go P Q h after = tt
on_then Trapped go P Q h after = tt
on_then (Going x) go P Q h after = after x h

on_bits : {X : Type 0} (o : Option Bits) (go : ℕ → Course X) (n : ℕ) (P : X → Type 0) → OnValue n o → ((v : ℕ) → v < 2 ^ n → OnGoing (go v) P) → OnGoing (with_bits o go) P
on_bits None go n P h after = tt
on_bits (Some x) go n P h after = after x.value h.fits

same_run : (at : Entry) (r : Run) (ws : LetWidths) → RunFits at r ws → RunKeeps at r r ws
same_run at r ws h = record { fits = h; same_length = refl }

-- at every entry and body in range, a statement that keeps to the table of widths leaves a body in range, or traps
abbrev pub IsSound : Stmt → Type 0
IsSound s = (at : Entry) (r : Run) (place : ℕ) (ws : LetWidths) (next : ℕ) (after : LetWidths) → IsEntry at → RunFits at r ws →
    fare_of (setting_at at) s place ws ≡ Keeps next after → OnGoing (deed_of s at r) (λ t. RunKeeps at r t after)

let_keeps : (at : Entry) (r : Run) (name : List ℕ) (o : Option Bits) (n : ℕ) (ws : LetWidths) → RunFits at r ws → OnValue n o →
    OnGoing (let_deed r name o) (λ t. RunKeeps at r t ((name, n) ∷ ws))
let_keeps at r name None n ws h v = tt
let_keeps at r name (Some x) n ws h v = record { fits = record { window = h.window; next = h.next; lets = (refl, v, h.lets) }; same_length = refl }

of_bound : (name : List ℕ) (j : Judged) (place : ℕ) (lets : LetWidths) (next : ℕ) (after : LetWidths) → binds name j place lets ≡ Keeps next after →
    (n : ℕ) × (width_in j ≡ Some n) × (((name, n) ∷ lets) ≡ after)
of_bound name (Err how) place lets next after h = absurd (cc h)
of_bound name (Ok n) place lets next after h = (n, refl, cc h)

pub binds_keeps : (name : List ℕ) (at : Setting) (e : Expr) (place : ℕ) (lets : LetWidths) (next : ℕ) (after : LetWidths) → binds name (judged_of at e lets) place lets ≡ Keeps next after →
    (n : ℕ) × (width_of at e lets ≡ Some n) × (((name, n) ∷ lets) ≡ after)
unfolding width_of
binds_keeps name at e place lets next after h = of_bound name (judged_of at e lets) place lets next after h

sound-let : (m : Names) (e : Expr) → IsSound (Let m e)
sound-let m e at r place ws next after is fits h =
    let b = binds_keeps m.bytes (setting_at at) e place ws next after (sym (fares.fare_of-let m e (setting_at at) place ws) ∙ h) in
    rw (deeds.deed_of-let m e at r)
    (subst (λ l. OnGoing (let_deed r m.bytes (value e at r.lets r.window)) (λ t. RunKeeps at r t l)) b.2
    (let_keeps at r m.bytes (value e at r.lets r.window) b.0 ws fits (value-sound e at r.lets ws r.window b.0 is fits.lets fits.window b.1)))

store_keeps : (at : Entry) (r : Run) (address cell : ℕ) (ws : LetWidths) → RunFits at r ws → cell < 2 ^ at.w → (b : Bool) →
    OnGoing (if b then Going (record r { window = slice_set r.window address cell }) else MemTrapped) (λ t. RunKeeps at r t ws)
store_keeps at r address cell ws fits below true = record {
  fits = record { window = All-set (λ c. c < 2 ^ at.w) r.window address cell below fits.window; next = fits.next; lets = fits.lets };
  same_length = length-set r.window address cell;
}
store_keeps at r address cell ws fits below false = tt

sound-store : (a e : Expr) → IsSound (Store a e)
sound-store a e at r place ws next after is fits h =
    let f = then_fares_keeps (wants at.a (judged_of (setting_at at) a ws) place ws) (λ n same. wants at.w (judged_of (setting_at at) e ws) place ws) next after (sym (fares.fare_of-store a e (setting_at at) place ws) ∙ h) in
    let wa = wants_keeps at.a (setting_at at) a place ws f.0 f.1 f.2 in
    let we = wants_keeps at.w (setting_at at) e place ws next after f.3 in
    rw (deeds.deed_of-store a e at r)
    (subst (λ l. OnGoing (with_bits (value a at r.lets r.window) (λ address. with_bits (value e at r.lets r.window) (λ cell. store_deed r address cell))) (λ t. RunKeeps at r t l)) we.same
    (on_bits (value a at r.lets r.window) _ at.a _ (value-sound a at r.lets ws r.window at.a is fits.lets fits.window wa.is)
    (λ address ha. on_bits (value e at r.lets r.window) _ at.w _ (value-sound e at r.lets ws r.window at.w is fits.lets fits.window we.is)
    (λ cell hc. store_keeps at r address cell ws fits hc (nat_lt address (length r.window))))))

-- an assignment of a register that is in range
assign_keeps : (at : Entry) (r : Run) (e : Expr) (width place : ℕ) (ws : LetWidths) (next : ℕ) (after : LetWidths) (go : ℕ → Run) → IsEntry at → RunFits at r ws →
    wants width (judged_of (setting_at at) e ws) place ws ≡ Keeps next after → ((v : ℕ) → v < 2 ^ width → RunKeeps at r (go v) ws) →
    OnGoing (with_bits (value e at r.lets r.window) (λ v. Going (go v))) (λ t. RunKeeps at r t after)
assign_keeps at r e width place ws next after go is fits h keeps =
    let w = wants_keeps width (setting_at at) e place ws next after h in
    subst (λ l. OnGoing (with_bits (value e at r.lets r.window) (λ v. Going (go v))) (λ t. RunKeeps at r t l)) w.same
    (on_bits (value e at r.lets r.window) _ width _ (value-sound e at r.lets ws r.window width is fits.lets fits.window w.is) keeps)

sound-pc : (e : Expr) → IsSound (Pc e)
sound-pc e at r place ws next after is fits h = rw (deeds.deed_of-pc e at r)
    (assign_keeps at r e at.a place ws next after (with_p r) is fits (sym (fares.fare_of-pc e (setting_at at) place ws) ∙ h)
    (λ v below. record { fits = record { window = fits.window; next = record { p = below; l = fits.next.l; b = fits.next.b }; lets = fits.lets }; same_length = refl }))

sound-mode : (e : Expr) → IsSound (Mode e)
sound-mode e at r place ws next after is fits h = rw (deeds.deed_of-mode e at r)
    (assign_keeps at r e 1 place ws next after (with_mode r) is fits (sym (fares.fare_of-mode e (setting_at at) place ws) ∙ h)
    (λ v below. record { fits = record { window = fits.window; next = record { p = fits.next.p; l = fits.next.l; b = fits.next.b }; lets = fits.lets }; same_length = refl }))

sound-rel : (e : Expr) → IsSound (Rel e)
sound-rel e at r place ws next after is fits h = rw (deeds.deed_of-rel e at r)
    (assign_keeps at r e at.a place ws next after (with_l r) is fits (sym (fares.fare_of-rel e (setting_at at) place ws) ∙ h)
    (λ v below. record { fits = record { window = fits.window; next = record { p = fits.next.p; l = below; b = fits.next.b }; lets = fits.lets }; same_length = refl }))

sound-bound : (e : Expr) → IsSound (Bound e)
sound-bound e at r place ws next after is fits h = rw (deeds.deed_of-bound e at r)
    (assign_keeps at r e at.a place ws next after (with_b r) is fits (sym (fares.fare_of-bound e (setting_at at) place ws) ∙ h)
    (λ v below. record { fits = record { window = fits.window; next = record { p = fits.next.p; l = fits.next.l; b = below }; lets = fits.lets }; same_length = refl }))

sound-trap : IsSound Trap
sound-trap at r place ws next after is fits h = rw (deeds.deed_of-trap at r) tt

keeps_on : (at : Entry) (a b c : Run) (ws : LetWidths) (vs : LetWidths) → RunKeeps at a b vs → RunKeeps at b c ws → RunKeeps at a c ws
keeps_on at a b c ws vs x y = record { fits = y.fits; same_length = y.same_length ∙ x.same_length }

on_more : {X : Type 0} (c : Course X) (P Q : X → Type 0) → ((x : X) → P x → Q x) → OnGoing c P → OnGoing c Q
on_more MemTrapped P Q f h = tt
on_more Trapped P Q f h = tt
on_more (Going x) P Q f h = f x h

-- statements in order, each of which is sound
pub in_order-sound : (ss : List ((s : Stmt) × IsSound s)) (at : Entry) (r : Run) (place : ℕ) (ws : LetWidths) (next : ℕ) (after : LetWidths) → IsEntry at → RunFits at r ws →
    fares_in_order (map (fare_of (setting_at at)) (map (λ p. p.0) ss)) place ws ≡ Keeps next after →
    OnGoing (in_order (map deed_of (map (λ p. p.0) ss)) at r) (λ t. RunKeeps at r t after)
unfolding fares_in_order in_order
in_order-sound [] at r place ws next after is fits h = subst (λ l. RunKeeps at r r l) (cc h) (same_run at r ws fits)
in_order-sound (s ∷ ss) at r place ws next after is fits h =
    let f = then_fares_keeps (fare_of (setting_at at) s.0 place ws) (λ n l. fares_in_order (map (fare_of (setting_at at)) (map (λ p. p.0) ss)) n l) next after h in
    on_then (deed_of s.0 at r) (λ t. in_order (map deed_of (map (λ p. p.0) ss)) at t) (λ t. RunKeeps at r t f.1) (λ t. RunKeeps at r t after)
    (s.1 at r place ws f.0 f.1 is fits f.2)
    (λ t keeps. on_more (in_order (map deed_of (map (λ p. p.0) ss)) at t) (λ u. RunKeeps at t u after) (λ u. RunKeeps at r u after)
    (λ u more. keeps_on at r t u after f.1 keeps more)
    (in_order-sound ss at t f.0 f.1 next after is keeps.fits f.3))

block-sound : (ss : List ((s : Stmt) × IsSound s)) (at : Entry) (r : Run) (place : ℕ) (ws : LetWidths) (next : ℕ) (after : LetWidths) → IsEntry at → RunFits at r ws →
    after_block ws (fares_in_order (map (fare_of (setting_at at)) (map (λ p. p.0) ss)) place ws) ≡ Keeps next after →
    OnGoing (block_deed (map deed_of (map (λ p. p.0) ss)) at r) (λ t. RunKeeps at r t after)
block-sound ss at r place ws next after is fits h =
    let b = after_block_keeps ws (fares_in_order (map (fare_of (setting_at at)) (map (λ p. p.0) ss)) place ws) next after h in
    on_then (in_order (map deed_of (map (λ p. p.0) ss)) at r) (λ s. Going (record s { lets = r.lets })) (λ t. RunKeeps at r t b.0) (λ t. RunKeeps at r t after)
    (in_order-sound ss at r place ws next b.0 is fits b.1)
    (λ t keeps. record {
      fits = record { window = keeps.fits.window; next = keeps.fits.next; lets = subst (λ l. LetsFit r.lets l) b.2 fits.lets };
      same_length = keeps.same_length;
    })

-- one arm or the other
arm : (b : Bool) (x y : Course Run) (P : Run → Type 0) → OnGoing x P → OnGoing y P → OnGoing (if b then x else y) P
arm true x y P hx hy = hx
arm false x y P hx hy = hy

else-sound : (o : Option (List ((s : Stmt) × IsSound s))) (at : Entry) (r : Run) (place : ℕ) (ws : LetWidths) (next : ℕ) (after : LetWidths) → IsEntry at → RunFits at r ws →
    after_block ws (fares_if_any (option_map (map (fare_of (setting_at at))) (option_map (map (λ p. p.0)) o)) place ws) ≡ Keeps next after →
    OnGoing (else_deed (option_map (map deed_of) (option_map (map (λ p. p.0)) o)) at r) (λ t. RunKeeps at r t after)
else-sound None at r place ws next after is fits h = subst (λ l. RunKeeps at r r l) (cc h) (same_run at r ws fits)
else-sound (Some ss) at r place ws next after is fits h = block-sound ss at r place ws next after is fits h

sound-if : (c : Expr) (held : List ((s : Stmt) × IsSound s)) (o : Option (List ((s : Stmt) × IsSound s))) → IsSound (If c (map (λ p. p.0) held) (option_map (map (λ p. p.0)) o))
sound-if c held o at r place ws next after is fits h =
    let f = then_fares_keeps (wants 1 (judged_of (setting_at at) c ws) place ws)
    (λ n same. then_fares (after_block ws (fares_in_order (map (fare_of (setting_at at)) (map (λ p. p.0) held)) n ws)) (λ later inner.
    after_block ws (fares_if_any (option_map (map (fare_of (setting_at at))) (option_map (map (λ p. p.0)) o)) later ws))) next after
    (sym (fares.fare_of-if c (map (λ p. p.0) held) (option_map (map (λ p. p.0)) o) (setting_at at) place ws) ∙ h) in
    let w = wants_keeps 1 (setting_at at) c place ws f.0 f.1 f.2 in
    let g = then_fares_keeps (after_block ws (fares_in_order (map (fare_of (setting_at at)) (map (λ p. p.0) held)) f.0 ws)) (λ later inner.
    after_block ws (fares_if_any (option_map (map (fare_of (setting_at at))) (option_map (map (λ p. p.0)) o)) later ws)) next after f.3 in
    let first = block-sound held at r f.0 ws g.0 g.1 is fits g.2 in
    let second = else-sound o at r g.0 ws next after is fits g.3 in
    let b = after_block_keeps ws (fares_in_order (map (fare_of (setting_at at)) (map (λ p. p.0) held)) f.0 ws) g.0 g.1 g.2 in
    let e = after_block_keeps ws (fares_if_any (option_map (map (fare_of (setting_at at))) (option_map (map (λ p. p.0)) o)) g.0 ws) next after g.3 in
    rw (deeds.deed_of-if c (map (λ p. p.0) held) (option_map (map (λ p. p.0)) o) at r)
    (on_bits (value c at r.lets r.window) _ 1 _ (value-sound c at r.lets ws r.window 1 is fits.lets fits.window w.is)
    (λ test below. arm (test == 1) (block_deed (map deed_of (map (λ p. p.0) held)) at r) (else_deed (option_map (map deed_of) (option_map (map (λ p. p.0)) o)) at r)
    (λ t. RunKeeps at r t after) (subst (λ l. OnGoing (block_deed (map deed_of (map (λ p. p.0) held)) at r) (λ t. RunKeeps at r t l)) (sym b.2 ∙ e.2) first) second))

layer : (y : Open.Stmt-F ((s : Stmt) × IsSound s)) → IsSound (roll-Stmt (map-Stmt ((s : Stmt) × IsSound s) Stmt (λ p. p.0) y))
layer (Open.Let n e) = subst IsSound (sym (rolls-Let n e)) (sound-let n e)
layer (Open.Store a e) = subst IsSound (sym (rolls-Store a e)) (sound-store a e)
layer (Open.Pc e) = subst IsSound (sym (rolls-Pc e)) (sound-pc e)
layer (Open.Mode e) = subst IsSound (sym (rolls-Mode e)) (sound-mode e)
layer (Open.Rel e) = subst IsSound (sym (rolls-Rel e)) (sound-rel e)
layer (Open.Bound e) = subst IsSound (sym (rolls-Bound e)) (sound-bound e)
layer Open.Trap = subst IsSound (sym rolls-Trap) sound-trap
layer (Open.If c held None) = subst IsSound (sym (rolls-If c (map (λ p. p.0) held) None)) (sound-if c held None)
layer (Open.If c held (Some other)) = subst IsSound (sym (rolls-If c (map (λ p. p.0) held) (Some (map (λ p. p.0) other)))) (sound-if c held (Some other))

-- every statement is sound
pub deed-sound : (s : Stmt) → IsSound s
deed-sound = ind-Stmt IsSound (λ x y is. subst (λ z. IsSound (roll-Stmt z)) is (layer y))
