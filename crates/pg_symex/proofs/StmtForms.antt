-- What statements make that come one after another, and what single forms make.
use Rattle.std.proofs.Common.{◌≡◌, ℕ, ◌^◌, nat_lt, Bool, true, false, not, ◌&&◌, ◌||◌, cond, List, [], ◌∷◌, ◌++◌, length, take, set, Option, None, Some, refl, sym, ap, ◌∙◌, subst, arith}
use Rattle.std.specs.Prelude.{if◌then◌else◌, slice_set}
use Rattle.std.proofs.lemmas.Bool.{ltb-true}
use Rattle.std.proofs.lemmas.List.{length-take}
use Rattle.std.proofs.Math.Seq.{take-set-lt}
use Rattle.pg_circuit.specs.declared.node.Gate.{Gate}
use Rattle.pg_circuit.specs.declared.node.Node.{Node}
use Rattle.pg_circuit.specs.Values.{gate_value}
use Rattle.pg_circuit.specs.Grown.{GrowsTo}
use Rattle.pg_vec.specs.Number.{number}
use Rattle.pg_vec.specs.Gates.{or_made}
use Rattle.pg_vec.specs.Strings.{mux_made}
use Rattle.pg_vec.proofs.Kept.{front_same, front_then, there_later, values_earlier, constant-value}
use Rattle.pg_vec.proofs.GateLaws.{or-makes}
use Rattle.pg_vec.proofs.EachLaws.{number-below}
use Rattle.pg_vec.proofs.OpLaws.{mux_worth}
use Rattle.pg_cells.specs.declared.cell.Cell.{Cell}
use Rattle.pg_cells.specs.declared.cell.Write.{Write}
use Rattle.pg_cells.specs.Storage.{after_put, written}
use Rattle.pg_cells.specs.Cells.{put_of, puts_of}
use Rattle.pg_cells.proofs.OverLaws.{IsOver-write}
use Rattle.pg_lang_meaning.specs.Values.{Bits, Meaning}
use Rattle.pg_lang_meaning.specs.Bodies.{Course, MemTrapped, Trapped, Going, then_do, Run, store_deed}
use Rattle.pg_lang_valid.specs.Widths.{LetWidths}
use Rattle.pg_symex.specs.declared.regs.Next.{Next}
use Rattle.pg_symex.specs.Flow.{SymEntry, Flow, SymRun, view_of, with_nodes}
use Rattle.pg_symex.specs.Numbers.{value_of, next_psw, entry_value, lets_value, window_value}
use Rattle.pg_symex.specs.There.{AreBits, AreNext, IsSymEntry, LetsAre, IsFlow}
use Rattle.pg_symex.specs.Exprs.{access_made}
use Rattle.pg_symex.specs.Follows.{Follows, CellsStay, Makes}
use Rattle.pg_symex.specs.Stmts.{store_made, assigned, trap_made, with_lets_of}
use Rattle.pg_symex.specs.Ends.{run_value, IsSymRun, Skips, Ends, Does}
use Rattle.pg_symex.proofs.FollowsLaws.{unreached}
use Rattle.pg_symex.proofs.ExprForms.{bits-later, lets-later, flow-later}
use Rattle.pg_symex.proofs.WindowLaws.{length-written}
use Rattle.pg_symex.proofs.AccessLaws.{accessed}
use Rattle.pg_symex.proofs.OpLaw.{own_width}
use Rattle.pg_symex.proofs.CellLaws.{stay-same, stay-then}

-- ---- what stays

next-later : (before after : List Node) (a : ℕ) (r : Next) → GrowsTo before after → AreNext (length before) a r → AreNext (length after) a r
next-later before after a r g h = record {
  mode = bits-later before after 1 r.mode g h.mode;
  p = bits-later before after a r.p g h.p;
  l = bits-later before after a r.l g h.l;
  b = bits-later before after a r.b g h.b;
}

-- the same body under way, where an expression was made
pub run-later : (at : SymEntry) (r : SymRun) (ws : LetWidths) (f : Flow) → IsSymRun at r ws → GrowsTo r.flow.nodes f.nodes → IsFlow at r.writes f → IsSymRun at (record r { flow = f }) ws
run-later at r ws f h g fl = record {
  flow = fl;
  trap = there_later r.flow.nodes f.nodes r.trap g h.trap;
  next = next-later r.flow.nodes f.nodes at.a r.next g h.next;
  lets = lets-later r.flow.nodes f.nodes r.lets ws g h.lets;
}

-- what ends so from a place whose traps are those of another ends so from there
ends-from : (values : List Bool) (storage : List ℕ) (at : SymEntry) (r s new : SymRun) (c : Course Run) → gate_value values s.flow.mem_trap ≡ gate_value values r.flow.mem_trap →
    gate_value values s.trap ≡ gate_value values r.trap → Ends values storage at s new c → Ends values storage at r new c
ends-from values storage at r s new MemTrapped m t h = (h.0, h.1, h.2 ∙ t)
ends-from values storage at r s new Trapped m t h = (h.0, h.1 ∙ m, h.2)
ends-from values storage at r s new (Going q) m t h = (h.0, h.1 ∙ m, h.2 ∙ t, h.3)

skips-then : (values : List Bool) (storage : List ℕ) (at : SymEntry) (r s t : SymRun) → Skips values storage at r s → Skips values storage at s t → Skips values storage at r t
skips-then values storage at r s t h k = record {
  live = k.live;
  mem_trap = k.mem_trap ∙ h.mem_trap;
  trap = k.trap ∙ h.trap;
  window = k.window ∙ h.window;
  next = k.next ∙ h.next;
}

-- ---- one thing after another

seq-ends : (values : List Bool) (storage : List ℕ) (at : SymEntry) (r s t : SymRun) (c : Course Run) (go : Run → Course Run) → Ends values storage at r s c →
    (gate_value values s.flow.live ≡ false → Skips values storage at s t) → (gate_value values s.flow.live ≡ true → Ends values storage at s t (go (run_value values storage at s))) →
    Ends values storage at r t (then_do c go)
seq-ends values storage at r s t MemTrapped go h skips ends =
    let k = skips h.0 in (k.live, k.mem_trap ∙ h.1, k.trap ∙ h.2)
seq-ends values storage at r s t Trapped go h skips ends =
    let k = skips h.0 in (k.live, k.mem_trap ∙ h.1, k.trap ∙ h.2)
seq-ends values storage at r s t (Going q) go h skips ends =
    let P : Run → Type 0 = λ u. Ends values storage at s t (go u) in
    ends-from values storage at r s t (go q) h.1 h.2 (subst P h.3 (ends h.0))

pub seq-does : (at : SymEntry) (r s t : SymRun) (mid after : LetWidths) (first second : List Bool → Run → Course Run) → Does at r s mid first → Does at s t after second →
    Does at r t after (λ values q. then_do (first values q) (λ u. second values u))
seq-does at r s t mid after first second h k = record {
  run = k.run;
  front = front_then r.flow.nodes s.flow.nodes t.flow.nodes h.front k.front;
  cells = stay-then r.flow.cells s.flow.cells t.flow.cells h.cells k.cells;
  skips = λ inputs values storage v is a dead.
      let u = values_earlier inputs values s.flow.nodes t.flow.nodes k.front v in
      let x = h.skips inputs values storage u is (k.cells.agrees values storage a) dead in
      skips-then values storage at r s t x (k.skips inputs values storage v is a x.live);
  ends = λ inputs values storage v is a reached.
      let u = values_earlier inputs values s.flow.nodes t.flow.nodes k.front v in
      seq-ends values storage at r s t (first values (run_value values storage at r)) (second values) (h.ends inputs values storage u is (k.cells.agrees values storage a) reached)
      (λ dead. k.skips inputs values storage v is a dead) (λ live. k.ends inputs values storage v is a live);
}

-- an expression, and what is done with its bits then
expr-ends : (values : List Bool) (storage : List ℕ) (at : SymEntry) (r : SymRun) (f : Flow) (new : SymRun) (x : Bits) (o : Option Bits) (due : Option Bits → Course Run) → due None ≡ MemTrapped →
    Follows (gate_value values r.flow.live) (gate_value values r.flow.mem_trap) (gate_value values f.live) (gate_value values f.mem_trap) x o → gate_value values r.flow.live ≡ true →
    (gate_value values f.live ≡ false → Skips values storage at (record r { flow = f }) new) →
    (gate_value values f.live ≡ true → Ends values storage at (record r { flow = f }) new (due (Some x))) → Ends values storage at r new (due o)
expr-ends values storage at r f new x None due e h reached skips ends =
    let k = skips h.0 in
    let P : Course Run → Type 0 = λ c. Ends values storage at r new c in
    subst P (sym e) (k.live, k.mem_trap ∙ h.1 ∙ ap (λ b. gate_value values r.flow.mem_trap || b) reached ∙ or-true (gate_value values r.flow.mem_trap), k.trap)
  where
    or-true : (b : Bool) → (b || true) ≡ true
    or-true true = refl
    or-true false = refl
expr-ends values storage at r f new x (Some y) due e h reached skips ends =
    let P : Bits → Type 0 = λ u. Ends values storage at r new (due (Some u)) in
    subst P h.2 (ends-from values storage at r (record r { flow = f }) new (due (Some x)) h.1 refl (ends (h.0 ∙ reached)))

pub expr-does : (at : SymEntry) (r : SymRun) (n : ℕ) (part : List Gate × Flow) (new : SymRun) (after : LetWidths) (meant : Meaning) (due : List Bool → Option Bits → Run → Course Run) →
    ((values : List Bool) (q : Run) → due values None q ≡ MemTrapped) → Makes at r.lets r.writes r.flow n part meant →
    Does at (record r { flow = part.1 }) new after (λ values q. due values (Some (value_of values part.0)) q) →
    Does at r new after (λ values q. due values (meant (entry_value values at) q.lets q.window) q)
expr-does at r n part new after meant due none m d = record {
  run = d.run;
  front = front_then r.flow.nodes part.1.nodes new.flow.nodes m.front d.front;
  cells = stay-then r.flow.cells part.1.cells new.flow.cells m.cells d.cells;
  skips = λ inputs values storage v is a dead.
      let u = values_earlier inputs values part.1.nodes new.flow.nodes d.front v in
      let w = unreached _ _ _ _ (value_of values part.0) _ dead (m.worth inputs values storage u is (d.cells.agrees values storage a)) in
      let k = d.skips inputs values storage v is a w.0 in
      record { live = k.live; mem_trap = k.mem_trap ∙ w.1; trap = k.trap; window = k.window; next = k.next };
  ends = λ inputs values storage v is a reached.
      let u = values_earlier inputs values part.1.nodes new.flow.nodes d.front v in
      let q = run_value values storage at r in
      expr-ends values storage at r part.1 new (value_of values part.0) (meant (entry_value values at) q.lets q.window) (λ o. due values o q) (none values q)
      (m.worth inputs values storage u is (d.cells.agrees values storage a)) reached
      (λ dead. d.skips inputs values storage v is a dead) (λ live. d.ends inputs values storage v is a live);
}

-- the same that was made, and the same meaning
pub does_as : (at : SymEntry) (r new due : SymRun) (after : LetWidths) (meant due_meaning : List Bool → Run → Course Run) → due ≡ new → ((values : List Bool) (q : Run) → due_meaning values q ≡ meant values q) →
    Does at r new after meant → Does at r due after due_meaning
does_as at r new due after meant due_meaning e m d =
    let is : Does at r new after due_meaning = record {
      run = d.run;
      front = d.front;
      cells = d.cells;
      skips = d.skips;
      ends = λ inputs values storage v s a reached.
          let P : Course Run → Type 0 = λ c. Ends values storage at r new c in
          subst P (sym (m values (run_value values storage at r))) (d.ends inputs values storage v s a reached);
    } in
    subst (λ (k : SymRun). Does at r k after due_meaning) (sym e) is

-- ---- blocks

block-ends : (values : List Bool) (storage : List ℕ) (at : SymEntry) (r s : SymRun) (c : Course Run) → Ends values storage at r s c →
    Ends values storage at r (with_lets_of r s) (then_do c (λ u. Going (record u { lets = lets_value values r.lets })))
block-ends values storage at r s MemTrapped h = h
block-ends values storage at r s Trapped h = h
block-ends values storage at r s (Going q) h = (h.0, h.1, h.2, ap (λ (u : Run). record u { lets = lets_value values r.lets }) h.3)

pub block-does : (at : SymEntry) (r s : SymRun) (ws after : LetWidths) (meant : List Bool → Run → Course Run) → LetsAre (length r.flow.nodes) r.lets ws → Does at r s after meant →
    Does at r (with_lets_of r s) ws (λ values q. then_do (meant values q) (λ u. Going (record u { lets = q.lets })))
block-does at r s ws after meant ls d = record {
  run = record { flow = d.run.flow; trap = d.run.trap; next = d.run.next; lets = lets-later r.flow.nodes s.flow.nodes r.lets ws d.front ls };
  front = d.front;
  cells = d.cells;
  skips = λ inputs values storage v is a dead.
      let k = d.skips inputs values storage v is a dead in
      record { live = k.live; mem_trap = k.mem_trap; trap = k.trap; window = k.window; next = k.next };
  ends = λ inputs values storage v is a reached. block-ends values storage at r s (meant values (run_value values storage at r)) (d.ends inputs values storage v is a reached);
}

pub nothing-does : (at : SymEntry) (r : SymRun) (ws : LetWidths) → IsSymRun at r ws → Does at r r ws (λ values q. Going q)
nothing-does at r ws h = record {
  run = h;
  front = front_same r.flow.nodes;
  cells = stay-same r.flow.cells;
  skips = λ inputs values storage v is a dead. record { live = dead; mem_trap = refl; trap = refl; window = refl; next = refl };
  ends = λ inputs values storage v is a reached. (reached, refl, refl, refl);
}

-- ---- assignments

choice-true : (b : Bool) (x y k : ℕ) → b ≡ true → k ≡ cond b x y → k ≡ x
choice-true b x y k e h = h ∙ ap (λ c. cond c x y) e

choice-false : (b : Bool) (x y k : ℕ) → b ≡ false → k ≡ cond b x y → k ≡ y
choice-false b x y k e h = h ∙ ap (λ c. cond c x y) e

-- how a register is put, and what that is to the definitions
pub record Puts (at : SymEntry) (r : SymRun) (n : ℕ) (old : List Gate) (put : List Gate → Next) (set_of : Run → ℕ → Run) : Type 0 where
  pub old_bits : AreBits (length r.flow.nodes) n old
  pub there : (places : ℕ) (xs : List Gate) → AreNext places at.a r.next → AreBits places n xs → AreNext places at.a (put xs)
  pub stays : (values : List Bool) (xs : List Gate) → number values xs ≡ number values old → next_psw values (put xs) ≡ next_psw values r.next
  pub is_put : (values : List Bool) (q : Run) (xs : List Gate) → q.next ≡ next_psw values r.next → record q { next = next_psw values (put xs) } ≡ set_of q (number values xs)

pub assigned-does : (at : SymEntry) (r : SymRun) (ws : LetWidths) (n : ℕ) (xs old : List Gate) (put : List Gate → Next) (set_of : Run → ℕ → Run) → IsSymRun at r ws → AreBits (length r.flow.nodes) n xs → Puts at r n old put set_of →
    Does at r (assigned xs old put r) ws (λ values q. Going (set_of q (number values xs)))
unfolding assigned
assigned-does at r ws n xs old put set_of is x p =
    let o = p.old_bits in
    let m = mux_worth r.flow.nodes _ r.flow.live xs old is.flow.circuit is.flow.live x.there o.there (x.wide ∙ sym o.wide) (own_width _ n xs x) refl in
    let bits = (mux_made r.flow.nodes r.flow.live xs old).0 in
    let nodes = (mux_made r.flow.nodes r.flow.live xs old).1 in
    let later = run-later at r ws (with_nodes r.flow nodes) is m.adds.front (flow-later at r.writes r.flow nodes m.adds.front m.circuit is.flow) in
    record {
      run = record { flow = later.flow; trap = later.trap; next = p.there (length nodes) bits later.next (record { there = m.there; wide = m.wide ∙ x.wide; is_width = x.is_width }); lets = later.lets };
      front = m.adds.front;
      cells = stay-same r.flow.cells;
      skips = λ inputs values storage v s a dead. record {
        live = dead;
        mem_trap = refl;
        trap = refl;
        window = refl;
        next = p.stays values bits (choice-false (gate_value values r.flow.live) (number values xs) (number values old) _ dead (m.value inputs values v));
      };
      ends = λ inputs values storage v s a reached. (
        reached,
        refl,
        refl,
        p.is_put values (run_value values storage at r) bits refl
            ∙ ap (set_of (run_value values storage at r)) (choice-true (gate_value values r.flow.live) (number values xs) (number values old) _ reached (m.value inputs values v)),
      );
    }

-- ---- traps

pub trap-does : (at : SymEntry) (r : SymRun) (ws : LetWidths) → IsSymRun at r ws → Does at r (trap_made r) ws (λ values q. Trapped)
unfolding trap_made
trap-does at r ws is =
    let m = or-makes r.flow.nodes r.trap r.flow.live is.flow.circuit is.trap is.flow.live in
    let nodes = (or_made r.flow.nodes r.trap r.flow.live).1 in
    let later = run-later at r ws (with_nodes r.flow nodes) is m.adds.front (flow-later at r.writes r.flow nodes m.adds.front m.circuit is.flow) in
    record {
      run = record {
        flow = record { circuit = m.circuit; over = later.flow.over; live = m.circuit.begun; mem_trap = later.flow.mem_trap };
        trap = m.there;
        next = later.next;
        lets = later.lets;
      };
      front = m.adds.front;
      cells = stay-same r.flow.cells;
      skips = λ inputs values storage v s a dead. record {
        live = constant-value inputs values nodes false m.circuit v;
        mem_trap = refl;
        trap = m.value inputs values v ∙ ap (λ b. gate_value values r.trap || b) dead ∙ or-false (gate_value values r.trap);
        window = refl;
        next = refl;
      };
      ends = λ inputs values storage v s a reached. (
        constant-value inputs values nodes false m.circuit v,
        refl,
        m.value inputs values v ∙ ap (λ b. gate_value values r.trap || b) reached ∙ or-true (gate_value values r.trap),
      );
    }
  where
    or-false : (b : Bool) → (b || false) ≡ b
    or-false true = refl
    or-false false = refl

    or-true : (b : Bool) → (b || true) ≡ true
    or-true true = refl
    or-true false = refl

-- ---- stores

written-push : (xs : List Write) (x : Write) (values : List Bool) (storage : List ℕ) → written storage (puts_of values (xs ++ x ∷ [])) ≡ after_put (written storage (puts_of values xs)) (put_of values x)
written-push [] x values storage = refl
written-push (y ∷ xs) x values storage = written-push xs x values (after_put storage (put_of values y))

-- a store where its place is reached, from whether the address is usable
store-ends : (values : List Bool) (storage : List ℕ) (at : SymEntry) (r new : SymRun) (v address cell : ℕ) (cells : List ℕ) (b : Bool) (q : Run) → nat_lt address v ≡ b → length (take v cells) ≡ v → q.window ≡ take v cells →
    gate_value values new.flow.live ≡ b → gate_value values new.flow.mem_trap ≡ (gate_value values r.flow.mem_trap || not b) → gate_value values new.trap ≡ gate_value values r.trap →
    run_value values storage at new ≡ record q { window = take v (if b then set cells address cell else cells) } → Ends values storage at r new (store_deed q address cell)
store-ends values storage at r new v address cell cells true q below size w live mem_trap trap is =
    let test : nat_lt address (length q.window) ≡ true = ap (λ k. nat_lt address (length k)) w ∙ ap (nat_lt address) size ∙ below in
    let P : Bool → Type 0 = λ k. Ends values storage at r new (if k then Going (record q { window = slice_set q.window address cell }) else MemTrapped) in
    subst P (sym test) (
      live,
      mem_trap ∙ or-false (gate_value values r.flow.mem_trap),
      trap,
      is ∙ ap (λ k. record q { window = k }) (take-set-lt v cells address cell (ltb-true address v below) ∙ ap (λ k. set k address cell) (sym w)),
    )
  where
    or-false : (c : Bool) → (c || false) ≡ c
    or-false true = refl
    or-false false = refl
store-ends values storage at r new v address cell cells false q below size w live mem_trap trap is =
    let test : nat_lt address (length q.window) ≡ false = ap (λ k. nat_lt address (length k)) w ∙ ap (nat_lt address) size ∙ below in
    let P : Bool → Type 0 = λ k. Ends values storage at r new (if k then Going (record q { window = slice_set q.window address cell }) else MemTrapped) in
    subst P (sym test) (live, mem_trap ∙ or-true (gate_value values r.flow.mem_trap), trap)
  where
    or-true : (c : Bool) → (c || true) ≡ true
    or-true true = refl
    or-true false = refl

put-where : (guard b : Bool) (storage : List ℕ) (address word : ℕ) → guard ≡ b → (if guard then set storage address word else storage) ≡ (if b then set storage address word else storage)
put-where guard b storage address word e = ap (λ k. if k then set storage address word else storage) e

reached-and : (l u : Bool) (live : Bool) → live ≡ true → l ≡ (live && u) → l ≡ u
reached-and l u live e h = h ∙ ap (λ k. k && u) e

reached-or : (m n u live : Bool) → live ≡ true → n ≡ (m || (live && not u)) → n ≡ (m || not u)
reached-or m n u live e h = h ∙ ap (λ k. m || (k && not u)) e

dead-and : (l u : Bool) (live : Bool) → live ≡ false → l ≡ (live && u) → l ≡ false
dead-and l u live e h = h ∙ ap (λ k. k && u) e

dead-or : (m n u live : Bool) → live ≡ false → n ≡ (m || (live && not u)) → n ≡ m
dead-or m n u live e h = h ∙ ap (λ k. m || (k && not u)) e ∙ or-false m
  where
    or-false : (c : Bool) → (c || false) ≡ c
    or-false true = refl
    or-false false = refl

pub store-does : (at : SymEntry) (r : SymRun) (ws : LetWidths) (address value : List Gate) → IsSymEntry (length r.flow.nodes) at → IsSymRun at r ws → AreBits (length r.flow.nodes) at.a address → AreBits (length r.flow.nodes) at.w value →
    Does at r (store_made at address value r) ws (λ values q. store_deed q (number values address) (number values value))
store-does at r ws address value entry is ba bv =
    let f = access_made at r.flow address in
    let g = accessed at r.writes r.flow address is.flow entry ba in
    let x : Write = record { guard = f.live; address = address; value = value } in
    let later = run-later at r ws f is g.front g.flow in
    let la = bits-later r.flow.nodes f.nodes at.a address g.front ba in
    let lv = bits-later r.flow.nodes f.nodes at.w value g.front bv in
    let window : (values : List Bool) (storage : List ℕ) → window_value values storage at (r.writes ++ x ∷ []) ≡ take (number values at.regs.v) (after_put (written storage (puts_of values r.writes)) (put_of values x)) =
    λ values storage. ap (take (number values at.regs.v)) (written-push r.writes x values storage) in
    record {
      run = record {
        flow = record {
          circuit = g.flow.circuit;
          over = IsOver-write f.nodes (view_of at r.writes f.cells) x g.flow.over
              (record { guard = g.flow.live; address = la.there; address_wide = la.wide; value = lv.there; value_wide = lv.wide });
          live = g.flow.live;
          mem_trap = g.flow.mem_trap;
        };
        trap = later.trap;
        next = later.next;
        lets = later.lets;
      };
      front = g.front;
      cells = let P : List Cell → Type 0 = λ cs. CellsStay cs f.cells in subst P g.cells (stay-same f.cells);
      skips = λ inputs values storage v s a dead.
          let off = dead-and _ _ (gate_value values r.flow.live) dead (g.live inputs values v) in
          record {
            live = off;
            mem_trap = dead-or _ _ _ (gate_value values r.flow.live) dead (g.mem_trap inputs values v);
            trap = refl;
            window = window values storage ∙ ap (take (number values at.regs.v)) (put-where (gate_value values f.live) false (written storage (puts_of values r.writes)) (number values address) (number values value) off);
            next = refl;
          };
      ends = λ inputs values storage v s a reached.
          let on = reached-and _ _ (gate_value values r.flow.live) reached (g.live inputs values v) in
          let cells = written storage (puts_of values r.writes) in
          let k = number values at.regs.v in
          let e : 2 ^ length at.regs.v ≡ 2 ^ at.a = ap (λ j. 2 ^ j) entry.regs.v.wide in
          let size : length (take k cells) ≡ k =
          omega (arith, length-take k cells, number-below values at.regs.v, s.size, length-written (puts_of values r.writes) storage) in
          let new = store_made at address value r in
          store-ends values storage at r new k (number values address) (number values value) cells (nat_lt (number values address) k) (run_value values storage at r) refl size refl
          on (reached-or _ _ _ (gate_value values r.flow.live) reached (g.mem_trap inputs values v)) refl
          (ap (λ (ws : List ℕ). record (run_value values storage at r) { window = ws })
          (window values storage ∙ ap (take k) (put-where (gate_value values f.live) (nat_lt (number values address) k) cells (number values address) (number values value) on)));
    }
