-- What an if makes of its arms.
use Rattle.std.proofs.Common.{◌≡◌, ℕ, Bool, true, false, not, ◌&&◌, ◌||◌, cond, List, length, refl, sym, ap, ◌∙◌, subst}
use Rattle.pg_circuit.specs.declared.node.Gate.{Gate}
use Rattle.pg_circuit.specs.declared.node.Node.{Node}
use Rattle.pg_circuit.specs.Nodes.{IsCircuit}
use Rattle.pg_circuit.specs.Values.{gate_value, IsThere}
use Rattle.pg_circuit.specs.Grown.{GrowsTo}
use Rattle.pg_circuit.specs.Made.{not_gate, and_made}
use Rattle.pg_circuit.proofs.MadeLemmas.{not_value}
use Rattle.pg_word.specs.declared.psw.Psw.{Psw}
use Rattle.pg_vec.specs.There.{AreValues}
use Rattle.pg_vec.specs.Gates.{or_made}
use Rattle.pg_vec.proofs.Kept.{front_same, front_then, there_later, values_earlier, and-makes}
use Rattle.pg_vec.proofs.GateLaws.{or-makes}
use Rattle.pg_lang_meaning.specs.Bodies.{Course, MemTrapped, Trapped, Going, Run}
use Rattle.pg_lang_valid.specs.Widths.{LetWidths}
use Rattle.pg_symex.specs.Flow.{SymEntry, SymLets, SymRun, with_nodes}
use Rattle.pg_symex.specs.Numbers.{next_psw, lets_value, window_value}
use Rattle.pg_symex.specs.There.{IsSymEntry}
use Rattle.pg_symex.specs.Stmts.{SymDeed, with_live, joined_made, if_made}
use Rattle.pg_symex.specs.Ends.{run_value, IsSymRun, Skips, Ends, Does}
use Rattle.pg_symex.proofs.ExprForms.{entry-later, flow-later}
use Rattle.pg_symex.proofs.StmtForms.{run-later}
use Rattle.pg_symex.proofs.CellLaws.{stay-then}

-- an arm: whatever the body under way, it leaves the lets as they were
abbrev pub IsArm : SymEntry → LetWidths → SymDeed → (List Bool → Run → Course Run) → Type 0
IsArm at ws deed meant = (s : SymRun) → IsSymEntry (length s.flow.nodes) at → IsSymRun at s ws → Does at s (deed at s) ws meant × ((deed at s).lets ≡ s.lets)

or-false : (b : Bool) → (b || false) ≡ b
or-false true = refl
or-false false = refl

same_run : (values : List Bool) (v w : List ℕ) (n m : Psw) (l k : SymLets) → v ≡ w → n ≡ m → l ≡ k →
    (let r : Run = record { window = v; next = n; lets = lets_value values l } in r) ≡ (let r : Run = record { window = w; next = m; lets = lets_value values k } in r)
same_run values v w n m l k e f g =
    ap (λ (x : List ℕ). let r : Run = record { window = x; next = n; lets = lets_value values l } in r) e
    ∙ ap (λ (x : Psw). let r : Run = record { window = w; next = x; lets = lets_value values l } in r) f
    ∙ ap (λ (x : SymLets). let r : Run = record { window = w; next = m; lets = lets_value values x } in r) g

-- the first arm is reached, and the second is not
first-ends : (values : List Bool) (storage : List ℕ) (at : SymEntry) (r s t u new : SymRun) (c : Course Run) → Ends values storage at r s c → Skips values storage at t u →
    gate_value values t.flow.mem_trap ≡ gate_value values s.flow.mem_trap → gate_value values t.trap ≡ gate_value values s.trap → window_value values storage at t.writes ≡ window_value values storage at s.writes →
    next_psw values t.next ≡ next_psw values s.next → new.lets ≡ s.lets → gate_value values new.flow.live ≡ (gate_value values s.flow.live || gate_value values u.flow.live) →
    gate_value values new.flow.mem_trap ≡ gate_value values u.flow.mem_trap → gate_value values new.trap ≡ gate_value values u.trap → window_value values storage at new.writes ≡ window_value values storage at u.writes →
    next_psw values new.next ≡ next_psw values u.next → Ends values storage at r new c
first-ends values storage at r s t u new MemTrapped h k m1 t1 w1 n1 l live m2 t2 w2 n2 =
    (live ∙ ap (λ b. b || gate_value values u.flow.live) h.0 ∙ k.live, m2 ∙ k.mem_trap ∙ m1 ∙ h.1, t2 ∙ k.trap ∙ t1 ∙ h.2)
first-ends values storage at r s t u new Trapped h k m1 t1 w1 n1 l live m2 t2 w2 n2 =
    (live ∙ ap (λ b. b || gate_value values u.flow.live) h.0 ∙ k.live, m2 ∙ k.mem_trap ∙ m1 ∙ h.1, t2 ∙ k.trap ∙ t1 ∙ h.2)
first-ends values storage at r s t u new (Going q) h k m1 t1 w1 n1 l live m2 t2 w2 n2 = (
  live ∙ ap (λ b. b || gate_value values u.flow.live) h.0,
  m2 ∙ k.mem_trap ∙ m1 ∙ h.1,
  t2 ∙ k.trap ∙ t1 ∙ h.2,
  same_run values _ _ _ _ new.lets s.lets (w2 ∙ k.window ∙ w1) (n2 ∙ k.next ∙ n1) l ∙ h.3,
)

-- the second arm is reached, and the first was not
second-ends : (values : List Bool) (storage : List ℕ) (at : SymEntry) (r t u new : SymRun) (c : Course Run) → Ends values storage at t u c →
    gate_value values t.flow.mem_trap ≡ gate_value values r.flow.mem_trap → gate_value values t.trap ≡ gate_value values r.trap → gate_value values new.flow.live ≡ gate_value values u.flow.live →
    gate_value values new.flow.mem_trap ≡ gate_value values u.flow.mem_trap → gate_value values new.trap ≡ gate_value values u.trap →
    run_value values storage at new ≡ run_value values storage at u → Ends values storage at r new c
second-ends values storage at r t u new MemTrapped h m1 t1 live m2 t2 is = (live ∙ h.0, m2 ∙ h.1, t2 ∙ h.2 ∙ t1)
second-ends values storage at r t u new Trapped h m1 t1 live m2 t2 is = (live ∙ h.0, m2 ∙ h.1 ∙ m1, t2 ∙ h.2)
second-ends values storage at r t u new (Going q) h m1 t1 live m2 t2 is = (live ∙ h.0, m2 ∙ h.1 ∙ m1, t2 ∙ h.2 ∙ t1, is ∙ h.3)

-- what the whole leaves, from what both arms leave
if-ends : (values : List Bool) (storage : List ℕ) (at : SymEntry) (r a s t u new : SymRun) (b : Bool) (first second : Course Run) (meant : Run → Course Run) →
    gate_value values a.flow.live ≡ b → gate_value values t.flow.live ≡ not b →
    (gate_value values a.flow.live ≡ false → Skips values storage at a s) → (gate_value values a.flow.live ≡ true → Ends values storage at a s first) →
    (gate_value values t.flow.live ≡ false → Skips values storage at t u) → (gate_value values t.flow.live ≡ true → Ends values storage at t u (meant (run_value values storage at t))) →
    second ≡ meant (run_value values storage at r) →
    gate_value values a.flow.mem_trap ≡ gate_value values r.flow.mem_trap → gate_value values a.trap ≡ gate_value values r.trap → window_value values storage at a.writes ≡ window_value values storage at r.writes → next_psw values a.next ≡ next_psw values r.next →
    gate_value values t.flow.mem_trap ≡ gate_value values s.flow.mem_trap → gate_value values t.trap ≡ gate_value values s.trap → window_value values storage at t.writes ≡ window_value values storage at s.writes → next_psw values t.next ≡ next_psw values s.next →
    gate_value values new.flow.live ≡ (gate_value values s.flow.live || gate_value values u.flow.live) →
    gate_value values new.flow.mem_trap ≡ gate_value values u.flow.mem_trap → gate_value values new.trap ≡ gate_value values u.trap → window_value values storage at new.writes ≡ window_value values storage at u.writes → next_psw values new.next ≡ next_psw values u.next →
    new.lets ≡ u.lets → u.lets ≡ t.lets → t.lets ≡ s.lets → s.lets ≡ r.lets →
    Ends values storage at r new (cond b first second)
if-ends values storage at r a s t u new true first second meant on off skip_a end_a skip_t end_t e m0 t0 w0 n0 m1 t1 w1 n1 live m2 t2 w2 n2 l3 l2 l1 l0 =
    let h = first-ends values storage at a s t u new first (end_a on) (skip_t off) m1 t1 w1 n1 (l3 ∙ l2 ∙ l1) live m2 t2 w2 n2 in
    from a r first m0 t0 h
  where
    from : (p q : SymRun) (c : Course Run) → gate_value values p.flow.mem_trap ≡ gate_value values q.flow.mem_trap → gate_value values p.trap ≡ gate_value values q.trap → Ends values storage at p new c → Ends values storage at q new c
    from p q MemTrapped m t h = (h.0, h.1, h.2 ∙ t)
    from p q Trapped m t h = (h.0, h.1 ∙ m, h.2)
    from p q (Going x) m t h = (h.0, h.1 ∙ m, h.2 ∙ t, h.3)
if-ends values storage at r a s t u new false first second meant on off skip_a end_a skip_t end_t e m0 t0 w0 n0 m1 t1 w1 n1 live m2 t2 w2 n2 l3 l2 l1 l0 =
    let k = skip_a on in
    let same : run_value values storage at t ≡ run_value values storage at r =
    same_run values _ _ _ _ t.lets r.lets (w1 ∙ k.window ∙ w0) (n1 ∙ k.next ∙ n0) (l1 ∙ l0) in
    let P : Course Run → Type 0 = λ c. Ends values storage at t u c in
    second-ends values storage at r t u new second (subst P (ap meant same ∙ sym e) (end_t off)) (m1 ∙ k.mem_trap ∙ m0) (t1 ∙ k.trap ∙ t0)
    (live ∙ ap (λ b. b || gate_value values u.flow.live) k.live) m2 t2 (same_run values _ _ _ _ new.lets u.lets w2 n2 l3)

-- a body under way that goes on under another guard
pub guard-run : (at : SymEntry) (r : SymRun) (ws : LetWidths) (live : Gate) (nodes : List Node) → IsSymRun at r ws → GrowsTo r.flow.nodes nodes → IsCircuit nodes → IsThere (length nodes) live → IsSymRun at (with_live live nodes r) ws
guard-run at r ws live nodes h g c t =
    let k = run-later at r ws (with_nodes r.flow nodes) h g (flow-later at r.writes r.flow nodes g c h.flow) in
    record {
      flow = record { circuit = c; over = k.flow.over; live = t; mem_trap = k.flow.mem_trap };
      trap = k.trap;
      next = k.next;
      lets = k.lets;
    }

dead-test : (live b l : Bool) → live ≡ false → l ≡ (live && b) → l ≡ false
dead-test live b l e h = h ∙ ap (λ k. k && b) e

live-test : (live b l : Bool) → live ≡ true → l ≡ (live && b) → l ≡ b
live-test live b l e h = h ∙ ap (λ k. k && b) e

pub if-does : (at : SymEntry) (r : SymRun) (ws : LetWidths) (test : Gate) (held other : SymDeed) (first second : List Bool → Run → Course Run) → IsSymEntry (length r.flow.nodes) at → IsSymRun at r ws → IsThere (length r.flow.nodes) test →
    IsArm at ws held first → IsArm at ws other second → Does at r (if_made held other at test r) ws (λ values q. cond (gate_value values test) (first values q) (second values q))
unfolding if_made joined_made
if-does at r ws test held other first second entry is there arm_1 arm_2 =
    let g1 = and-makes r.flow.nodes r.flow.live test is.flow.circuit is.flow.live there in
    let live_1 = (and_made r.flow.nodes r.flow.live test).0 in
    let n1 = (and_made r.flow.nodes r.flow.live test).1 in
    let g2 = and-makes n1 r.flow.live (not_gate test) g1.circuit (there_later r.flow.nodes n1 r.flow.live g1.adds.front is.flow.live) (there_later r.flow.nodes n1 test g1.adds.front there) in
    let live_2 = (and_made n1 r.flow.live (not_gate test)).0 in
    let n2 = (and_made n1 r.flow.live (not_gate test)).1 in
    let f2 = front_then r.flow.nodes n1 n2 g1.adds.front g2.adds.front in
    let a = with_live live_1 n2 r in
    let is_a = guard-run at r ws live_1 n2 is f2 g2.circuit (there_later n1 n2 live_1 g2.adds.front g1.there) in
    let d1 = arm_1 a (entry-later r.flow.nodes n2 at f2 entry) is_a in
    let s = held at a in
    let n3 = s.flow.nodes in
    let f3 = front_then r.flow.nodes n2 n3 f2 d1.0.front in
    let t = with_live live_2 n3 s in
    let is_t = guard-run at s ws live_2 n3 d1.0.run (front_same n3) d1.0.run.flow.circuit (there_later n2 n3 live_2 d1.0.front g2.there) in
    let d2 = arm_2 t (entry-later r.flow.nodes n3 at f3 entry) is_t in
    let u = other at t in
    let n4 = u.flow.nodes in
    let m = or-makes n4 s.flow.live u.flow.live d2.0.run.flow.circuit (there_later n3 n4 s.flow.live d2.0.front d1.0.run.flow.live) d2.0.run.flow.live in
    let live_3 = (or_made n4 s.flow.live u.flow.live).0 in
    let n5 = (or_made n4 s.flow.live u.flow.live).1 in
    let new = with_live live_3 n5 u in
    let test_1 : (inputs values : List Bool) → AreValues inputs n5 values → gate_value values live_1 ≡ (gate_value values r.flow.live && gate_value values test) =
    λ inputs values v. g1.value inputs values (values_earlier inputs values n1 n2 g2.adds.front (values_earlier inputs values n2 n3 d1.0.front (values_earlier inputs values n3 n4 d2.0.front (values_earlier inputs values n4 n5 m.adds.front v)))) in
    let test_2 : (inputs values : List Bool) → AreValues inputs n5 values → gate_value values live_2 ≡ (gate_value values r.flow.live && not (gate_value values test)) =
    λ inputs values v. g2.value inputs values (values_earlier inputs values n2 n3 d1.0.front (values_earlier inputs values n3 n4 d2.0.front (values_earlier inputs values n4 n5 m.adds.front v)))
    ∙ ap (λ k. gate_value values r.flow.live && k) (not_value values test) in
    record {
      run = guard-run at u ws live_3 n5 d2.0.run m.adds.front m.circuit m.there;
      front = front_then r.flow.nodes n3 n5 f3 (front_then n3 n4 n5 d2.0.front m.adds.front);
      cells = stay-then r.flow.cells s.flow.cells u.flow.cells d1.0.cells d2.0.cells;
      skips = λ inputs values storage v z c dead.
          let u4 = values_earlier inputs values n4 n5 m.adds.front v in
          let u3 = values_earlier inputs values n3 n4 d2.0.front u4 in
          let x = d1.0.skips inputs values storage u3 z (d2.0.cells.agrees values storage c) (dead-test (gate_value values r.flow.live) _ _ dead (test_1 inputs values v)) in
          let y = d2.0.skips inputs values storage u4 z c (dead-test (gate_value values r.flow.live) _ _ dead (test_2 inputs values v)) in
          record {
            live = m.value inputs values v ∙ ap (λ b. b || gate_value values u.flow.live) x.live ∙ y.live;
            mem_trap = y.mem_trap ∙ x.mem_trap;
            trap = y.trap ∙ x.trap;
            window = y.window ∙ x.window;
            next = y.next ∙ x.next;
          };
      ends = λ inputs values storage v z c reached.
          let u4 = values_earlier inputs values n4 n5 m.adds.front v in
          let u3 = values_earlier inputs values n3 n4 d2.0.front u4 in
          let q = run_value values storage at r in
          if-ends values storage at r a s t u new (gate_value values test) (first values q) (second values q) (second values)
          (live-test (gate_value values r.flow.live) _ _ reached (test_1 inputs values v)) (live-test (gate_value values r.flow.live) _ _ reached (test_2 inputs values v))
          (λ e. d1.0.skips inputs values storage u3 z (d2.0.cells.agrees values storage c) e) (λ e. d1.0.ends inputs values storage u3 z (d2.0.cells.agrees values storage c) e)
          (λ e. d2.0.skips inputs values storage u4 z c e) (λ e. d2.0.ends inputs values storage u4 z c e) refl
          refl refl refl refl refl refl refl refl (m.value inputs values v) refl refl refl refl refl d2.1 refl d1.1;
    }
