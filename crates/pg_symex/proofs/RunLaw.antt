-- Each instruction of a valid description runs right.
use Rattle.std.proofs.Common.{◌≡◌, ℕ, zero, suc, ◌+◌, ◌%◌, ◌^◌, ◌<◌, Bool, true, false, List, [], ◌∷◌, map, length, take, slice_get, get_or, Option, None, Some, refl, sym, ap, ◌∙◌, subst, arith}
use Rattle.pg_circuit.specs.declared.node.Gate.{Gate}
use Rattle.pg_circuit.specs.Values.{gate_value}
use Rattle.pg_word.specs.Bits.{IsWidth, sum_of}
use Rattle.pg_vec.specs.Number.{number}
use Rattle.pg_vec.specs.Strings.{add_made}
use Rattle.pg_vec.proofs.Kept.{front_then, values_earlier, constant-value}
use Rattle.std.proofs.lemmas.Nat.{pow_pos}
use Rattle.pg_vec.proofs.Sums.{pow-more}
use Rattle.pg_vec.proofs.OpLaws.{add_worth}
use Rattle.pg_cells.specs.View.{View}
use Rattle.pg_cells.specs.Made.{touch_made, cells_after}
use Rattle.pg_cells.proofs.OverLaws.{IsOver-later}
use Rattle.pg_cells.proofs.TouchLaws.{touches}
use Rattle.pg_ast.specs.declared.tree.Stmt.{Stmt}
use Rattle.pg_ast.specs.declared.tree.Instr.{Instr}
use Rattle.pg_ast.specs.declared.tree.Desc.{Desc}
use Rattle.pg_lang_meaning.specs.Bodies.{Course, MemTrapped, Trapped, Going, then_do, Run, in_order, deed_of, entry_of, begun, body}
use Rattle.pg_lang_valid.specs.Widths.{Broken, LetWidths, Keeps, fares_in_order, fare_of, setting_of, width_broken_in, placed_at, width_broken}
use Rattle.pg_lang_valid.specs.Valid.{IsValid, as_width}
use Rattle.pg_lang_valid.proofs.ValidFacts.{IsWidth-word, IsWidth-address}
use Rattle.pg_lang_valid.proofs.PatternFacts.{valid-length}
use Rattle.pg_lang_valid.proofs.StepSound.{no_break}
use Rattle.pg_symex.specs.declared.regs.Regs.{Regs}
use Rattle.pg_symex.specs.Flow.{SymEntry, SymRun}
use Rattle.pg_symex.specs.Numbers.{entry_psw, entry_value}
use Rattle.pg_symex.specs.There.{AreBits, IsSymEntry}
use Rattle.pg_symex.specs.Exprs.{literal_bits}
use Rattle.pg_symex.specs.Stmts.{in_order_made, stmt_made}
use Rattle.pg_symex.specs.Ends.{run_value, IsSymRun, Ends, Does, IsRightStmt}
use Rattle.pg_symex.specs.Body.{sym_entry, run_begun, body_made, run_made}
use Rattle.pg_symex.specs.Runs.{Tells, AllRunRight}
use Rattle.pg_symex.proofs.ExprForms.{bits-later, regs-later}
use Rattle.pg_symex.proofs.LeafLaws.{length-literal, literal-there, number-literal}
use Rattle.pg_symex.proofs.CellLaws.{stay-then, cells-stay}
use Rattle.pg_symex.proofs.OpLaw.{own_width}
use Rattle.pg_symex.proofs.StmtLaw.{stmt_right, in_order-right}

-- ---- what a valid description says of an instruction

placed_none : (k : ℕ) (o : Option Broken) (later : Option (ℕ × Broken)) → placed_at k o later ≡ None → (o ≡ None) × (later ≡ None)
placed_none k None later h = (refl, h)
placed_none k (Some place) later h = absurd (cc h)

pub as_width_none : (o : Option (ℕ × Broken)) → as_width o ≡ None → o ≡ None
as_width_none None h = refl
as_width_none (Some x) h = absurd (cc h)

pub widths_at : (d : Desc) (first : ℕ) (is : List Instr) (k : ℕ) (i : Instr) → width_broken d first is ≡ None → slice_get is k ≡ Some i → width_broken_in d i ≡ None
unfolding width_broken
widths_at d first [] k i h g = absurd (cc g)
widths_at d first (j ∷ js) zero i h g =
    let same : j ≡ i = cc g in
    subst (λ z. width_broken_in d z ≡ None) same ((placed_none first (width_broken_in d j) (width_broken d (first + 1) js) h).0)
widths_at d first (j ∷ js) (suc k) i h g = widths_at d (first + 1) js k i ((placed_none first (width_broken_in d j) (width_broken d (first + 1) js) h).1) g

-- ---- the body

pub with_proofs : (ss : List Stmt) → List ((s : Stmt) × IsRightStmt s)
with_proofs [] = []
with_proofs (s ∷ ss) = (s, stmt_right s) ∷ with_proofs ss

pub with_proofs-first : (ss : List Stmt) → map (λ p. p.0) (with_proofs ss) ≡ ss
unfolding with_proofs
with_proofs-first [] = refl
with_proofs-first (s ∷ ss) = ap (λ ts. s ∷ ts) (with_proofs-first ss)

body-does : (d : Desc) (k : ℕ) (i : Instr) (regs : Regs) (word : List Gate) (r : SymRun) → IsValid d → slice_get d.instrs k ≡ Some i → IsSymEntry (length r.flow.nodes) (sym_entry d i regs word) → IsSymRun (sym_entry d i regs word) r [] →
    (after : LetWidths) × Does (sym_entry d i regs word) r (body_made d i regs word r) after (λ values q. in_order (map deed_of i.body) (entry_value values (sym_entry d i regs word)) q)
unfolding body_made
body-does d k i regs word r v g entry is =
    let fare = no_break (fares_in_order (map (fare_of (setting_of d i)) i.body) 0 []) (widths_at d 0 d.instrs k i (as_width_none (width_broken d 0 d.instrs) v.widths) g) in
    let at = sym_entry d i regs word in
    let P : List Stmt → Type 0 = λ ss. fares_in_order (map (fare_of (setting_of d i)) ss) 0 [] ≡ Keeps fare.0 fare.1 → Does at r (in_order_made (map stmt_made ss) at r) fare.1 (λ values q. in_order (map deed_of ss) (entry_value values at) q) in
    (fare.1, subst P (with_proofs-first i.body) (λ h. in_order-right (with_proofs i.body) at r 0 [] fare.0 fare.1 entry is h) fare.2)

-- ---- the whole run

tells : (values : List Bool) (storage : List ℕ) (at : SymEntry) (old new : SymRun) (c : Course Run) → Ends values storage at old new c → gate_value values old.flow.mem_trap ≡ false → gate_value values old.trap ≡ false →
    Tells values storage (number values at.regs.v) new (then_do c (λ r. Going (record { window = r.window; psw = r.next })))
tells values storage at old new MemTrapped h m t = (h.1, h.2 ∙ t)
tells values storage at old new Trapped h m t = (h.1 ∙ m, h.2)
tells values storage at old new (Going q) h m t = (h.1 ∙ m, h.2 ∙ t, ap (λ (x : Run). x.next) (sym h.3), ap (λ (x : Run). x.window) (sym h.3))

-- the numbers of a run that begins
next_p : (w a : ℕ) (values : List Bool) (p one sum : List Gate) → length p ≡ a → number values one ≡ 1 → number values sum ≡ sum_of (length p) (number values p) (number values one) → number values sum ≡ (number values p + 1) % 2 ^ a
next_p w a values p one sum wide e h = h ∙ ap (λ k. (number values p + number values one) % 2 ^ k) wide ∙ ap (λ k. (number values p + k) % 2 ^ a) e

one-fits : (a : ℕ) → IsWidth a → 1 < 2 ^ a
one-fits zero h = let l = h.least in absurd (omega arith)
one-fits (suc a) h = omega (arith, pow_pos a, pow-more a)

pub all_run_right : (d : Desc) → AllRunRight d
unfolding run_made body
all_run_right d k i regs nodes cells valid here circuit over are =
    let view : View = record { w = d.word; a = d.address; cells = cells; writes = [] } in
    let t = touches nodes view regs.p circuit over are.p.there are.p.wide in
    let word = (touch_made nodes view regs.p).0 in
    let n1 = (touch_made nodes view regs.p).1 in
    let cells_1 = cells_after nodes d.word cells regs.p in
    let f1 = t.grows.front in
    let one = literal_bits 1 d.address in
    let a_width = IsWidth-address d valid in
    let p1 = bits-later nodes n1 d.address regs.p f1 are.p in
    let bit : AreBits (length n1) d.address one = record { there = literal-there d.address 1 (length n1) t.circuit.begun; wide = length-literal d.address 1; is_width = a_width } in
    let s = add_worth n1 _ regs.p one t.circuit p1.there bit.there (p1.wide ∙ sym bit.wide) (own_width _ d.address regs.p p1) (own_width _ d.address one bit) refl in
    let p = (add_made n1 regs.p one).0 in
    let n2 = (add_made n1 regs.p one).1 in
    let f2 = front_then nodes n1 n2 f1 s.adds.front in
    let r = run_begun regs p n2 cells_1 [] in
    let at = sym_entry d i regs word in
    let regs_2 = regs-later nodes n2 d.address regs f2 are in
    let entry : IsSymEntry (length n2) at = record {
      regs = regs_2;
      word = bits-later n1 n2 d.word word s.adds.front (record { there = t.there; wide = t.wide; is_width = IsWidth-word d valid });
      pattern = valid-length d k i valid here;
    } in
    let is : IsSymRun at r [] = record {
      flow = record { circuit = s.circuit; over = IsOver-later n1 n2 (record view { cells = cells_1 }) s.adds.front t.over; live = s.circuit.begun; mem_trap = s.circuit.begun };
      trap = s.circuit.begun;
      next = record { mode = regs_2.mode; p = record { there = s.there; wide = s.wide ∙ p1.wide; is_width = a_width }; l = regs_2.l; b = regs_2.b };
      lets = tt;
    } in
    let done = body-does d k i regs word r valid here entry is in
    let b = done.1 in
    let new = body_made d i regs word r in
    let n3 = new.flow.nodes in
    record {
      circuit = b.run.flow.circuit;
      front = front_then nodes n2 n3 f2 b.front;
      stay = stay-then cells cells_1 new.flow.cells (cells-stay nodes d.word cells regs.p) b.cells;
      over = b.run.flow.over;
      mem_trap = b.run.flow.mem_trap;
      trap = b.run.trap;
      next = b.run.next;
      tells = λ inputs values storage v z agrees.
          let u2 = values_earlier inputs values n2 n3 b.front v in
          let u1 = values_earlier inputs values n1 n2 s.adds.front u2 in
          let true_is = constant-value inputs values n2 true s.circuit u2 in
          let false_is = constant-value inputs values n2 false s.circuit u2 in
          let fetched : number values word ≡ get_or storage (number values regs.p) 0 = t.worth inputs values storage u1 z (b.cells.agrees values storage agrees) in
          let literal : number values one ≡ 1 = number-literal d.address 1 values (one-fits d.address a_width) (λ c. constant-value inputs values n2 c s.circuit u2) in
          let sum : number values p ≡ (number values regs.p + 1) % 2 ^ d.address = next_p d.word d.address values regs.p one p p1.wide literal (s.value inputs values u2) in
          let ends = b.ends inputs values storage v z agrees true_is in
          let window = take (number values regs.v) storage in
          let psw = entry_psw values regs in
          let begins : run_value values storage at r ≡ begun d window psw = ap (λ k. let q : Run = record { window = window; next = record psw { p = k }; lets = [] } in q) sum in
          let P : Run → Type 0 = λ q. Ends values storage at r new (in_order (map deed_of i.body) (entry_value values at) q) in
          let Q : ℕ → Type 0 = λ w. Tells values storage (number values regs.v) new (then_do (in_order (map deed_of i.body) (entry_of d i psw w) (begun d window psw)) (λ x. Going (record { window = x.window; psw = x.next }))) in
          subst Q fetched (tells values storage at r new (in_order (map deed_of i.body) (entry_value values at) (begun d window psw)) (subst P begins ends) false_is false_is);
    }
