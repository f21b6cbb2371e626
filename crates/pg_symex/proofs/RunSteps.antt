-- A run that begins, in code, and what is due at its end.
use Rattle.std.proofs.Common.{◌≡◌, ℕ, ◌<◌, List, [], length, map, get_or, slice_get, Some, Result, Ok, Err, sym, ap, ◌∙◌, subst, arith}
use Rattle.std.proofs.lemmas.Option.{slice_get-get_or}
use Rattle.std.proofs.lemmas.List.{length-map, get_or-map}
use Rattle.pg_circuit.specs.declared.node.Gate.{Gate}
use Rattle.pg_circuit.specs.declared.node.Node.{Node}
use Rattle.pg_circuit.specs.Nodes.{IsCircuit}
use Rattle.pg_circuit.specs.Grown.{GrowsTo}
use Rattle.pg_vec.specs.Strings.{add_made}
use Rattle.pg_vec.proofs.Kept.{front_same, front_then}
use Rattle.pg_vec.proofs.OpLaws.{add_worth}
use Rattle.pg_cells.specs.declared.cell.Cell.{Cell}
use Rattle.pg_cells.specs.View.{View}
use Rattle.pg_cells.specs.Over.{IsOver}
use Rattle.pg_cells.specs.Made.{touch_made, cells_after}
use Rattle.pg_cells.proofs.TouchLaws.{touches}
use Rattle.pg_cells.proofs.OverLaws.{IsOver-later}
use Rattle.pg_ast.specs.declared.tree.Instr.{Instr}
use Rattle.pg_ast.specs.declared.tree.Desc.{Desc}
use Rattle.pg_lang_meaning.specs.declared.decoder.Decoder.{Decoder}
use Rattle.pg_lang_meaning.specs.Decoders.{decoder_of}
use Rattle.pg_lang_valid.specs.Valid.{IsValid}
use Rattle.pg_lang_valid.specs.Widths.{Keeps, fares_in_order, fare_of, setting_of, width_broken}
use Rattle.pg_lang_valid.proofs.ValidFacts.{IsWidth-word, IsWidth-address}
use Rattle.pg_lang_valid.proofs.PatternFacts.{valid-length}
use Rattle.pg_lang_valid.proofs.StepSound.{no_break}
use Rattle.pg_symex.specs.declared.regs.Regs.{Regs}
use Rattle.pg_symex.specs.declared.run.Run.{Run}
use Rattle.pg_symex.specs.Flow.{SymEntry, SymRun, view_of}
use Rattle.pg_symex.specs.There.{AreBits, sym_setting}
use Rattle.pg_symex.specs.Exprs.{literal_bits}
use Rattle.pg_symex.specs.Stmts.{in_order_made, stmt_made}
use Rattle.pg_symex.specs.Ends.{IsSymRun}
use Rattle.pg_symex.specs.Body.{sym_entry, run_begun, body_made, run_made}
use Rattle.pg_symex.specs.Calls.{widths_of}
use Rattle.pg_symex.specs.RunView.{run_as, IsUnderWay, Fares, IsDone}
use Rattle.pg_symex.specs.Outcome.{IsOutcome, MayRun}
use Rattle.pg_symex.specs.declared.symbolic.SymOutcome.{SymOutcome}
use Rattle.std.specs.Prelude.{IfOk, OnOk}
use Rattle.pg_ast.specs.declared.tree.Stmt.{Stmt}
use Rattle.pg_symex.proofs.ExprForms.{bits-later, regs-later}
use Rattle.pg_symex.proofs.LeafLaws.{length-literal, literal-there}
use Rattle.pg_symex.proofs.OpLaw.{own_width}
use Rattle.pg_symex.proofs.RunLaw.{as_width_none, widths_at}

-- the decoder of an instruction that is found
pub found_decoder : (is all : List Instr) (n : ℕ) (i : Instr) (d : Decoder) → is ≡ all → n < length all → i ≡ get_or is n i →
    slice_get (map (λ j. decoder_of j.pattern.bytes) all) n ≡ Some d → d ≡ decoder_of i.pattern.bytes
found_decoder is all n i d same inside e there =
    let f : Instr → Decoder = λ j. decoder_of j.pattern.bytes in
    let long : n < length (map f all) = omega (arith, length-map all f) in
    let here : Some (get_or (map f all) n d) ≡ Some d = sym (slice_get-get_or (map f all) n d long) ∙ there in
    let got : get_or (map f all) n d ≡ d = cc here in
    sym got ∙ get_or-map f all n i d inside ∙ ap f (ap (λ l. get_or l n i) (sym same) ∙ sym e)

pub found_instr : (is all : List Instr) (n : ℕ) (i : Instr) → is ≡ all → n < length all → i ≡ get_or is n i → slice_get all n ≡ Some i
found_instr is all n i same inside e = slice_get-get_or all n i inside ∙ ap (λ k. Some k) (ap (λ l. get_or l n i) (sym same) ∙ sym e)

-- what is there after the fetch, and after P + 1
pub record Begun (d : Desc) (i : Instr) (at : SymEntry) (n0 n2 : List Node) (t2 : View) (r : Run) : Type 0 where
  pub ready : IsUnderWay at n2 t2 r
  pub fares : Fares (fares_in_order (map (fare_of (sym_setting at)) i.body)) r
  pub front : GrowsTo n0 n2

pub begun : (d : Desc) (i : Instr) (dec : Decoder) (regs : Regs) (n0 n1 n2 : List Node) (t0 t2 : View) (word one p : List Gate) (r : Run) → IsValid d → IsCircuit n0 → MayRun d i dec n0 t0 regs → (word, n1) ≡ touch_made n0 t0 regs.p →
    t2 ≡ record t0 { cells = cells_after n0 t0.w t0.cells regs.p } → one ≡ literal_bits 1 d.address → (p, n2) ≡ add_made n1 regs.p one → ((nodes : List Node) (v : View) → run_as nodes v r ≡ run_begun regs p nodes v.cells v.writes) →
    Begun d i (sym_entry d i regs word) n0 n2 t2 r
begun d i dec regs n0 n1 n2 t0 t2 word one p r valid circuit may tm tc ol am bg =
    let a_width = IsWidth-address d valid in
    let rp = bits-later n0 n0 d.address regs.p (front_same n0) may.are_regs.p in
    let t = touches n0 t0 regs.p circuit may.over rp.there (rp.wide ∙ sym may.address_width) in
    let at = sym_entry d i regs word in
    let f1 : GrowsTo n0 n1 = subst (λ (m : List Gate × List Node). GrowsTo n0 m.1) (sym tm) t.grows.front in
    let c1 : IsCircuit n1 = subst (λ (m : List Gate × List Node). IsCircuit m.1) (sym tm) t.circuit in
    let w1 : AreBits (length n1) d.word word = subst (λ (m : List Gate × List Node). AreBits (length m.1) d.word m.0) (sym tm) (record { there = t.there; wide = t.wide ∙ may.word_width; is_width = IsWidth-word d valid }) in
    let o1 : IsOver n1 t2 = subst (λ (v : View). IsOver n1 v) (sym tc) (subst (λ (m : List Gate × List Node). IsOver m.1 (record t0 { cells = cells_after n0 t0.w t0.cells regs.p })) (sym tm) t.over) in
    let p1 = bits-later n0 n1 d.address regs.p f1 may.are_regs.p in
    let bit : AreBits (length n1) d.address one = subst (λ k. AreBits (length n1) d.address k) (sym ol) (record { there = literal-there d.address 1 (length n1) c1.begun; wide = length-literal d.address 1; is_width = a_width }) in
    let s = add_worth n1 (p, n2) regs.p one c1 p1.there bit.there (p1.wide ∙ sym bit.wide) (own_width _ d.address regs.p p1) (own_width _ d.address one bit) am in
    let f2 = front_then n0 n1 n2 f1 s.adds.front in
    let regs_2 = regs-later n0 n2 d.address regs f2 may.are_regs in
    let view : t2 ≡ view_of at t2.writes t2.cells =
    (let w : t2.w ≡ d.word = ap (λ (v : View). v.w) tc ∙ may.word_width in let a : t2.a ≡ d.address = ap (λ (v : View). v.a) tc ∙ may.address_width in
    ap (λ k. let v : View = record { w = k; a = t2.a; cells = t2.cells; writes = t2.writes } in v) w ∙ ap (λ k. let v : View = record { w = d.word; a = k; cells = t2.cells; writes = t2.writes } in v) a) in
    let there : IsSymRun at (run_begun regs p n2 t2.cells t2.writes) [] = record {
      flow = record { circuit = s.circuit; over = subst (λ (v : View). IsOver n2 v) view (IsOver-later n1 n2 t2 s.adds.front o1); live = s.circuit.begun; mem_trap = s.circuit.begun };
      trap = s.circuit.begun;
      next = record { mode = regs_2.mode; p = record { there = s.there; wide = s.wide ∙ p1.wide; is_width = a_width }; l = regs_2.l; b = regs_2.b };
      lets = tt;
    } in
    let none : r.lets ≡ [] = ap (λ (k : SymRun). k.lets) (bg n2 t2) in
    let fare = no_break (fares_in_order (map (fare_of (setting_of d i)) i.body) 0 []) (widths_at d 0 d.instrs may.number i (as_width_none (width_broken d 0 d.instrs) valid.widths) may.found) in
    record {
      ready = record {
        entry = record { regs = regs_2; word = bits-later n1 n2 d.word word s.adds.front w1; pattern = valid-length d may.number i valid may.found };
        view = view;
        run = subst (λ ls. IsSymRun at (run_as n2 t2 r) (widths_of ls)) (sym none) (subst (λ (k : SymRun). IsSymRun at k []) (sym (bg n2 t2)) there);
      };
      fares = record { place = 0; then_place = fare.0; after = fare.1; keeps = subst (λ ls. fares_in_order (map (fare_of (setting_of d i)) i.body) 0 (widths_of ls) ≡ Keeps fare.0 fare.1) (sym none) fare.2 };
      front = f2;
    }

-- what the whole is due to make
pub run_done : (d : Desc) (i : Instr) (dec : Decoder) (regs : Regs) (n0 n1 n2 n3 : List Node) (t0 t2 t3 : View) (word one p : List Gate) (r q : Run) → MayRun d i dec n0 t0 regs → (word, n1) ≡ touch_made n0 t0 regs.p →
    t2 ≡ record t0 { cells = cells_after n0 t0.w t0.cells regs.p } → one ≡ literal_bits 1 d.address → (p, n2) ≡ add_made n1 regs.p one → ((nodes : List Node) (v : View) → run_as nodes v r ≡ run_begun regs p nodes v.cells v.writes) →
    IsDone (in_order_made (map stmt_made i.body) (sym_entry d i regs word) (run_as n2 t2 r)) t2 n3 t3 q → run_as n3 t3 q ≡ run_made d i regs n0 t0.cells t0.writes
unfolding run_made body_made
run_done d i dec regs n0 n1 n2 n3 t0 t2 t3 word one p r q may tm tc ol am bg done =
    let at = sym_entry d i regs word in
    let view : t0 ≡ (let v : View = record { w = d.word; a = d.address; cells = t0.cells; writes = t0.writes } in v) =
    ap (λ k. let v : View = record { w = k; a = t0.a; cells = t0.cells; writes = t0.writes } in v) may.word_width ∙ ap (λ k. let v : View = record { w = d.word; a = k; cells = t0.cells; writes = t0.writes } in v) may.address_width in
    let cells : t2.cells ≡ cells_after n0 d.word t0.cells regs.p = ap (λ (v : View). v.cells) tc ∙ ap (λ k. cells_after n0 k t0.cells regs.p) may.word_width in
    let body : List Gate → SymRun → SymRun = λ w k. in_order_made (map stmt_made i.body) (sym_entry d i regs w) k in
    done.made
    ∙ ap (body word) (bg n2 t2)
    ∙ ap (λ (cs : List Cell). body word (run_begun regs p n2 cs t2.writes)) cells
    ∙ ap (λ ws. body word (run_begun regs p n2 (cells_after n0 d.word t0.cells regs.p) ws)) (ap (λ (v : View). v.writes) tc)
    ∙ ap (λ (m : List Gate × List Node). body word (run_begun regs m.0 m.1 (cells_after n0 d.word t0.cells regs.p) t0.writes)) (am ∙ ap (λ k. add_made n1 regs.p k) ol)
    ∙ ap (λ (m : List Gate × List Node). (let k : List Gate × List Node = add_made m.1 regs.p (literal_bits 1 d.address) in body m.0 (run_begun regs k.0 k.1 (cells_after n0 d.word t0.cells regs.p) t0.writes))) (tm ∙ ap (λ (v : View). touch_made n0 v regs.p) view)

pub outcome_as : (r due : SymRun) (nodes : List Node) (t : View) (o : SymOutcome) → r ≡ due → IsOutcome r nodes t o → IsOutcome due nodes t o
outcome_as r due nodes t o e h = subst (λ (k : SymRun). IsOutcome k nodes t o) e h

-- touched cells with no write, of a machine's widths
pub over_as : (nodes : List Node) (t : View) (w a : ℕ) → t.w ≡ w → t.a ≡ a → t.writes ≡ [] → IsOver nodes t → IsOver nodes (record { w = w; a = a; cells = t.cells; writes = [] })
over_as nodes t w a e f g h =
    let is : t ≡ (let v : View = record { w = w; a = a; cells = t.cells; writes = [] } in v) =
    ap (λ k. let v : View = record { w = k; a = t.a; cells = t.cells; writes = t.writes } in v) e
    ∙ ap (λ k. let v : View = record { w = w; a = k; cells = t.cells; writes = t.writes } in v) f
    ∙ ap (λ ws. let v : View = record { w = w; a = a; cells = t.cells; writes = ws } in v) g in
    subst (λ (v : View). IsOver nodes v) is h

-- an entry of numbers and a pattern that are those of the description and the instruction
pub entry_is : (d : Desc) (i : Instr) (regs : Regs) (word : List Gate) (w a : ℕ) (pattern : List ℕ) → w ≡ d.word → a ≡ d.address → pattern ≡ i.pattern.bytes →
    (let at : SymEntry = record { w = w; a = a; regs = regs; pattern = pattern; word = word } in at) ≡ sym_entry d i regs word
entry_is d i regs word w a pattern e f g =
    ap (λ k. let at : SymEntry = record { w = k; a = a; regs = regs; pattern = pattern; word = word } in at) e
    ∙ ap (λ k. let at : SymEntry = record { w = d.word; a = k; regs = regs; pattern = pattern; word = word } in at) f
    ∙ ap (λ k. let at : SymEntry = record { w = d.word; a = d.address; regs = regs; pattern = k; word = word } in at) g

pub ready_as : (at due : SymEntry) (nodes : List Node) (t : View) (r : Run) → at ≡ due → IsUnderWay due nodes t r → IsUnderWay at nodes t r
ready_as at due nodes t r e h = subst (λ (k : SymEntry). IsUnderWay k nodes t r) (sym e) h

pub fares_as : (at due : SymEntry) (ss body : List Stmt) (r : Run) → at ≡ due → ss ≡ body → Fares (fares_in_order (map (fare_of (sym_setting due)) body)) r → Fares (fares_in_order (map (fare_of (sym_setting at)) ss)) r
fares_as at due ss body r e f h =
    subst (λ (k : SymEntry). Fares (fares_in_order (map (fare_of (sym_setting k)) ss)) r) (sym e) (subst (λ (k : List Stmt). Fares (fares_in_order (map (fare_of (sym_setting due)) k)) r) (sym f) h)

pub done_as : (at due : SymEntry) (ss body : List Stmt) (first : SymRun) (t0 : View) (nodes : List Node) (t : View) (r : Run) → at ≡ due → ss ≡ body → IsDone (in_order_made (map stmt_made ss) at first) t0 nodes t r → IsDone (in_order_made (map stmt_made body) due first) t0 nodes t r
done_as at due ss body first t0 nodes t r e f h =
    subst (λ (k : SymEntry). IsDone (in_order_made (map stmt_made body) k first) t0 nodes t r) e (subst (λ (k : List Stmt). IsDone (in_order_made (map stmt_made k) at first) t0 nodes t r) f h)

pub outcome_done : {E : Type 0} (res : Result SymOutcome E) (due : SymRun) (nodes : List Node) (t : View) (q : Run) → run_as nodes t q ≡ due → IfOk res (λ o. (ns : List Node) → IsOutcome (run_as ns t q) ns t o) → IfOk res (λ o. IsOutcome due nodes t o)
outcome_done (Ok o) due nodes t q e h = outcome_as (run_as nodes t q) due nodes t o e (h nodes)
outcome_done (Err x) due nodes t q e h = tt

-- the same of the instruction that is found
pub outcome_found : {E : Type 0} (res : Result SymOutcome E) (d : Desc) (k : ℕ) (j : Instr) (regs : Regs) (n0 nodes : List Node) (t0 t : View) → slice_get d.instrs k ≡ Some j →
    IfOk res (λ o. IsOutcome (run_made d j regs n0 t0.cells t0.writes) nodes t o) → IfOk res (λ o. (i : Instr) → slice_get d.instrs k ≡ Some i → IsOutcome (run_made d i regs n0 t0.cells t0.writes) nodes t o)
outcome_found (Ok o) d k j regs n0 nodes t0 t found h = λ i at.
    let same : j ≡ i = cc (found, at) in
    subst (λ (z : Instr). IsOutcome (run_made d z regs n0 t0.cells t0.writes) nodes t o) same h
outcome_found (Err x) d k j regs n0 nodes t0 t found h = tt

-- of touched cells the cells and the writes alone have changed, by a touch and then a body
pub view_done : {O E : Type 0} (res : Result O E) (due : SymRun) (nodes : List Node) (t0 t1 t : View) (cells : List Cell) (r : Run) → t1 ≡ record t0 { cells = cells } → IsDone due t1 nodes t r →
    OnOk res (t ≡ record t0 { cells = t.cells; writes = t.writes })
view_done (Ok o) due nodes t0 t1 t cells r e h = h.view ∙ ap (λ (v : View). let k : View = record v { cells = t.cells; writes = t.writes } in k) e
view_done (Err x) due nodes t0 t1 t cells r e h = tt
