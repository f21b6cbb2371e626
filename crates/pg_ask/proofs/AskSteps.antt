-- A question in code is the one that is defined.
use Rattle.std.proofs.Common.{◌≡◌, ℕ, zero, suc, ℤ, List, [], ◌∷◌, length, get_or, slice_get, Some, refl, sym, ap, ◌∙◌, subst}
use Rattle.pg_circuit.specs.declared.node.Gate.{Gate}
use Rattle.pg_circuit.specs.declared.node.Node.{Node}
use Rattle.pg_circuit.specs.declared.node.Node.TheVariants.{Constant}
use Rattle.pg_cells.specs.declared.cell.Cell.{Cell}
use Rattle.pg_cells.specs.View.{View}
use Rattle.pg_cells.specs.Made.{touch_made, cells_after}
use Rattle.pg_ast.specs.declared.tree.Instr.{Instr}
use Rattle.pg_ast.specs.declared.tree.Desc.{Desc}
use Rattle.pg_word.specs.declared.shape.Shape.{Shape}
use Rattle.pg_lang_meaning.specs.States.{shape_of}
use Rattle.pg_lang_valid.specs.Valid.{IsValid}
use Rattle.pg_word.specs.Bits.{IsWidth}
use Rattle.pg_vec.specs.There.{AreThere}
use Rattle.pg_lang_valid.proofs.ValidFacts.{IsWidth-word}
use Rattle.pg_lang_valid.proofs.PatternFacts.{valid-length}
use Rattle.pg_cnf.specs.Encoded.{clauses_of}
use Rattle.pg_symex.proofs.RunLaw.{all_run_right}
use Rattle.pg_type.specs.declared.kind.Kind.{Kind}
use Rattle.pg_symex.specs.There.{AreBits}
use Rattle.pg_ask.specs.declared.unknowns.Unknowns.{Unknowns}
use Rattle.pg_ask.specs.declared.ends.BothEnds.{BothEnds}
use Rattle.pg_ask.specs.Unknowns.{unknowns_made}
use Rattle.pg_ask.specs.There.{AreUnknowns, AreEnd}
use Rattle.pg_ask.specs.Fits.{fits_made}
use Rattle.pg_ask.specs.Ends.{view_for, Both, both_made}
use Rattle.pg_ask.specs.Ended.{AreBoth, AreEnds, IsRoot, AreWritten}
use Rattle.pg_ask.specs.Question.{Begun, begun_made, Question, root_made, question_made, question}
use Rattle.pg_ask.specs.Asked.{Decides, IsQuestionOf}
use Rattle.pg_ask.proofs.ExactLaw.{questions-exact}

-- ends whose words have the width of the first one's
pub first_end : (places w a : ℕ) (e : BothEnds) → AreEnds places w a e → AreEnd places (length e.first.word) a e.first
first_end places w a e h = subst (λ k. AreEnd places k a e.first) (sym h.first.word.wide) h.first

pub second_end : (places w a : ℕ) (e : BothEnds) → AreEnds places w a e → AreEnd places (length e.first.word) a e.second
second_end places w a e h = subst (λ k. AreEnd places k a e.second) (sym h.first.word.wide) h.second

begun_step : (d : Desc) (kind : Kind) (n1 n2 : List Node) (u : Unknowns) (word : List Gate) (t0 t1 : View) → (u, n1) ≡ unknowns_made kind d.address (Constant ∷ []) → t0 ≡ view_for d [] [] → (word, n2) ≡ touch_made n1 t0 u.p →
    t1 ≡ record t0 { cells = cells_after n1 t0.w t0.cells u.p } → (let b : Begun = record { unknowns = u; word = word; nodes = n2; cells = t1.cells } in b) ≡ begun_made d kind
unfolding begun_made
begun_step d kind n1 n2 u word t0 t1 eu ev ew ec =
    let of : Unknowns × List Node → Begun = λ m. (let t = touch_made m.1 (view_for d [] []) m.0.p in record { unknowns = m.0; word = t.0; nodes = t.1; cells = cells_after m.1 d.word [] m.0.p }) in
    let touched : (word, n2) ≡ touch_made n1 (view_for d [] []) u.p = ew ∙ ap (λ (x : View). touch_made n1 x u.p) ev in
    let cells : t1.cells ≡ cells_after n1 d.word [] u.p = ap (λ (x : View). x.cells) ec ∙ ap (λ (x : View). cells_after n1 x.w x.cells u.p) ev in
    let here : (let b : Begun = record { unknowns = u; word = word; nodes = n2; cells = t1.cells } in b) ≡ of (u, n1) =
    (let nodes : n2 ≡ (touch_made n1 (view_for d [] []) u.p).1 = ap (λ (p : List Gate × List Node). p.1) touched in
    let bits : word ≡ (touch_made n1 (view_for d [] []) u.p).0 = ap (λ (p : List Gate × List Node). p.0) touched in
    λ j. record { unknowns = u; word = bits j; nodes = nodes j; cells = cells j }) in
    here ∙ ap of eu

-- the root of runs that are what is due
pub rooted_step : (kind : Kind) (u : Unknowns) (v : List Gate) (fits : Gate) (due : Both) (e : BothEnds)
    (root : Gate) (n4 n5 : List Node) (cells : List Cell) → AreBoth due e n4 cells →
    (root, n5) ≡ root_made kind u v fits n4 cells e.first e.second →
    IsRoot kind u v fits due root n5 cells
rooted_step kind u v fits due e root n4 n5 cells eb er =
    let whole : root_made kind u v fits n4 cells e.first e.second ≡
    root_made kind u v fits due.nodes due.cells due.first due.second =
    (λ j. root_made kind u v fits (eb.nodes_are j) (eb.cells_are j) (eb.first_is j) (eb.second_is j)) in
    record { root_is = er ∙ whole; cells_are = eb.cells_are }

-- the clauses of that root
pub written_step : (kind : Kind) (u : Unknowns) (v : List Gate) (fits : Gate) (due : Both) (root : Gate)
    (nodes : List Node) (cells : List Cell) (clauses : List (List ℤ)) →
    IsRoot kind u v fits due root nodes cells → clauses ≡ clauses_of nodes root → AreWritten kind u v fits due clauses cells
written_step kind u v fits due root nodes cells clauses r e = record {
  clauses_are = e ∙ ap (λ (m : Gate × List Node). clauses_of m.1 m.0) r.root_is;
  cells_are = r.cells_are;
}

-- what was asked
pub drawn_step : (d : Desc) (i : Instr) (kind : Kind) (n1 n3 : List Node) (u : Unknowns) (usable : List Gate)
    (gate : Gate) (t0 t1 : View) (cells : List Cell) (clauses : List (List ℤ)) →
    (u, n1) ≡ unknowns_made kind d.address (Constant ∷ []) → t0 ≡ view_for d [] [] →
    (let t = touch_made n1 t0 u.p in ((usable, gate), n3) ≡ fits_made d i kind u t.0 t.1) →
    t1 ≡ record t0 { cells = cells_after n1 t0.w t0.cells u.p } →
    AreWritten kind u usable gate (both_made d i u usable n3 t1.cells) clauses cells →
    IsQuestionOf d i kind clauses u usable cells
unfolding question_made
drawn_step d i kind n1 n3 u usable gate t0 t1 cells clauses eu ev ef ec er =
    let q4 : Begun → (List Gate × Gate) × List Node → Both → Question = λ b f both.
    (let r = root_made kind b.unknowns f.0.0 f.0.1 both.nodes both.cells both.first both.second in
    record { nodes = r.1; root = r.0; unknowns = b.unknowns; usable = f.0.0; cells = both.cells }) in
    let q3 : Begun → (List Gate × Gate) × List Node → Question = λ b f. q4 b f (both_made d i b.unknowns f.0.0 f.1 b.cells) in
    let q2 : Begun → Question = λ b. q3 b (fits_made d i kind b.unknowns b.word b.nodes) in
    let m = touch_made n1 t0 u.p in
    let b : Begun = record { unknowns = u; word = m.0; nodes = m.1; cells = t1.cells } in
    let e : q3 b ((usable, gate), n3) ≡ question_made d i kind =
    ap (q3 b) ef ∙ ap q2 (begun_step d kind n1 m.1 u m.0 t0 t1 eu ev refl ec) in
    record {
      clauses_are = er.clauses_are ∙ ap (λ (q : Question). clauses_of q.nodes q.root) e;
      unknowns = ap (λ (q : Question). q.unknowns) e;
      usable_are = ap (λ (q : Question). q.usable) e;
      cells_are = er.cells_are ∙ ap (λ (q : Question). q.cells) e;
    }

-- ---- the parts of a question

pub begun_view : (d : Desc) (s : Shape) (t0 : View) → t0 ≡ (let v : View = record { w = s.w; a = s.a; cells = []; writes = [] } in v) → s ≡ shape_of d → t0 ≡ view_for d [] []
begun_view d s t0 e es = e ∙ ap (λ (z : Shape). let v : View = record { w = z.w; a = z.a; cells = []; writes = [] } in v) es

pub touched_view : (d : Desc) (t0 t1 : View) (cells : List Cell) → t0 ≡ view_for d [] [] → t1 ≡ record t0 { cells = cells } → t1 ≡ view_for d t1.cells []
touched_view d t0 t1 cells v e =
    let width : t1.w ≡ d.word = ap (λ (x : View). x.w) e ∙ ap (λ (x : View). x.w) v in
    let address : t1.a ≡ d.address = ap (λ (x : View). x.a) e ∙ ap (λ (x : View). x.a) v in
    let writes : t1.writes ≡ [] = ap (λ (x : View). x.writes) e ∙ ap (λ (x : View). x.writes) v in
    λ j. record { w = width j; a = address j; cells = t1.cells; writes = writes j }

pub found_at : (is : List Instr) (k : ℕ) (d i : Instr) → slice_get is k ≡ Some i → get_or is k d ≡ i
found_at [] k d i e = absurd (cc e)
found_at (x ∷ is) zero d i e = cc e
found_at (x ∷ is) (suc k) d i e = found_at is k d i e

pub unknowns_width : (places a b : ℕ) (u : Unknowns) → a ≡ b → AreUnknowns places a u → AreUnknowns places b u
unknowns_width places a b u e h = subst (λ k. AreUnknowns places k u) e h

pub decides : (d : Desc) (k : ℕ) (i : Instr) (kind : Kind) (clauses : List (List ℤ)) → IsValid d → slice_get d.instrs k ≡ Some i → clauses ≡ question d i kind → Decides d i kind clauses
decides d k i kind clauses valid here e = subst (λ cs. Decides d i kind cs) (sym e) (questions-exact d (all_run_right d) k i kind valid here)

pub width_is : (places n : ℕ) (xs : List Gate) → AreBits places n xs → AreBits places (length xs) xs
width_is places n xs h = subst (λ k. AreBits places k xs) (sym h.wide) h

pub ends_width : (places w x a b : ℕ) (e : BothEnds) → w ≡ x → a ≡ b → AreEnds places w a e → AreEnds places x b e
ends_width places w x a b e ew ea h = subst (λ k. AreEnds places x k e) ea (subst (λ k. AreEnds places k a e) ew h)

-- the word at P, of the width of an instruction's pattern
pub word_bits : (d : Desc) (k : ℕ) (i : Instr) (places w : ℕ) (word : List Gate) → IsValid d → slice_get d.instrs k ≡ Some i → AreThere places word → length word ≡ w → w ≡ d.word → AreBits places (length i.pattern.bytes) word
word_bits d k i places w word valid here t e ew =
    let n = valid-length d k i valid here in
    record { there = t; wide = e ∙ ew ∙ sym n; is_width = subst IsWidth (sym n) (IsWidth-word d valid) }

pub unknowns_as_due : (kind : Kind) (a b : ℕ) (n0 n1 ns : List Node) (u : Unknowns) → a ≡ b → n0 ≡ ns → (u, n1) ≡ unknowns_made kind a n0 → (u, n1) ≡ unknowns_made kind b ns
unknowns_as_due kind a b n0 n1 ns u ea en e = e ∙ ap (λ k. unknowns_made kind k n0) ea ∙ ap (λ k. unknowns_made kind b k) en

-- what fits the instruction that was found fits the one with its number
pub fitted_as : (d : Desc) (k : ℕ) (kind : Kind) (body : Instr) (n1 n2 n3 : List Node) (u : Unknowns)
    (word usable : List Gate) (gate : Gate)
    (t0 : View) → slice_get d.instrs k ≡ Some body → (word, n2) ≡ touch_made n1 t0 u.p →
    ((usable, gate), n3) ≡ fits_made d body kind u word n2 → (i : Instr) → slice_get d.instrs k ≡ Some i →
    (let t = touch_made n1 t0 u.p in ((usable, gate), n3) ≡ fits_made d i kind u t.0 t.1)
fitted_as d k kind body n1 n2 n3 u word usable gate t0 found ew ef i here =
    let both : Some body ≡ Some i = sym found ∙ here in
    let same : body ≡ i = cc both in
    ef ∙ ap (λ z. fits_made d z kind u word n2) same
    ∙ ap (λ (m : List Gate × List Node). fits_made d i kind u m.0 m.1) ew
