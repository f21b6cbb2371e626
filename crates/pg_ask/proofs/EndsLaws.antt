-- What the gates are worth that runs end as a kind asks.
use Rattle.std.proofs.Common.{ℕ, nat_lt, nat_eq, Bool, true, not, ◌&&◌, ◌||◌, List, length, sym, ◌∙◌}
use Rattle.pg_circuit.specs.declared.node.Gate.{Gate}
use Rattle.pg_circuit.specs.declared.node.Node.{Node}
use Rattle.pg_circuit.specs.Nodes.{IsCircuit}
use Rattle.pg_circuit.specs.Values.{differ, gate_value}
use Rattle.pg_circuit.specs.Made.{constant_gate, not_gate, and_made, xor_made}
use Rattle.pg_vec.specs.Number.{number}
use Rattle.pg_vec.specs.Gates.{or_made}
use Rattle.pg_vec.specs.Strings.{same_made}
use Rattle.pg_vec.proofs.Kept.{front_then, there_later, all_there_later, xor-makes}
use Rattle.pg_type.specs.declared.kind.Kind.{Kind}
use Rattle.pg_type.specs.declared.kind.Kind.TheVariants.{Privileged, Control, ModeDep, Location, Bound, UControl, ULocation, UBound}
use Rattle.pg_symex.specs.There.{AreBits}
use Rattle.pg_ask.specs.declared.unknowns.Unknowns.{Unknowns}
use Rattle.pg_ask.specs.declared.ends.End.{End}
use Rattle.pg_ask.specs.There.{AreUnknowns, AreEnd}
use Rattle.pg_ask.specs.Fits.{alike_made}
use Rattle.pg_ask.specs.Ends.{done_made, control_made, seen_apart_made, broken_made, mode_made, either_made, ends_made}
use Rattle.pg_ask.proofs.Made.{GateIs, gate-of, then-gate, and-is, and_not-is, not_and_not-is, or-is, not_or-is, equal-is, below_made, below-is}
use Rattle.pg_ask.proofs.FitsLaws.{alike-is}
use Rattle.pg_ask.proofs.ThereLaws.{unknowns_on, end_on}

-- ---- as tests

abbrev pub done_of : (mem_trap trap : Bool) → Bool
done_of mem_trap trap = not mem_trap && not trap

-- mode and R are as they were
abbrev pub stays_of : Unknowns → End → List Bool → Bool
stays_of u e v = (nat_eq (number v e.mode) (number v u.first_mode) && nat_eq (number v e.l) (number v u.first_l)) && nat_eq (number v e.b) (number v u.first_b)

-- P or the word at the compared address differs
abbrev pub seen_apart_of : Unknowns → List Gate → (first second : End) → List Bool → Bool
seen_apart_of u usable e f v = not (nat_eq (number v e.p) (number v f.p)) || (nat_lt (number v u.compared) (number v usable) && not (nat_eq (number v e.word) (number v f.word)))

abbrev pub ends_of : Kind → (first_mem_trap first_trap second_mem_trap second_trap stays apart : Bool) → Bool
ends_of Privileged m t n s stays apart = done_of n s || (t && not n)
ends_of Control m t n s stays apart = done_of m t && not stays
ends_of ModeDep m t n s stays apart = done_of n s && (not (done_of m t) || apart)
ends_of Location m t n s stays apart = differ (done_of m t) (done_of n s) || ((done_of m t && done_of n s) && apart)
ends_of Bound m t n s stays apart = differ (done_of m t) (done_of n s) || ((done_of m t && done_of n s) && apart)
ends_of UControl m t n s stays apart = done_of m t && not stays
ends_of ULocation m t n s stays apart = differ (done_of m t) (done_of n s) || ((done_of m t && done_of n s) && apart)
ends_of UBound m t n s stays apart = differ (done_of m t) (done_of n s) || ((done_of m t && done_of n s) && apart)

-- ---- as gates

abbrev done_at : End → List Bool → Bool
done_at e v = done_of (gate_value v e.mem_trap) (gate_value v e.trap)

pub done-is : (nodes : List Node) (w a : ℕ) (e : End) → IsCircuit nodes → AreEnd (length nodes) w a e → GateIs nodes (done_made nodes e) (λ v. done_at e v)
done-is nodes w a e h t = not_and_not-is nodes e.mem_trap e.trap h t.mem_trap t.trap

pub control-is : (nodes : List Node) (w a : ℕ) (u : Unknowns) (e : End) → IsCircuit nodes → AreUnknowns (length nodes) a u → AreEnd (length nodes) w a e →
    GateIs nodes (control_made nodes u e) (λ v. done_at e v && not (stays_of u e v))
unfolding control_made
control-is nodes w a u e h un t =
    let done = done_made nodes e in
    let s1 = done-is nodes w a e h t in
    let n1 = done.1 in
    let u1 = unknowns_on nodes n1 a u s1.front un in
    let t1 = end_on nodes n1 w a e s1.front t in
    let mode = same_made n1 (constant_gate true) e.mode u.first_mode in
    let s2 = equal-is n1 e.mode u.first_mode s1.circuit t1.mode.there u1.first_mode.there (t.mode.wide ∙ sym un.first_mode.wide) in
    let n2 = mode.1 in
    let f2 = front_then nodes n1 n2 s1.front s2.front in
    let u2 = unknowns_on nodes n2 a u f2 un in
    let t2 = end_on nodes n2 w a e f2 t in
    let l = alike_made n2 mode.0 e.l u.first_l in
    let s3 = alike-is n2 mode.0 e.l u.first_l s2.circuit s2.there t2.l.there u2.first_l.there (t.l.wide ∙ sym un.first_l.wide) in
    let n3 = l.1 in
    let f3 = front_then nodes n2 n3 f2 s3.front in
    let u3 = unknowns_on nodes n3 a u f3 un in
    let t3 = end_on nodes n3 w a e f3 t in
    let b = alike_made n3 l.0 e.b u.first_b in
    let s4 = alike-is n3 l.0 e.b u.first_b s3.circuit s3.there t3.b.there u3.first_b.there (t.b.wide ∙ sym un.first_b.wide) in
    let n4 = b.1 in
    let g12 = front_then n1 n2 n3 s2.front s3.front in
    let g14 = front_then n1 n3 n4 g12 s4.front in
    let s5 = and_not-is n4 done.0 b.0 s4.circuit (there_later n1 n4 done.0 g14 s1.there) s4.there in
    let r = and_made n4 done.0 (not_gate b.0) in
    let same_mode : List Bool → Bool = λ v. nat_eq (number v e.mode) (number v u.first_mode) in
    let same_l : List Bool → Bool = λ v. nat_eq (number v e.l) (number v u.first_l) in
    let same_b : List Bool → Bool = λ v. nat_eq (number v e.b) (number v u.first_b) in
    let r4 = then-gate n3 b r (λ v. gate_value v l.0 && same_b v) (λ v k. gate_value v done.0 && not k) s4 s5 in
    let r3 = then-gate n2 l r (λ v. gate_value v mode.0 && same_l v) (λ v k. gate_value v done.0 && not (k && same_b v)) s3 r4 in
    let r2 = then-gate n1 mode r same_mode (λ v k. gate_value v done.0 && not ((k && same_l v) && same_b v)) s2 r3 in
    then-gate nodes done r (λ v. done_at e v) (λ v k. k && not (stays_of u e v)) s1 r2

pub apart-is : (nodes : List Node) (w a : ℕ) (u : Unknowns) (usable : List Gate) (e f : End) → IsCircuit nodes → AreUnknowns (length nodes) a u → AreBits (length nodes) a usable → AreEnd (length nodes) w a e → AreEnd (length nodes) w a f →
    GateIs nodes (seen_apart_made nodes u usable e f) (λ v. seen_apart_of u usable e f v)
unfolding seen_apart_made
apart-is nodes w a u usable e f h un us te tf =
    let p = same_made nodes (constant_gate true) e.p f.p in
    let s1 = equal-is nodes e.p f.p h te.p.there tf.p.there (te.p.wide ∙ sym tf.p.wide) in
    let n1 = p.1 in
    let e1 = end_on nodes n1 w a e s1.front te in
    let f1 = end_on nodes n1 w a f s1.front tf in
    let word = same_made n1 (constant_gate true) e.word f.word in
    let s2 = equal-is n1 e.word f.word s1.circuit e1.word.there f1.word.there (te.word.wide ∙ sym tf.word.wide) in
    let n2 = word.1 in
    let g2 = front_then nodes n1 n2 s1.front s2.front in
    let u2 = unknowns_on nodes n2 a u g2 un in
    let inside = below_made n2 u.compared usable in
    let s3 = below-is n2 u.compared usable s2.circuit u2.compared.there (all_there_later nodes n2 usable g2 us.there) (un.compared.wide ∙ sym us.wide) in
    let n3 = inside.1 in
    let odd = and_made n3 inside.0 (not_gate word.0) in
    let s4 = and_not-is n3 inside.0 word.0 s3.circuit s3.there (there_later n2 n3 word.0 s3.front s2.there) in
    let n4 = odd.1 in
    let g14 = front_then n1 n3 n4 (front_then n1 n2 n3 s2.front s3.front) s4.front in
    let s5 = not_or-is n4 p.0 odd.0 s4.circuit (there_later n1 n4 p.0 g14 s1.there) s4.there in
    let r = or_made n4 (not_gate p.0) odd.0 in
    let is_inside : List Bool → Bool = λ v. nat_lt (number v u.compared) (number v usable) in
    let same_word : List Bool → Bool = λ v. nat_eq (number v e.word) (number v f.word) in
    let r4 = then-gate n3 odd r (λ v. gate_value v inside.0 && not (gate_value v word.0)) (λ v k. not (gate_value v p.0) || k) s4 s5 in
    let r3 = then-gate n2 inside r is_inside (λ v k. not (gate_value v p.0) || (k && not (gate_value v word.0))) s3 r4 in
    let r2 = then-gate n1 word r same_word (λ v k. not (gate_value v p.0) || (is_inside v && not k)) s2 r3 in
    then-gate nodes p r (λ v. nat_eq (number v e.p) (number v f.p)) (λ v k. not k || (is_inside v && not (same_word v))) s1 r2

pub broken-is : (nodes : List Node) (w a : ℕ) (e f : End) → IsCircuit nodes → AreEnd (length nodes) w a e → AreEnd (length nodes) w a f →
    GateIs nodes (broken_made nodes e f) (λ v. done_at f v || (gate_value v e.trap && not (gate_value v f.mem_trap)))
unfolding broken_made
broken-is nodes w a e f h te tf =
    let done = done_made nodes f in
    let s1 = done-is nodes w a f h tf in
    let n1 = done.1 in
    let e1 = end_on nodes n1 w a e s1.front te in
    let f1 = end_on nodes n1 w a f s1.front tf in
    let odd = and_made n1 e.trap (not_gate f.mem_trap) in
    let s2 = and_not-is n1 e.trap f.mem_trap s1.circuit e1.trap f1.mem_trap in
    let n2 = odd.1 in
    let s3 = or-is n2 done.0 odd.0 s2.circuit (there_later n1 n2 done.0 s2.front s1.there) s2.there in
    let r = or_made n2 done.0 odd.0 in
    let is_odd : List Bool → Bool = λ v. gate_value v e.trap && not (gate_value v f.mem_trap) in
    let r2 = then-gate n1 odd r is_odd (λ v k. gate_value v done.0 || k) s2 s3 in
    then-gate nodes done r (λ v. done_at f v) (λ v k. k || is_odd v) s1 r2

pub mode-is : (nodes : List Node) (w a : ℕ) (u : Unknowns) (usable : List Gate) (e f : End) → IsCircuit nodes → AreUnknowns (length nodes) a u → AreBits (length nodes) a usable → AreEnd (length nodes) w a e → AreEnd (length nodes) w a f →
    GateIs nodes (mode_made nodes u usable e f) (λ v. done_at f v && (not (done_at e v) || seen_apart_of u usable e f v))
unfolding mode_made
mode-is nodes w a u usable e f h un us te tf =
    let first = done_made nodes e in
    let s1 = done-is nodes w a e h te in
    let n1 = first.1 in
    let f1 = end_on nodes n1 w a f s1.front tf in
    let second = done_made n1 f in
    let s2 = done-is n1 w a f s1.circuit f1 in
    let n2 = second.1 in
    let g2 = front_then nodes n1 n2 s1.front s2.front in
    let apart = seen_apart_made n2 u usable e f in
    let s3 = apart-is n2 w a u usable e f s2.circuit (unknowns_on nodes n2 a u g2 un) (record { there = all_there_later nodes n2 usable g2 us.there; wide = us.wide; is_width = us.is_width }) (end_on nodes n2 w a e g2 te) (end_on nodes n2 w a f g2 tf) in
    let n3 = apart.1 in
    let g13 = front_then n1 n2 n3 s2.front s3.front in
    let other = or_made n3 (not_gate first.0) apart.0 in
    let s4 = not_or-is n3 first.0 apart.0 s3.circuit (there_later n1 n3 first.0 g13 s1.there) s3.there in
    let n4 = other.1 in
    let g24 = front_then n2 n3 n4 s3.front s4.front in
    let s5 = and-is n4 second.0 other.0 s4.circuit (there_later n2 n4 second.0 g24 s2.there) s4.there in
    let r = and_made n4 second.0 other.0 in
    let r4 = then-gate n3 other r (λ v. not (gate_value v first.0) || gate_value v apart.0) (λ v k. gate_value v second.0 && k) s4 s5 in
    let r3 = then-gate n2 apart r (λ v. seen_apart_of u usable e f v) (λ v k. gate_value v second.0 && (not (gate_value v first.0) || k)) s3 r4 in
    let r2 = then-gate n1 second r (λ v. done_at f v) (λ v k. k && (not (gate_value v first.0) || seen_apart_of u usable e f v)) s2 r3 in
    then-gate nodes first r (λ v. done_at e v) (λ v k. done_at f v && (not k || seen_apart_of u usable e f v)) s1 r2

pub either-is : (nodes : List Node) (w a : ℕ) (u : Unknowns) (usable : List Gate) (e f : End) → IsCircuit nodes → AreUnknowns (length nodes) a u → AreBits (length nodes) a usable → AreEnd (length nodes) w a e → AreEnd (length nodes) w a f →
    GateIs nodes (either_made nodes u usable e f) (λ v. differ (done_at e v) (done_at f v) || ((done_at e v && done_at f v) && seen_apart_of u usable e f v))
unfolding either_made
either-is nodes w a u usable e f h un us te tf =
    let first = done_made nodes e in
    let s1 = done-is nodes w a e h te in
    let n1 = first.1 in
    let f1 = end_on nodes n1 w a f s1.front tf in
    let second = done_made n1 f in
    let s2 = done-is n1 w a f s1.circuit f1 in
    let n2 = second.1 in
    let g2 = front_then nodes n1 n2 s1.front s2.front in
    let apart = seen_apart_made n2 u usable e f in
    let s3 = apart-is n2 w a u usable e f s2.circuit (unknowns_on nodes n2 a u g2 un) (record { there = all_there_later nodes n2 usable g2 us.there; wide = us.wide; is_width = us.is_width }) (end_on nodes n2 w a e g2 te) (end_on nodes n2 w a f g2 tf) in
    let n3 = apart.1 in
    let g23 = s3.front in
    let g13 = front_then n1 n2 n3 s2.front s3.front in
    let first_3 = there_later n1 n3 first.0 g13 s1.there in
    let second_3 = there_later n2 n3 second.0 g23 s2.there in
    let one = xor_made n3 first.0 second.0 in
    let s4 = gate-of n3 one 1 (λ v. differ (gate_value v first.0) (gate_value v second.0)) (xor-makes n3 first.0 second.0 s3.circuit first_3 second_3) in
    let n4 = one.1 in
    let two = and_made n4 first.0 second.0 in
    let s5 = and-is n4 first.0 second.0 s4.circuit (there_later n3 n4 first.0 s4.front first_3) (there_later n3 n4 second.0 s4.front second_3) in
    let n5 = two.1 in
    let g35 = front_then n3 n4 n5 s4.front s5.front in
    let other = and_made n5 two.0 apart.0 in
    let s6 = and-is n5 two.0 apart.0 s5.circuit s5.there (there_later n3 n5 apart.0 g35 s3.there) in
    let n6 = other.1 in
    let g46 = front_then n4 n5 n6 s5.front s6.front in
    let s7 = or-is n6 one.0 other.0 s6.circuit (there_later n4 n6 one.0 g46 s4.there) s6.there in
    let r = or_made n6 one.0 other.0 in
    let seen : List Bool → Bool = λ v. seen_apart_of u usable e f v in
    let r6 = then-gate n5 other r (λ v. gate_value v two.0 && gate_value v apart.0) (λ v k. gate_value v one.0 || k) s6 s7 in
    let r5 = then-gate n4 two r (λ v. gate_value v first.0 && gate_value v second.0) (λ v k. gate_value v one.0 || (k && gate_value v apart.0)) s5 r6 in
    let r4 = then-gate n3 one r (λ v. differ (gate_value v first.0) (gate_value v second.0)) (λ v k. k || ((gate_value v first.0 && gate_value v second.0) && gate_value v apart.0)) s4 r5 in
    let r3 = then-gate n2 apart r seen (λ v k. differ (gate_value v first.0) (gate_value v second.0) || ((gate_value v first.0 && gate_value v second.0) && k)) s3 r4 in
    let r2 = then-gate n1 second r (λ v. done_at f v) (λ v k. differ (gate_value v first.0) k || ((gate_value v first.0 && k) && seen v)) s2 r3 in
    then-gate nodes first r (λ v. done_at e v) (λ v k. differ k (done_at f v) || ((k && done_at f v) && seen v)) s1 r2

abbrev pub ends_at : Kind → Unknowns → List Gate → (first second : End) → List Bool → Bool
ends_at kind u usable e f v = ends_of kind (gate_value v e.mem_trap) (gate_value v e.trap) (gate_value v f.mem_trap) (gate_value v f.trap) (stays_of u e v) (seen_apart_of u usable e f v)

pub ends-is : (kind : Kind) (nodes : List Node) (w a : ℕ) (u : Unknowns) (usable : List Gate) (e f : End) → IsCircuit nodes → AreUnknowns (length nodes) a u → AreBits (length nodes) a usable → AreEnd (length nodes) w a e → AreEnd (length nodes) w a f →
    GateIs nodes (ends_made kind nodes u usable e f) (λ v. ends_at kind u usable e f v)
ends-is Privileged nodes w a u usable e f h un us te tf = broken-is nodes w a e f h te tf
ends-is Control nodes w a u usable e f h un us te tf = control-is nodes w a u e h un te
ends-is ModeDep nodes w a u usable e f h un us te tf = mode-is nodes w a u usable e f h un us te tf
ends-is Location nodes w a u usable e f h un us te tf = either-is nodes w a u usable e f h un us te tf
ends-is Bound nodes w a u usable e f h un us te tf = either-is nodes w a u usable e f h un us te tf
ends-is UControl nodes w a u usable e f h un us te tf = control-is nodes w a u e h un te
ends-is ULocation nodes w a u usable e f h un us te tf = either-is nodes w a u usable e f h un us te tf
ends-is UBound nodes w a u usable e f h un us te tf = either-is nodes w a u usable e f h un us te tf
