-- The code's steps make what the definitions say.
use Rattle.std.proofs.Common.{◌≡◌, ℕ, ◌+◌, ◌^◌, ◌<◌, ◌≤◌, arith, Bool, true, false, List, ◌∷◌, length, drop, get_or, length-drop, Result, Ok, Err, refl, sym, ap, ◌∙◌, subst}
use Rattle.std.specs.Prelude.{IfOk}
use Rattle.std.proofs.lemmas.List.{drop_more, drop_all}
use Rattle.std.specs.declared.alloc.AllocError.{AllocError}
use Rattle.pg_circuit.specs.declared.node.Gate.{Gate}
use Rattle.pg_circuit.specs.declared.node.Node.{Node}
use Rattle.pg_circuit.specs.Nodes.{IsCircuit}
use Rattle.pg_circuit.specs.Grown.{GrowsTo}
use Rattle.pg_circuit.specs.Values.{IsThere}
use Rattle.pg_circuit.specs.Made.{constant_gate, not_gate, and_made, xor_made}
use Rattle.pg_word.specs.Bits.{IsWidth}
use Rattle.pg_vec.specs.Gates.{or_made}
use Rattle.pg_vec.proofs.Kept.{front_same, front_then}
use Rattle.pg_vec.specs.Strings.{sub_made, lt_made, mux_made, same_made}
use Rattle.pg_cells.specs.Made.{inputs_made}
use Rattle.pg_cells.proofs.TouchLaws.{length-gates_from}
use Rattle.pg_ast.specs.declared.tree.Instr.{Instr}
use Rattle.pg_ast.specs.declared.tree.Desc.{Desc}
use Rattle.pg_lang_valid.specs.Valid.{IsValid}
use Rattle.pg_lang_valid.proofs.ValidFacts.{IsShape-of_valid}
use Rattle.pg_type.specs.declared.kind.Kind.{Kind}
use Rattle.pg_symex.specs.There.{AreBits}
use Rattle.pg_symex.specs.Exprs.{literal_bits, bit_0}
use Rattle.pg_ask.specs.declared.unknowns.Unknowns.{Unknowns}
use Rattle.pg_ask.specs.declared.ends.End.{End}
use Rattle.pg_ask.specs.Unknowns.{other_made, unknowns_made}
use Rattle.pg_ask.specs.There.{AreUnknowns, AreEnd, LeavesBits, LeavesGate}
use Rattle.pg_ask.specs.Fits.{usable_made, size_made, alike_made, differ_made, place_made, matches_made, fits_made}
use Rattle.pg_ask.specs.Ends.{done_made, control_made, seen_apart_made, broken_made, mode_made, either_made}
use Rattle.pg_ask.proofs.Made.{GateIs, BitsAre}
use Rattle.pg_ask.proofs.InputStages.{inputs-stage}
use Rattle.pg_ask.proofs.UnknownsLaws.{unknowns-are}
use Rattle.pg_ask.proofs.FitsLaw.{fits-are}

-- what was made is what is due
pub ok_along : {A : Type 0} (r : Result A AllocError) (new : List Node) (m due : A × List Node) → m ≡ due → IfOk r (λ x. (x, new) ≡ m) → IfOk r (λ x. (x, new) ≡ due)
ok_along r new m due e h = subst (λ k. IfOk r (λ x. (x, new) ≡ k)) e h

-- what is made is there
pub leaves_gate : (r : Result Gate AllocError) (old new : List Node) (m : Gate × List Node) (w : List Bool → Bool) → GateIs old m w → IfOk r (λ g. (g, new) ≡ m) → IfOk r (λ g. LeavesGate old new g)
leaves_gate (Err x) old new m w h e = tt
leaves_gate (Ok g) old new m w h e = subst (λ (k : Gate × List Node). LeavesGate old k.1 k.0) (sym e) (record { front = h.front; there = h.there })

pub leaves_bits : (r : Result (List Gate) AllocError) (old new : List Node) (m : List Gate × List Node) (n : ℕ) (w : List Bool → ℕ) → IsWidth n → BitsAre old m n w → IfOk r (λ xs. (xs, new) ≡ m) → IfOk r (λ xs. LeavesBits old new n xs)
leaves_bits (Err x) old new m n w width h e = tt
leaves_bits (Ok xs) old new m n w width h e = subst (λ (k : List Gate × List Node). LeavesBits old k.1 n k.0) (sym e) (record { front = h.front; are_bits = record { there = h.there; wide = h.wide; is_width = width } })

-- ---- what fits

pub same_step : (n0 n1 : List Node) (g : Gate) (xs x ys y : List Gate) → xs ≡ x → ys ≡ y → (g, n1) ≡ same_made n0 (constant_gate true) xs ys → (g, n1) ≡ same_made n0 (constant_gate true) x y
same_step n0 n1 g xs x ys y ex ey e = e ∙ ap (λ z. same_made n0 (constant_gate true) z ys) ex ∙ ap (λ z. same_made n0 (constant_gate true) x z) ey

pub alike_step : (r : Result Gate AllocError) (n0 n1 new : List Node) (so_far g : Gate) (xs x ys y : List Gate) → xs ≡ x → ys ≡ y → (g, n1) ≡ same_made n0 (constant_gate true) xs ys →
    IfOk r (λ k. (k, new) ≡ and_made n1 so_far g) → IfOk r (λ k. (k, new) ≡ alike_made n0 so_far x y)
unfolding alike_made
alike_step r n0 n1 new so_far g xs x ys y ex ey e h =
    ok_along r new (and_made n1 so_far g) _ (ap (λ (m : Gate × List Node). and_made m.1 so_far m.0) (same_step n0 n1 g xs x ys y ex ey e)) h

pub differ_step : (r : Result Gate AllocError) (n0 n1 new : List Node) (so_far g other : Gate) (xs x ys y : List Gate) → xs ≡ x → ys ≡ y → other ≡ not_gate g → (g, n1) ≡ same_made n0 (constant_gate true) xs ys →
    IfOk r (λ k. (k, new) ≡ and_made n1 so_far other) → IfOk r (λ k. (k, new) ≡ differ_made n0 so_far x y)
unfolding differ_made
differ_step r n0 n1 new so_far g other xs x ys y ex ey en e h =
    ok_along r new (and_made n1 so_far other) _ (ap (λ k. and_made n1 so_far k) en ∙ ap (λ (m : Gate × List Node). and_made m.1 so_far (not_gate m.0)) (same_step n0 n1 g xs x ys y ex ey e)) h

pub usable_step : (r : Result (List Gate) AllocError) (n0 n1 n2 n3 n4 new : List Node) (l b n room past none cells less : List Gate) (p q : Gate) → (room, n1) ≡ sub_made n0 n l → (past, n2) ≡ lt_made n1 n l → none ≡ literal_bits 0 (length n) → p ≡ bit_0 past →
    (cells, n3) ≡ mux_made n2 p none room → (less, n4) ≡ lt_made n3 b cells → q ≡ bit_0 less → IfOk r (λ v. (v, new) ≡ mux_made n4 q b cells) → IfOk r (λ v. (v, new) ≡ usable_made n0 l b n)
unfolding usable_made
usable_step r n0 n1 n2 n3 n4 new l b n room past none cells less p q er ep en epb ec el eqb h =
    let last : List Gate → List Gate × List Node → List Gate × List Node = λ cs m. mux_made m.1 (bit_0 m.0) b cs in
    let fourth : List Gate × List Node → List Gate × List Node = λ m. last m.0 (lt_made m.1 b m.0) in
    let third : List Gate → List Gate × List Node → List Gate × List Node = λ rm m. fourth (mux_made m.1 (bit_0 m.0) (literal_bits 0 (length n)) rm) in
    ok_along r new (mux_made n4 q b cells) _
    (ap (λ z. mux_made n4 z b cells) eqb ∙ ap (last cells) el
    ∙ ap fourth (ec ∙ ap (λ z. mux_made n2 z none room) epb ∙ ap (λ z. mux_made n2 (bit_0 past) z room) en)
    ∙ ap (third room) ep ∙ ap (λ (m : List Gate × List Node). third m.0 (lt_made m.1 n l)) er)
    h

pub size_step : (r : Result Gate AllocError) (q a : ℕ) (n0 n1 n2 n3 new : List Node) (so_far enough few_bit few_not many_bit many_not : Gate) (n least few most many : List Gate) → least ≡ literal_bits 2 a → (few, n1) ≡ lt_made n0 n least → few_bit ≡ bit_0 few → few_not ≡ not_gate few_bit →
    (enough, n2) ≡ and_made n1 so_far few_not → most ≡ literal_bits q a → (many, n3) ≡ lt_made n2 most n → many_bit ≡ bit_0 many → many_not ≡ not_gate many_bit → IfOk r (λ g. (g, new) ≡ and_made n3 enough many_not) →
    IfOk r (λ g. (g, new) ≡ size_made q a n0 so_far n)
unfolding size_made
size_step r q a n0 n1 n2 n3 new so_far enough few_bit few_not many_bit many_not n least few most many el ef eb en ee em ey ec ed h =
    let last : Gate → List Gate × List Node → Gate × List Node = λ g m. and_made m.1 g (not_gate (bit_0 m.0)) in
    let third : Gate × List Node → Gate × List Node = λ m. last m.0 (lt_made m.1 (literal_bits q a) n) in
    ok_along r new (and_made n3 enough many_not) _
    (ap (λ z. and_made n3 enough z) (ed ∙ ap not_gate ec)
    ∙ ap (last enough) (ey ∙ ap (λ z. lt_made n2 z n) em)
    ∙ ap third (ee ∙ ap (λ z. and_made n1 so_far z) (en ∙ ap not_gate eb))
    ∙ ap (λ (m : List Gate × List Node). third (and_made m.1 so_far (not_gate (bit_0 m.0)))) (ef ∙ ap (λ z. lt_made n0 n z) el))
    h

-- ---- ends

pub control_step : (r : Result Gate AllocError) (n0 n1 n2 n3 n4 new : List Node) (u : Unknowns) (e : End) (gate mode l b other : Gate) (xs ys : List Gate) → (gate, n1) ≡ done_made n0 e → xs ≡ e.mode → ys ≡ u.first_mode → (mode, n2) ≡ same_made n1 (constant_gate true) xs ys →
    (l, n3) ≡ alike_made n2 mode e.l u.first_l → (b, n4) ≡ alike_made n3 l e.b u.first_b → other ≡ not_gate b → IfOk r (λ g. (g, new) ≡ and_made n4 gate other) → IfOk r (λ g. (g, new) ≡ control_made n0 u e)
unfolding control_made
control_step r n0 n1 n2 n3 n4 new u e gate mode l b other xs ys ed ex ey em el eb en h =
    let last : Gate → Gate × List Node → Gate × List Node = λ g m. and_made m.1 g (not_gate m.0) in
    let third : Gate → Gate × List Node → Gate × List Node = λ g m. last g (alike_made m.1 m.0 e.b u.first_b) in
    let second : Gate → Gate × List Node → Gate × List Node = λ g m. third g (alike_made m.1 m.0 e.l u.first_l) in
    ok_along r new (and_made n4 gate other) _
    (ap (λ z. and_made n4 gate z) en ∙ ap (last gate) eb ∙ ap (third gate) el ∙ ap (second gate) (same_step n1 n2 mode xs e.mode ys u.first_mode ex ey em)
    ∙ ap (λ (m : Gate × List Node). second m.0 (same_made m.1 (constant_gate true) e.mode u.first_mode)) ed)
    h

pub apart_step : (r : Result Gate AllocError) (n0 n1 n2 n3 n4 new : List Node) (u : Unknowns) (v : List Gate) (e f : End) (p word odd p_not word_not inside_bit : Gate) (inside ps qs ws xs : List Gate) → ps ≡ e.p → qs ≡ f.p → (p, n1) ≡ same_made n0 (constant_gate true) ps qs → ws ≡ e.word → xs ≡ f.word →
    (word, n2) ≡ same_made n1 (constant_gate true) ws xs → (inside, n3) ≡ lt_made n2 u.compared v → inside_bit ≡ bit_0 inside → word_not ≡ not_gate word → (odd, n4) ≡ and_made n3 inside_bit word_not → p_not ≡ not_gate p →
    IfOk r (λ g. (g, new) ≡ or_made n4 p_not odd) → IfOk r (λ g. (g, new) ≡ seen_apart_made n0 u v e f)
unfolding seen_apart_made
apart_step r n0 n1 n2 n3 n4 new u v e f p word odd p_not word_not inside_bit inside ps qs ws xs eps eqs ep ews exs ew ei eib ewn eo epn h =
    let last : Gate → Gate × List Node → Gate × List Node = λ g m. or_made m.1 (not_gate g) m.0 in
    let third : Gate → Gate → List Gate × List Node → Gate × List Node = λ g w m. last g (and_made m.1 (bit_0 m.0) (not_gate w)) in
    let second : Gate → Gate × List Node → Gate × List Node = λ g m. third g m.0 (lt_made m.1 u.compared v) in
    ok_along r new (or_made n4 p_not odd) _
    (ap (λ z. or_made n4 z odd) epn
    ∙ ap (last p) (eo ∙ ap (λ z. and_made n3 z word_not) eib ∙ ap (λ z. and_made n3 (bit_0 inside) z) ewn)
    ∙ ap (third p word) ei
    ∙ ap (second p) (same_step n1 n2 word ws e.word xs f.word ews exs ew)
    ∙ ap (λ (m : Gate × List Node). second m.0 (same_made m.1 (constant_gate true) e.word f.word)) (same_step n0 n1 p ps e.p qs f.p eps eqs ep))
    h

pub broken_step : (r : Result Gate AllocError) (n0 n1 n2 new : List Node) (e f : End) (done odd other : Gate) → (done, n1) ≡ done_made n0 f → other ≡ not_gate f.mem_trap → (odd, n2) ≡ and_made n1 e.trap other → IfOk r (λ g. (g, new) ≡ or_made n2 done odd) →
    IfOk r (λ g. (g, new) ≡ broken_made n0 e f)
unfolding broken_made
broken_step r n0 n1 n2 new e f done odd other ed en eo h =
    let last : Gate → Gate × List Node → Gate × List Node = λ g m. or_made m.1 g m.0 in
    ok_along r new (or_made n2 done odd) _
    (ap (last done) (eo ∙ ap (λ z. and_made n1 e.trap z) en) ∙ ap (λ (m : Gate × List Node). last m.0 (and_made m.1 e.trap (not_gate f.mem_trap))) ed)
    h

pub mode_step : (r : Result Gate AllocError) (n0 n1 n2 n3 n4 new : List Node) (u : Unknowns) (v : List Gate) (e f : End) (first second apart differ other : Gate) → (first, n1) ≡ done_made n0 e → (second, n2) ≡ done_made n1 f → (apart, n3) ≡ seen_apart_made n2 u v e f → other ≡ not_gate first →
    (differ, n4) ≡ or_made n3 other apart → IfOk r (λ g. (g, new) ≡ and_made n4 second differ) → IfOk r (λ g. (g, new) ≡ mode_made n0 u v e f)
unfolding mode_made
mode_step r n0 n1 n2 n3 n4 new u v e f first second apart differ other ef es ea en ed h =
    let last : Gate → Gate × List Node → Gate × List Node = λ s m. and_made m.1 s m.0 in
    let third : Gate → Gate → Gate × List Node → Gate × List Node = λ g s m. last s (or_made m.1 (not_gate g) m.0) in
    let next : Gate → Gate × List Node → Gate × List Node = λ g m. third g m.0 (seen_apart_made m.1 u v e f) in
    ok_along r new (and_made n4 second differ) _
    (ap (last second) (ed ∙ ap (λ z. or_made n3 z apart) en) ∙ ap (third first second) ea ∙ ap (next first) es ∙ ap (λ (m : Gate × List Node). next m.0 (done_made m.1 f)) ef)
    h

pub either_step : (r : Result Gate AllocError) (n0 n1 n2 n3 n4 n5 n6 new : List Node) (u : Unknowns) (v : List Gate) (e f : End) (first second apart one two differ : Gate) → (first, n1) ≡ done_made n0 e → (second, n2) ≡ done_made n1 f → (apart, n3) ≡ seen_apart_made n2 u v e f →
    (one, n4) ≡ xor_made n3 first second → (two, n5) ≡ and_made n4 first second → (differ, n6) ≡ and_made n5 two apart → IfOk r (λ g. (g, new) ≡ or_made n6 one differ) → IfOk r (λ g. (g, new) ≡ either_made n0 u v e f)
unfolding either_made
either_step r n0 n1 n2 n3 n4 n5 n6 new u v e f first second apart one two differ ef es ea eo et ed h =
    let last : Gate → Gate × List Node → Gate × List Node = λ o m. or_made m.1 o m.0 in
    let fifth : Gate → Gate → Gate × List Node → Gate × List Node = λ o p m. last o (and_made m.1 m.0 p) in
    let fourth : Gate → Gate → Gate → Gate × List Node → Gate × List Node = λ g s p m. fifth m.0 p (and_made m.1 g s) in
    let third : Gate → Gate → Gate × List Node → Gate × List Node = λ g s m. fourth g s m.0 (xor_made m.1 g s) in
    let next : Gate → Gate × List Node → Gate × List Node = λ g m. third g m.0 (seen_apart_made m.1 u v e f) in
    ok_along r new (or_made n6 one differ) _
    (ap (last one) ed ∙ ap (fifth one apart) et ∙ ap (fourth first second apart) eo ∙ ap (third first second) ea ∙ ap (next first) es ∙ ap (λ (m : Gate × List Node). next m.0 (done_made m.1 f)) ef)
    h

-- the nodes stay, and a gate is there
pub leaves_made : (r : Result Gate AllocError) (old new : List Node) → GrowsTo old new → IfOk r (λ g. g.number < length new) → IfOk r (λ g. LeavesGate old new g)
leaves_made (Err x) old new f h = tt
leaves_made (Ok g) old new f h = record { front = f; there = h }

-- ---- unknowns

pub string_width : (old new : List Node) (n : ℕ) (bits : List Gate) → (bits, new) ≡ inputs_made old n → length bits ≡ n
unfolding inputs_made
string_width old new n bits e = ap (λ (m : List Gate × List Node). length m.0) e ∙ length-gates_from n (length old)

pub string_there : (old new : List Node) (n : ℕ) (bits : List Gate) → IsCircuit old → IsWidth n → (bits, new) ≡ inputs_made old n → LeavesBits old new n bits
string_there old new n bits h width e =
    let s = inputs-stage old n h in
    subst (λ (k : List Gate × List Node). LeavesBits old k.1 n k.0) (sym e) (record { front = s.front; are_bits = record { there = s.there; wide = s.wide; is_width = width } })

-- a string of its own width
pub own_bits : (places n : ℕ) (xs : List Gate) → AreBits places n xs → AreBits places (length xs) xs
own_bits places n xs h = record { there = h.there; wide = refl; is_width = subst IsWidth (sym h.wide) h.is_width }

pub width_bits : (places m n : ℕ) (xs : List Gate) → m ≡ n → AreBits places m xs → AreBits places n xs
width_bits places m n xs e h = subst (λ k. AreBits places k xs) e h

pub end_width : (places w m n : ℕ) (e : End) → m ≡ n → AreEnd places w m e → AreEnd places w n e
end_width places w m n e same h = subst (λ k. AreEnd places w k e) same h

pub other_as : (own o : Bool) (k a : ℕ) (old new : List Node) (same x : List Gate) → own ≡ o → k ≡ a → (x, new) ≡ other_made own k old same → (x, new) ≡ other_made o a old same
other_as own o k a old new same x eo ek e = e ∙ ap (λ z. other_made z k old same) eo ∙ ap (λ z. other_made o z old same) ek

pub record UnknownsThere (kind : Kind) (a : ℕ) (old new : List Node) (u : Unknowns) : Type 0 where
  pub there : AreUnknowns (length new) a u
  pub front : GrowsTo old new

pub unknowns_there : (kind : Kind) (a : ℕ) (old new : List Node) (u : Unknowns) → IsCircuit old → IsWidth a → (u, new) ≡ unknowns_made kind a old → UnknownsThere kind a old new u
unknowns_there kind a old new u h width e =
    let s = unknowns-are kind a old h width in
    subst (λ (k : Unknowns × List Node). UnknownsThere kind a old k.1 k.0) (sym e) (record { there = s.there; front = s.front })

-- ---- what fits, all of it

pub size_as : (q r a b : ℕ) (old new : List Node) (so_far g x : Gate) (n : List Gate) → q ≡ r → a ≡ b → so_far ≡ g → (x, new) ≡ size_made q a old so_far n → (x, new) ≡ size_made r b old g n
size_as q r a b old new so_far g x n eq ea eg e = e ∙ ap (λ z. size_made z a old so_far n) eq ∙ ap (λ z. size_made r z old so_far n) ea ∙ ap (λ z. size_made r b old z n) eg

pub matches_as : (old new : List Node) (so_far x : Gate) (cs ds : List ℕ) (ws vs : List Gate) → cs ≡ ds → ws ≡ vs → (x, new) ≡ matches_made old so_far cs ws → (x, new) ≡ matches_made old so_far ds vs
matches_as old new so_far x cs ds ws vs ec ew e = e ∙ ap (λ z. matches_made old so_far z ws) ec ∙ ap (λ z. matches_made old so_far ds z) ew

pub record FitsThere (a : ℕ) (old new : List Node) (usable : List Gate) (gate : Gate) : Type 0 where
  pub bits : LeavesBits old new a usable
  pub there : IsThere (length new) gate

pub fits_there : (d : Desc) (i : Instr) (kind : Kind) (u : Unknowns) (word : List Gate) (old new : List Node) (usable : List Gate) (gate : Gate) → IsValid d → IsCircuit old → AreUnknowns (length old) d.address u → AreBits (length old) (length i.pattern.bytes) word →
    ((usable, gate), new) ≡ fits_made d i kind u word old → FitsThere d.address old new usable gate
fits_there d i kind u word old new usable gate valid h un tw e =
    let shape = IsShape-of_valid d valid in
    let big : 2 < 2 ^ d.address = omega (arith, shape.size_least, shape.size_most) in
    let s = fits-are d i kind u word old h un tw.there (omega (arith, tw.wide)) big shape.size_most in
    subst (λ (k : (List Gate × Gate) × List Node). FitsThere d.address old k.1 k.0.0 k.0.1) (sym e) (record { bits = record { front = s.front; are_bits = s.usable }; there = s.there })

-- ---- the pattern, place by place

pub record Matched (old : List Node) (due : Gate × List Node) (gate : Gate) (nodes : List Node) (rest : Gate × List Node) : Type 0 where
  pub made : rest ≡ due
  pub front : GrowsTo old nodes
  pub there : gate.number < length nodes

pub matched_none : (old : List Node) (so_far : Gate) (cs : List ℕ) (word : List Gate) → so_far.number < length old → Matched old (matches_made old so_far cs word) so_far old (matches_made old so_far (drop 0 cs) word)
matched_none old so_far cs word t = record { made = refl; front = front_same old; there = t }

pub matched_next : (old nodes new : List Node) (due : Gate × List Node) (gate next bit : Gate) (cs : List ℕ) (word : List Gate) (i c k : ℕ) → Matched old due gate nodes (matches_made nodes gate (drop i cs) word) → i < length cs → c ≡ get_or cs i 0 → k + (i + 1) ≡ length cs →
    bit ≡ get_or word k (constant_gate false) → (next, new) ≡ place_made nodes gate c bit → LeavesGate nodes new next → Matched old due next new (matches_made new next (drop (i + 1) cs) word)
unfolding matches_made
matched_next old nodes new due gate next bit cs word i c k m l ec ek eb e t =
    let rest = drop (i + 1) cs in
    let at : k ≡ length rest = omega (arith, length-drop (i + 1) cs) in
    let here : drop i cs ≡ c ∷ rest = drop_more cs i 0 l ∙ ap (λ z. z ∷ rest) (sym ec) in
    let placed : (next, new) ≡ place_made nodes gate c (get_or word (length rest) (constant_gate false)) = e ∙ ap (λ z. place_made nodes gate c z) (eb ∙ ap (λ z. get_or word z (constant_gate false)) at) in
    record {
      made = ap (λ (p : Gate × List Node). matches_made p.1 p.0 rest word) placed ∙ ap (λ z. matches_made nodes gate z word) (sym here) ∙ m.made;
      front = front_then old nodes new m.front t.front;
      there = t.there;
    }

pub matched_all : (old nodes : List Node) (due : Gate × List Node) (gate : Gate) (cs : List ℕ) (word : List Gate) (i : ℕ) → Matched old due gate nodes (matches_made nodes gate (drop i cs) word) → length cs ≤ i → (gate, nodes) ≡ due
unfolding matches_made
matched_all old nodes due gate cs word i m l = ap (λ z. matches_made nodes gate z word) (sym (drop_all i cs l)) ∙ m.made
