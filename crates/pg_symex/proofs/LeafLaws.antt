-- Literals, lets and fields.
use Rattle.std.proofs.Common.{◌≡◌, ℕ, zero, suc, ◌+◌, ◌-◌, ◌/◌, ◌%◌, ◌^◌, ◌<◌, ◌==◌, Bool, true, false, List, [], ◌∷◌, length, Option, None, Some, bytes_eq, refl, sym, ap, ◌∙◌, subst, arith}
use Rattle.std.specs.Prelude.{if◌then◌else◌}
use Rattle.std.proofs.lemmas.List.Elements.{All-nil, All-cons}
use Rattle.pg_circuit.specs.declared.node.Gate.{Gate}
use Rattle.pg_circuit.specs.declared.node.Node.{Node}
use Rattle.pg_circuit.specs.Nodes.{IsCircuit}
use Rattle.pg_circuit.specs.Values.{gate_value, IsThere}
use Rattle.pg_circuit.specs.Made.{constant_gate}
use Rattle.pg_vec.specs.Number.{number, bit_of}
use Rattle.pg_vec.specs.There.{AreThere, AreValues}
use Rattle.pg_vec.proofs.Sums.{pow-more}
use Rattle.pg_vec.proofs.StringLaws.{cut-makes}
use Rattle.pg_lang_meaning.specs.Patterns.{Field, field_value}
use Rattle.pg_lang_meaning.specs.Values.{bits, let_value, field_or_let}
use Rattle.pg_lang_meaning.proofs.PatternLemmas.{LiesWithin}
use Rattle.pg_lang_valid.specs.Widths.{LetWidths, let_width, field_or_let_width}
use Rattle.pg_symex.specs.Flow.{SymEntry, SymLets}
use Rattle.pg_symex.specs.Numbers.{value_of, entry_value, lets_value}
use Rattle.pg_symex.specs.There.{AreBits, IsSymEntry, LetsAre}
use Rattle.pg_symex.specs.Exprs.{literal_bits, let_bits, field_bits, field_or_let_bits}
use Rattle.pg_symex.proofs.ExprForms.{bits_same}

-- ---- literals

pub length-literal : (n v : ℕ) → length (literal_bits v n) ≡ n
unfolding literal_bits
length-literal zero v = refl
length-literal (suc n) v = ap (λ k. suc k) (length-literal n (v / 2))

pub literal-there : (n v places : ℕ) → 0 < places → AreThere places (literal_bits v n)
unfolding literal_bits
literal-there zero v places l = All-nil (IsThere places)
literal-there (suc n) v places l = All-cons (IsThere places) (constant_gate (v % 2 == 1)) (literal_bits (v / 2) n) l (literal-there n (v / 2) places l)

bit_of-odd : (r : ℕ) → r < 2 → bit_of (r == 1) ≡ r
bit_of-odd zero l = refl
bit_of-odd (suc zero) l = refl
bit_of-odd (suc (suc r)) l = absurd (omega arith)

pub number-literal : (n v : ℕ) (values : List Bool) → v < 2 ^ n → ((b : Bool) → gate_value values (constant_gate b) ≡ b) → number values (literal_bits v n) ≡ v
unfolding literal_bits
number-literal zero v values l c = omega arith
number-literal (suc n) v values l c =
    let p = pow-more n in
    let rest = number-literal n (v / 2) values (omega (arith, p)) c in
    let bit = ap bit_of (c (v % 2 == 1)) ∙ bit_of-odd (v % 2) (omega arith) in
    omega (arith, rest, bit)

-- ---- lets

pub let-is : (lets : SymLets) (values : List Bool) (name : List ℕ) → value_of values (let_bits lets name) ≡ let_value (lets_value values lets) name
unfolding let_bits let_value
let-is [] values name = refl
let-is (l ∷ ls) values name = by (bytes_eq l.0 name) (let-is ls values name)
  where
    by : (b : Bool) → value_of values (let_bits ls name) ≡ let_value (lets_value values ls) name →
        value_of values (if b then l.1 else let_bits ls name) ≡ (if b then value_of values l.1 else let_value (lets_value values ls) name)
    by true older = refl
    by false older = older

pub let-there : (places : ℕ) (lets : SymLets) (ws : LetWidths) (name : List ℕ) (n : ℕ) → LetsAre places lets ws → let_width ws name ≡ Some n → AreBits places n (let_bits lets name)
unfolding let_bits let_width
let-there places [] [] name n fit h = absurd (cc h)
let-there places [] (w ∷ ws) name n fit h = absurd fit
let-there places (l ∷ ls) [] name n fit h = absurd fit
let-there places (l ∷ ls) (w ∷ ws) name n fit h =
    by (bytes_eq l.0 name) (subst (λ z. (if bytes_eq z name then Some w.1 else let_width ws name) ≡ Some n) (sym fit.0) h) (let-there places ls ws name n fit.2)
  where
    by : (b : Bool) → (if b then Some w.1 else let_width ws name) ≡ Some n → (let_width ws name ≡ Some n → AreBits places n (let_bits ls name)) → AreBits places n (if b then l.1 else let_bits ls name)
    by true e older = let same : w.1 ≡ n = cc e in subst (λ k. AreBits places k l.1) same fit.1
    by false e older = older e

-- ---- fields

pub field-there : (f : Field) (nodes : List Node) (n : ℕ) (word : List Gate) → IsCircuit nodes → AreBits (length nodes) n word → LiesWithin f n → AreBits (length nodes) f.width (field_bits f word)
field-there f nodes n word c h lies =
    let some = lies.some in
    let within = lies.within in
    let m = cut-makes nodes word (f.low + f.width - 1) f.low c h.there (omega arith) (omega (arith, h.wide)) in
    record { there = m.there; wide = m.wide ∙ (omega arith); is_width = record { least = some; most = omega (arith, h.is_width.most) } }

pub field-is : (f : Field) (nodes : List Node) (n : ℕ) (word : List Gate) → IsCircuit nodes → AreBits (length nodes) n word → LiesWithin f n →
    (inputs values : List Bool) → AreValues inputs nodes values → value_of values (field_bits f word) ≡ bits f.width (field_value f (number values word))
field-is f nodes n word c h lies inputs values v =
    let some = lies.some in
    let within = lies.within in
    let m = cut-makes nodes word (f.low + f.width - 1) f.low c h.there (omega arith) (omega (arith, h.wide)) in
    let e : f.low + f.width - 1 - f.low + 1 ≡ f.width = omega arith in
    bits_same _ f.width _ _ (m.wide ∙ e) (m.value inputs values v ∙ ap (λ k. number values word / 2 ^ f.low % 2 ^ k) e)

-- ---- names

pub name-there : (o : Option Field) (at : SymEntry) (lets : SymLets) (ws : LetWidths) (name : List ℕ) (n : ℕ) (nodes : List Node) → IsCircuit nodes → IsSymEntry (length nodes) at →
    ((f : Field) → o ≡ Some f → LiesWithin f (length at.pattern)) → LetsAre (length nodes) lets ws → field_or_let_width o ws name ≡ Some n → AreBits (length nodes) n (field_or_let_bits o at lets name)
name-there None at lets ws name n nodes c is inside fit h = let-there (length nodes) lets ws name n fit h
name-there (Some f) at lets ws name n nodes c is inside fit h =
    let lies = subst (LiesWithin f) is.pattern (inside f refl) in
    let w : f.width ≡ n = cc h in
    subst (λ k. AreBits (length nodes) k (field_bits f at.word)) w (field-there f nodes at.w at.word c is.word lies)

pub name-is : (o : Option Field) (at : SymEntry) (lets : SymLets) (name : List ℕ) (nodes : List Node) → IsCircuit nodes → IsSymEntry (length nodes) at →
    ((f : Field) → o ≡ Some f → LiesWithin f (length at.pattern)) → (inputs values : List Bool) → AreValues inputs nodes values →
    value_of values (field_or_let_bits o at lets name) ≡ field_or_let o (entry_value values at) (lets_value values lets) name
name-is None at lets name nodes c is inside inputs values v = let-is lets values name
name-is (Some f) at lets name nodes c is inside inputs values v = field-is f nodes at.w at.word c is.word (subst (LiesWithin f) is.pattern (inside f refl)) inputs values v
