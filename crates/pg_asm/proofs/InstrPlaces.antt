-- The word of an instruction's line, by what it says and not by how it is found; and what is wrong with one that has no word.
use Rattle.std.proofs.Common.{◌≡◌, ℕ, zero, suc, Bool, true, false, cond, List, [], ◌∷◌, map, slice_get, Option, None, Some, Result, Ok, Err, refl, ap, sym, subst, ◌∙◌}
use Rattle.std.specs.Prelude.{◌==◌, position, bytes_eq}
use Rattle.std.specs.Option.{option_map}
use Rattle.std.proofs.lemmas.Bool.{and_parts, and_from, eqb-true, eq-eqb}
use Rattle.std.proofs.lemmas.Slice.Eq.{bytes_eq-Decides}
use Rattle.pg_ast.specs.declared.tree.Instr.{Instr as Instruction}
use Rattle.pg_ast.specs.declared.tree.Desc.{Desc}
use Rattle.pg_lang_valid.specs.Twice.{instr_names}
use Rattle.pg_lang_valid.specs.Valid.{IsValid}
use Rattle.pg_asm.specs.declared.fault.AsmFault.{AsmFault}
use Rattle.pg_asm.specs.declared.fault.AsmFault.TheVariants.{Name, Field, Label as LabelFault, Range}
use Rattle.pg_asm.specs.declared.mark.Mark.{Mark}
use Rattle.pg_asm.specs.declared.fields.LetterField.{LetterField}
use Rattle.pg_asm.specs.Words.{fields_of, fit, IsWordOf, word_by, pattern_of}
use Rattle.pg_asm.specs.Said.{Value, Number, Named, Operand, Said, At, Label, Instr, in_front}
use Rattle.pg_asm.specs.Sources.{Labels, mark_of, number_of, numbers_of, same_letters, fitted, encoded, instr_word}
use Rattle.pg_asm.specs.Placed.{IsLine, Means, StandsFor, StandFor, IsNamed, AreForFields, SaysInstr, IsInstrLine, NamesNone, GivesOthers, UsesNone, DoesNotFit}
use Rattle.pg_asm.proofs.WordLemmas.{word-is, one-word, values-fit}
use Rattle.pg_asm.proofs.DecodeLemmas.{pattern-there}
use Rattle.pg_asm.proofs.SourceBack.{name-found}
use Rattle.pg_asm.proofs.LinePlaces.{one-line}
use Rattle.pg_asm.proofs.LabelPlaces.{position-cons, AreLabels, mark-means, means-mark}

-- ---- numbers

number-stands : (first : ℕ) (saids : List Said) (labels : Labels) (value : Value) (n : ℕ) → AreLabels (At first ∷ saids) labels → number_of labels value ≡ Some n → StandsFor (At first ∷ saids) value n
number-stands first saids labels (Number v) n are h = cc h
number-stands first saids labels (Named name) n are h = by (mark_of labels name) refl h
  where
    by : (o : Option Mark) → mark_of labels name ≡ o → option_map (λ (m : Mark). m.place) o ≡ Some n → Means (At first ∷ saids) name n
    by None e h = absurd (cc h)
    by (Some m) e h = let same : m.place ≡ n = cc h in subst (Means (At first ∷ saids) name) same (mark-means first saids name m (are.some name m e))

stands-number : (lines : List Said) (labels : Labels) (value : Value) (n : ℕ) → AreLabels lines labels → StandsFor lines value n → number_of labels value ≡ Some n
stands-number lines labels (Number v) n are h = ap (λ x. Some x) h
stands-number lines labels (Named name) n are h =
    let m = means-mark lines labels name n are h in
    ap (option_map (λ (k : Mark). k.place)) m.1 ∙ ap (λ x. Some x) m.2

-- a value that stands for no number is a label that no line gives
pub record IsUnknown (lines : List Said) (value : Value) : Type 0 where
  pub name : List ℕ
  pub is : value ≡ Named name
  pub none : (m : ℕ) → IsLine lines m (Label name) → ⊥

number-none : (lines : List Said) (labels : Labels) (value : Value) → AreLabels lines labels → number_of labels value ≡ None → IsUnknown lines value
number-none lines labels (Number v) are h = absurd (cc h)
number-none lines labels (Named name) are h = by (mark_of labels name) refl h
  where
    by : (o : Option Mark) → mark_of labels name ≡ o → option_map (λ (m : Mark). m.place) o ≡ None → IsUnknown lines (Named name)
    by None e h = record { name = name; is = refl; none = are.none name e }
    by (Some m) e h = absurd (cc h)

numbers-stand : (first : ℕ) (saids : List Said) (labels : Labels) (os : List Operand) (ns : List ℕ) → AreLabels (At first ∷ saids) labels → numbers_of labels os ≡ Some ns → StandFor (At first ∷ saids) os ns
unfolding numbers_of
numbers-stand first saids labels [] ns are h = let same : [] ≡ ns = cc h in subst (StandFor (At first ∷ saids) []) same tt
numbers-stand first saids labels (o ∷ os) ns are h = by (number_of labels o.value) (numbers_of labels os) (λ n e. number-stands first saids labels o.value n are e) (λ ms e. numbers-stand first saids labels os ms are e) h
  where
    by : (a : Option ℕ) (b : Option (List ℕ)) → ((n : ℕ) → a ≡ Some n → StandsFor (At first ∷ saids) o.value n) → ((ms : List ℕ) → b ≡ Some ms → StandFor (At first ∷ saids) os ms) →
        in_front a b ≡ Some ns → StandFor (At first ∷ saids) (o ∷ os) ns
    by None b here later h = absurd (cc h)
    by (Some n) None here later h = absurd (cc h)
    by (Some n) (Some ms) here later h = let same : n ∷ ms ≡ ns = cc h in subst (StandFor (At first ∷ saids) (o ∷ os)) same (here n refl, later ms refl)

pub stand-numbers : (lines : List Said) (labels : Labels) (os : List Operand) (ns : List ℕ) → AreLabels lines labels → StandFor lines os ns → numbers_of labels os ≡ Some ns
unfolding numbers_of
stand-numbers lines labels [] [] are h = refl
stand-numbers lines labels [] (n ∷ ns) are h = absurd h
stand-numbers lines labels (o ∷ os) [] are h = absurd h
stand-numbers lines labels (o ∷ os) (n ∷ ns) are h =
    ap (λ a. in_front a (numbers_of labels os)) (stands-number lines labels o.value n are h.0) ∙ ap (in_front (Some n)) (stand-numbers lines labels os ns are h.1)

pub record SomeUnknown (lines : List Said) (os : List Operand) : Type 0 where
  pub k : ℕ
  pub operand : Operand
  pub there : slice_get os k ≡ Some operand
  pub unknown : IsUnknown lines operand.value

numbers-none : (lines : List Said) (labels : Labels) (os : List Operand) → AreLabels lines labels → numbers_of labels os ≡ None → SomeUnknown lines os
unfolding numbers_of
numbers-none lines labels [] are h = absurd (cc h)
numbers-none lines labels (o ∷ os) are h = by (number_of labels o.value) (numbers_of labels os) (number-none lines labels o.value are) (numbers-none lines labels os are) h
  where
    by : (a : Option ℕ) (b : Option (List ℕ)) → (a ≡ None → IsUnknown lines o.value) → (b ≡ None → SomeUnknown lines os) → in_front a b ≡ None → SomeUnknown lines (o ∷ os)
    by None b here later h = record { k = 0; operand = o; there = refl; unknown = here refl }
    by (Some n) None here later h = let l = later refl in record { k = suc l.k; operand = l.operand; there = l.there; unknown = l.unknown }
    by (Some n) (Some ms) here later h = absurd (cc h)

-- each operand stands for some number
stand-at : (lines : List Said) (os : List Operand) (ns : List ℕ) (k : ℕ) (o : Operand) → StandFor lines os ns → slice_get os k ≡ Some o → (n : ℕ) × StandsFor lines o.value n
stand-at lines [] ns k o h at = absurd (cc at)
stand-at lines (x ∷ os) [] k o h at = absurd h
stand-at lines (x ∷ os) (n ∷ ns) zero o h at = let same : x ≡ o = cc at in (n, subst (λ (y : Operand). StandsFor lines y.value n) same h.0)
stand-at lines (x ∷ os) (n ∷ ns) (suc k) o h at = stand-at lines os ns k o h.1 at

-- ---- letters

letters-are : (fs : List LetterField) (os : List Operand) → same_letters fs os ≡ true → map (λ (f : LetterField). f.letter) fs ≡ map (λ (o : Operand). o.letter) os
unfolding same_letters
letters-are [] [] h = refl
letters-are [] (o ∷ os) h = absurd (cc h)
letters-are (f ∷ fs) [] h = absurd (cc h)
letters-are (f ∷ fs) (o ∷ os) h =
    let both = and_parts (f.letter == o.letter) (same_letters fs os) h in
    ap (λ c. c ∷ map (λ (x : LetterField). x.letter) fs) (eqb-true f.letter o.letter both.0) ∙ ap (λ cs. o.letter ∷ cs) (letters-are fs os both.1)

are-letters : (fs : List LetterField) (os : List Operand) → map (λ (f : LetterField). f.letter) fs ≡ map (λ (o : Operand). o.letter) os → same_letters fs os ≡ true
unfolding same_letters
are-letters [] [] h = refl
are-letters [] (o ∷ os) h = absurd (cc h)
are-letters (f ∷ fs) [] h = absurd (cc h)
are-letters (f ∷ fs) (o ∷ os) h =
    let one : f.letter ≡ o.letter = cc h in
    let rest : map (λ (x : LetterField). x.letter) fs ≡ map (λ (x : Operand). x.letter) os = cc h in
    and_from (f.letter == o.letter) (same_letters fs os) (eq-eqb f.letter o.letter one) (are-letters fs os rest)

-- ---- names

record Found (is : List Instruction) (name : List ℕ) (k : ℕ) : Type 0 where
  instr : Instruction
  there : slice_get is k ≡ Some instr
  same : instr.name.bytes ≡ name

found : (is : List Instruction) (name : List ℕ) (k : ℕ) → position (λ m. bytes_eq m name) (instr_names is) ≡ Some k → Found is name k
found [] name k h = absurd (cc h)
found (i ∷ is) name k h = by (bytes_eq i.name.bytes name) (position (λ m. bytes_eq m name) (instr_names is)) refl (found is name) (sym (position-cons (λ m. bytes_eq m name) i.name.bytes (instr_names is)) ∙ h)
  where
    by : (b : Bool) (o : Option ℕ) → bytes_eq i.name.bytes name ≡ b → ((j : ℕ) → o ≡ Some j → Found is name j) → cond b (Some 0) (option_map (λ j. suc j) o) ≡ Some k → Found (i ∷ is) name k
    by true o e later h = let at : 0 ≡ k = cc h in record { instr = i; there = ap (slice_get (i ∷ is)) (sym at); same = (bytes_eq-Decides i.name.bytes name).0 e }
    by false None e later h = absurd (cc h)
    by false (Some j) e later h =
        let at : suc j ≡ k = cc h in
        let f = later j refl in
        record { instr = f.instr; there = ap (slice_get (i ∷ is)) (sym at) ∙ f.there; same = f.same }

named-found : (d : Desc) (name : List ℕ) (i : Instruction) (v : IsValid d) (n : IsNamed d name i) → position (λ m. bytes_eq m name) (instr_names d.instrs) ≡ Some n.k
named-found d name i v n = subst (λ x. position (λ m. bytes_eq m x) (instr_names d.instrs) ≡ Some n.k) n.same (name-found d n.k i v n.there)

-- a valid description has one instruction of a name
pub one-named : (d : Desc) (name : List ℕ) (i j : Instruction) → IsValid d → IsNamed d name i → IsNamed d name j → i ≡ j
one-named d name i j v m n =
    let at : Some m.k ≡ Some n.k = sym (named-found d name i v m) ∙ named-found d name j v n in
    let same : m.k ≡ n.k = cc at in
    let e : Some i ≡ Some j = sym m.there ∙ ap (slice_get d.instrs) same ∙ n.there in
    cc e

-- ---- the word

-- what is known of an instruction's line: the first of these that fails is its fault
pub data Course (d : Desc) (lines : List Said) (n : ℕ) (name : List ℕ) (operands : List Operand) : Result ℕ AsmFault → Type 0 where
  unnamed : ((i : Instruction) → IsNamed d name i → ⊥) → Course d lines n name operands (Err (Name n))
  others : (i : Instruction) → IsNamed d name i → (AreForFields i operands → ⊥) → Course d lines n name operands (Err (Field n))
  unknown : (i : Instruction) → IsNamed d name i → AreForFields i operands → SomeUnknown lines operands → Course d lines n name operands (Err (LabelFault n))
  unfit : (i : Instruction) → IsNamed d name i → AreForFields i operands → (ns : List ℕ) → StandFor lines operands ns → fit (fields_of i.pattern.bytes) ns ≡ false → Course d lines n name operands (Err (Range n))
  worded_as : (word : ℕ) → SaysInstr d lines name operands word → Course d lines n name operands (Ok word)

pub course : (d : Desc) (first : ℕ) (saids : List Said) (labels : Labels) (n : ℕ) (name : List ℕ) (operands : List Operand) → IsValid d → AreLabels (At first ∷ saids) labels →
    Course d (At first ∷ saids) n name operands (instr_word d labels n name operands)
course d first saids labels n name operands v are = by_name (position (λ m. bytes_eq m name) (instr_names d.instrs)) refl
  where
    lines : List Said
    lines = At first ∷ saids

    by_fit : (i : Instruction) → IsNamed d name i → AreForFields i operands → (ns : List ℕ) → StandFor (At first ∷ saids) operands ns → (b : Bool) → fit (fields_of i.pattern.bytes) ns ≡ b →
        Course d (At first ∷ saids) n name operands (cond b (Ok (word_by i.pattern.bytes ns)) (Err (Range n)))
    by_fit i named letters ns stand true e = worded_as (word_by i.pattern.bytes ns) (record { instr = i; named = named; fields = letters; numbers = ns; stand = stand; is = word-is i.pattern.bytes ns e })
    by_fit i named letters ns stand false e = unfit i named letters ns stand e

    by_numbers : (i : Instruction) → IsNamed d name i → AreForFields i operands → (o : Option (List ℕ)) → numbers_of labels operands ≡ o → Course d (At first ∷ saids) n name operands (fitted n i.pattern.bytes o)
    by_numbers i named letters None e = unknown i named letters (numbers-none (At first ∷ saids) labels operands are e)
    by_numbers i named letters (Some ns) e = by_fit i named letters ns (numbers-stand first saids labels operands ns are e) (fit (fields_of i.pattern.bytes) ns) refl

    by_letters : (i : Instruction) → IsNamed d name i → (b : Bool) → same_letters (fields_of i.pattern.bytes) operands ≡ b →
        Course d (At first ∷ saids) n name operands (cond b (fitted n i.pattern.bytes (numbers_of labels operands)) (Err (Field n)))
    by_letters i named true e = by_numbers i named (letters-are (fields_of i.pattern.bytes) operands e) (numbers_of labels operands) refl
    by_letters i named false e = others i named (λ h. let t : false ≡ true = sym e ∙ are-letters (fields_of i.pattern.bytes) operands h in cc t)

    by_name : (o : Option ℕ) → position (λ m. bytes_eq m name) (instr_names d.instrs) ≡ o →
        Course d (At first ∷ saids) n name operands (elim o [ Some k ↦ encoded labels n (pattern_of d.instrs k) operands | None ↦ Err (Name n) ])
    by_name None e = unnamed (λ i named. let t : None ≡ Some named.k = sym e ∙ named-found d name i v named in cc t)
    by_name (Some k) e =
        let f = found d.instrs name k e in
        subst (λ p. Course d (At first ∷ saids) n name operands (encoded labels n p operands)) (pattern-there d.instrs k f.instr f.there)
        (by_letters f.instr (record { k = k; there = f.there; same = f.same }) (same_letters (fields_of f.instr.pattern.bytes) operands) refl)

-- a line says one word
pub one-said : (d : Desc) (lines : List Said) (labels : Labels) (name : List ℕ) (operands : List Operand) (x y : ℕ) → IsValid d → AreLabels lines labels →
    SaysInstr d lines name operands x → SaysInstr d lines name operands y → x ≡ y
one-said d lines labels name operands x y v are s t =
    let i : s.instr ≡ t.instr = one-named d name s.instr t.instr v s.named t.named in
    let all : Some s.numbers ≡ Some t.numbers = sym (stand-numbers lines labels operands s.numbers are s.stand) ∙ stand-numbers lines labels operands t.numbers are t.stand in
    let ns : s.numbers ≡ t.numbers = cc all in
    one-word t.instr.pattern.bytes t.numbers x y (subst (λ m. IsWordOf t.instr.pattern.bytes m x) ns (subst (λ (j : Instruction). IsWordOf j.pattern.bytes s.numbers x) i s.is)) t.is

-- ---- what is not wrong with a line

-- a line is an instruction's, of this name and these operands
record IsThis (name : List ℕ) (operands : List Operand) (lines : List Said) (n : ℕ) (at : IsInstrLine lines n) : Type 0 where
  named : at.name ≡ name
  with : at.operands ≡ operands

this : (lines : List Said) (n : ℕ) (name : List ℕ) (operands : List Operand) → IsLine lines n (Instr name operands) → (at : IsInstrLine lines n) → IsThis name operands lines n at
this lines n name operands line at =
    let e : Instr at.name at.operands ≡ Instr name operands = one-line lines n (Instr at.name at.operands) (Instr name operands) at.line line in
    record { named = cc e; with = cc e }

pub not-unnamed : (d : Desc) (lines : List Said) (n : ℕ) (name : List ℕ) (operands : List Operand) (i : Instruction) → IsLine lines n (Instr name operands) → IsNamed d name i → NamesNone d lines n → ⊥
not-unnamed d lines n name operands i line named f = f.none i (subst (λ x. IsNamed d x i) (sym (this lines n name operands line f.at).named) named)

pub not-others : (d : Desc) (lines : List Said) (n : ℕ) (name : List ℕ) (operands : List Operand) (i : Instruction) → IsValid d → IsLine lines n (Instr name operands) → IsNamed d name i →
    AreForFields i operands → GivesOthers d lines n → ⊥
not-others d lines n name operands i v line named letters f =
    let t = this lines n name operands line f.at in
    let same : i ≡ f.instr = one-named d name i f.instr v named (subst (λ x. IsNamed d x f.instr) t.named f.named) in
    f.others (subst (λ (j : Instruction). AreForFields j f.at.operands) same (subst (AreForFields i) (sym t.with) letters))

pub not-unknown : (lines : List Said) (n : ℕ) (name : List ℕ) (operands : List Operand) (ns : List ℕ) → IsLine lines n (Instr name operands) → StandFor lines operands ns → UsesNone lines n → ⊥
not-unknown lines n name operands ns line stand f =
    let t = this lines n name operands line f.at in
    let s = stand-at lines operands ns f.k f.operand stand (ap (λ os. slice_get os f.k) (sym t.with) ∙ f.there) in
    let m : Means lines f.name s.0 = subst (λ value. StandsFor lines value s.0) f.uses s.1 in
    f.none m.n m.line

pub not-unfit : (d : Desc) (lines : List Said) (labels : Labels) (n : ℕ) (name : List ℕ) (operands : List Operand) (i : Instruction) (ns : List ℕ) → IsValid d → AreLabels lines labels →
    IsLine lines n (Instr name operands) → IsNamed d name i → StandFor lines operands ns → fit (fields_of i.pattern.bytes) ns ≡ true → DoesNotFit d lines n → ⊥
not-unfit d lines labels n name operands i ns v are line named stand fits f =
    let t = this lines n name operands line f.at in
    let same : i ≡ f.instr = one-named d name i f.instr v named (subst (λ x. IsNamed d x f.instr) t.named f.named) in
    let all : Some ns ≡ Some f.numbers = sym (stand-numbers lines labels operands ns are stand) ∙ stand-numbers lines labels operands f.numbers are (subst (λ os. StandFor lines os f.numbers) t.with f.stand) in
    let numbers : ns ≡ f.numbers = cc all in
    let e : true ≡ false = sym fits ∙ ap (λ (j : Instruction). fit (fields_of j.pattern.bytes) ns) same ∙ ap (fit (fields_of f.instr.pattern.bytes)) numbers ∙ f.unfit in
    cc e

-- the numbers of a word fit
pub says-fit : (d : Desc) (lines : List Said) (name : List ℕ) (operands : List Operand) (word : ℕ) (s : SaysInstr d lines name operands word) → fit (fields_of s.instr.pattern.bytes) s.numbers ≡ true
says-fit d lines name operands word s = ap (fit (fields_of s.instr.pattern.bytes)) (sym s.is.fields) ∙ values-fit word (fields_of s.instr.pattern.bytes)
