-- Worked rows of what a source means, and near ones that do not hold.
use Rattle.std.proofs.Common.{◌≡◌, inl, inr, ℕ, zero, suc, ◌<◌, false, true, List, [], ◌∷◌, slice_get, Some, Ok, Err, refl, ap, sym, subst, ◌∙◌, arith, lit<, lit≤}
use Rattle.std.specs.Prelude.{slice_index, codes}
use Rattle.pg_ast.specs.declared.tree.Instr.{Instr as Instruction}
use Rattle.pg_ast.specs.declared.tree.Desc.{Desc}
use Rattle.pg_image.specs.Images.{lines_of, content, parts_of}
use Rattle.pg_lang_meaning.specs.Patterns.{matches, run_length}
use Rattle.pg_lang_valid.specs.Limits.{all_of, limit_broken}
use Rattle.pg_lang_valid.specs.Twice.{first_twice, let_twice, let_twice_among}
use Rattle.pg_lang_valid.specs.Overlaps.{pattern_broken, has_split_letter, overlap, overlap_with}
use Rattle.pg_lang_valid.specs.Scopes.{seen_in_order, name_unknown}
use Rattle.pg_lang_valid.specs.Widths.{fares_in_order, width_broken}
use Rattle.pg_lang_valid.specs.Valid.{IsValid}
use Rattle.pg_asm.specs.Words.{fields_behind, fields_of, fit, kept_bits, word_behind, IsWordOf}
use Rattle.pg_asm.specs.declared.fault.AsmFault.TheVariants.{Grammar, Name, Field, Overlap}
use Rattle.pg_asm.specs.declared.fault.AsmFault.{AsmFault}
use Rattle.pg_asm.specs.Said.{Value, Number, Named, Operand, Said, At, Label, Word, Instr, operands_said}
use Rattle.pg_asm.specs.Sources.{may_stand, source_due, cells_from, labels_from, said_from, foreign_place, numbers_of, same_letters}
use Rattle.pg_asm.specs.Placed.{AreLines, IsLine, takes_place, SaysWord, StandsAt, Takes, IsGap, IsCell, Means, NamesNone, GivesOthers, UsesNone, DoesNotFit, PassesSize, TakesAgain, GivesAgain, IsForeign, HasNoForm, ComesBefore, IsNamed, IsAssembled, IsRefused}
use Rattle.pg_asm.proofs.LinePlaces.{place-is}
use Rattle.pg_asm.proofs.InstrPlaces.{not-unnamed, not-others, not-unknown}
use Rattle.pg_asm.proofs.PlacedLaw.{source-image-placed, source-fault-placed}

-- ---- a machine of 16 bits with one instruction, whose body is empty: `jmp "0001....aaaaaaaa"`

abbrev jmp : Instruction
jmp = record {
  name = record { bytes = codes "jmp"; is_name = refl };
  pattern = record { bytes = codes "0001....aaaaaaaa"; is_pattern = refl };
  body = [];
  shallow = record { blocks = lit≤ tt; exprs = lit≤ tt };
}

abbrev machine : Desc
machine = record { word = 16; address = 4; size = 15; causes = false; instrs = jmp ∷ [] }

valid : IsValid machine
unfolding all_of limit_broken first_twice let_twice let_twice_among pattern_broken has_split_letter overlap overlap_with seen_in_order name_unknown fares_in_order width_broken run_length
valid = record { shape = refl; limits = refl; names_once = refl; patterns = refl; apart = refl; names_known = refl; widths = refl }

named-jmp : IsNamed machine (codes "jmp") jmp
named-jmp = record { k = 0; there = refl; same = refl }

-- ---- `@4`, `word 0007`, `word 0009`: two words behind a gap

abbrev three : List Said
three = At 2 ∷ At 4 ∷ Word 7 ∷ Word 9 ∷ []

row-lines : AreLines 16 (codes "@4\nword 0007 # seven\nword 0009") three
unfolding lines_of parts_of
row-lines = refl

row-stands : StandsAt three 2 4
row-stands = record { front = At 2 ∷ []; k = 4; since = []; before = refl; last = tt; counted = refl }

row-stands_next : StandsAt three 3 5
row-stands_next = record { front = At 2 ∷ []; k = 4; since = Word 7 ∷ []; before = refl; last = (refl, tt); counted = refl }

row-seven : IsCell machine three 4 7
row-seven = inl (record { n = 2; said = Word 7; line = refl; stands = row-stands; says = refl })

row-nine : IsCell machine three 5 9
row-nine = inl (record { n = 3; said = Word 9; line = refl; stands = row-stands_next; says = refl })

-- no line takes place 2, so that cell 2 holds zero
row-gap : IsCell machine three 2 0
row-gap = inr (none, refl)
  where
    none : IsGap three 2
    none zero t = let same : At 2 ≡ t.said = cc t.line in let e : false ≡ true = ap takes_place same ∙ t.takes in cc e
    none (suc zero) t = let same : At 4 ≡ t.said = cc t.line in let e : false ≡ true = ap takes_place same ∙ t.takes in cc e
    none (suc (suc zero)) t = let e : 4 ≡ 2 = place-is three 2 2 t.stands in omega (arith, e)
    none (suc (suc (suc zero))) t = let e : 5 ≡ 2 = place-is three 3 2 t.stands in omega (arith, e)
    none (suc (suc (suc (suc n)))) t = let e = t.line in cc e

-- a line takes place 4, so that cell 4 holds no zero
row-not_gap : IsCell machine three 4 0 → ⊥
row-not_gap (inl p) = says p.n p.said p.line p.stands p.says
  where
    says : (n : ℕ) (said : Said) → IsLine three n said → StandsAt three n 4 → SaysWord machine three said 0 → ⊥
    says zero said line s w = let same : At 2 ≡ said = cc line in absurd (subst (λ x. SaysWord machine three x 0) (sym same) w)
    says (suc zero) said line s w = let same : At 4 ≡ said = cc line in absurd (subst (λ x. SaysWord machine three x 0) (sym same) w)
    says (suc (suc zero)) said line s w =
        let same : Word 7 ≡ said = cc line in
        let e : 7 ≡ 0 = subst (λ x. SaysWord machine three x 0) (sym same) w in
        omega (arith, e)
    says (suc (suc (suc zero))) said line s w = let e : 5 ≡ 4 = place-is three 3 4 s in omega (arith, e)
    says (suc (suc (suc (suc n)))) said line s w = cc line
row-not_gap (inr g) = g.0 2 (record { said = Word 7; line = refl; takes = refl; stands = row-stands })

-- `a=V`
abbrev to : Value → List Operand
to value = record { letter = 97; value = value } ∷ []

-- ---- `jmp a=top`, `@9`, `top:`, `word 0001`: a label that is used before its line

abbrev forward : List Said
forward = At 2 ∷ Instr (codes "jmp") (to (Named (codes "top"))) ∷ At 9 ∷ Label (codes "top") ∷ Word 1 ∷ []

row-forward_lines : AreLines 16 (codes "jmp a=top\n@9\ntop:\nword 0001") forward
unfolding lines_of parts_of operands_said
row-forward_lines = refl

row-top : Means forward (codes "top") 9
row-top = record { n = 3; line = refl; first = earlier; stands = record { front = At 2 ∷ Instr (codes "jmp") (to (Named (codes "top"))) ∷ []; k = 9; since = []; before = refl; last = tt; counted = refl } }
  where
    earlier : (m : ℕ) → m < 3 → IsLine forward m (Label (codes "top")) → ⊥
    earlier zero less line = cc line
    earlier (suc zero) less line = cc line
    earlier (suc (suc zero)) less line = cc line
    earlier (suc (suc (suc m))) less line = omega (arith, less)

-- the word has the pattern's fixed bits, and the label's place
row-jmp : SaysWord machine forward (Instr (codes "jmp") (to (Named (codes "top")))) 0x1009
unfolding fields_behind run_length kept_bits matches
row-jmp = record {
  instr = jmp;
  named = named-jmp;
  fields = refl;
  numbers = 9 ∷ [];
  stand = (row-top, tt);
  is = record { fixed = refl; fields = refl; free = refl };
}

-- a free bit that is one makes another word
row-not_jmp : IsWordOf (codes "0001....aaaaaaaa") (9 ∷ []) 0x1109 → ⊥
unfolding kept_bits
row-not_jmp w = let e : 0x1009 ≡ 0x1109 = w.free in omega (arith, e)

-- ---- faults

abbrev line_1 : List Operand → List Said
line_1 operands = At 2 ∷ Instr (codes "jmp") operands ∷ []

-- no instruction is named `jpm`; one is named `jmp`
row-name : NamesNone machine (At 2 ∷ Instr (codes "jpm") [] ∷ []) 1
row-name = record { at = record { name = codes "jpm"; operands = []; line = refl }; none = λ i n. none i n.k n.there n.same }
  where
    none : (i : Instruction) (k : ℕ) → slice_get (jmp ∷ []) k ≡ Some i → i.name.bytes ≡ codes "jpm" → ⊥
    none i zero there same =
        let e : jmp ≡ i = cc there in
        let t : codes "jmp" ≡ codes "jpm" = ap (λ (x : Instruction). x.name.bytes) e ∙ same in
        let c : 109 ≡ 112 = ap (λ bytes. slice_index bytes 1) t in
        omega (arith, c)
    none i (suc k) there same = cc there

row-not_name : NamesNone machine (line_1 []) 1 → ⊥
row-not_name = not-unnamed machine (line_1 []) 1 (codes "jmp") [] jmp refl named-jmp

-- a field is missing; in `forward` none is
row-field : GivesOthers machine (line_1 []) 1
unfolding fields_behind run_length
row-field = record { at = record { name = codes "jmp"; operands = []; line = refl }; instr = jmp; named = named-jmp; others = λ e. cc e }

row-not_field : GivesOthers machine forward 1 → ⊥
unfolding fields_behind run_length
row-not_field = not-others machine forward 1 (codes "jmp") (to (Named (codes "top"))) jmp valid refl named-jmp refl

-- no line gives `end`; one gives `top`
row-unknown : UsesNone (line_1 (to (Named (codes "end")))) 1
row-unknown = record {
  at = record { name = codes "jmp"; operands = to (Named (codes "end")); line = refl };
  k = 0;
  operand = record { letter = 97; value = Named (codes "end") };
  there = refl;
  name = codes "end";
  uses = refl;
  none = none;
}
  where
    none : (m : ℕ) → IsLine (line_1 (to (Named (codes "end")))) m (Label (codes "end")) → ⊥
    none zero line = cc line
    none (suc zero) line = cc line
    none (suc (suc m)) line = cc line

row-not_unknown : UsesNone forward 1 → ⊥
row-not_unknown = not-unknown forward 1 (codes "jmp") (to (Named (codes "top"))) (9 ∷ []) refl (row-top, tt)

-- 256 does not fit eight bits; 255 does
row-unfit : DoesNotFit machine (line_1 (to (Number 256))) 1
unfolding fields_behind run_length fit
row-unfit = record {
  at = record { name = codes "jmp"; operands = to (Number 256); line = refl };
  instr = jmp;
  named = named-jmp;
  fields = refl;
  numbers = 256 ∷ [];
  stand = (refl, tt);
  unfit = refl;
}

row-fit : fit (fields_of (codes "0001....aaaaaaaa")) (255 ∷ []) ≡ true
unfolding fields_behind run_length fit
row-fit = refl

-- `word 0007`, `@2`, `word 0009`: line 3 takes the place of line 1
abbrev back : List Said
back = At 2 ∷ Word 7 ∷ At 2 ∷ Word 9 ∷ []

row-again : TakesAgain back 3
row-again = record {
  place = 2;
  takes = record { said = Word 9; line = refl; takes = refl; stands = record { front = At 2 ∷ Word 7 ∷ []; k = 2; since = []; before = refl; last = tt; counted = refl } };
  m = 1;
  before = lit< tt;
  earlier = record { said = Word 7; line = refl; takes = refl; stands = record { front = []; k = 2; since = []; before = refl; last = tt; counted = refl } };
}

-- with `@3` there it does not
abbrev on : List Said
on = At 2 ∷ Word 7 ∷ At 3 ∷ Word 9 ∷ []

row-not_again : TakesAgain on 3 → ⊥
row-not_again f = by f.m f.before f.earlier (place-is on 3 f.place f.takes.stands)
  where
    by : (m : ℕ) → m < 3 → Takes on m f.place → 3 ≡ f.place → ⊥
    by zero less t at = let same : At 2 ≡ t.said = cc t.line in let e : false ≡ true = ap takes_place same ∙ t.takes in cc e
    by (suc zero) less t at = let e : 2 ≡ f.place = place-is on 1 f.place t.stands in omega (arith, e, at)
    by (suc (suc zero)) less t at = let same : At 3 ≡ t.said = cc t.line in let e : false ≡ true = ap takes_place same ∙ t.takes in cc e
    by (suc (suc (suc m))) less t at = omega (arith, less)

-- its word stands in cell 3: past a size of 3, and not of 4
row-past : PassesSize 3 on 3
row-past = record {
  place = 3;
  takes = record { said = Word 9; line = refl; takes = refl; stands = record { front = At 2 ∷ Word 7 ∷ []; k = 3; since = []; before = refl; last = tt; counted = refl } };
  past = lit≤ tt;
}

row-not_past : PassesSize 4 on 3 → ⊥
row-not_past f = let e : 3 ≡ f.place = place-is on 3 f.place f.takes.stands in omega (arith, e, f.past)

-- `top:`, `word 0001`, `top:`: line 3 gives the label again, and the label means the first place
abbrev twice : List Said
twice = At 2 ∷ Label (codes "top") ∷ Word 1 ∷ Label (codes "top") ∷ []

row-twice : GivesAgain twice 3
row-twice = record { name = codes "top"; line = refl; m = 1; before = lit< tt; earlier = refl }

row-not_twice : GivesAgain twice 1 → ⊥
row-not_twice f = by f.m f.before f.earlier
  where
    by : (m : ℕ) → m < 1 → IsLine twice m (Label f.name) → ⊥
    by zero less line = cc line
    by (suc m) less line = omega (arith, less)

row-first : Means twice (codes "top") 2
row-first = record { n = 1; line = refl; first = earlier; stands = record { front = []; k = 2; since = []; before = refl; last = tt; counted = refl } }
  where
    earlier : (m : ℕ) → m < 1 → IsLine twice m (Label (codes "top")) → ⊥
    earlier zero less line = cc line
    earlier (suc m) less line = omega (arith, less)

row-not_second : Means twice (codes "top") 3 → ⊥
row-not_second k = by k.n k.line k.first k.stands
  where
    by : (n : ℕ) → IsLine twice n (Label (codes "top")) → ((m : ℕ) → m < n → IsLine twice m (Label (codes "top")) → ⊥) → StandsAt twice n 3 → ⊥
    by zero line first s = cc line
    by (suc zero) line first s = let e : 2 ≡ 3 = place-is twice 1 3 s in omega (arith, e)
    by (suc (suc n)) line first s = first 1 (omega arith) refl

-- `@2;`: the semicolon is foreign, and in a comment it is not
row-foreign : IsForeign (codes "word 0007\n@2;") 12
unfolding lines_of
row-foreign = record { i = 1; line = codes "@2;"; there = refl; k = 2; byte = 59; stands = refl; foreign = refl; counted = refl }

row-comment : (place : ℕ) → IsForeign (codes "@2#;") place → ⊥
unfolding lines_of
row-comment place f = by f.i f.line f.there f.k f.stands
  where
    byte : (k : ℕ) → slice_get (codes "@2") k ≡ Some f.byte → ⊥
    byte zero h = let e : 64 ≡ f.byte = cc h in let t : true ≡ false = ap may_stand e ∙ f.foreign in cc t
    byte (suc zero) h = let e : 50 ≡ f.byte = cc h in let t : true ≡ false = ap may_stand e ∙ f.foreign in cc t
    byte (suc (suc k)) h = cc h

    by : (i : ℕ) (line : List ℕ) → slice_get (codes "@2#;" ∷ []) i ≡ Some line → (k : ℕ) → slice_get (content line) k ≡ Some f.byte → ⊥
    by zero line there k h = let e : codes "@2#;" ≡ line = cc there in byte k (ap (λ l. slice_get (content l) k) e ∙ h)
    by (suc i) line there k h = cc there

-- `word 5` has another number of digits than a word of 16 bits
row-formless : HasNoForm 16 (codes "@2\nword 5") 2
unfolding lines_of parts_of
row-formless = record { i = 1; line = codes "word 5"; there = refl; number = refl; none = refl }

-- a line of no form comes before a name on an earlier line; of other faults that of the earlier line; on one line a name before fields
row-stage : ComesBefore (Grammar 9) (Name 1)
row-stage = inl (lit< tt)

row-spot : ComesBefore (Overlap 2) (Name 3)
row-spot = inr (inl (refl, lit< tt))

row-turn : ComesBefore (Name 3) (Field 3)
row-turn = inr (inr (refl, refl, lit< tt))

row-not_turn : ComesBefore (Field 3) (Name 3) → ⊥
row-not_turn (inl h) = omega (arith, h)
row-not_turn (inr (inl h)) = omega (arith, h.1)
row-not_turn (inr (inr h)) = omega (arith, h.2)

-- ---- whole sources, by the law

assembled : (size : ℕ) (text cells : List ℕ) → source_due machine size text ≡ Ok cells → IsAssembled machine size text cells
assembled size text cells h = (source-image-placed machine size text cells valid).0 h

refused : (text : List ℕ) (fault : AsmFault) → source_due machine 7 text ≡ Err fault → IsRefused machine 7 text fault
refused text fault h = (source-fault-placed machine 7 text fault valid).0 h

row-three : IsAssembled machine 7 (codes "@4\nword 0007 # seven\nword 0009") (0 ∷ 0 ∷ 0 ∷ 0 ∷ 7 ∷ 9 ∷ 0 ∷ [])
unfolding source_due cells_from labels_from said_from foreign_place lines_of parts_of
row-three = assembled 7 (codes "@4\nword 0007 # seven\nword 0009") (0 ∷ 0 ∷ 0 ∷ 0 ∷ 7 ∷ 9 ∷ 0 ∷ []) refl

row-label : IsAssembled machine 6 (codes "jmp a=top\n@5\ntop:\nword 0001") (0 ∷ 0 ∷ 0x1005 ∷ 0 ∷ 0 ∷ 1 ∷ [])
unfolding source_due cells_from labels_from said_from foreign_place lines_of parts_of operands_said numbers_of same_letters fields_behind run_length fit word_behind
row-label = assembled 6 (codes "jmp a=top\n@5\ntop:\nword 0001") (0 ∷ 0 ∷ 0x1005 ∷ 0 ∷ 0 ∷ 1 ∷ []) refl

-- the overlap of line 3 is told, and not the name of line 4; but the form of line 5 is
row-refused : IsRefused machine 7 (codes "word 0007\n@2\nword 0009\nhalt") (Overlap 3)
unfolding source_due cells_from labels_from said_from foreign_place lines_of parts_of operands_said
row-refused = refused (codes "word 0007\n@2\nword 0009\nhalt") (Overlap 3) refl

row-refused_form : IsRefused machine 7 (codes "word 0007\n@2\nword 0009\nhalt\nword 1") (Grammar 5)
unfolding source_due cells_from labels_from said_from foreign_place lines_of parts_of operands_said
row-refused_form = refused (codes "word 0007\n@2\nword 0009\nhalt\nword 1") (Grammar 5) refl
