-- What a valid description tells of its numbers and of each of its instructions.
use Rattle.std.proofs.Common.{◌≡◌, ℕ, ◌+◌, Bool, true, false, not, ◌==◌, if◌then◌else◌, List, [], ◌∷◌, length, Option, None, Some, refl, subst, arith}
use Rattle.std.proofs.lemmas.Bool.{eqb-true}
use Rattle.pg_word.specs.Shape.{IsShape}
use Rattle.pg_word.specs.Bits.{IsWidth}
use Rattle.pg_ast.specs.declared.tree.Instr.{Instr}
use Rattle.pg_ast.specs.declared.tree.Desc.{Desc}
use Rattle.pg_lang_meaning.specs.Patterns.{matches, matching}
use Rattle.pg_lang_meaning.specs.States.{shape_of}
use Rattle.pg_lang_valid.specs.Overlaps.{has_split_letter, is_well_formed, pattern_broken}
use Rattle.pg_lang_valid.specs.Widths.{Broken, width_broken, width_broken_in, placed_at}
use Rattle.pg_lang_valid.specs.Valid.{IsValid, as_pattern, as_width}
use Rattle.pg_lang_valid.proofs.ShapeLemmas.{shape_valid}
use Rattle.pg_lang_valid.proofs.CheckLemmas.{and_both}

-- the numbers of a valid description
pub IsShape-of_valid : (d : Desc) → IsValid d → IsShape (shape_of d)
IsShape-of_valid d v = shape_valid d v.shape

pub as_pattern_none : (o : Option ℕ) → as_pattern o ≡ None → o ≡ None
as_pattern_none None h = refl
as_pattern_none (Some k) h = absurd (cc h)

as_width_none : (o : Option (ℕ × Broken)) → as_width o ≡ None → o ≡ None
as_width_none None h = refl
as_width_none (Some k) h = absurd (cc h)

placed_none : (k : ℕ) (o : Option Broken) (later : Option (ℕ × Broken)) → placed_at k o later ≡ None → (o ≡ None) × (later ≡ None)
placed_none k None later h = (refl, h)
placed_none k (Some x) later h = absurd (cc h)

-- what holds of an instruction that some word matches
well_formed_among : (w k : ℕ) (is : List Instr) (word : ℕ) (i : Instr) → pattern_broken w k is ≡ None → matching is word ≡ Some i →
    is_well_formed w i.pattern.bytes ≡ true
unfolding pattern_broken matching
well_formed_among w k [] word i h m = absurd (cc m)
well_formed_among w k (j ∷ js) word i h m = by_form (is_well_formed w j.pattern.bytes) refl h
    (by_match (matches j.pattern.bytes word) m (λ e h'. well_formed_among w (k + 1) js word i h' e))
  where
    Rest : Type 0
    Rest = pattern_broken w (k + 1) js ≡ None → is_well_formed w j.pattern.bytes ≡ true → is_well_formed w i.pattern.bytes ≡ true

    by_match : (b : Bool) → (if b then Some j else matching js word) ≡ Some i →
        (matching js word ≡ Some i → pattern_broken w (k + 1) js ≡ None → is_well_formed w i.pattern.bytes ≡ true) → Rest
    by_match true e later = λ none formed. let same : j ≡ i = cc e in subst (λ z. is_well_formed w z.pattern.bytes ≡ true) same formed
    by_match false e later = λ none formed. later e none

    by_form : (b : Bool) → is_well_formed w j.pattern.bytes ≡ b → (if b then pattern_broken w (k + 1) js else Some k) ≡ None → Rest → is_well_formed w i.pattern.bytes ≡ true
    by_form true e none rest = rest none e
    by_form false e none rest = absurd (cc none)

widths_among : (d : Desc) (k : ℕ) (is : List Instr) (word : ℕ) (i : Instr) → width_broken d k is ≡ None → matching is word ≡ Some i → width_broken_in d i ≡ None
unfolding width_broken matching
widths_among d k [] word i h m = absurd (cc m)
widths_among d k (j ∷ js) word i h m =
    let none = placed_none k (width_broken_in d j) (width_broken d (k + 1) js) h in
    by_match (matches j.pattern.bytes word) m none.0 (λ e. widths_among d (k + 1) js word i none.1 e)
  where
    by_match : (b : Bool) → (if b then Some j else matching js word) ≡ Some i → width_broken_in d j ≡ None →
        (matching js word ≡ Some i → width_broken_in d i ≡ None) → width_broken_in d i ≡ None
    by_match true e here later = let same : j ≡ i = cc e in subst (λ z. width_broken_in d z ≡ None) same here
    by_match false e here later = later e

-- the pattern of a matching instruction has as many places as a word has bits
pub pattern_length-of_valid : (d : Desc) (word : ℕ) (i : Instr) → IsValid d → matching d.instrs word ≡ Some i → length i.pattern.bytes ≡ d.word
pattern_length-of_valid d word i v m =
    let formed = well_formed_among d.word 0 d.instrs word i (as_pattern_none (pattern_broken d.word 0 d.instrs) v.patterns) m in
    eqb-true (length i.pattern.bytes) d.word ((and_both (length i.pattern.bytes == d.word) (not (has_split_letter i.pattern.bytes)) formed).0)

-- the body of a matching instruction keeps to the table of widths
pub widths-of_valid : (d : Desc) (word : ℕ) (i : Instr) → IsValid d → matching d.instrs word ≡ Some i → width_broken_in d i ≡ None
widths-of_valid d word i v m = widths_among d 0 d.instrs word i (as_width_none (width_broken d 0 d.instrs) v.widths) m

pub IsWidth-word : (d : Desc) → IsValid d → IsWidth d.word
IsWidth-word d v = let s = IsShape-of_valid d v in record { least = omega (arith, s.word_least); most = s.word_most }

pub IsWidth-address : (d : Desc) → IsValid d → IsWidth d.address
IsWidth-address d v = let s = IsShape-of_valid d v in record { least = omega (arith, s.address_least); most = omega (arith, s.address_most) }
