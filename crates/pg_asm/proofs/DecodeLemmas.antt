-- Instructions and the words that they match.
use Rattle.std.proofs.Common.{◌≡◌, ℕ, zero, suc, ◌+◌, ◌-◌, ◌<◌, ◌≤◌, Bool, true, false, if◌then◌else◌, List, [], ◌∷◌, length, map, slice_get, get_or, Option, None, Some, refl, ap, sym, ◌∙◌, arith}
use Rattle.std.specs.Option.{option_map}
use Rattle.std.proofs.lemmas.Option.{slice_get-get_or}
use Rattle.pg_ast.specs.declared.tree.Instr.{Instr}
use Rattle.pg_ast.specs.declared.tree.Desc.{Desc}
use Rattle.pg_lang_meaning.specs.Patterns.{matches, matching_number}
use Rattle.pg_lang_valid.specs.Valid.{IsValid}
use Rattle.pg_lang_valid.proofs.PatternFacts.{valid-length, valid-apart, valid-short}
use Rattle.pg_asm.specs.Words.{fields_of, fit, kept_bits, IsWordOf, word_by, pattern_of, values_in, decoded}
use Rattle.pg_asm.proofs.WordLemmas.{values-again, word-is, values-fit}

pub pattern-there : (is : List Instr) (k : ℕ) (i : Instr) → slice_get is k ≡ Some i → i.pattern.bytes ≡ pattern_of is k
pattern-there is k i at = sym (ap (λ o. elim o [ Some x ↦ x.pattern.bytes | None ↦ [] ]) at)

-- the pattern of an instruction that there is
pub pattern-at : (is : List Instr) (k : ℕ) (x : Instr) → k < length is → (get_or is k x).pattern.bytes ≡ pattern_of is k
pattern-at is k x within = pattern-there is k (get_or is k x) (slice_get-get_or is k x within)

pub pattern-length : (d : Desc) (k : ℕ) (x : Instr) → IsValid d → k < length d.instrs → length (get_or d.instrs k x).pattern.bytes ≡ d.word
pattern-length d k x v within = valid-length d k (get_or d.instrs k x) v (slice_get-get_or d.instrs k x within)

-- ---- what is found

pub record Finds (is : List Instr) (first word n : ℕ) : Type 0 where
  pub from : first ≤ n
  pub within : n - first < length is
  pub instr : Instr
  pub there : slice_get is (n - first) ≡ Some instr
  pub matched : matches instr.pattern.bytes word ≡ true

pub finds : (is : List Instr) (first word n : ℕ) → matching_number is first word ≡ Some n → Finds is first word n
unfolding matching_number
finds [] first word n h = absurd (cc h)
finds (i ∷ others) first word n h = by (matches i.pattern.bytes word) refl h (λ e. finds others (first + 1) word n e)
  where
    by : (b : Bool) → matches i.pattern.bytes word ≡ b → (if b then Some first else matching_number others (first + 1) word) ≡ Some n →
        (matching_number others (first + 1) word ≡ Some n → Finds others (first + 1) word n) → Finds (i ∷ others) first word n
    by true m e later =
        let same : first ≡ n = cc e in
        let at : 0 ≡ n - first = omega (arith, same) in
        record { from = omega (arith, same); within = omega (arith, same); instr = i; there = ap (slice_get (i ∷ others)) (sym at); matched = m }
    by false m e later =
        let f = later e in
        let at : suc (n - (first + 1)) ≡ n - first = omega (arith, f.from) in
        record { from = omega (arith, f.from); within = omega (arith, f.from, f.within); instr = f.instr; there = ap (slice_get (i ∷ others)) (sym at) ∙ f.there; matched = f.matched }

-- where it matches a word, and no earlier one does, an instruction is found
first-found : (is : List Instr) (first word k : ℕ) (i : Instr) → slice_get is k ≡ Some i → matches i.pattern.bytes word ≡ true →
    ((j : ℕ) (x : Instr) → j < k → slice_get is j ≡ Some x → matches x.pattern.bytes word ≡ true → ⊥) → matching_number is first word ≡ Some (first + k)
unfolding matching_number
first-found [] first word k i at m none = absurd (cc at)
first-found (x ∷ is) first word zero i at m none =
    let same : x ≡ i = cc at in
    let here : first ≡ first + 0 = omega arith in
    ap (λ b. if b then Some first else matching_number is (first + 1) word) (ap (λ y. matches y.pattern.bytes word) same ∙ m) ∙ ap (λ n. Some n) here
first-found (x ∷ is) first word (suc k) i at m none =
    by (matches x.pattern.bytes word) refl (first-found is (first + 1) word k i at m (λ j y less there. none (suc j) y (omega arith) there))
  where
    by : (b : Bool) → matches x.pattern.bytes word ≡ b → matching_number is (first + 1) word ≡ Some (first + 1 + k) →
        (if b then Some first else matching_number is (first + 1) word) ≡ Some (first + suc k)
    by true e ih = absurd (none 0 x (omega arith) refl e)
    by false e ih = ih ∙ (let n : first + 1 + k ≡ first + suc k = omega arith in ap (λ j. Some j) n)

-- of a valid description the one whose pattern matches is found
pub number-found : (d : Desc) (k word : ℕ) (i : Instr) → IsValid d → slice_get d.instrs k ≡ Some i → matches i.pattern.bytes word ≡ true → matching_number d.instrs 0 word ≡ Some k
number-found d k word i v at m =
    first-found d.instrs 0 word k i at m (λ j x less there e. valid-apart d j k x i word v less there at e m) ∙ (let n : 0 + k ≡ k = omega arith in ap (λ j. Some j) n)

-- ---- decoding

-- the word of an instruction and values is decoded to them
pub decoded-word : (d : Desc) (k word : ℕ) (i : Instr) (values : List ℕ) → IsValid d → slice_get d.instrs k ≡ Some i → IsWordOf i.pattern.bytes values word →
    decoded d.instrs word ≡ Some (k, values)
decoded-word d k word i values v at w =
    ap (option_map (λ n. (n, values_in (pattern_of d.instrs n) word))) (number-found d k word i v at w.fixed)
    ∙ ap (λ p. Some (k, values_in p word)) (sym (pattern-there d.instrs k i at)) ∙ ap (λ vs. Some (k, vs)) w.fields

-- what a word is decoded to
pub record IsDecoded (is : List Instr) (word k : ℕ) (values : List ℕ) : Type 0 where
  pub within : k < length is
  pub matched : matches (pattern_of is k) word ≡ true
  pub given : values ≡ values_in (pattern_of is k) word

pub decoded-is : (is : List Instr) (word k : ℕ) (values : List ℕ) → decoded is word ≡ Some (k, values) → IsDecoded is word k values
decoded-is is word k vs h = by (matching_number is 0 word) refl h
  where
    by : (o : Option ℕ) → matching_number is 0 word ≡ o → option_map {U = ℕ × List ℕ} (λ n. (n, values_in (pattern_of is n) word)) o ≡ Some (k, vs) → IsDecoded is word k vs
    by None e h = absurd (cc h)
    by (Some n) e h =
        let f = finds is 0 word n e in
        let at : n - 0 ≡ n = omega arith in
        let pair : (n, values_in (pattern_of is n) word) ≡ (k, vs) = cc h in
        let same : n ≡ k = ap (λ (p : ℕ × List ℕ). p.0) pair in
        let all : values_in (pattern_of is n) word ≡ vs = ap (λ (p : ℕ × List ℕ). p.1) pair in
        record {
          within = omega (arith, same, f.within);
          matched = ap (λ j. matches (pattern_of is j) word) (sym same) ∙ ap (λ p. matches p word) (sym (pattern-there is n f.instr (ap (slice_get is) (sym at) ∙ f.there))) ∙ f.matched;
          given = sym all ∙ ap (λ j. values_in (pattern_of is j) word) same;
        }

-- the values that a word is decoded to fit, and their word is that word, but for free places
pub record IsRemade (is : List Instr) (word k : ℕ) (values : List ℕ) : Type 0 where
  pub fits : fit (fields_of (pattern_of is k)) values ≡ true
  pub kept : word_by (pattern_of is k) values ≡ kept_bits (pattern_of is k) word

pub remade : (is : List Instr) (word k : ℕ) (values : List ℕ) → IsDecoded is word k values → IsRemade is word k values
remade is word k values e = record {
  fits = ap (fit (fields_of (pattern_of is k))) e.given ∙ values-fit word (fields_of (pattern_of is k));
  kept = ap (word_by (pattern_of is k)) e.given ∙ values-again (pattern_of is k) word e.matched;
}
