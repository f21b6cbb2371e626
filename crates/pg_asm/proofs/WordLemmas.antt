-- Words of patterns: the word that is made of values is *WordOf*, and no other is.
use Rattle.std.proofs.Common.{◌≡◌, ℕ, suc, ◌+◌, ◌-◌, ◌*◌, ◌/◌, ◌%◌, ◌^◌, ◌<◌, ◌≤◌, Bool, true, false, ◌&&◌, if◌then◌else◌, List, [], ◌∷◌, length, drop, map, slice_index, refl, ap, sym, ◌∙◌, arith}
use Rattle.std.specs.Prelude.{nat_lt}
use Rattle.std.proofs.lemmas.Bool.{and_parts, ltb-true, lt-ltb}
use Rattle.std.proofs.lemmas.Nat.{mod_below, mul-add-lt, pow_pos, pow-add}
use Rattle.std.proofs.Math.Nat.{mod-eq_of_lt}
use Rattle.pg_lang_meaning.specs.Patterns.{takes_bit, bit_of_word, matches, run_length}
use Rattle.pg_lang_meaning.specs.Opcodes.{wanted_bit}
use Rattle.pg_asm.specs.declared.fields.LetterField.{LetterField}
use Rattle.pg_asm.specs.Words.{field_here, fields_behind, fields_of, value_in, values_in, fit, counts, kept_bits, IsWordOf, word_behind, word_by}
use Rattle.pg_asm.proofs.Places.{Parts, parts, top, run, Begins, GoesOn, IsOther, Place, begins, goes_on, other, place, run_length-most, bit-wanted, wanted-taken, letter-taken, letter-counts, wanted-most}

nothing : (y : ℕ) → y % 2 ^ 0 ≡ 0
nothing y = let h : y % 1 < 1 = mod_below y 1 (omega arith) in omega (arith, h)

-- ---- from a word to its values and back

matches_first : (c : ℕ) (cs : List ℕ) (x : ℕ) → matches (c ∷ cs) x ≡ true → takes_bit c (bit_of_word x (length cs)) ≡ true
unfolding matches
matches_first c cs x m = (and_parts (takes_bit c (bit_of_word x (length cs))) (matches cs x) m).0

matches_rest : (c : ℕ) (cs : List ℕ) (x : ℕ) → matches (c ∷ cs) x ≡ true → matches cs x ≡ true
unfolding matches
matches_rest c cs x m = (and_parts (takes_bit c (bit_of_word x (length cs))) (matches cs x) m).1

kept_here : (c : ℕ) (cs : List ℕ) (x : ℕ) → kept_bits (c ∷ cs) x ≡ (if counts c then bit_of_word x (length cs) else 0) * 2 ^ length cs + kept_bits cs x
unfolding kept_bits
kept_here c cs x = refl

kept_letter : (c : ℕ) (cs : List ℕ) (x : ℕ) → counts c ≡ true → kept_bits (c ∷ cs) x ≡ bit_of_word x (length cs) * 2 ^ length cs + kept_bits cs x
kept_letter c cs x h = kept_here c cs x ∙ ap (λ b. (if b then bit_of_word x (length cs) else 0) * 2 ^ length cs + kept_bits cs x) h

begun : (whole rest_word here high low kept all rest : ℕ) → whole ≡ here + rest_word → here ≡ high + low → rest_word + low ≡ kept → all ≡ high + kept → rest ≡ 0 → whole + rest ≡ all
begun whole rest_word here high low kept all rest a b c d e = omega arith

gone : (whole rest_word high low kept all rest : ℕ) → whole ≡ rest_word → rest ≡ high + low → rest_word + low ≡ kept → all ≡ high + kept → whole + rest ≡ all
gone whole rest_word high low kept all rest a b c d = omega arith

apart : (whole rest_word here low kept all rest : ℕ) → whole ≡ here + rest_word → rest_word + low ≡ kept → all ≡ here + kept → rest ≡ 0 → low ≡ 0 → whole + rest ≡ all
apart whole rest_word here low kept all rest a b c d e = omega arith

-- the values of a word make it again, but for free places: what is left of the field under way stands beside them
again : (before : ℕ) (cs : List ℕ) (x k r : ℕ) → r ≡ run before cs → k + r ≡ length cs → matches cs x ≡ true →
    word_behind before cs (map (value_in x) (fields_behind before cs)) + (x / 2 ^ k % 2 ^ r) * 2 ^ k ≡ kept_bits cs x
unfolding word_behind kept_bits
again before [] x k r is len m =
    let none : r ≡ 0 = omega arith in
    let zero : x / 2 ^ k % 2 ^ r ≡ 0 = ap (λ j. x / 2 ^ k % 2 ^ j) none ∙ nothing (x / 2 ^ k) in
    ap (λ y. 0 + y * 2 ^ k) zero ∙ omega arith
again before (c ∷ cs) x k r is len m = by (λ k' r' is' len'. again c cs x k' r' is' len' (matches_rest c cs x m)) (place before c cs)
  where
    n : ℕ
    n = length cs

    rl : ℕ
    rl = run_length c cs

    low : ℕ
    low = length cs - run_length c cs

    within : low + rl ≡ n
    within = omega (arith, run_length-most c cs)

    vs : List ℕ
    vs = map (value_in x) (fields_behind c cs)

    by : ((k' r' : ℕ) → r' ≡ run c cs → k' + r' ≡ length cs → word_behind c cs (map (value_in x) (fields_behind c cs)) + (x / 2 ^ k' % 2 ^ r') * 2 ^ k' ≡ kept_bits cs x) →
        Place before c cs → word_behind before (c ∷ cs) (map (value_in x) (fields_behind before (c ∷ cs))) + (x / 2 ^ k % 2 ^ r) * 2 ^ k ≡ kept_bits (c ∷ cs) x
    by ih (begins p) =
        let v : ℕ = value_in x (field_here c cs) in
        let zero : x / 2 ^ k % 2 ^ r ≡ 0 = ap (λ j. x / 2 ^ k % 2 ^ j) (is ∙ p.none) ∙ nothing (x / 2 ^ k) in
        let whole : word_behind before (c ∷ cs) (map (value_in x) (fields_behind before (c ∷ cs))) ≡ v * 2 ^ low + word_behind c cs vs =
        ap (λ fs. word_behind before (c ∷ cs) (map (value_in x) fs)) p.fields ∙ p.word (v ∷ vs) in
        begun _ (word_behind c cs vs) (v * 2 ^ low) ((x / 2 ^ n % 2) * 2 ^ n) ((x / 2 ^ low % 2 ^ rl) * 2 ^ low) (kept_bits cs x) _ _
        whole (top x low rl n within) (ih low rl (sym p.behind) within)
        (kept_letter c cs x (letter-counts c p.letter)) (ap (λ y. y * 2 ^ k) zero ∙ omega arith)
    by ih (goes_on p) =
        let bits : r ≡ 1 + rl = is ∙ p.more in
        let same : k ≡ low = omega (arith, bits, len, within) in
        let rest : (x / 2 ^ k % 2 ^ r) * 2 ^ k ≡ (x / 2 ^ low % 2 ^ (1 + rl)) * 2 ^ low =
        ap (λ j. (x / 2 ^ k % 2 ^ j) * 2 ^ k) bits ∙ ap (λ j. (x / 2 ^ j % 2 ^ (1 + rl)) * 2 ^ j) same in
        gone _ (word_behind c cs vs) ((x / 2 ^ n % 2) * 2 ^ n) ((x / 2 ^ low % 2 ^ rl) * 2 ^ low) (kept_bits cs x) _ _
        (ap (λ fs. word_behind before (c ∷ cs) (map (value_in x) fs)) p.fields ∙ p.word vs) (rest ∙ top x low rl n within)
        (ih low rl (sym p.behind) within) (kept_letter c cs x (letter-counts c p.letter))
    by ih (other p) =
        let zero : x / 2 ^ k % 2 ^ r ≡ 0 = ap (λ j. x / 2 ^ k % 2 ^ j) (is ∙ p.none) ∙ nothing (x / 2 ^ k) in
        let bit : (if counts c then bit_of_word x n else 0) ≡ wanted_bit c = bit-wanted c (bit_of_word x n) (matches_first c cs x m) p.letter in
        let ends : n + 0 ≡ n = omega arith in
        apart _ (word_behind c cs vs) (wanted_bit c * 2 ^ n) ((x / 2 ^ n % 2 ^ 0) * 2 ^ n) (kept_bits cs x) _ _
        (ap (λ fs. word_behind before (c ∷ cs) (map (value_in x) fs)) p.fields ∙ p.word vs)
        (ih n 0 (sym p.behind) ends)
        (kept_here c cs x ∙ ap (λ b. b * 2 ^ n + kept_bits cs x) bit) (ap (λ y. y * 2 ^ k) zero ∙ omega arith)
        (ap (λ y. y * 2 ^ n) (nothing (x / 2 ^ n)) ∙ omega arith)

-- ---- from values to a word

-- the first value, and the others
pub record FitsFirst (f : LetterField) (fs : List LetterField) (values : List ℕ) : Type 0 where
  pub value : slice_index values 0 < 2 ^ f.width
  pub rest : fit fs (drop 1 values) ≡ true
  pub cons : values ≡ slice_index values 0 ∷ drop 1 values

pub fits_first : (f : LetterField) (fs : List LetterField) (values : List ℕ) → fit (f ∷ fs) values ≡ true → FitsFirst f fs values
unfolding fit
fits_first f fs [] h = cc
fits_first f fs (v ∷ vs) h =
    let both = and_parts (nat_lt v (2 ^ f.width)) (fit fs vs) h in
    record { value = ltb-true v (2 ^ f.width) both.0; rest = both.1; cons = refl }

no_values : (values : List ℕ) → fit [] values ≡ true → [] ≡ values
unfolding fit
no_values [] h = refl
no_values (v ∷ vs) h = cc

pub word-bound : (before : ℕ) (cs values : List ℕ) (k r : ℕ) → r ≡ run before cs → k + r ≡ length cs → fit (fields_behind before cs) values ≡ true →
    word_behind before cs values < 2 ^ k
unfolding word_behind
word-bound before [] values k r is len h = pow_pos k
word-bound before (c ∷ cs) values k r is len h = by (λ vs k' r' is' len' h'. word-bound c cs vs k' r' is' len' h') (place before c cs)
  where
    n : ℕ
    n = length cs

    rl : ℕ
    rl = run_length c cs

    low : ℕ
    low = length cs - run_length c cs

    within : low + rl ≡ n
    within = omega (arith, run_length-most c cs)

    by : ((vs : List ℕ) (k' r' : ℕ) → r' ≡ run c cs → k' + r' ≡ length cs → fit (fields_behind c cs) vs ≡ true → word_behind c cs vs < 2 ^ k') →
        Place before c cs → word_behind before (c ∷ cs) values < 2 ^ k
    by ih (begins p) =
        let first = fits_first (field_here c cs) (fields_behind c cs) values (sym (ap (λ fs. fit fs values) p.fields) ∙ h) in
        let rest : word_behind c cs (drop 1 values) < 2 ^ low = ih (drop 1 values) low rl (sym p.behind) within first.rest in
        let here : slice_index values 0 * 2 ^ low + word_behind c cs (drop 1 values) < 2 ^ low * 2 ^ (1 + rl) =
        mul-add-lt (slice_index values 0) (2 ^ low) (word_behind c cs (drop 1 values)) (2 ^ (1 + rl)) first.value rest in
        let none : r ≡ 0 = is ∙ p.none in
        let ends : low + (1 + rl) ≡ k = omega (arith, none, within, len) in
        let size : 2 ^ low * 2 ^ (1 + rl) ≡ 2 ^ k = sym (pow-add 2 low (1 + rl)) ∙ ap (λ j. 2 ^ j) ends in
        omega (arith, here, size, p.word values)
    by ih (goes_on p) =
        let bits : r ≡ 1 + rl = is ∙ p.more in
        let same : k ≡ low = omega (arith, bits, len, within) in
        let size : 2 ^ k ≡ 2 ^ low = ap (λ j. 2 ^ j) same in
        let rest = ih values low rl (sym p.behind) within (sym (ap (λ fs. fit fs values) p.fields) ∙ h) in
        omega (arith, rest, size, p.word values)
    by ih (other p) =
        let none : r ≡ 0 = is ∙ p.none in
        let ends : n + 0 ≡ n = omega arith in
        let bits : n + 1 ≡ k = omega (arith, none, len) in
        let rest = ih values n 0 (sym p.behind) ends (sym (ap (λ fs. fit fs values) p.fields) ∙ h) in
        let one : wanted_bit c < 2 ^ 1 = omega (arith, wanted-most c) in
        let here : wanted_bit c * 2 ^ n + word_behind c cs values < 2 ^ n * 2 ^ 1 = mul-add-lt (wanted_bit c) (2 ^ n) (word_behind c cs values) (2 ^ 1) one rest in
        let size : 2 ^ n * 2 ^ 1 ≡ 2 ^ k = sym (pow-add 2 n 1) ∙ ap (λ j. 2 ^ j) bits in
        omega (arith, here, size, p.word values)

record IsMade (before : ℕ) (cs values : List ℕ) (x : ℕ) : Type 0 where
  fixed : matches cs x ≡ true
  fields : map (value_in x) (fields_behind before cs) ≡ values

taken : (c : ℕ) (cs : List ℕ) (x : ℕ) → takes_bit c (bit_of_word x (length cs)) ≡ true → matches cs x ≡ true → matches (c ∷ cs) x ≡ true
unfolding matches
taken c cs x t m = ap (λ b. b && matches cs x) t ∙ m

-- what ends as the word does has its bits and its values
made : (before : ℕ) (cs values : List ℕ) (x k r : ℕ) → r ≡ run before cs → k + r ≡ length cs → fit (fields_behind before cs) values ≡ true →
    x % 2 ^ k ≡ word_behind before cs values → IsMade before cs values x
unfolding word_behind fields_behind matches
made before [] values x k r is len h e = record { fixed = refl; fields = no_values values h }
made before (c ∷ cs) values x k r is len h e = by (λ vs k' r' is' len' h' e'. made c cs vs x k' r' is' len' h' e') (place before c cs)
  where
    n : ℕ
    n = length cs

    rl : ℕ
    rl = run_length c cs

    low : ℕ
    low = length cs - run_length c cs

    within : low + rl ≡ n
    within = omega (arith, run_length-most c cs)

    by : ((vs : List ℕ) (k' r' : ℕ) → r' ≡ run c cs → k' + r' ≡ length cs → fit (fields_behind c cs) vs ≡ true → x % 2 ^ k' ≡ word_behind c cs vs → IsMade c cs vs x) →
        Place before c cs → IsMade before (c ∷ cs) values x
    by ih (begins p) =
        let first = fits_first (field_here c cs) (fields_behind c cs) values (sym (ap (λ fs. fit fs values) p.fields) ∙ h) in
        let rest = word-bound c cs (drop 1 values) low rl (sym p.behind) within first.rest in
        let none : r ≡ 0 = is ∙ p.none in
        let ends : 1 + rl + low ≡ k = omega (arith, none, within, len) in
        let cut = parts x (1 + rl) low (slice_index values 0) (word_behind c cs (drop 1 values)) rest (ap (λ j. x % 2 ^ j) ends ∙ e ∙ p.word values) in
        let behind = ih (drop 1 values) low rl (sym p.behind) within first.rest cut.low in
        record {
          fixed = taken c cs x (letter-taken c (bit_of_word x (length cs)) p.letter) behind.fixed;
          fields = ap (map (value_in x)) p.fields ∙ ap (λ v. v ∷ map (value_in x) (fields_behind c cs)) cut.high
              ∙ ap (λ vs. slice_index values 0 ∷ vs) behind.fields ∙ sym first.cons;
        }
    by ih (goes_on p) =
        let bits : r ≡ 1 + rl = is ∙ p.more in
        let same : low ≡ k = omega (arith, bits, len, within) in
        let behind = ih values low rl (sym p.behind) within (sym (ap (λ fs. fit fs values) p.fields) ∙ h) (ap (λ j. x % 2 ^ j) same ∙ e ∙ p.word values) in
        record {
          fixed = taken c cs x (letter-taken c (bit_of_word x (length cs)) p.letter) behind.fixed;
          fields = ap (map (value_in x)) p.fields ∙ behind.fields;
        }
    by ih (other p) =
        let none : r ≡ 0 = is ∙ p.none in
        let ends : n + 0 ≡ n = omega arith in
        let bits : 1 + n ≡ k = omega (arith, none, len) in
        let fits = sym (ap (λ fs. fit fs values) p.fields) ∙ h in
        let rest = word-bound c cs values n 0 (sym p.behind) ends fits in
        let cut = parts x 1 n (wanted_bit c) (word_behind c cs values) rest (ap (λ j. x % 2 ^ j) bits ∙ e ∙ p.word values) in
        let behind = ih values n 0 (sym p.behind) ends fits cut.low in
        record {
          fixed = taken c cs x (ap (takes_bit c) cut.high ∙ wanted-taken c) behind.fixed;
          fields = ap (map (value_in x)) p.fields ∙ behind.fields;
        }

-- ---- the whole pattern

-- the word of a word's values is that word, but for free places
pub values-again : (pattern : List ℕ) (x : ℕ) → matches pattern x ≡ true → word_by pattern (values_in pattern x) ≡ kept_bits pattern x
values-again pattern x m =
    let n : ℕ = length pattern in
    let ends : n + 0 ≡ n = omega arith in
    let none : (x / 2 ^ n % 2 ^ 0) * 2 ^ n ≡ 0 = ap (λ y. y * 2 ^ n) (nothing (x / 2 ^ n)) ∙ omega arith in
    omega (arith, none, again 0 pattern x n 0 refl ends m)

pub word-fits : (pattern values : List ℕ) → fit (fields_of pattern) values ≡ true → word_by pattern values < 2 ^ length pattern
word-fits pattern values h = let ends : length pattern + 0 ≡ length pattern = omega arith in word-bound 0 pattern values (length pattern) 0 refl ends h

-- the word that is made of values is *WordOf*
pub word-is : (pattern values : List ℕ) → fit (fields_of pattern) values ≡ true → IsWordOf pattern values (word_by pattern values)
word-is pattern values h =
    let x : ℕ = word_by pattern values in
    let ends : length pattern + 0 ≡ length pattern = omega arith in
    let whole : x % 2 ^ length pattern ≡ x = mod-eq_of_lt (word-fits pattern values h) in
    let is = made 0 pattern values x (length pattern) 0 refl ends h whole in
    record {
      fixed = is.fixed;
      fields = is.fields;
      free = sym (values-again pattern x is.fixed) ∙ ap (word_by pattern) is.fields;
    }

-- and no other word is
pub one-word : (pattern values : List ℕ) (x y : ℕ) → IsWordOf pattern values x → IsWordOf pattern values y → x ≡ y
one-word pattern values x y p q =
    sym p.free ∙ sym (values-again pattern x p.fixed) ∙ ap (word_by pattern) (p.fields ∙ sym q.fields) ∙ values-again pattern y q.fixed ∙ q.free

-- the values of a word fit
pub values-fit : (x : ℕ) (fs : List LetterField) → fit fs (map (value_in x) fs) ≡ true
unfolding fit
values-fit x [] = refl
values-fit x (f ∷ fs) =
    ap (λ b. b && fit fs (map (value_in x) fs)) (lt-ltb (value_in x f) (2 ^ f.width) (mod_below (x / 2 ^ f.low) (2 ^ f.width) (pow_pos f.width)))
    ∙ values-fit x fs
