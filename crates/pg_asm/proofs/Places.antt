-- A place of a pattern, by the byte before it: a field begins there, or goes on, or it is no field's.
use Rattle.std.proofs.Common.{◌≡◌, ℕ, suc, ◌+◌, ◌-◌, ◌*◌, ◌/◌, ◌%◌, ◌^◌, ◌<◌, ◌≤◌, Bool, true, false, not, ◌&&◌, ◌==◌, if◌then◌else◌, List, [], ◌∷◌, length, drop, slice_index, refl, ap, sym, ◌∙◌, arith}
use Rattle.std.proofs.lemmas.Bool.{eqb-true}
use Rattle.std.proofs.Math.Nat.{add-mul, mul_assoc, mul_comm}
use Rattle.std.proofs.lemmas.Bool.Decides.{nat_tests}
use Rattle.std.proofs.lemmas.Nat.{mod-pow-add, mod_below, same_from_place, pow_pos, pow-add, shr-shr}
use Rattle.pg_lang_meaning.specs.Patterns.{takes_bit, bit_of_word, run_length}
use Rattle.pg_lang_meaning.specs.Opcodes.{wanted_bit}
use Rattle.pg_lang_valid.specs.Overlaps.{is_field_letter}
use Rattle.pg_asm.specs.declared.fields.LetterField.{LetterField}
use Rattle.pg_asm.specs.Words.{begins_field, field_here, fields_behind, word_behind, counts}

-- ---- numbers

-- a number of j + k bits by its high and its low ones
pub record Parts (x j k v w : ℕ) : Type 0 where
  pub low : x % 2 ^ k ≡ w
  pub high : x / 2 ^ k % 2 ^ j ≡ v

pub parts : (x j k v w : ℕ) → w < 2 ^ k → x % 2 ^ (j + k) ≡ v * 2 ^ k + w → Parts x j k v w
parts x j k v w below e =
    let s = same_from_place (x / 2 ^ k % 2 ^ j) (x % 2 ^ k) v w (2 ^ k) (mod_below x (2 ^ k) (pow_pos k)) below (sym (mod-pow-add x j k) ∙ e) in
    record { low = s.1; high = s.0 }

-- bits of a word from place k on, by the highest of them and the others
pub top : (x k r n : ℕ) → k + r ≡ n → (x / 2 ^ k % 2 ^ (1 + r)) * 2 ^ k ≡ (x / 2 ^ n % 2) * 2 ^ n + (x / 2 ^ k % 2 ^ r) * 2 ^ k
top x k r n e =
    let y : ℕ = x / 2 ^ k in
    let high : y / 2 ^ r ≡ x / 2 ^ n = shr-shr x k r ∙ ap (λ m. x / 2 ^ m) e in
    let split : y % 2 ^ (1 + r) ≡ (x / 2 ^ n % 2) * 2 ^ r + y % 2 ^ r = mod-pow-add y 1 r ∙ ap (λ z. (z % 2) * 2 ^ r + y % 2 ^ r) high in
    let both : 2 ^ n ≡ 2 ^ k * 2 ^ r = ap (λ m. 2 ^ m) (sym e) ∙ pow-add 2 k r in
    joined (y % 2 ^ (1 + r)) (x / 2 ^ n % 2) (y % 2 ^ r) (2 ^ r) (2 ^ k) (2 ^ n) split both
  where
    joined : (all bit low p q pq : ℕ) → all ≡ bit * p + low → pq ≡ q * p → all * q ≡ bit * pq + low * q
    joined all bit low p q pq e f =
        let sum : (bit * p + low) * q ≡ bit * p * q + low * q = add-mul (bit * p) low q in
        let turned : bit * p * q ≡ bit * pq = mul_assoc bit p q ∙ ap (λ z. bit * z) (mul_comm p q ∙ sym f) in
        ap (λ z. z * q) e ∙ sum ∙ ap (λ z. z + low * q) turned

-- ---- the places

-- how many of the first places go on with the field of the byte before
abbrev pub run : ℕ → List ℕ → ℕ
run before cs = if is_field_letter before then run_length before cs else 0

pub record Begins (before c : ℕ) (cs : List ℕ) : Type 0 where
  pub letter : is_field_letter c ≡ true
  pub fields : fields_behind before (c ∷ cs) ≡ field_here c cs ∷ fields_behind c cs
  pub word : (vs : List ℕ) → word_behind before (c ∷ cs) vs ≡ slice_index vs 0 * 2 ^ (length cs - run_length c cs) + word_behind c cs (drop 1 vs)
  pub none : run before (c ∷ cs) ≡ 0
  pub behind : run c cs ≡ run_length c cs

pub record GoesOn (before c : ℕ) (cs : List ℕ) : Type 0 where
  pub letter : is_field_letter c ≡ true
  pub fields : fields_behind before (c ∷ cs) ≡ fields_behind c cs
  pub word : (vs : List ℕ) → word_behind before (c ∷ cs) vs ≡ word_behind c cs vs
  pub more : run before (c ∷ cs) ≡ 1 + run_length c cs
  pub behind : run c cs ≡ run_length c cs

pub record IsOther (before c : ℕ) (cs : List ℕ) : Type 0 where
  pub letter : is_field_letter c ≡ false
  pub fields : fields_behind before (c ∷ cs) ≡ fields_behind c cs
  pub word : (vs : List ℕ) → word_behind before (c ∷ cs) vs ≡ wanted_bit c * 2 ^ length cs + word_behind c cs vs
  pub none : run before (c ∷ cs) ≡ 0
  pub behind : run c cs ≡ 0

pub data Place (before c : ℕ) (cs : List ℕ) : Type 0 where
  begins : Begins before c cs → Place before c cs
  goes_on : GoesOn before c cs → Place before c cs
  other : IsOther before c cs → Place before c cs

wanted-letter : (c : ℕ) → is_field_letter c ≡ true → wanted_bit c ≡ 0
wanted-letter c h = grind (arith, nat_tests)

no_run : (a b : Bool) (n : ℕ) → b ≡ false → (if a then (if b then n else 0) else 0) ≡ 0
no_run true b n e = ap (λ x. if x then n else 0) e
no_run false b n e = refl

fields_if : (before c : ℕ) (cs : List ℕ) (b : Bool) → begins_field before c ≡ b → fields_behind before (c ∷ cs) ≡ (if b then field_here c cs ∷ fields_behind c cs else fields_behind c cs)
unfolding fields_behind
fields_if before c cs b e = ap (λ x. if x then field_here c cs ∷ fields_behind c cs else fields_behind c cs) e

word_if : (before c : ℕ) (cs vs : List ℕ) (b : Bool) → begins_field before c ≡ b → word_behind before (c ∷ cs) vs
    ≡ (if b then slice_index vs 0 * 2 ^ (length cs - run_length c cs) + word_behind c cs (drop 1 vs) else wanted_bit c * 2 ^ length cs + word_behind c cs vs)
unfolding word_behind
word_if before c cs vs b e =
    ap (λ x. if x then slice_index vs 0 * 2 ^ (length cs - run_length c cs) + word_behind c cs (drop 1 vs) else wanted_bit c * 2 ^ length cs + word_behind c cs vs) e

run_here : (before c : ℕ) (cs : List ℕ) → run before (c ∷ cs) ≡ (if is_field_letter before then (if c == before then 1 + run_length before cs else 0) else 0)
unfolding run_length
run_here before c cs = refl

-- where no letter stands, no field of the byte before goes on
no_letter : (before c n : ℕ) (b : Bool) → is_field_letter c ≡ false → (c == before) ≡ b → (if is_field_letter before then (if c == before then n else 0) else 0) ≡ 0
no_letter before c n true h e =
    let same : c ≡ before = eqb-true c before e in
    ap (λ x. if x then (if c == before then n else 0) else 0) (ap is_field_letter (sym same) ∙ h)
no_letter before c n false h e = no_run (is_field_letter before) (c == before) n e

pub place : (before c : ℕ) (cs : List ℕ) → Place before c cs
place before c cs = by (is_field_letter c) (c == before) refl refl
  where
    by : (p q : Bool) → is_field_letter c ≡ p → (c == before) ≡ q → Place before c cs
    by true false h e =
        let b : begins_field before c ≡ true = ap (λ x. x && not (c == before)) h ∙ ap (λ x. not x) e in
        begins (record {
          letter = h;
          fields = fields_if before c cs true b;
          word = λ vs. word_if before c cs vs true b;
          none = run_here before c cs ∙ no_run (is_field_letter before) (c == before) (1 + run_length before cs) e;
          behind = ap (λ x. if x then run_length c cs else 0) h;
        })
    by true true h e =
        let b : begins_field before c ≡ false = ap (λ x. x && not (c == before)) h ∙ ap (λ x. not x) e in
        let same : c ≡ before = eqb-true c before e in
        goes_on (record {
          letter = h;
          fields = fields_if before c cs false b;
          word = λ vs. word_if before c cs vs false b ∙ ap (λ x. x * 2 ^ length cs + word_behind c cs vs) (wanted-letter c h) ∙ omega arith;
          more = run_here before c cs ∙ ap (λ x. if x then (if c == before then 1 + run_length before cs else 0) else 0) (ap is_field_letter (sym same) ∙ h)
              ∙ ap (λ x. if x then 1 + run_length before cs else 0) e ∙ ap (λ x. 1 + run_length x cs) (sym same);
          behind = ap (λ x. if x then run_length c cs else 0) h;
        })
    by false q h e =
        let b : begins_field before c ≡ false = ap (λ x. x && not (c == before)) h in
        other (record {
          letter = h;
          fields = fields_if before c cs false b;
          word = λ vs. word_if before c cs vs false b;
          none = run_here before c cs ∙ no_letter before c (1 + run_length before cs) q h e;
          behind = ap (λ x. if x then run_length c cs else 0) h;
        })

pub run_length-most : (letter : ℕ) (cs : List ℕ) → run_length letter cs ≤ length cs
unfolding run_length
run_length-most letter [] = omega arith
run_length-most letter (c ∷ cs) = by (c == letter) (run_length-most letter cs)
  where
    by : (b : Bool) → run_length letter cs ≤ length cs → (if b then 1 + run_length letter cs else 0) ≤ length (c ∷ cs)
    by true h = omega arith
    by false h = omega arith

-- a place that is no field's, and takes its bit, has the bit that is wanted, where it counts
pub bit-wanted : (c bit : ℕ) → takes_bit c bit ≡ true → is_field_letter c ≡ false → (if counts c then bit else 0) ≡ wanted_bit c
bit-wanted c bit t h = by (c == 48) (c == 49) refl refl t
  where
    by : (p q : Bool) → (c == 48) ≡ p → (c == 49) ≡ q → takes_bit c bit ≡ true → (if counts c then bit else 0) ≡ wanted_bit c
    by p q e f t = grind (arith, nat_tests)

-- and the bit that is wanted is taken
pub wanted-taken : (c : ℕ) → takes_bit c (wanted_bit c) ≡ true
wanted-taken c = grind (arith, nat_tests)

-- a letter takes any bit, and counts
pub letter-taken : (c bit : ℕ) → is_field_letter c ≡ true → takes_bit c bit ≡ true
letter-taken c bit h = grind (arith, nat_tests)

pub letter-counts : (c : ℕ) → is_field_letter c ≡ true → counts c ≡ true
letter-counts c h = grind (arith, nat_tests)

pub wanted-most : (c : ℕ) → wanted_bit c ≤ 1
wanted-most c = grind (arith, nat_tests)
