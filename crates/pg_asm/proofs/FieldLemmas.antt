-- Fields and values, as the code goes over them.
use Rattle.std.proofs.Common.{◌≡◌, ℕ, suc, ◌+◌, ◌-◌, ◌*◌, ◌/◌, ◌%◌, ◌^◌, ◌<◌, ◌≤◌, inl, inr, Bool, true, false, ◌&&◌, ◌==◌, if◌then◌else◌, nat_eq, List, [], ◌∷◌, ◌++◌, length, drop, get_or, slice_index, All, refl, ap, sym, ◌∙◌, arith}
use Rattle.std.specs.Prelude.{nat_lt}
use Rattle.std.proofs.Math.Pow.{pow_mono}
use Rattle.std.proofs.Math.Nat.{mod-eq_of_lt}
use Rattle.std.proofs.lemmas.Bool.{cases_lt, lt-ltb, le-ltb, le-leb, eq-eqb}
use Rattle.std.proofs.lemmas.Bool.Decides.{nat_tests}
use Rattle.std.proofs.lemmas.List.{append_assoc, append-nil, get_or-drop, drop-drop, length-drop, drop_more, drop_all}
use Rattle.std.proofs.lemmas.List.Elements.{All-nil, All-cons}
use Rattle.std.proofs.lemmas.Nat.{div_below, le-div, shr_le, pow_pos, mod_below, mul-add-lt, pow-add}
use Rattle.pg_asm.specs.declared.fields.LetterField.{LetterField}
use Rattle.pg_lang_meaning.specs.Patterns.{bit_of_word, run_length}
use Rattle.pg_lang_meaning.specs.Opcodes.{wanted_bit}
use Rattle.pg_asm.specs.Words.{begins_field, field_here, fields_behind, fields_of, value_in, fit, counts, kept_bits, word_behind, word_by}
use Rattle.pg_asm.proofs.WordLemmas.{FitsFirst, fits_first, word-fits}

-- ---- values

wide : (value width : ℕ) → value < 2 ^ 64 → 64 ≤ width → value < 2 ^ width
wide value width v w = let p : 2 ^ 64 ≤ 2 ^ width = pow_mono w in omega arith

pub fits-wide : (value width : ℕ) → value < 2 ^ 64 → 64 ≤ width → true ≡ nat_lt value (2 ^ width)
fits-wide value width v w = sym (lt-ltb value (2 ^ width) (wide value width v w))

pub fits-narrow : (value width : ℕ) → nat_eq (value / 2 ^ width) 0 ≡ nat_lt value (2 ^ width)
fits-narrow value width = elim (cases_lt value (2 ^ width)) [
  | inl below ↦
      let none : value / 2 ^ width < 1 = div_below value (2 ^ width) 1 (pow_pos width) (omega arith) in
      let zero : value / 2 ^ width ≡ 0 = omega arith in
      ap (λ n. nat_eq n 0) zero ∙ sym (lt-ltb value (2 ^ width) below)
  | inr above ↦
      let some : 1 ≤ value / 2 ^ width = le-div 1 value (2 ^ width) (pow_pos width) (omega arith) in
      grind (arith, nat_tests)
]

pub value-wide : (word : ℕ) (f : LetterField) → word < 2 ^ 64 → 64 ≤ f.width → word / 2 ^ f.low ≡ value_in word f
value-wide word f v w =
    let most : word / 2 ^ f.low < 2 ^ 64 = omega (arith, shr_le word f.low) in
    sym (mod-eq_of_lt (wide (word / 2 ^ f.low) f.width most w))

-- ---- places

pub fields-more : (old new : List LetterField) (f : LetterField) (before c : ℕ) (left rest : List ℕ) (whole : List LetterField) → new ≡ old ++ f ∷ [] → f ≡ field_here c rest →
    left ≡ c ∷ rest → begins_field before c ≡ true → old ++ fields_behind before left ≡ whole → new ++ fields_behind c rest ≡ whole
unfolding fields_behind
fields-more old new f before c left rest whole push here cut begins so_far =
    ap (λ fs. fs ++ fields_behind c rest) push ∙ append_assoc old (f ∷ []) (fields_behind c rest) ∙ ap (λ g. old ++ g ∷ fields_behind c rest) here
    ∙ sym (ap (λ b. old ++ (if b then field_here c rest ∷ fields_behind c rest else fields_behind c rest)) begins)
    ∙ sym (ap (λ xs. old ++ fields_behind before xs) cut) ∙ so_far

pub fields-same : (old : List LetterField) (before c : ℕ) (left rest : List ℕ) (whole : List LetterField) →
    left ≡ c ∷ rest → begins_field before c ≡ false → old ++ fields_behind before left ≡ whole → old ++ fields_behind c rest ≡ whole
unfolding fields_behind
fields-same old before c left rest whole cut begins so_far =
    sym (ap (λ b. old ++ (if b then field_here c rest ∷ fields_behind c rest else fields_behind c rest)) begins)
    ∙ sym (ap (λ xs. old ++ fields_behind before xs) cut) ∙ so_far

pub fields-end : (old : List LetterField) (before : ℕ) (left : List ℕ) (whole : List LetterField) → left ≡ [] → old ++ fields_behind before left ≡ whole → old ≡ whole
unfolding fields_behind
fields-end old before left whole none so_far = sym (append-nil old) ∙ sym (ap (λ xs. old ++ fields_behind before xs) none) ∙ so_far

-- ---- sums

pub begun-sum : (before c : ℕ) (left rest vs : List ℕ) → left ≡ c ∷ rest → begins_field before c ≡ true →
    word_behind before left vs ≡ slice_index vs 0 * 2 ^ (length rest - run_length c rest) + word_behind c rest (drop 1 vs)
unfolding word_behind
begun-sum before c left rest vs cut b =
    ap (λ xs. word_behind before xs vs) cut
    ∙ ap (λ x. if x then slice_index vs 0 * 2 ^ (length rest - run_length c rest) + word_behind c rest (drop 1 vs) else wanted_bit c * 2 ^ length rest + word_behind c rest vs) b

pub other-sum : (before c : ℕ) (left rest vs : List ℕ) → left ≡ c ∷ rest → begins_field before c ≡ false →
    word_behind before left vs ≡ wanted_bit c * 2 ^ length rest + word_behind c rest vs
unfolding word_behind
other-sum before c left rest vs cut b =
    ap (λ xs. word_behind before xs vs) cut
    ∙ ap (λ x. if x then slice_index vs 0 * 2 ^ (length rest - run_length c rest) + word_behind c rest (drop 1 vs) else wanted_bit c * 2 ^ length rest + word_behind c rest vs) b

pub begun-fit : (before c : ℕ) (left rest vs : List ℕ) → left ≡ c ∷ rest → begins_field before c ≡ true → fit (fields_behind before left) vs ≡ true →
    FitsFirst (field_here c rest) (fields_behind c rest) vs
unfolding fields_behind
begun-fit before c left rest vs cut b h =
    let same : fields_behind before left ≡ field_here c rest ∷ fields_behind c rest =
    ap (fields_behind before) cut ∙ ap (λ x. if x then field_here c rest ∷ fields_behind c rest else fields_behind c rest) b in
    fits_first (field_here c rest) (fields_behind c rest) vs (sym (ap (λ fs. fit fs vs) same) ∙ h)

pub other-fit : (before c : ℕ) (left rest vs : List ℕ) → left ≡ c ∷ rest → begins_field before c ≡ false → fit (fields_behind before left) vs ≡ true →
    fit (fields_behind c rest) vs ≡ true
unfolding fields_behind
other-fit before c left rest vs cut b h =
    let same : fields_behind before left ≡ fields_behind c rest =
    ap (fields_behind before) cut ∙ ap (λ x. if x then field_here c rest ∷ fields_behind c rest else fields_behind c rest) b in
    sym (ap (λ fs. fit fs vs) same) ∙ h

-- the values that are left, behind the first of them
pub record Taking (before c k : ℕ) (left rest values : List ℕ) : Type 0 where
  pub there : k < length values
  pub sum : word_behind before left (drop k values) ≡ get_or values k 0 * 2 ^ (length rest - run_length c rest) + word_behind c rest (drop (k + 1) values)
  pub fit : fit (fields_behind c rest) (drop (k + 1) values) ≡ true

pub taking : (before c k : ℕ) (left rest values : List ℕ) → left ≡ c ∷ rest → begins_field before c ≡ true → fit (fields_behind before left) (drop k values) ≡ true →
    Taking before c k left rest values
taking before c k left rest values cut b h =
    let first = begun-fit before c left rest (drop k values) cut b h in
    let some : 1 ≤ length (drop k values) = omega (arith, ap length first.cons) in
    let here : slice_index (drop k values) 0 ≡ get_or values k 0 = get_or-drop k values 0 0 ∙ (let e : k + 0 ≡ k = omega arith in ap (λ j. get_or values j 0) e) in
    let behind : drop 1 (drop k values) ≡ drop (k + 1) values = drop-drop 1 k values in
    record {
      there = omega (arith, some, length-drop k values);
      sum = begun-sum before c left rest (drop k values) cut b
          ∙ ap (λ v. v * 2 ^ (length rest - run_length c rest) + word_behind c rest (drop 1 (drop k values))) here
          ∙ ap (λ vs. get_or values k 0 * 2 ^ (length rest - run_length c rest) + word_behind c rest vs) behind;
      fit = sym (ap (fit (fields_behind c rest)) behind) ∙ first.rest;
    }

pub total-room : (pattern values : List ℕ) → length pattern ≤ 64 → fit (fields_of pattern) values ≡ true → word_by pattern values < 2 ^ 64
total-room pattern values short h = let p : 2 ^ length pattern ≤ 2 ^ 64 = pow_mono short in omega (arith, word-fits pattern values h)

pub end-sum : (before sum total : ℕ) (left vs : List ℕ) → left ≡ [] → sum + word_behind before left vs ≡ total → sum ≡ total
unfolding word_behind
end-sum before sum total left vs none e = let zero : word_behind before left vs ≡ 0 = ap (λ xs. word_behind before xs vs) none in omega arith

pub length-behind : (left rest : List ℕ) (c n : ℕ) → left ≡ c ∷ rest → length left ≤ n → length rest < n
length-behind left rest c n cut most = omega (arith, ap length cut)

-- what is added has room, and the sum goes on behind it
pub record Adds (sum here behind total : ℕ) : Type 0 where
  pub room : sum + here < 2 ^ 64
  pub place : here < 2 ^ 64
  pub goes_on : sum + here + behind ≡ total

pub sum-more : (sum here behind left total : ℕ) → sum + left ≡ total → left ≡ here + behind → total < 2 ^ 64 → Adds sum here behind total
sum-more sum here behind left total e f most = record { room = omega arith; place = omega arith; goes_on = omega arith }

-- ---- kept bits

one-or-none : (c word at : ℕ) → (if counts c then bit_of_word word at else 0) ≤ 1
one-or-none c word at = by (counts c)
  where
    by : (b : Bool) → (if b then word / 2 ^ at % 2 else 0) ≤ 1
    by true = let h : word / 2 ^ at % 2 < 2 = mod_below (word / 2 ^ at) 2 (omega arith) in omega arith
    by false = omega arith

pub kept-below : (cs : List ℕ) (word : ℕ) → kept_bits cs word < 2 ^ length cs
unfolding kept_bits
kept-below [] word = omega arith
kept-below (c ∷ cs) word =
    let one : (if counts c then bit_of_word word (length cs) else 0) < 2 ^ 1 = omega (arith, one-or-none c word (length cs)) in
    let here = mul-add-lt (if counts c then bit_of_word word (length cs) else 0) (2 ^ length cs) (kept_bits cs word) (2 ^ 1) one (kept-below cs word) in
    let ends : length cs + 1 ≡ suc (length cs) = omega arith in
    let size : 2 ^ length cs * 2 ^ 1 ≡ 2 ^ suc (length cs) = sym (pow-add 2 (length cs) 1) ∙ ap (λ j. 2 ^ j) ends in
    omega (arith, here, size)

pub kept-room : (c word sum here : ℕ) (left rest pattern : List ℕ) → left ≡ c ∷ rest → length pattern ≤ 64 →
    here ≡ (if counts c then bit_of_word word (length rest) else 0) * 2 ^ length rest → sum + kept_bits left word ≡ kept_bits pattern word → sum + here < 2 ^ 64
unfolding kept_bits
kept-room c word sum here left rest pattern cut short is e =
    let p : 2 ^ length pattern ≤ 2 ^ 64 = pow_mono short in
    let split : kept_bits left word ≡ (if counts c then bit_of_word word (length rest) else 0) * 2 ^ length rest + kept_bits rest word = ap (λ xs. kept_bits xs word) cut in
    omega (arith, p, split, kept-below pattern word)

-- ---- places of fields, and whether values fit

pub fields-low : (before : ℕ) (cs : List ℕ) (n : ℕ) → length cs ≤ n → All (λ (f : LetterField). f.low < n) (fields_behind before cs)
unfolding fields_behind
fields-low before [] n most = All-nil (λ (f : LetterField). f.low < n)
fields-low before (c ∷ cs) n most = by (begins_field before c) (fields-low c cs n (omega arith))
  where
    by : (b : Bool) → All (λ (f : LetterField). f.low < n) (fields_behind c cs) → All (λ (f : LetterField). f.low < n) (if b then field_here c cs ∷ fields_behind c cs else fields_behind c cs)
    by true rest = All-cons (λ (f : LetterField). f.low < n) (field_here c cs) (fields_behind c cs) (omega arith) rest
    by false rest = rest

pub fit-lengths : (fs : List LetterField) (vs : List ℕ) → (length fs ≡ length vs → ⊥) → false ≡ fit fs vs
unfolding fit
fit-lengths [] [] other = absurd (other refl)
fit-lengths [] (v ∷ vs) other = refl
fit-lengths (f ∷ fs) [] other = refl
fit-lengths (f ∷ fs) (v ∷ vs) other = by (nat_lt v (2 ^ f.width)) (fit-lengths fs vs (λ e. other (omega (arith, e))))
  where
    by : (b : Bool) → false ≡ fit fs vs → false ≡ (b && fit fs vs)
    by true e = e
    by false e = refl

pub fit-at : (fs : List LetterField) (vs : List ℕ) (k : ℕ) (d : LetterField) → k < length fs → length fs ≡ length vs →
    fit (drop k fs) (drop k vs) ≡ (nat_lt (get_or vs k 0) (2 ^ (get_or fs k d).width) && fit (drop (k + 1) fs) (drop (k + 1) vs))
unfolding fit
fit-at fs vs k d within same =
    let there : k < length vs = omega arith in
    ap (λ xs. fit xs (drop k vs)) (drop_more fs k d within) ∙ ap (fit (get_or fs k d ∷ drop (k + 1) fs)) (drop_more vs k 0 there)

pub fit-end : (fs : List LetterField) (vs : List ℕ) (k : ℕ) → length fs ≤ k → length fs ≡ length vs → fit (drop k fs) (drop k vs) ≡ true
unfolding fit
fit-end fs vs k all same =
    let out : length vs ≤ k = omega arith in
    ap (λ xs. fit xs (drop k vs)) (drop_all k fs all) ∙ ap (fit []) (drop_all k vs out)

pub fit-fails : (fs : List LetterField) (vs : List ℕ) (k : ℕ) (d : LetterField) (whole : Bool) → k < length fs → length fs ≡ length vs →
    nat_lt (get_or vs k 0) (2 ^ (get_or fs k d).width) ≡ false → fit (drop k fs) (drop k vs) ≡ whole → false ≡ whole
fit-fails fs vs k d whole within same fails so_far =
    sym (ap (λ b. b && fit (drop (k + 1) fs) (drop (k + 1) vs)) fails) ∙ sym (fit-at fs vs k d within same) ∙ so_far

pub fit-goes_on : (fs : List LetterField) (vs : List ℕ) (k : ℕ) (d : LetterField) (whole : Bool) → k < length fs → length fs ≡ length vs →
    nat_lt (get_or vs k 0) (2 ^ (get_or fs k d).width) ≡ true → fit (drop k fs) (drop k vs) ≡ whole → fit (drop (k + 1) fs) (drop (k + 1) vs) ≡ whole
fit-goes_on fs vs k d whole within same fits so_far =
    sym (ap (λ b. b && fit (drop (k + 1) fs) (drop (k + 1) vs)) fits) ∙ sym (fit-at fs vs k d within same) ∙ so_far
