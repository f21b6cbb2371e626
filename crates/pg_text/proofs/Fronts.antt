-- What stands at the front of a text takes at least one of its bytes, and at most all.
use Rattle.std.proofs.Common.{◌≡◌, ℕ, suc, ◌+◌, ◌<◌, ◌≤◌, Bool, true, false, cond, ◌||◌, eqb, leb, List, [], ◌∷◌, length, take, get_or, Option, Some, None, Result, Err, refl, arith, inl, inr}
use Rattle.std.specs.Prelude.{IfOk, not, filter}
use Rattle.std.specs.List.{prefix_len}
use Rattle.std.proofs.lemmas.List.Sums.{prefix_len-le-length}
use Rattle.std.proofs.lemmas.List.{get_or_past}
use Rattle.std.proofs.lemmas.Bool.{cases_lt, eqb-true}
use Rattle.std.proofs.lemmas.Bool.Decides.{nat_tests}
use Rattle.pg_lang_token.specs.Words.{most_name_bytes, is_letter, is_digit, is_word_byte}
use Rattle.pg_lang_token.specs.Words.{is_pattern_byte}
use Rattle.pg_lang_token.specs.declared.tok.Sign.{Sign}
use Rattle.pg_lang_token.specs.declared.tok.Tok.{Tok}
use Rattle.pg_lang_token.specs.declared.tok.Tok.TheVariants.{Word, Number, Pattern}
use Rattle.pg_lang_token.specs.declared.tok.Tok.TheVariants as signs
use Rattle.pg_text.specs.declared.place.TextFault.TheVariants.{BadByte, BadNumber, BadWord, BadPattern}
use Rattle.pg_text.specs.declared.place.TextFault.{TextFault}
use Rattle.pg_text.specs.declared.piece.Piece.{Piece}
use Rattle.pg_text.specs.Cutting.{is_blank, is_inner, skip, made, word_at, number_of, number_at, pattern_at, sign_of_one, sign_of_two, sign_at, front}

-- a piece takes at least one byte, and at most so many
abbrev pub Takes : ℕ → Result Piece TextFault → Type 0
Takes most r = IfOk r (λ p. (0 < p.len) × (p.len ≤ most))

either : (most : ℕ) (b : Bool) (x y : Result Piece TextFault) → (b ≡ true → Takes most x) → (b ≡ false → Takes most y) → Takes most (cond b x y)
either most true x y f g = f refl
either most false x y f g = g refl

-- a run that begins with a byte of its kind
pub run_takes : (p : ℕ → Bool) (b : ℕ) (bs : List ℕ) → p b ≡ true → (0 < prefix_len p (b ∷ bs)) × (prefix_len p (b ∷ bs) ≤ length (b ∷ bs))
run_takes p b bs h = (rw h (omega arith), prefix_len-le-length p (b ∷ bs))

first_holds : (x y z : Bool) → x ≡ true → ((x || y) || z) ≡ true
first_holds true y z h = refl
first_holds false y z h = absurd cc

second_holds : (x y z : Bool) → y ≡ true → ((x || y) || z) ≡ true
second_holds true y z h = refl
second_holds false true z h = refl
second_holds false false z h = absurd cc

word_made : (place n most : ℕ) (text : List ℕ) → (0 < n) × (n ≤ most) → Takes most (cond (leb n most_name_bytes) (made (Word (take n text)) n) (Err (BadWord place)))
word_made place n most text h = either most (leb n most_name_bytes) (made (Word (take n text)) n) (Err (BadWord place)) (λ _. h) (λ _. tt)

word_takes : (place b : ℕ) (bs : List ℕ) → is_letter b ≡ true → Takes (length (b ∷ bs)) (word_at place (b ∷ bs))
unfolding word_at
word_takes place b bs h =
    word_made place (prefix_len is_word_byte (b ∷ bs)) (length (b ∷ bs)) (b ∷ bs) (run_takes is_word_byte b bs (first_holds (is_letter b) (is_digit b) (eqb b 95) h))

number_made : (place n most : ℕ) (o : Option ℕ) → (0 < n) × (n ≤ most) → Takes most (elim o [ Some v ↦ made (Number v) n | None ↦ Err (BadNumber place) ])
number_made place n most (Some v) h = h
number_made place n most None h = tt

number_takes : (place b : ℕ) (bs : List ℕ) → is_digit b ≡ true → Takes (length (b ∷ bs)) (number_at place (b ∷ bs))
unfolding number_at
number_takes place b bs h =
    number_made place (prefix_len is_word_byte (b ∷ bs)) (length (b ∷ bs)) (number_of (take (prefix_len is_word_byte (b ∷ bs)) (b ∷ bs))) (run_takes is_word_byte b bs (second_holds (is_letter b) (is_digit b) (eqb b 95) h))

-- what is not 0 stands within
within : (i c : ℕ) (xs : List ℕ) → get_or xs i 0 ≡ suc c → i < length xs
within i c xs h =
    elim (cases_lt i (length xs)) [
      | inl lt ↦ lt
      | inr le ↦ absurd (omega (arith, get_or_past xs i 0 le))
    ]

pattern_made : (place n : ℕ) (t : Tok) (inner : List ℕ) → Takes (suc (length inner)) (cond (eqb (get_or inner n 0) 34) (made t (n + 2)) (Err (BadPattern place)))
pattern_made place n t inner =
    let taken : eqb (get_or inner n 0) 34 ≡ true → (0 < n + 2) × (n + 2 ≤ suc (length inner)) =
    λ e. (omega arith, omega (arith, within n 33 inner (eqb-true _ _ e))) in
    either (suc (length inner)) (eqb (get_or inner n 0) 34) (made t (n + 2)) (Err (BadPattern place)) taken (λ _. tt)

pattern_takes : (place b : ℕ) (bs : List ℕ) → Takes (length (b ∷ bs)) (pattern_at place (b ∷ bs))
unfolding pattern_at
pattern_takes place b bs = pattern_made place (prefix_len is_inner bs) (Pattern (filter is_pattern_byte (take (prefix_len is_inner bs) bs))) bs

-- there is no sign of two bytes at the end
two_within : (a : ℕ) (bs : List ℕ) (s : Sign) → sign_of_two a (get_or bs 0 0) ≡ Some s → 0 < length bs
two_within a [] s h = absurd (grind (arith, nat_tests))
two_within a (b ∷ bs) s h = omega arith

sign_made : (place a : ℕ) (bs : List ℕ) (two one : Option Sign) → ((s : Sign) → two ≡ Some s → 0 < length bs)
    → Takes (suc (length bs)) (elim two [ Some s ↦ made (signs.Sign s) 2 | None ↦ elim one [ Some s ↦ made (signs.Sign s) 1 | None ↦ Err (BadByte place) ] ])
sign_made place a bs (Some s) one h = let k : 0 < length bs = h s refl in (omega arith, omega arith)
sign_made place a bs None (Some s) h = (omega arith, omega arith)
sign_made place a bs None None h = tt

sign_takes : (place b : ℕ) (bs : List ℕ) → Takes (length (b ∷ bs)) (sign_at place (b ∷ bs))
unfolding sign_at
sign_takes place b bs = sign_made place b bs (sign_of_two b (get_or bs 0 0)) (sign_of_one b) (two_within b bs)

comment_takes : (b : ℕ) (bs : List ℕ) → eqb b 35 ≡ true → Takes (length (b ∷ bs)) (skip (prefix_len (λ c. not (eqb c 10)) (b ∷ bs)))
comment_takes b bs h =
    let e : b ≡ 35 = eqb-true b 35 h in
    run_takes (λ c. not (eqb c 10)) b bs (rw e refl)

-- the front of a text that is not empty
pub front_takes : (place b : ℕ) (bs : List ℕ) → Takes (length (b ∷ bs)) (front place (b ∷ bs))
unfolding front
front_takes place b bs =
    let most : ℕ = length (b ∷ bs) in
    let last : Result Piece TextFault = sign_at place (b ∷ bs) in
    let patterns : Result Piece TextFault = cond (eqb b 34) (pattern_at place (b ∷ bs)) last in
    let numbers : Result Piece TextFault = cond (is_digit b) (number_at place (b ∷ bs)) patterns in
    let words : Result Piece TextFault = cond (is_letter b) (word_at place (b ∷ bs)) numbers in
    let comments : Result Piece TextFault = cond (eqb b 35) (skip (prefix_len (λ c. not (eqb c 10)) (b ∷ bs))) words in
    either most (is_blank b) (skip 1) comments (λ _. (omega arith, omega arith))
    (λ _. either most (eqb b 35) (skip (prefix_len (λ c. not (eqb c 10)) (b ∷ bs))) words (comment_takes b bs)
    (λ _. either most (is_letter b) (word_at place (b ∷ bs)) numbers (word_takes place b bs)
    (λ _. either most (is_digit b) (number_at place (b ∷ bs)) patterns (number_takes place b bs)
    (λ _. either most (eqb b 34) (pattern_at place (b ∷ bs)) last (λ _. pattern_takes place b bs)
    (λ _. sign_takes place b bs)))))
