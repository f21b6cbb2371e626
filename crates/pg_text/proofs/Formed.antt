-- What each token of a text holds.
use Rattle.std.proofs.Common.{◌≡◌, ℕ, zero, suc, ◌+◌, ◌-◌, ◌<◌, ◌≤◌, ◌^◌, Bool, true, false, cond, ◌&&◌, ◌||◌, eqb, leb, List, [], ◌∷◌, ◌++◌, length, take, drop, get_or, Option, Some, None, Result, Ok, Err, ap, subst, ◌∙◌, refl, arith, rules, IsTrue}
use Rattle.std.specs.Prelude.{All, IfOk, IfSome, filter, not}
use Rattle.std.specs.List.{prefix_len, list_all, AllByRecursion}
use Rattle.std.specs.Str.Parse.{digits_value}
use Rattle.std.proofs.lemmas.List.Folds.{length-prefix_len}
use Rattle.std.proofs.lemmas.Bool.{leb-true, le-leb}
use Rattle.std.proofs.lemmas.Bool.Decides.{nat_tests}
use Rattle.pg_lang_token.specs.Words.{most_name_bytes, is_letter, is_digit, is_word_byte, is_word, is_pattern_byte}
use Rattle.pg_lang_token.specs.declared.tok.Tok.{Tok}
use Rattle.pg_lang_token.specs.declared.tok.Tok.TheVariants.{Word, Number, Pattern}
use Rattle.pg_lang_token.specs.declared.tok.Tok.TheVariants as signs
use Rattle.pg_lang_token.specs.declared.tok.Sign.{Sign}
use Rattle.pg_text.specs.declared.place.Span.{Span}
use Rattle.pg_text.specs.declared.place.TextFault.{TextFault}
use Rattle.pg_text.specs.declared.place.TextFault.TheVariants.{BadByte, BadNumber, BadWord, BadPattern}
use Rattle.pg_text.specs.declared.piece.Piece.{Piece}
use Rattle.pg_text.specs.Cutting.{is_blank, is_inner, limited, dec_number, number_of, hex_number, hex_digits, skip, made, word_at, number_at, pattern_at, sign_of_one, sign_of_two, sign_at, front, placed, cut_from, cut}
use Rattle.std.proofs.lemmas.List.Elements.{All-from_recursion}
use Rattle.pg_text.proofs.Fronts.{run_takes}
use Rattle.pg_text.proofs.CutSteps.{before_ok, then_ok, ok_is}
use Rattle.pg_text.specs.Formed.{IsFormed}

-- a piece's token holds what such a token may
abbrev pub Makes : Result Piece TextFault → Type 0
Makes r = IfOk r (λ p. IfSome p.tok IsFormed)

either : (b : Bool) (x y : Result Piece TextFault) → (b ≡ true → Makes x) → (b ≡ false → Makes y) → Makes (cond b x y)
either true x y f g = f refl
either false x y f g = g refl

-- a run has bytes of its kind alone
run_holds : (p : ℕ → Bool) (bs : List ℕ) → list_all p (take (prefix_len p bs) bs) ≡ true
run_holds p [] = refl
run_holds p (b ∷ bs) =
    let m : ℕ = prefix_len p bs in
    let one_more : 1 + m ≡ suc m = omega arith in
    elim (p b) as (λ v. p b ≡ v → list_all p (take (cond v (1 + m) 0) (b ∷ bs)) ≡ true) [
      | true ↦ λ e. ap (λ k. list_all p (take k (b ∷ bs))) one_more ∙ rw e (run_holds p bs)
      | false ↦ λ e. refl
    ] refl

chosen_holds : (p : ℕ → Bool) (bs : List ℕ) → list_all p (filter p bs) ≡ true
chosen_holds p [] = refl
chosen_holds p (b ∷ bs) =
    elim (p b) as (λ v. p b ≡ v → list_all p (cond v (b ∷ filter p bs) (filter p bs)) ≡ true) [
      | true ↦ λ e. rw e (chosen_holds p bs)
      | false ↦ λ e. chosen_holds p bs
    ] refl

limited_fits : (n v : ℕ) → limited n ≡ Some v → v < 2 ^ 64
limited_fits n v h = grind (arith, nat_tests)

either_fits : (b : Bool) (v : ℕ) (o p : Option ℕ) → (o ≡ Some v → v < 2 ^ 64) → (p ≡ Some v → v < 2 ^ 64) → cond b o p ≡ Some v → v < 2 ^ 64
either_fits true v o p f g h = f h
either_fits false v o p f g h = g h

none_fits : (v : ℕ) (o : Option ℕ) → o ≡ None → o ≡ Some v → v < 2 ^ 64
none_fits v o e h = absurd cc

limited_or_none : (b : Bool) (n v : ℕ) → cond b (limited n) None ≡ Some v → v < 2 ^ 64
limited_or_none b n v h = either_fits b v (limited n) None (limited_fits n v) (none_fits v None refl) h

number_fits : (text : List ℕ) (v : ℕ) → number_of text ≡ Some v → v < 2 ^ 64
number_fits text v h =
    either_fits (list_all is_digit text) v (dec_number text) (hex_number (hex_digits text))
    (limited_or_none _ (digits_value 10 text) v) (limited_or_none _ (digits_value 16 (hex_digits text)) v) h

second : (x y : Bool) → (x && y) ≡ true → y ≡ true
second true y h = h
second false y h = absurd cc

all_three : (x y z : Bool) → x ≡ true → y ≡ true → z ≡ true → IsTrue ((x && y) && z)
all_three x y z e f g = rw (e, f, g) (search rules)

first_holds : (x y z : Bool) → x ≡ true → ((x || y) || z) ≡ true
first_holds true y z h = refl
first_holds false y z h = absurd cc

is_word_of : (n b : ℕ) (bs : List ℕ) → 0 < n → is_letter b ≡ true → list_all is_word_byte (take n (b ∷ bs)) ≡ true → length (take n (b ∷ bs)) ≤ most_name_bytes → IsTrue (is_word (take n (b ∷ bs)))
is_word_of zero b bs some letter all short = absurd (omega arith)
is_word_of (suc m) b bs some letter all short =
    all_three (is_letter b) (list_all is_word_byte (take m bs)) (leb (length (b ∷ take m bs)) most_name_bytes) letter (second (is_word_byte b) (list_all is_word_byte (take m bs)) all) (le-leb _ _ (omega arith))

word_makes : (place b : ℕ) (bs : List ℕ) → is_letter b ≡ true → Makes (word_at place (b ∷ bs))
unfolding word_at
word_makes place b bs letter =
    let n : ℕ = prefix_len is_word_byte (b ∷ bs) in
    let some : 0 < n = (run_takes is_word_byte b bs (first_holds (is_letter b) (is_digit b) (eqb b 95) letter)).0 in
    let formed : leb n most_name_bytes ≡ true → IsTrue (is_word (take n (b ∷ bs))) =
    λ e. is_word_of n b bs some letter (run_holds is_word_byte (b ∷ bs)) (omega (arith, length-prefix_len is_word_byte (b ∷ bs), leb-true n most_name_bytes e)) in
    either (leb n most_name_bytes) (made (Word (take n (b ∷ bs))) n) (Err (BadWord place)) formed (λ _. tt)

number_made : (place n : ℕ) (o : Option ℕ) → ((v : ℕ) → o ≡ Some v → v < 2 ^ 64) → Makes (elim o [ Some v ↦ made (Number v) n | None ↦ Err (BadNumber place) ])
number_made place n (Some v) h = h v refl
number_made place n None h = tt

number_makes : (place : ℕ) (text : List ℕ) → Makes (number_at place text)
unfolding number_at
number_makes place text =
    let digits : List ℕ = take (prefix_len is_word_byte text) text in
    number_made place (prefix_len is_word_byte text) (number_of digits) (number_fits digits)

is_true : (b : Bool) → b ≡ true → IsTrue b
is_true b e = rw e (search rules)

pattern_makes : (place : ℕ) (text : List ℕ) → Makes (pattern_at place text)
unfolding pattern_at
pattern_makes place text =
    let inner : List ℕ = drop 1 text in
    let n : ℕ = prefix_len is_inner inner in
    let bytes : List ℕ = filter is_pattern_byte (take n inner) in
    either (eqb (get_or inner n 0) 34) (made (Pattern bytes) (n + 2)) (Err (BadPattern place)) (λ _. is_true (list_all is_pattern_byte bytes) (chosen_holds is_pattern_byte (take n inner))) (λ _. tt)

sign_made : (place : ℕ) (two one : Option Sign) → Makes (elim two [ Some s ↦ made (signs.Sign s) 2 | None ↦ elim one [ Some s ↦ made (signs.Sign s) 1 | None ↦ Err (BadByte place) ] ])
sign_made place (Some s) one = tt
sign_made place None (Some s) = tt
sign_made place None None = tt

sign_makes : (place : ℕ) (text : List ℕ) → Makes (sign_at place text)
unfolding sign_at
sign_makes place text = sign_made place (sign_of_two (get_or text 0 0) (get_or text 1 0)) (sign_of_one (get_or text 0 0))

-- the token at the front
pub front_makes : (place b : ℕ) (bs : List ℕ) → Makes (front place (b ∷ bs))
unfolding front
front_makes place b bs =
    let last : Result Piece TextFault = sign_at place (b ∷ bs) in
    let patterns : Result Piece TextFault = cond (eqb b 34) (pattern_at place (b ∷ bs)) last in
    let numbers : Result Piece TextFault = cond (is_digit b) (number_at place (b ∷ bs)) patterns in
    let words : Result Piece TextFault = cond (is_letter b) (word_at place (b ∷ bs)) numbers in
    let comments : Result Piece TextFault = cond (eqb b 35) (skip (prefix_len (λ c. not (eqb c 10)) (b ∷ bs))) words in
    either (is_blank b) (skip 1) comments (λ _. tt)
    (λ _. either (eqb b 35) (skip (prefix_len (λ c. not (eqb c 10)) (b ∷ bs))) words (λ _. tt)
    (λ _. either (is_letter b) (word_at place (b ∷ bs)) numbers (word_makes place b bs)
    (λ _. either (is_digit b) (number_at place (b ∷ bs)) patterns (λ _. number_makes place (b ∷ bs))
    (λ _. either (eqb b 34) (pattern_at place (b ∷ bs)) last (λ _. pattern_makes place (b ∷ bs))
    (λ _. sign_makes place (b ∷ bs))))))

abbrev AllFormed : List (Tok × Span) → Type 0
AllFormed = AllByRecursion (λ t. IsFormed t.0)

in_front : (place : ℕ) (p : Piece) (ts : List (Tok × Span)) → IfSome p.tok IsFormed → AllFormed ts → AllFormed (placed place p ++ ts)
in_front place p ts h all =
    elim (p.tok) as (λ o. IfSome o IsFormed → AllFormed (placed place (record { tok = o; len = p.len }) ++ ts)) [
      | Some t ↦ λ e. (e, all)
      | None ↦ λ e. all
    ] h

-- the tokens behind k bytes of a piece before
all_formed : (k place : ℕ) (text : List ℕ) (ts : List (Tok × Span)) → cut_from k place text ≡ Ok ts → AllFormed ts
unfolding cut_from
all_formed k place [] ts h = subst AllFormed (ok_is [] ts h) tt
all_formed (suc k) place (b ∷ bs) ts h = all_formed k (place + 1) bs ts h
all_formed zero place (b ∷ bs) ts h =
    let piece = then_ok place (front place (b ∷ bs)) (λ k. cut_from k (place + 1) bs) ts h in
    let p : Piece = piece.0 in
    let rest = before_ok (placed place p) (cut_from (p.len - 1) (place + 1) bs) ts piece.2 in
    let formed : IfSome p.tok IsFormed = subst Makes piece.1 (front_makes place b bs) in
    subst AllFormed rest.2 (in_front place p rest.0 formed (all_formed (p.len - 1) (place + 1) bs rest.0 rest.1))

-- the tokens of a text
pub cut_formed : (text : List ℕ) (ts : List (Tok × Span)) → cut text ≡ Ok ts → All (λ t. IsFormed t.0) ts
unfolding cut
cut_formed text ts h = All-from_recursion (λ t. IsFormed t.0) ts (all_formed 0 0 text ts h)
