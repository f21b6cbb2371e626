-- Each token's text, in front of a gap, is cut as that token.
use Rattle.std.proofs.Common.{◌≡◌, ℕ, ◌+◌, ◌^◌, ◌<◌, ◌≤◌, Bool, true, false, cond, ◌&&◌, ◌||◌, eqb, leb, List, [], ◌∷◌, ◌++◌, length, take, get_or, Some, None, Result, Err, append_assoc, length-append, ap, ◌∙◌, refl, arith}
use Rattle.std.specs.Prelude.{filter, nat_le}
use Rattle.std.specs.Fmt.{decimal}
use Rattle.std.specs.List.{prefix_len, list_all}
use Rattle.std.specs.Str.Parse.{AllDigits, digits_value}
use Rattle.std.proofs.Math.Seq.{take-append_seam}
use Rattle.std.proofs.lemmas.Bool.{le-leb, leb-true}
use Rattle.std.proofs.lemmas.Bool.Decides.{nat_tests}
use Rattle.std.proofs.lemmas.Str.Parse.{digit_from_value}
use Rattle.std.proofs.lemmas.Fmt.{decimal_is_IsNumeral}
use Rattle.pg_lang_token.specs.Words.{most_name_bytes, is_letter, is_digit, is_word_byte, is_word, is_pattern_byte}
use Rattle.pg_lang_token.specs.declared.tok.Tok.{Tok}
use Rattle.pg_lang_token.specs.declared.tok.Tok.TheVariants.{Word, Number, Pattern}
use Rattle.pg_lang_token.specs.declared.tok.Tok.TheVariants as signs
use Rattle.pg_lang_token.specs.declared.tok.Sign.{Sign}
use Rattle.pg_lang_token.specs.declared.tok.Sign.TheVariants.{OpenBrace, CloseBrace, OpenParen, CloseParen, OpenBracket, CloseBracket, Semicolon, Comma, Colon, Equals, DoubleEquals, Tilde, Plus, Minus, Star, Ampersand, Bar, Caret, LessThan, DoubleLess, DoubleGreater}
use Rattle.pg_text.specs.declared.place.TextFault.{TextFault}
use Rattle.pg_text.specs.declared.place.TextFault.TheVariants.{BadNumber}
use Rattle.pg_text.specs.declared.piece.Piece.{Piece}
use Rattle.pg_text.specs.Cutting.{is_blank, is_inner, limited, number_of, made, word_at, number_at, pattern_at, sign_at, front}
use Rattle.pg_text.specs.Formed.{IsFormed}
use Rattle.pg_text.proofs.Digits.{limited_is}
use Rattle.pg_lang_print.specs.Layout.{sign_text, token_text}

-- what stands behind a token: no word goes on in it, and no sign of two bytes ends there
pub record IsGap (rest : List ℕ) : Type 0 where
  pub word : prefix_len is_word_byte rest ≡ 0
  pub equals : eqb (get_or rest 0 0) 61 ≡ false
  pub less : eqb (get_or rest 0 0) 60 ≡ false

first : (x y : Bool) → (x && y) ≡ true → x ≡ true
first true y h = refl
first false y h = absurd cc

second : (x y : Bool) → (x && y) ≡ true → y ≡ true
second true y h = h
second false y h = absurd cc

both : (x y : Bool) → x ≡ true → y ≡ true → (x && y) ≡ true
both true y e f = f
both false y e f = absurd cc

-- a run goes as far as its bytes do
run_stops : (p : ℕ → Bool) (x rest : List ℕ) → list_all p x ≡ true → prefix_len p rest ≡ 0 → prefix_len p (x ++ rest) ≡ length x
run_stops p [] rest h e = e
run_stops p (c ∷ cs) rest h e =
    ap (λ b. cond b (1 + prefix_len p (cs ++ rest)) 0) (first (p c) (list_all p cs) h)
    ∙ omega (arith, run_stops p cs rest (second (p c) (list_all p cs) h) e)

keeps_all : (p : ℕ → Bool) (x : List ℕ) → list_all p x ≡ true → filter p x ≡ x
keeps_all p [] h = refl
keeps_all p (c ∷ cs) h =
    ap (λ b. cond b (c ∷ filter p cs) (filter p cs)) (first (p c) (list_all p cs) h) ∙ ap (λ z. c ∷ z) (keeps_all p cs (second (p c) (list_all p cs) h))

wider : (p q : ℕ → Bool) → ((c : ℕ) → p c ≡ true → q c ≡ true) → (x : List ℕ) → list_all p x ≡ true → list_all q x ≡ true
wider p q f [] h = refl
wider p q f (c ∷ cs) h =
    both (q c) (list_all q cs) (f c (first (p c) (list_all p cs) h)) (wider p q f cs (second (p c) (list_all p cs) h))

-- ---- words

letter_no_blank : (c : ℕ) → is_letter c ≡ true → is_blank c ≡ false
letter_no_blank c h = grind (arith, nat_tests)

letter_no_hash : (c : ℕ) → is_letter c ≡ true → eqb c 35 ≡ false
letter_no_hash c h = grind (arith, nat_tests)

either_is : (x y : Bool) → x ≡ true → (x || y) ≡ true
either_is true y h = refl
either_is false y h = absurd cc

letter_in_word : (c : ℕ) → is_letter c ≡ true → is_word_byte c ≡ true
letter_in_word c h = either_is (is_letter c || is_digit c) (eqb c 95) (either_is (is_letter c) (is_digit c) h)

word_is : (place : ℕ) (w rest : List ℕ) → list_all is_word_byte w ≡ true → length w ≤ most_name_bytes → IsGap rest → word_at place (w ++ rest) ≡ made (Word w) (length w)
unfolding word_at
word_is place w rest all short gap = rw (run_stops is_word_byte w rest all gap.word, take-append_seam w rest, le-leb (length w) most_name_bytes short) refl

third_of : {R : Type 0} (a b c : Bool) (x y z u : R) → a ≡ false → b ≡ false → c ≡ true → cond a x (cond b y (cond c z u)) ≡ z
third_of a b c x y z u e f g = rw (e, f, g) refl

fourth_of : {R : Type 0} (a b c d : Bool) (x y z u v : R) → a ≡ false → b ≡ false → c ≡ false → d ≡ true → cond a x (cond b y (cond c z (cond d u v))) ≡ u
fourth_of a b c d x y z u v e f g h = rw (e, f, g, h) refl

word_front : (place : ℕ) (w rest : List ℕ) → is_word w ≡ true → IsGap rest → front place (w ++ rest) ≡ made (Word w) (length w)
unfolding front
word_front place [] rest h gap = absurd cc
word_front place (c ∷ cs) rest h gap =
    let letters : (is_letter c && list_all is_word_byte cs) ≡ true = first (is_letter c && list_all is_word_byte cs) (leb (length (c ∷ cs)) most_name_bytes) h in
    let letter : is_letter c ≡ true = first (is_letter c) (list_all is_word_byte cs) letters in
    let all : list_all is_word_byte (c ∷ cs) ≡ true = both (is_word_byte c) (list_all is_word_byte cs) (letter_in_word c letter) (second (is_letter c) (list_all is_word_byte cs) letters) in
    let short : length (c ∷ cs) ≤ most_name_bytes = leb-true (length (c ∷ cs)) most_name_bytes (second (is_letter c && list_all is_word_byte cs) (leb (length (c ∷ cs)) most_name_bytes) h) in
    third_of (is_blank c) (eqb c 35) (is_letter c) _ _ _ _ (letter_no_blank c letter) (letter_no_hash c letter) letter ∙ word_is place (c ∷ cs) rest all short gap

-- ---- numbers

digit_is : (c : ℕ) → 48 ≤ c → c ≤ 57 → is_digit c ≡ true
digit_is c low high = grind (arith, nat_tests)

digits_all : (ds : List ℕ) → AllDigits 10 ds → list_all is_digit ds ≡ true
digits_all [] d = refl
digits_all (c ∷ cs) d =
    let r = digit_from_value c d.0 in
    both (is_digit c) (list_all is_digit cs) (digit_is c (omega arith) (omega arith)) (digits_all cs d.1)

digit_no_blank : (c : ℕ) → is_digit c ≡ true → is_blank c ≡ false
digit_no_blank c h = grind (arith, nat_tests)

digit_no_hash : (c : ℕ) → is_digit c ≡ true → eqb c 35 ≡ false
digit_no_hash c h = grind (arith, nat_tests)

digit_no_letter : (c : ℕ) → is_digit c ≡ true → is_letter c ≡ false
digit_no_letter c h = grind (arith, nat_tests)

or_is : (x y : Bool) → y ≡ true → (x || y) ≡ true
or_is true y h = refl
or_is false y h = h

digit_in_word : (c : ℕ) → is_digit c ≡ true → is_word_byte c ≡ true
digit_in_word c h = either_is (is_letter c || is_digit c) (eqb c 95) (or_is (is_letter c) (is_digit c) h)

number_is : (place v : ℕ) (ds rest : List ℕ) → 0 < length ds → list_all is_digit ds ≡ true → digits_value 10 ds ≡ v → v < 2 ^ 64 → IsGap rest → number_at place (ds ++ rest) ≡ made (Number v) (length ds)
unfolding number_at
number_is place v ds rest some all e fits gap =
    let one : nat_le 1 (length ds) ≡ true = le-leb 1 (length ds) some in
    let value : number_of ds ≡ Some v = rw (all, one) (ap limited e ∙ limited_is v fits) in
    ap (λ n. elim (number_of (take n (ds ++ rest))) [ Some u ↦ made (Number u) n | None ↦ Err (BadNumber place) ])
    (run_stops is_word_byte ds rest (wider is_digit is_word_byte digit_in_word ds all) gap.word)
    ∙ ap (λ o. elim o [ Some u ↦ made (Number u) (length ds) | None ↦ Err (BadNumber place) ]) (ap number_of (take-append_seam ds rest) ∙ value)

digits_front : (place v : ℕ) (ds rest : List ℕ) → 0 < length ds → list_all is_digit ds ≡ true → digits_value 10 ds ≡ v → v < 2 ^ 64 → IsGap rest → front place (ds ++ rest) ≡ made (Number v) (length ds)
unfolding front
digits_front place v [] rest some all e fits gap = absurd (omega arith)
digits_front place v (c ∷ cs) rest some all e fits gap =
    let digit : is_digit c ≡ true = first (is_digit c) (list_all is_digit cs) all in
    fourth_of (is_blank c) (eqb c 35) (is_letter c) (is_digit c) _ _ _ _ _ (digit_no_blank c digit) (digit_no_hash c digit) (digit_no_letter c digit) digit
    ∙ number_is place v (c ∷ cs) rest some all e fits gap

number_front : (place v : ℕ) (rest : List ℕ) → v < 2 ^ 64 → IsGap rest → front place (decimal v ++ rest) ≡ made (Number v) (length (decimal v))
number_front place v rest fits gap =
    let numeral = decimal_is_IsNumeral v fits in
    digits_front place v (decimal v) rest numeral.0.0 (digits_all (decimal v) numeral.0.1) numeral.1 fits gap

-- ---- patterns

at_seam : (w : List ℕ) (b : ℕ) (rest : List ℕ) → get_or (w ++ b ∷ rest) (length w) 0 ≡ b
at_seam [] b rest = refl
at_seam (c ∷ cs) b rest = at_seam cs b rest

pattern_is : (place : ℕ) (w rest : List ℕ) → list_all is_pattern_byte w ≡ true → pattern_at place (34 ∷ (w ++ 34 ∷ rest)) ≡ made (Pattern w) (length w + 2)
unfolding pattern_at
pattern_is place w rest all =
    let inner : list_all is_inner w ≡ true = wider is_pattern_byte is_inner (λ c h. either_is (is_pattern_byte c) (eqb c 95) h) w all in
    rw (run_stops is_inner w (34 ∷ rest) inner refl, at_seam w 34 rest, take-append_seam w (34 ∷ rest), keeps_all is_pattern_byte w all) refl

pattern_front : (place : ℕ) (w rest : List ℕ) → list_all is_pattern_byte w ≡ true → front place ((34 ∷ (w ++ 34 ∷ [])) ++ rest) ≡ made (Pattern w) (length (34 ∷ (w ++ 34 ∷ [])))
unfolding front
pattern_front place w rest all =
    let long : length w + 2 ≡ length (34 ∷ (w ++ 34 ∷ [])) = omega (arith, length-append w (34 ∷ [])) in
    ap (λ z. front place (34 ∷ z)) (append_assoc w (34 ∷ []) rest) ∙ pattern_is place w rest all ∙ ap (made (Pattern w)) long

-- ---- signs

-- the sign of two bytes, or else that of one
abbrev either_sign : Sign → Sign → Bool → Result Piece TextFault
either_sign two one b = elim (cond b (Some two) None) [ Some s ↦ made (signs.Sign s) 2 | None ↦ made (signs.Sign one) 1 ]

sign_front : (place : ℕ) (s : Sign) (rest : List ℕ) → IsGap rest → front place (sign_text s ++ rest) ≡ made (signs.Sign s) (length (sign_text s))
unfolding front sign_at
sign_front place OpenBrace rest gap = refl
sign_front place CloseBrace rest gap = refl
sign_front place OpenParen rest gap = refl
sign_front place CloseParen rest gap = refl
sign_front place OpenBracket rest gap = refl
sign_front place CloseBracket rest gap = refl
sign_front place Semicolon rest gap = refl
sign_front place Comma rest gap = refl
sign_front place Colon rest gap = refl
sign_front place Equals rest gap = ap (either_sign DoubleEquals Equals) gap.equals
sign_front place DoubleEquals rest gap = refl
sign_front place Tilde rest gap = refl
sign_front place Plus rest gap = refl
sign_front place Minus rest gap = refl
sign_front place Star rest gap = refl
sign_front place Ampersand rest gap = refl
sign_front place Bar rest gap = refl
sign_front place Caret rest gap = refl
sign_front place LessThan rest gap = ap (either_sign DoubleLess LessThan) gap.less
sign_front place DoubleLess rest gap = refl
sign_front place DoubleGreater rest gap = refl

sign_some : (s : Sign) → 0 < length (sign_text s)
sign_some OpenBrace = omega arith
sign_some CloseBrace = omega arith
sign_some OpenParen = omega arith
sign_some CloseParen = omega arith
sign_some OpenBracket = omega arith
sign_some CloseBracket = omega arith
sign_some Semicolon = omega arith
sign_some Comma = omega arith
sign_some Colon = omega arith
sign_some Equals = omega arith
sign_some DoubleEquals = omega arith
sign_some Tilde = omega arith
sign_some Plus = omega arith
sign_some Minus = omega arith
sign_some Star = omega arith
sign_some Ampersand = omega arith
sign_some Bar = omega arith
sign_some Caret = omega arith
sign_some LessThan = omega arith
sign_some DoubleLess = omega arith
sign_some DoubleGreater = omega arith

-- ---- tokens

-- a token's text in front of a gap is cut as that token
pub token_front : (place : ℕ) (t : Tok) (rest : List ℕ) → IsFormed t → IsGap rest → front place (token_text t ++ rest) ≡ made t (length (token_text t))
token_front place (Word w) rest h gap = word_front place w rest h gap
token_front place (Number v) rest h gap = number_front place v rest h gap
token_front place (Pattern w) rest h gap = pattern_front place w rest h
token_front place (signs.Sign s) rest h gap = sign_front place s rest gap

word_some : (w : List ℕ) → is_word w ≡ true → 0 < length w
word_some [] h = absurd cc
word_some (c ∷ cs) h = omega arith

-- and has at least one byte
pub token_some : (t : Tok) → IsFormed t → 0 < length (token_text t)
token_some (Word w) h = word_some w h
token_some (Number v) h = (decimal_is_IsNumeral v h).0.0
token_some (Pattern w) h = omega arith
token_some (signs.Sign s) h = sign_some s
