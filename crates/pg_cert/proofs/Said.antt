-- The text of a line in range is what its bytes say, and nothing else says the line. LF is its last byte, and no other.
use Rattle.std.proofs.Common.{◌≡◌, ◌≢◌, ℕ, ◌-◌, Bool, true, false, cond, List, [], ◌∷◌, ◌++◌, length, get_or, All, Some, None, Option, refl, sym, ap, ◌∙◌, arith, length-append, eq-eqb}
use Rattle.std.specs.Prelude.{◌==◌, ◌&&◌, bytes_eq}
use Rattle.std.specs.List.{list_any, list_all, join_with_byte}
use Rattle.std.proofs.lemmas.Bool.{and_from, and_parts, or_from}
use Rattle.std.proofs.lemmas.Bool.Decides.{nat_tests}
use Rattle.std.proofs.lemmas.List.{get_or_push}
use Rattle.std.proofs.lemmas.List.Folds.{list_any-append, list_any_at}
use Rattle.std.proofs.lemmas.Slice.Eq.{bytes_eq-Decides}
use Rattle.pg_word.specs.declared.shape.Shape.{Shape}
use Rattle.pg_word.specs.Shape.{IsShape}
use Rattle.pg_cert.specs.declared.cert.Family.TheVariants.{Plain, Hybrid}
use Rattle.pg_cert.specs.declared.line.Line.{Line}
use Rattle.pg_cert.specs.Lines.{line_parts, line_text, is_line, IsLine}
use Rattle.pg_cert.specs.Reading.{read_parts, but_last, last_byte}
use Rattle.pg_cert.specs.Parsing.{Says, NoToken, NoForm, OtherVersion, is_foreign, before_end, parts_of, is_first, said_of_no_line, said_of_read, said}
use Rattle.pg_cert.proofs.OneText.{is_graphic, graphic, line_graphic, but_last-push, read_text-line}

-- ---- the bytes of a text

module _ (p : ℕ → Bool) where
  none_append : (xs ys : List ℕ) → list_any p xs ≡ false → list_any p ys ≡ false → list_any p (xs ++ ys) ≡ false
  none_append xs ys hx hy = list_any-append p xs ys ∙ or_from (list_any p xs) (list_any p ys) hx hy

  -- what no graphic byte is, no byte of a part is, and none of parts with a space between
  module _ (no_graphic : (c : ℕ) → is_graphic c ≡ true → p c ≡ false) (no_space : p 32 ≡ false) where
    none_of : (part : List ℕ) → graphic part ≡ true → list_any p part ≡ false
    none_of [] h = refl
    none_of (c ∷ cs) h =
        let both = and_parts (is_graphic c) (graphic cs) h in
        or_from (p c) (list_any p cs) (no_graphic c both.0) (none_of cs both.1)

    none_joined : (parts : List (List ℕ)) → list_all graphic parts ≡ true → list_any p (join_with_byte 32 parts) ≡ false
    none_joined [] h = refl
    none_joined (part ∷ []) h = none_of part (and_parts (graphic part) true h).0
    none_joined (part ∷ next ∷ parts) h =
        let both = and_parts (graphic part) (list_all graphic (next ∷ parts)) h in
        let rest : List ℕ = join_with_byte 32 (next ∷ parts) in
        none_append part (32 ∷ rest) (none_of part both.0)
        (or_from (p 32) (list_any p rest) no_space (none_joined (next ∷ parts) both.1))

known : (c : ℕ) → is_graphic c ≡ true → is_foreign c ≡ false
known c h = grind (arith, nat_tests)

no_end : (c : ℕ) → is_graphic c ≡ true → (c == 10) ≡ false
no_end c h = grind (arith, nat_tests)

last_byte-push : (text : List ℕ) (c : ℕ) → last_byte (text ++ c ∷ []) ≡ c
last_byte-push text c =
    let len : length text ≡ length (text ++ c ∷ []) - 1 = omega (arith, length-append text (c ∷ [])) in
    get_or_push text c 0 (length (text ++ c ∷ []) - 1) len

before_end-push : (text : List ℕ) → before_end (text ++ 10 ∷ []) ≡ text
before_end-push text =
    let all : List ℕ = text ++ 10 ∷ [] in
    let ends : (last_byte all == 10) ≡ true = eq-eqb (last_byte all) 10 (last_byte-push text 10) in
    ap (λ b. cond b (but_last all) all) ends ∙ but_last-push text 10

-- ---- a text says its line

pub said-line : (shape : Shape) → IsShape shape → (line : Line) → IsLine shape line →
    said shape (line_text shape line) ≡ Says line
unfolding said line_text
said-line shape numbers line h =
    let body : List ℕ = join_with_byte 32 (line_parts shape.w line) in
    let text : List ℕ = body ++ 10 ∷ [] in
    let none : list_any is_foreign (before_end text) ≡ false =
    ap (list_any is_foreign) (before_end-push body)
    ∙ none_joined is_foreign known refl (line_parts shape.w line) (line_graphic shape numbers line h) in
    let spelled : (is_line shape line && bytes_eq text text) ≡ true =
    and_from (is_line shape line) (bytes_eq text text) h ((bytes_eq-Decides text text).1 refl) in
    ap (λ b. cond b NoToken (said_of_read shape text (read_parts shape.w (parts_of text)))) none
    ∙ ap (said_of_read shape text) (read_text-line shape numbers line h)
    ∙ ap (λ b. cond b (Says line) (said_of_no_line text)) spelled

-- ---- what says a line is its text

no_line_if : (P : Type 0) (line : Line) (first second : Bool) →
    cond first (OtherVersion Plain) (cond second (OtherVersion Hybrid) NoForm) ≡ Says line → P
no_line_if P line true second e = absurd cc
no_line_if P line false true e = absurd cc
no_line_if P line false false e = absurd cc

no_line : (P : Type 0) (line : Line) (bytes : List ℕ) → said_of_no_line bytes ≡ Says line → P
no_line P line bytes e = no_line_if P line (is_first Plain bytes) (is_first Hybrid bytes) e

module _ (shape : Shape) (bytes : List ℕ) (line : Line) where
  abbrev IsSpelled : Type 0
  IsSpelled = IsLine shape line × (bytes ≡ line_text shape line)

  spelled_if : (read : Line) (test : Bool) → test ≡ (is_line shape read && bytes_eq bytes (line_text shape read)) →
      cond test (Says read) (said_of_no_line bytes) ≡ Says line → IsSpelled
  spelled_if read true t e =
      let same : read ≡ line = cc in
      let both = and_parts (is_line shape read) (bytes_eq bytes (line_text shape read)) (sym t) in
      let equal : bytes ≡ line_text shape read = (bytes_eq-Decides bytes (line_text shape read)).0 both.1 in
      (ap (is_line shape) (sym same) ∙ both.0, equal ∙ ap (line_text shape) same)
  spelled_if read false t e = no_line IsSpelled line bytes e

  spelled_read : (read : Option Line) → said_of_read shape bytes read ≡ Says line → IsSpelled
  spelled_read None e = no_line IsSpelled line bytes e
  spelled_read (Some read) e = spelled_if read (is_line shape read && bytes_eq bytes (line_text shape read)) refl e

  spelled_known : (foreign : Bool) (read : Option Line) →
      cond foreign NoToken (said_of_read shape bytes read) ≡ Says line → IsSpelled
  spelled_known true read e = absurd cc
  spelled_known false read e = spelled_read read e

  pub said_spelled : said shape bytes ≡ Says line → IsLine shape line × (bytes ≡ line_text shape line)
  unfolding said
  said_spelled e = spelled_known (list_any is_foreign (before_end bytes)) (read_parts shape.w (parts_of bytes)) e

-- ---- LF

pub text_ends : (shape : Shape) (line : Line) → line_text shape line ≡ but_last (line_text shape line) ++ 10 ∷ []
unfolding line_text
text_ends shape line =
    let body : List ℕ = join_with_byte 32 (line_parts shape.w line) in
    ap (λ t. t ++ 10 ∷ []) (sym (but_last-push body 10))

none_at : (text : List ℕ) → list_any (λ c. c == 10) text ≡ false → All (λ c. c ≢ 10) text
none_at text h = λ k d l e.
    let there : list_any (λ c. c == 10) text ≡ true =
    list_any_at (λ c. c == 10) text k d l (eq-eqb (get_or text k d) 10 e) in
    cc

pub no_end_before : (shape : Shape) → IsShape shape → (line : Line) → IsLine shape line →
    list_any (λ c. c == 10) (but_last (line_text shape line)) ≡ false
unfolding line_text
no_end_before shape numbers line h =
    let body : List ℕ = join_with_byte 32 (line_parts shape.w line) in
    ap (list_any (λ c. c == 10)) (but_last-push body 10)
    ∙ none_joined (λ c. c == 10) no_end refl (line_parts shape.w line) (line_graphic shape numbers line h)

pub ends_once : (shape : Shape) → IsShape shape → (line : Line) → IsLine shape line →
    All (λ c. c ≢ 10) (but_last (line_text shape line))
ends_once shape numbers line h = none_at (but_last (line_text shape line)) (no_end_before shape numbers line h)
