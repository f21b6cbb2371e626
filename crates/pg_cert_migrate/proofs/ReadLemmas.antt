-- The lines of a text, cut behind each LF.
use Rattle.std.proofs.Common.{◌≡◌, ◌≢◌, ℕ, ◌+◌, ◌<◌, ◌≤◌, ◌⊎◌, inl, inr, Bool, true, false, cond, List, [], ◌∷◌, ◌++◌, length, take, drop, get_or, position, None, Some, All, refl, sym, ap, subst, ◌∙◌, arith, append_assoc}
use Rattle.std.specs.Prelude.{◌==◌, not, nat_lt}
use Rattle.std.specs.List.{list_any, position_or_len}
use Rattle.std.proofs.lemmas.Bool.{cases_Bool, eqb-true, eqb-false, ltb-false}
use Rattle.std.proofs.lemmas.List.{length-take-le, get_or-take, take_more, take-append-drop}
use Rattle.std.proofs.lemmas.List.Elements.{All-nil, All-cons, All-head, All-tail, All-from_get_or}
use Rattle.std.proofs.lemmas.List.Folds.{list_any_none}
use Rattle.std.proofs.lemmas.List.Quantifiers.{position-Some}
use Rattle.pg_word.specs.declared.shape.Shape.{Shape}
use Rattle.pg_word.specs.Shape.{IsShape}
use Rattle.pg_proof.specs.declared.step.Act.{Act}
use Rattle.pg_cert.specs.declared.line.Line.{Line}
use Rattle.pg_cert.specs.Lines.{line_text, IsLine}
use Rattle.pg_cert.specs.Reading.{but_last}
use Rattle.pg_cert.specs.Parsing.{Says, said}
use Rattle.pg_cert.specs.Texts.{lines_text}
use Rattle.pg_cert.proofs.Parted.{parted}
use Rattle.pg_cert.proofs.Said.{said-line, text_ends, no_end_before}
use Rattle.pg_cert_migrate.specs.Logs.{with_lines, with_said, logs_of, AreLogsOf}

abbrev is_lf : ℕ → Bool
is_lf c = c == 10

-- ---- where the first LF stands

front_ends : (bytes : List ℕ) (n : ℕ) → position is_lf bytes ≡ Some n → take (n + 1) bytes ≡ take n bytes ++ 10 ∷ []
front_ends bytes n e =
    let at = position-Some is_lf bytes n 0 e in
    take_more bytes n 0 at.0 ∙ ap (λ (c : ℕ). take n bytes ++ c ∷ []) (eqb-true (get_or bytes n 0) 10 at.1)

front_plain : (bytes : List ℕ) (n : ℕ) → position is_lf bytes ≡ Some n → list_any is_lf (take n bytes) ≡ false
front_plain bytes n e =
    let at = position-Some is_lf bytes n 0 e in
    list_any_none is_lf (take n bytes)
    (All-from_get_or (λ c. is_lf c ≡ false) (take n bytes) 0 (λ k l.
    let below : k < n = omega (arith, l, length-take-le n bytes (omega (arith, at.0))) in
    ap is_lf (get_or-take n bytes k 0 below) ∙ at.2 k below))

no_end : (bytes : List ℕ) → length bytes ≤ position_or_len is_lf bytes → All (λ c. c ≢ 10) bytes
no_end [] h = All-nil (λ c. c ≢ 10)
no_end (c ∷ cs) h = by (cases_Bool (c == 10)) (λ l. no_end cs l)
  where
    by : ((c == 10) ≡ true) ⊎ ((c == 10) ≡ false) → (length cs ≤ position_or_len is_lf cs → All (λ x. x ≢ 10) cs) → All (λ x. x ≢ 10) (c ∷ cs)
    by (inl e) rest =
        let none : position_or_len is_lf (c ∷ cs) ≡ 0 = ap (λ b. cond (not b) (1 + position_or_len is_lf cs) 0) e in
        absurd (omega arith)
    by (inr e) rest =
        let more : position_or_len is_lf (c ∷ cs) ≡ 1 + position_or_len is_lf cs = ap (λ b. cond (not b) (1 + position_or_len is_lf cs) 0) e in
        All-cons (λ x. x ≢ 10) c cs (eqb-false c 10 e) (rest (omega arith))

all_plain : (bytes : List ℕ) → position is_lf bytes ≡ None → All (λ c. c ≢ 10) bytes
all_plain bytes e = by (cases_Bool (nat_lt (position_or_len is_lf bytes) (length bytes)))
  where
    by : (nat_lt (position_or_len is_lf bytes) (length bytes) ≡ true) ⊎ (nat_lt (position_or_len is_lf bytes) (length bytes) ≡ false) → All (λ c. c ≢ 10) bytes
    by (inl t) =
        let wrong : Some (position_or_len is_lf bytes) ≡ None = sym (ap (λ b. cond b (Some (position_or_len is_lf bytes)) None) t) ∙ e in
        absurd (cc)
    by (inr f) = no_end bytes (ltb-false (position_or_len is_lf bytes) (length bytes) f)

never : (front more : List ℕ) → All (λ c. c ≢ 10) (front ++ 10 ∷ more) → ⊥
never [] more h = All-head (λ c. c ≢ 10) 10 more h refl
never (c ∷ front) more h = never front more (All-tail (λ x. x ≢ 10) c (front ++ 10 ∷ more) h)

-- ---- how far a text has been read

-- lines are left, which lead where all of them do
pub record IsRest (shape : Shape) (lines : List Line) (logs : List (List Act)) (left : List ℕ) : Type 0 where
  pub rest : List Line
  pub in_range : All (IsLine shape) rest
  pub text : left ≡ lines_text shape rest
  pub leads : with_lines logs rest ≡ logs_of lines

abbrev pub IsReadSoFar : Shape → List ℕ → List (List Act) → List ℕ → Type 0
IsReadSoFar shape bytes logs left =
    (lines : List Line) → All (IsLine shape) lines → bytes ≡ lines_text shape lines → IsRest shape lines logs left

pub read_none : (shape : Shape) (bytes : List ℕ) → IsReadSoFar shape bytes [] bytes
read_none shape bytes = λ lines all text. record { rest = lines; in_range = all; text = text; leads = refl }

module _ (shape : Shape) (numbers : IsShape shape) where
  -- a line and what stands behind it, where a text begins with it
  front_line : (line : Line) (lines : List Line) → lines_text shape (line ∷ lines) ≡ but_last (line_text shape line) ++ 10 ∷ lines_text shape lines
  unfolding lines_text
  front_line line lines =
      ap (λ bs. bs ++ lines_text shape lines) (text_ends shape line)
      ∙ append_assoc (but_last (line_text shape line)) (10 ∷ []) (lines_text shape lines)

  no_lines : lines_text shape [] ≡ []
  unfolding lines_text
  no_lines = refl

  -- no LF is left: no line
  rest_none : (lines : List Line) (logs : List (List Act)) (left : List ℕ) → position is_lf left ≡ None → IsRest shape lines logs left →
      logs ≡ logs_of lines
  rest_none lines logs left e h = by h.rest h.text h.leads
    where
      by : (rest : List Line) → left ≡ lines_text shape rest → with_lines logs rest ≡ logs_of lines → logs ≡ logs_of lines
      by [] text leads = leads
      by (line ∷ rest) text leads =
          absurd (never (but_last (line_text shape line)) (lines_text shape rest)
          (subst (λ bs. All (λ c. c ≢ 10) bs) (text ∙ front_line line rest) (all_plain left e)))

  pub read_all : (bytes : List ℕ) (logs : List (List Act)) (left : List ℕ) → position is_lf left ≡ None →
      IsReadSoFar shape bytes logs left → AreLogsOf shape bytes logs
  read_all bytes logs left e h = λ lines all text. rest_none lines logs left e (h lines all text)

  -- the first line is taken
  rest_next : (lines : List Line) (logs : List (List Act)) (left : List ℕ) (n : ℕ) → position is_lf left ≡ Some n →
      IsRest shape lines logs left → IsRest shape lines (with_said logs (said shape (take (n + 1) left))) (drop (n + 1) left)
  rest_next lines logs left n e h = by h.rest h.in_range h.text h.leads
    where
      by : (rest : List Line) → All (IsLine shape) rest → left ≡ lines_text shape rest → with_lines logs rest ≡ logs_of lines →
          IsRest shape lines (with_said logs (said shape (take (n + 1) left))) (drop (n + 1) left)
      by [] all text leads =
          let none : position is_lf left ≡ None = ap (position is_lf) (text ∙ no_lines) in
          absurd (cc)
      by (line ∷ rest) all text leads =
          let front : List ℕ = but_last (line_text shape line) in
          let here : IsLine shape line = All-head (IsLine shape) line rest all in
          let ends = front_ends left n e in
          let whole : take n left ++ 10 ∷ drop (n + 1) left ≡ front ++ 10 ∷ lines_text shape rest =
          sym (append_assoc (take n left) (10 ∷ []) (drop (n + 1) left)) ∙ ap (λ bs. bs ++ drop (n + 1) left) (sym ends)
          ∙ take-append-drop (n + 1) left ∙ text ∙ front_line line rest in
          let both = parted is_lf (take n left) front (10 ∷ drop (n + 1) left) (10 ∷ lines_text shape rest)
          (front_plain left n e) (no_end_before shape numbers line here) refl refl whole in
          let piece : take (n + 1) left ≡ line_text shape line =
          ends ∙ ap (λ bs. bs ++ 10 ∷ []) both.0 ∙ sym (text_ends shape line) in
          let says : said shape (take (n + 1) left) ≡ Says line = ap (said shape) piece ∙ said-line shape numbers line here in
          record {
            rest = rest;
            in_range = All-tail (IsLine shape) line rest all;
            text = ap (drop 1) both.1;
            leads = ap (λ s. with_lines (with_said logs s) rest) says ∙ leads;
          }

  pub read_next : (bytes : List ℕ) (logs : List (List Act)) (left : List ℕ) (n : ℕ) → position is_lf left ≡ Some n →
      IsReadSoFar shape bytes logs left →
      IsReadSoFar shape bytes (with_said logs (said shape (take (n + 1) left))) (drop (n + 1) left)
  read_next bytes logs left n e h = λ lines all text. rest_next lines logs left n e (h lines all text)
