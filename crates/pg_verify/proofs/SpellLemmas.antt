-- Bytes that are not refused are the lines of a valid certificate.
use Rattle.std.proofs.Common.{◌≡◌, ◌≢◌, ℕ, suc, ◌≤◌, Bool, true, false, if◌then◌else◌, List, [], ◌∷◌, ◌++◌, length, Option, None, Some, Ok, Err, All, refl, sym, ap, subst, ◌∙◌, arith, append_assoc, append-nil, length-append}
use Rattle.std.specs.Prelude.{◌==◌, ◌&&◌, bytes_eq}
use Rattle.std.specs.List.{list_any}
use Rattle.std.proofs.lemmas.Bool.{and_parts, eqb-false}
use Rattle.std.proofs.lemmas.List.Elements.{All-nil, All-push, All-same}
use Rattle.std.proofs.lemmas.Slice.Eq.{bytes_eq-Decides}
use Rattle.pg_word.specs.declared.shape.Shape.{Shape}
use Rattle.pg_ast.specs.declared.tree.Desc.{Desc}
use Rattle.pg_lang_meaning.specs.States.{shape_of}
use Rattle.pg_cert.specs.declared.cert.Family.{Family}
use Rattle.pg_cert.specs.declared.cert.Family.TheVariants.{Plain, Hybrid}
use Rattle.pg_cert.specs.declared.line.Line.{Line}
use Rattle.pg_cert.specs.declared.line.Line.TheVariants as line
use Rattle.pg_cert.specs.Lines.{line_text, is_line, IsLine}
use Rattle.pg_cert.specs.Reading.{read_parts}
use Rattle.pg_cert.specs.Parsing.{Said, Says, NoToken, NoForm, OtherVersion, is_foreign, before_end, parts_of, is_first, said_of_no_line, said_of_read, said}
use Rattle.pg_cert.specs.Texts.{findings_lines, cert_lines, lines_text}
use Rattle.pg_verify.specs.declared.fault.VerifyFault.{VerifyFault}
use Rattle.pg_verify.specs.declared.fault.VerifyFault.TheVariants as fault
use Rattle.pg_verify.specs.Reader.{Open, Fresh, Between, Refuting, Showing, Spending, Ended, Progress, Reader}
use Rattle.pg_verify.specs.Taking.{is_first_due, after_said, after_line}
use Rattle.pg_verify.specs.Feeding.{most_bytes, begun, fed_byte, fed, or_misplaced, at_end, at_rest, finished, verified}
use Rattle.pg_verify.specs.Verified.{Spells}
use Rattle.pg_verify.proofs.Standing.{IsEndedAt, IsAt, Stands}
use Rattle.pg_verify.proofs.StepLemmas.{same_ok, no_ok, taken}
use Rattle.pg_verify.proofs.FormLemmas.{form_kept}
use Rattle.pg_verify.proofs.CloseLemmas.{length-marks}

-- ---- what bytes say

record IsSpelled (shape : Shape) (bytes : List ℕ) (l : Line) : Type 0 where
  in_range : IsLine shape l
  text : bytes ≡ line_text shape l

no_line_says : {P : Type 0} (bytes : List ℕ) (l : Line) → said_of_no_line bytes ≡ Says l → P
no_line_says {P} bytes l e = by (is_first Plain bytes) (is_first Hybrid bytes) e
  where
    by : (a b : Bool) → (if a then OtherVersion Plain else (if b then OtherVersion Hybrid else NoForm)) ≡ Says l → P
    by true b e = absurd (cc)
    by false true e = absurd (cc)
    by false false e = absurd (cc)

read_is_spelled : (shape : Shape) (bytes : List ℕ) (o : Option Line) (l : Line) → said_of_read shape bytes o ≡ Says l →
    IsSpelled shape bytes l
read_is_spelled shape bytes None l e = no_line_says bytes l e
read_is_spelled shape bytes (Some m) l e = by (is_line shape m && bytes_eq bytes (line_text shape m)) refl e
  where
    by : (b : Bool) → (is_line shape m && bytes_eq bytes (line_text shape m)) ≡ b →
        (if b then Says m else said_of_no_line bytes) ≡ Says l → IsSpelled shape bytes l
    by true eb e =
        let both = and_parts (is_line shape m) (bytes_eq bytes (line_text shape m)) eb in
        let same : m ≡ l = cc in
        subst (λ x. IsSpelled shape bytes x) same
        (record { in_range = both.0; text = (bytes_eq-Decides bytes (line_text shape m)).0 both.1 })
    by false eb e = no_line_says bytes l e

said_is_spelled : (shape : Shape) (bytes : List ℕ) (l : Line) → said shape bytes ≡ Says l → IsSpelled shape bytes l
unfolding said
said_is_spelled shape bytes l e = by (list_any is_foreign (before_end bytes)) e
  where
    by : (b : Bool) → (if b then NoToken else said_of_read shape bytes (read_parts shape.w (parts_of bytes))) ≡ Says l →
        IsSpelled shape bytes l
    by true e = absurd (cc)
    by false e = read_is_spelled shape bytes (read_parts shape.w (parts_of bytes)) l e

-- ---- a line that is taken

record IsLineRead (p q : Progress) (lines : List Line) (bytes : List ℕ) : Type 0 where
  line : Line
  in_range : IsLine (shape_of p.desc) line
  text : bytes ≡ line_text (shape_of p.desc) line
  stands : Stands (record p { lines = suc p.lines }) q (lines ++ line ∷ [])

line_read : (p q : Progress) (lines : List Line) (bytes : List ℕ) →
    IsAt p.desc p.family p.removes p.marks lines p.opened → after_line p bytes ≡ Ok q → IsLineRead p q lines bytes
unfolding after_line after_said
line_read p q lines bytes h e = by (said (shape_of p.desc) bytes) refl e
  where
    other : {P : Type 0} (b : Bool) (f g : VerifyFault) → ◌≡◌ {A = Reader} (if b then Err f else Err g) (Ok q) → P
    other true f g e = no_ok f q e
    other false f g e = no_ok g q e

    by : (s : Said) → said (shape_of p.desc) bytes ≡ s → after_said (record p { lines = suc p.lines }) s ≡ Ok q →
        IsLineRead p q lines bytes
    by (Says l) es e =
        let spelled = said_is_spelled (shape_of p.desc) bytes l es in
        record {
          line = l;
          in_range = spelled.in_range;
          text = spelled.text;
          stands =
              form_kept (record p { lines = suc p.lines }) q lines h l spelled.in_range e;
        }
    by NoToken es e = no_ok _ q e
    by NoForm es e = no_ok _ q e
    by (OtherVersion family) es e = other (is_first_due (record p { lines = suc p.lines }) family) _ _ e

-- ---- bytes

pub lines_text-more : (shape : Shape) (ls : List Line) (l : Line) →
    lines_text shape (ls ++ l ∷ []) ≡ lines_text shape ls ++ line_text shape l
unfolding lines_text
lines_text-more shape [] l = append-nil (line_text shape l)
lines_text-more shape (k ∷ ls) l = ap (λ bs. line_text shape k ++ bs) (lines_text-more shape ls l)
    ∙ sym (append_assoc (line_text shape k) (lines_text shape ls) (line_text shape l))

pub record IsRead (d : Desc) (family : Family) (bytes : List ℕ) (p : Progress) : Type 0 where
  pub lines : List Line
  pub desc : p.desc ≡ d
  pub family_is : p.family ≡ family
  pub fed_is : p.fed ≡ length bytes
  pub within : length bytes ≤ most_bytes
  pub text : bytes ≡ lines_text (shape_of p.desc) lines ++ p.rest
  pub in_range : All (IsLine (shape_of p.desc)) lines
  pub at : IsAt p.desc p.family p.removes p.marks lines p.opened

module _ (d : Desc) (family : Family) where
  pub none_read : IsRead d family [] (begun d family)
  unfolding lines_text
  none_read = record {
    lines = [];
    desc = refl;
    family_is = refl;
    fed_is = refl;
    within = omega arith;
    text = refl;
    in_range = All-nil (IsLine (shape_of d));
    at = (refl, refl);
  }

  -- a line that ends
  ended_read : (p q : Progress) (bytes : List ℕ) (c : ℕ) → p.fed ≢ most_bytes → (h : IsRead d family bytes p) →
      IsLineRead (record p { fed = suc p.fed; rest = [] }) q h.lines (p.rest ++ c ∷ []) →
      IsRead d family (bytes ++ c ∷ []) q
  ended_read p q bytes c room h r =
      let len = length-append bytes (c ∷ []) in
      let k = r.stands.keeps in
      let fed = h.fed_is in
      let most = h.within in
      let text : bytes ++ c ∷ [] ≡ lines_text (shape_of p.desc) (h.lines ++ r.line ∷ []) =
      ap (λ bs. bs ++ c ∷ []) h.text ∙ append_assoc (lines_text (shape_of p.desc) h.lines) p.rest (c ∷ [])
      ∙ ap (λ bs. lines_text (shape_of p.desc) h.lines ++ bs) r.text
      ∙ sym (lines_text-more (shape_of p.desc) h.lines r.line) in
      record {
        lines = h.lines ++ r.line ∷ [];
        desc = k.desc ∙ h.desc;
        family_is = k.family ∙ h.family_is;
        fed_is = k.fed ∙ ap suc h.fed_is ∙ omega arith;
        within = omega (arith, room, fed, most, len);
        text =
            text ∙ ap (λ x. lines_text (shape_of x) (h.lines ++ r.line ∷ [])) (sym k.desc)
            ∙ sym (append-nil (lines_text (shape_of q.desc) (h.lines ++ r.line ∷ [])))
            ∙ ap (λ bs. lines_text (shape_of q.desc) (h.lines ++ r.line ∷ []) ++ bs) (sym k.rest);
        in_range = subst (λ x. All (IsLine (shape_of x)) (h.lines ++ r.line ∷ [])) (sym k.desc)
            (All-push (IsLine (shape_of p.desc)) h.lines r.line h.in_range r.in_range);
        at = r.stands.at;
      }

  -- one byte more
  byte_read : (p q : Progress) (bytes : List ℕ) (c : ℕ) → fed_byte p c ≡ Ok q → IsRead d family bytes p →
      IsRead d family (bytes ++ c ∷ []) q
  unfolding fed_byte
  byte_read p q bytes c e h = by (p.fed == most_bytes) (c == 10) refl e
    where
      longer : p.fed ≢ most_bytes → IsRead d family (bytes ++ c ∷ [])
          (record p { fed = suc p.fed; rest = p.rest ++ c ∷ [] })
      longer room =
          let len = length-append bytes (c ∷ []) in
          let fed = h.fed_is in
          let most = h.within in
          record {
            lines = h.lines;
            desc = h.desc;
            family_is = h.family_is;
            fed_is = omega (arith, len, fed);
            within = omega (arith, room, fed, most, len);
            text = ap (λ bs. bs ++ c ∷ []) h.text ∙ append_assoc (lines_text (shape_of p.desc) h.lines) p.rest (c ∷ []);
            in_range = h.in_range;
            at = h.at;
          }

      by : (full ends : Bool) → (p.fed == most_bytes) ≡ full →
          (if full then Err fault.Long
          else (if ends then after_line (record p { fed = suc p.fed; rest = [] }) (p.rest ++ c ∷ []) else Ok
          (record p { fed = suc p.fed; rest = p.rest ++ c ∷ [] }))) ≡ Ok q → IsRead d family (bytes ++ c ∷ []) q
      by true ends ef e = no_ok _ q e
      by false true ef e = ended_read p q bytes c (eqb-false p.fed most_bytes ef) h
          (line_read (record p { fed = suc p.fed; rest = [] }) q h.lines (p.rest ++ c ∷ []) h.at e)
      by false false ef e = subst (λ x. IsRead d family (bytes ++ c ∷ []) x)
          (same_ok (record p { fed = suc p.fed; rest = p.rest ++ c ∷ [] }) q e) (longer (eqb-false p.fed most_bytes ef))

  pub bytes_read : (cs bytes : List ℕ) (p q : Progress) → fed p cs ≡ Ok q → IsRead d family bytes p →
      IsRead d family (bytes ++ cs) q
  unfolding fed
  bytes_read [] bytes p q e h = subst (λ bs. IsRead d family bs q) (sym (append-nil bytes))
      (subst (λ x. IsRead d family bytes x) (same_ok p q e) h)
  bytes_read (c ∷ cs) bytes p q e h =
      let t = taken (fed_byte p c) (λ (after : Progress). fed after cs) q e in
      subst (λ bs. IsRead d family bs q) (append_assoc bytes (c ∷ []) cs)
      (bytes_read cs (bytes ++ c ∷ []) t.value q t.gives (byte_read p t.value bytes c t.was h))

  -- ---- the end

  record IsDone (q p : Progress) : Type 0 where
    same : q ≡ p
    rest : q.rest ≡ []
    opened : q.opened ≡ Ended

  never : {P : Type 0} (n : ℕ) (r : Reader) (p : Progress) → or_misplaced n r ≡ Ok p → P
  never n (Ok x) p e = no_ok _ p e
  never n (Err f) p e = no_ok f p e

  done : (q p : Progress) → finished q ≡ Ok p → IsDone q p
  unfolding finished
  done q p e = by q.rest refl e
    where
      at_ended : (o : Open) → q.opened ≡ o → q.rest ≡ [] → at_end q o ≡ Ok p → IsDone q p
      at_ended Fresh eo er e = never _ _ p e
      at_ended Between eo er e = never _ _ p e
      at_ended (Refuting header log) eo er e = never _ _ p e
      at_ended (Showing header pair) eo er e = never _ _ p e
      at_ended (Spending header budget count log) eo er e = never _ _ p e
      at_ended Ended eo er e = record { same = same_ok q p e; rest = er; opened = eo }

      by : (rest : List ℕ) → q.rest ≡ rest → at_rest q rest ≡ Ok p → IsDone q p
      by [] er e = at_ended q.opened refl er e
      by (c ∷ cs) er e = never _ _ p e

  ended_spells : (bytes : List ℕ) (q : Progress) (h : IsRead d family bytes q) → q.rest ≡ [] →
      IsEndedAt q.desc q.family q.removes q.marks h.lines → Spells q.desc family bytes q
  unfolding cert_lines
  ended_spells bytes q h rest a =
      let lines : h.lines ≡ line.First a.heading ∷ findings_lines q.desc q.family 0 a.findings ++ line.End ∷ [] =
      a.lines_are ∙ ap (λ ls. ls ++ line.End ∷ []) a.front.lines_are in
      record {
        heading = a.heading;
        cert = record { family = q.family; findings = a.findings };
        of_family = h.family_is;
        within = h.within;
        text = h.text ∙ ap (λ bs. lines_text (shape_of q.desc) h.lines ++ bs) rest
            ∙ append-nil (lines_text (shape_of q.desc) h.lines) ∙ ap (λ ls. lines_text (shape_of q.desc) ls) lines;
        valid = record {
          valid = record {
            family = a.front.family_is;
            whole = sym (length-marks q.desc q.family q.removes q.marks a.before a.heading a.findings a.front)
                ∙ a.whole;
            each = a.front.each;
          };
          in_range = All-same (IsLine (shape_of q.desc))
              (line.First a.heading ∷ findings_lines q.desc q.family 0 a.findings ++ line.End ∷ []) h.lines (sym lines)
              h.in_range;
          listed = a.front.listed;
        };
        marks = a.front.marks_are;
      }

  pub taken_texts_spell : (bytes : List ℕ) (p : Progress) → verified d family bytes ≡ Ok p → Spells d family bytes p
  unfolding verified
  taken_texts_spell bytes p e =
      let t = taken (fed (begun d family) bytes) finished p e in
      let q : Progress = t.value in
      let read : IsRead d family bytes t.value = bytes_read bytes [] (begun d family) t.value t.was none_read in
      let end = done t.value p t.gives in
      let at : IsEndedAt t.value.desc t.value.family t.value.removes t.value.marks read.lines =
      subst (λ o. IsAt t.value.desc t.value.family t.value.removes t.value.marks read.lines o) end.opened read.at in
      subst (λ x. Spells d family bytes x) end.same
      (subst (λ x. Spells x family bytes t.value) read.desc (ended_spells bytes t.value read end.rest at))
