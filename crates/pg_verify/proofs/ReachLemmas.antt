-- Lines in range that are fed: each is taken whole, and what it does is what it says.
use Rattle.std.proofs.Common.{◌≡◌, ◌≢◌, ℕ, suc, ◌+◌, ◌≤◌, Bool, if◌then◌else◌, List, [], ◌∷◌, ◌++◌, length, Result, Ok, Err, All, refl, sym, ap, subst, ◌∙◌, arith, append_assoc, append-nil, length-append}
use Rattle.std.proofs.lemmas.Bool.{ne_eqb}
use Rattle.std.proofs.lemmas.List.{get_or_append_left, get_or-append-add}
use Rattle.std.proofs.lemmas.List.Elements.{All-head, All-tail}
use Rattle.pg_word.specs.Shape.{IsShape}
use Rattle.pg_word.specs.declared.shape.Shape.{Shape}
use Rattle.pg_ast.specs.declared.tree.Desc.{Desc}
use Rattle.pg_lang_meaning.specs.States.{shape_of}
use Rattle.pg_cert.specs.declared.cert.Family.{Family}
use Rattle.pg_cert.specs.declared.line.Line.{Line}
use Rattle.pg_cert.specs.Lines.{line_text, IsLine}
use Rattle.pg_cert.specs.Reading.{but_last}
use Rattle.pg_cert.specs.Parsing.{said}
use Rattle.pg_cert.specs.Texts.{lines_text}
use Rattle.pg_cert.proofs.Said.{said-line, text_ends, ends_once}
use Rattle.pg_verify.specs.declared.fault.VerifyFault.{VerifyFault}
use Rattle.pg_verify.specs.declared.fault.VerifyFault.TheVariants as fault
use Rattle.pg_verify.specs.Reader.{Open, Mark, Progress, Reader}
use Rattle.pg_verify.specs.Taking.{then_take, after_form, after_said, after_line}
use Rattle.pg_verify.specs.Feeding.{most_bytes, taken_byte, fed_byte, fed}

-- ---- bytes

then_ok : {X : Type 0} (r : Result X VerifyFault) → then_take r (λ x. Ok x) ≡ r
then_ok (Ok x) = refl
then_ok (Err f) = refl

pub fed-append : (p : Progress) (a b : List ℕ) → fed p (a ++ b) ≡ then_take (fed p a) (λ q. fed q b)
unfolding fed
fed-append p [] b = refl
fed-append p (c ∷ a) b = by (fed_byte p c) (λ q. fed-append q a b)
  where
    by : (r : Reader) → ((q : Progress) → fed q (a ++ b) ≡ then_take (fed q a) (λ q. fed q b)) →
        then_take r (λ q. fed q (a ++ b)) ≡ then_take (then_take r (λ q. fed q a)) (λ q. fed q b)
    by (Ok q) rest = rest q
    by (Err f) rest = refl

pub plain_byte : (p : Progress) (c : ℕ) → p.fed ≢ most_bytes → c ≢ 10 →
    fed_byte p c ≡ Ok (record p { fed = suc p.fed; rest = p.rest ++ c ∷ [] })
unfolding fed_byte
plain_byte p c room ne =
    ap (λ (b : Bool). if b then Err fault.Long else taken_byte (record p { fed = suc p.fed }) c)
    (ne_eqb p.fed most_bytes room)
    ∙ ap (λ (b : Bool). if b then after_line (record p { fed = suc p.fed; rest = [] }) (p.rest ++ c ∷ []) else Ok
    (record p { fed = suc p.fed; rest = p.rest ++ c ∷ [] })) (ne_eqb c 10 ne)

pub end_byte : (p : Progress) → p.fed ≢ most_bytes →
    fed_byte p 10 ≡ after_line (record p { fed = suc p.fed; rest = [] }) (p.rest ++ 10 ∷ [])
unfolding fed_byte
end_byte p room = ap (λ (b : Bool). if b then Err fault.Long else taken_byte (record p { fed = suc p.fed }) 10)
    (ne_eqb p.fed most_bytes room)

pub fed_body : (p : Progress) (body : List ℕ) → All (λ c. c ≢ 10) body → p.fed + length body ≤ most_bytes →
    fed p body ≡ Ok (record p { fed = p.fed + length body; rest = p.rest ++ body })
unfolding fed
fed_body p [] h room =
    let e : p.fed ≡ p.fed + 0 = omega arith in
    ap (λ j. Ok (record p { fed = j })) e
    ∙ ap (λ bs. Ok (record p { fed = p.fed + 0; rest = bs })) (sym (append-nil p.rest))
fed_body p (c ∷ cs) h room =
    let long : length (c ∷ cs) ≡ suc (length cs) = refl in
    let below : p.fed ≢ most_bytes = omega arith in
    let e : suc p.fed + length cs ≡ p.fed + length (c ∷ cs) = omega arith in
    ap (λ r. then_take r (λ (q : Progress). fed q cs)) (plain_byte p c below (All-head (λ x. x ≢ 10) c cs h))
    ∙ fed_body (record p { fed = suc p.fed; rest = p.rest ++ c ∷ [] }) cs (All-tail (λ x. x ≢ 10) c cs h) (omega arith)
    ∙ ap (λ j. Ok (record p { fed = j; rest = (p.rest ++ c ∷ []) ++ cs })) e
    ∙ ap (λ bs. Ok (record p { fed = p.fed + length (c ∷ cs); rest = bs })) (append_assoc p.rest (c ∷ []) cs)

-- ---- lines

-- a progress between two lines
abbrev pub spot : Desc → Family → Bool → List Mark → Open → ℕ → ℕ → Progress
spot d family removes marks o n k =
    record { desc = d; family = family; removes = removes; marks = marks; opened = o; lines = n; fed = k; rest = [] }

pub line_fed : (d : Desc) (family : Family) (removes : Bool) (marks : List Mark) (o : Open) (n k : ℕ) (l : Line) →
    IsShape (shape_of d) → IsLine (shape_of d) l → k + length (line_text (shape_of d) l) ≤ most_bytes →
    fed (spot d family removes marks o n k) (line_text (shape_of d) l) ≡ after_form
    (spot d family removes marks o (suc n) (k + length (line_text (shape_of d) l))) l
unfolding fed after_line after_said
line_fed d family removes marks o n k l numbers in_range room =
    let shape : Shape = shape_of d in
    let text : List ℕ = line_text shape l in
    let body : List ℕ = but_last text in
    let p : Progress = spot d family removes marks o n k in
    let ends : text ≡ body ++ 10 ∷ [] = text_ends shape l in
    let len : length text ≡ length body + 1 = ap length ends ∙ length-append body (10 ∷ []) in
    let below : k + length body ≢ most_bytes = omega arith in
    let whole : suc (k + length body) ≡ k + length text = omega arith in
    ap (λ bs. fed p bs) ends
    ∙ fed-append p body (10 ∷ [])
    ∙ ap (λ r. then_take r (λ (q : Progress). fed q (10 ∷ [])))
    (fed_body p body (ends_once shape numbers l in_range) (omega arith))
    ∙ ap (λ r. then_take r (λ (q : Progress). Ok q)) (end_byte (record p { fed = k + length body; rest = body }) below)
    ∙ then_ok (after_line (record p { fed = suc (k + length body) }) (body ++ 10 ∷ []))
    ∙ ap (λ bs. after_said (record p { fed = suc (k + length body); lines = suc n }) (said shape bs)) (sym ends)
    ∙ ap (λ s. after_said (record p { fed = suc (k + length body); lines = suc n }) s)
    (said-line shape numbers l in_range)
    ∙ ap (λ j. after_form (record p { fed = j; lines = suc n }) l) whole

pub lines_text-append : (shape : Shape) (a b : List Line) →
    lines_text shape (a ++ b) ≡ lines_text shape a ++ lines_text shape b
unfolding lines_text
lines_text-append shape [] b = refl
lines_text-append shape (l ∷ a) b = ap (λ bs. line_text shape l ++ bs) (lines_text-append shape a b)
    ∙ sym (append_assoc (line_text shape l) (lines_text shape a) (lines_text shape b))

lines_text-cons : (shape : Shape) (l : Line) (ls : List Line) →
    lines_text shape (l ∷ ls) ≡ line_text shape l ++ lines_text shape ls
unfolding lines_text
lines_text-cons shape l ls = refl

lines_text-nil : (shape : Shape) → lines_text shape [] ≡ []
unfolding lines_text
lines_text-nil shape = refl

-- lines in range, with as many bytes as are left
pub record Fits (d : Desc) (k : ℕ) (ls : List Line) : Type 0 where
  pub within : k + length (lines_text (shape_of d) ls) ≤ most_bytes
  pub in_range : All (IsLine (shape_of d)) ls

module _ (d : Desc) (k : ℕ) (a b : List Line) (h : Fits d k (a ++ b)) where
  pub fits_front : Fits d k a
  fits_front = record {
    within = omega (
      arith,
      h.within,
      ap length (lines_text-append (shape_of d) a b),
      length-append
          (lines_text (shape_of d) a) (lines_text (shape_of d) b),
    );
    in_range = λ i x l. subst (λ y. IsLine (shape_of d) y) (get_or_append_left a b x i l)
        (h.in_range i x (omega (arith, l, length-append a b)));
  }

  pub fits_back : Fits d (k + length (lines_text (shape_of d) a)) b
  fits_back = record {
    within = omega (
      arith,
      h.within,
      ap length (lines_text-append (shape_of d) a b),
      length-append
          (lines_text (shape_of d) a) (lines_text (shape_of d) b),
    );
    in_range = λ i x l. subst (λ y. IsLine (shape_of d) y) (get_or-append-add a b i x)
        (h.in_range (length a + i) x (omega (arith, l, length-append a b)));
  }

-- after the text of lines a progress is at marks and at what is open of which this holds
pub record Reaches (d : Desc) (family : Family) (removes : Bool) (p : Progress) (ls : List Line)
    (P : List Mark → Open → Type 0) : Type 0 where
  pub marks : List Mark
  pub opened : Open
  pub lines : ℕ
  pub was : fed p (lines_text (shape_of d) ls) ≡ Ok
      (spot d family removes marks opened lines (p.fed + length (lines_text (shape_of d) ls)))
  pub is : P marks opened

module _ (d : Desc) (numbers : IsShape (shape_of d)) (family : Family) (removes : Bool) where
  pub reaches_none : (marks : List Mark) (o : Open) (n k : ℕ) (P : List Mark → Open → Type 0) → P marks o →
      Reaches d family removes (spot d family removes marks o n k) [] P
  unfolding fed
  reaches_none marks o n k P h =
      let e : k ≡ k + length (lines_text (shape_of d) []) = omega (arith, ap length (lines_text-nil (shape_of d))) in
      record {
        marks = marks;
        opened = o;
        lines = n;
        was = ap (λ bs. fed (spot d family removes marks o n k) bs) (lines_text-nil (shape_of d))
            ∙ ap (λ j. Ok (spot d family removes marks o n j)) e;
        is = h;
      }

  pub reaches_then : (before : Bool) (p : Progress) (a b : List Line) (P Q : List Mark → Open → Type 0) →
      Reaches d family before p a P →
      ((marks : List Mark) (o : Open) (n : ℕ) → P marks o →
      Reaches d family removes (spot d family before marks o n (p.fed + length (lines_text (shape_of d) a))) b Q) →
      Reaches d family removes p (a ++ b) Q
  reaches_then before p a b P Q h go =
      let next = go h.marks h.opened h.lines h.is in
      let shape : Shape = shape_of d in
      let e : p.fed + length (lines_text shape a) + length (lines_text shape b) ≡ p.fed + length
      (lines_text shape (a ++ b)) =
      omega (arith, ap length (lines_text-append shape a b), length-append (lines_text shape a) (lines_text shape b)) in
      record {
        marks = next.marks;
        opened = next.opened;
        lines = next.lines;
        was =
            ap (λ bs. fed p bs) (lines_text-append shape a b)
            ∙ fed-append p (lines_text shape a) (lines_text shape b)
            ∙ ap (λ r. then_take r (λ (q : Progress). fed q (lines_text shape b))) h.was
            ∙ next.was
            ∙ ap (λ j. Ok (spot d family removes next.marks next.opened next.lines j)) e;
        is = next.is;
      }

  -- a line that is taken, and those behind it
  pub reaches_cons : (before between : Bool) (m m' : List Mark) (o o' : Open) (n k : ℕ) (l : Line) (ls : List Line)
      (P : List Mark → Open → Type 0) → Fits d k (l ∷ ls) →
      ((j : ℕ) → after_form (spot d family before m o (suc n) j) l ≡ Ok (spot d family between m' o' (suc n) j)) →
      (Fits d (k + length (line_text (shape_of d) l)) ls →
      Reaches d family removes (spot d family between m' o' (suc n) (k + length (line_text (shape_of d) l))) ls P) →
      Reaches d family removes (spot d family before m o n k) (l ∷ ls) P
  reaches_cons before between m m' o o' n k l ls P fits step go =
      let shape : Shape = shape_of d in
      let text : List ℕ = line_text shape l in
      let split : length (lines_text shape (l ∷ ls)) ≡ length text + length (lines_text shape ls) =
      ap length (lines_text-cons shape l ls) ∙ length-append text (lines_text shape ls) in
      let room : k + length text ≤ most_bytes = omega (arith, fits.within, split) in
      let rest : Fits d (k + length text) ls =
      record { within = omega (arith, fits.within, split); in_range = All-tail (IsLine shape) l ls fits.in_range }
      in
      let next = go rest in
      let p : Progress = spot d family before m o n k in
      let e : k + length text + length (lines_text shape ls) ≡ k + length (lines_text shape (l ∷ ls)) =
      omega (arith, split) in
      record {
        marks = next.marks;
        opened = next.opened;
        lines = next.lines;
        was =
            ap (λ bs. fed p bs) (lines_text-cons shape l ls)
            ∙ fed-append p text (lines_text shape ls)
            ∙ ap (λ r. then_take r (λ (q : Progress). fed q (lines_text shape ls)))
            (line_fed d family before m o n k l numbers (All-head (IsLine shape) l ls fits.in_range) room
            ∙ step (k + length text))
            ∙ next.was
            ∙ ap (λ j. Ok (spot d family removes next.marks next.opened next.lines j)) e;
        is = next.is;
      }
