-- Bytes that are not refused are the text of what they say, which is in range.
use Rattle.std.proofs.Common.{◌≡◌, ℕ, suc, ◌^◌, ◌<◌, ◌≤◌, Bool, true, false, if◌then◌else◌, List, [], ◌∷◌, ◌++◌, length, Option, None, Some, Result, Ok, Err, All, refl, sym, ap, subst, ◌∙◌, arith, append-nil, append_assoc}
use Rattle.std.specs.Prelude.{bytes_eq, nat_lt, nat_le, ◌&&◌}
use Rattle.std.proofs.lemmas.Bool.{and_parts, leb-true, ltb-true}
use Rattle.std.proofs.lemmas.List.Elements.{All-nil, All-append}
use Rattle.std.proofs.lemmas.Option.{same_Some}
use Rattle.std.proofs.lemmas.Slice.Eq.{bytes_eq-Decides}
use Rattle.std.proofs.lemmas.Nat.{pow_pos}
use Rattle.pg_word.specs.declared.shape.Shape.{Shape}
use Rattle.pg_word.specs.declared.psw.Psw.{Psw as Psws}
use Rattle.pg_word.specs.Psw.{IsPsw}
use Rattle.pg_word.specs.Sparse.{storage_of}
use Rattle.pg_word.proofs.SparseLemmas.{length-storage_of}
use Rattle.pg_image.specs.Lines.{state_text}
use Rattle.pg_cert.specs.declared.line.Line.{Line}
use Rattle.pg_cert.specs.declared.line.Line.TheVariants as line
use Rattle.pg_cert.specs.Lines.{line_parts, line_text, is_line, IsLine}
use Rattle.pg_cert.specs.Reading.{read_number}
use Rattle.pg_cert.specs.Parsing.{Said, Says, NoToken, NoForm, OtherVersion, said}
use Rattle.pg_cert.specs.Texts.{lines_text}
use Rattle.pg_cert.proofs.Said.{said_spelled}
use Rattle.pg_cert.proofs.LineLemmas.{words_fit}
use Rattle.pg_cert.proofs.TextLemmas.{lines_text-append}
use Rattle.pg_cert.proofs.StateText.{lines_of_state}
use Rattle.pg_cert_drawn.specs.Drawn.{Drawn, drawn, listed, row_fits, with_row, state_of}
use Rattle.pg_cert_drawn.proofs.DrawnLines.{sparse_of, drawn_lines, IsDrawn, drawn_new, drawn_new-lines, row_is, row_on}
use Rattle.pg_move.specs.declared.fault.SavedFault.{SavedFault}
use Rattle.pg_move.specs.declared.fault.SavedFault.TheVariants as fault
use Rattle.pg_move.specs.Texts.{SavedGuest, IsSaved, most_steps, most_bytes, first_text, steps_text, end_text, saved_text}
use Rattle.pg_move.specs.Reading.{SavedReader, Fresh, Begun, Counted, Sized, Drawing, Over, cut_lines, is_version, steps_counted, number_of_steps, after_own, drawn_on, after_form, after_said, after_saved_line, then_read, finished, read_lines, saved_due}
use Rattle.pg_move.proofs.CutLemmas.{joined, cut_joined}
use Rattle.pg_move.proofs.StorageLemmas.{storage_fits, listed_fit}

-- ---- answers

no_ok : {P X : Type 0} (f : SavedFault) (x : X) → ◌≡◌ {A = Result X SavedFault} (Err f) (Ok x) → P
no_ok f x e = absurd (cc)

same_ok : {X : Type 0} (x y : X) → ◌≡◌ {A = Result X SavedFault} (Ok x) (Ok y) → x ≡ y
same_ok x y e = cc

record IsThen {X Y : Type 0} (r : Result X SavedFault) (go : X → Result Y SavedFault) (y : Y) : Type 0 where
  value : X
  was : r ≡ Ok value
  gives : go value ≡ Ok y

then_was : {X Y : Type 0} (r : Result X SavedFault) (go : X → Result Y SavedFault) (y : Y) → then_read r go ≡ Ok y → IsThen r go y
then_was (Ok x) go y e = record { value = x; was = refl; gives = e }
then_was (Err f) go y e = no_ok f y e

-- ---- where a reader stands

abbrev head_text : ℕ → List ℕ
head_text steps = first_text ++ steps_text steps

-- a state whose numbers and words are in range
record IsFit (shape : Shape) (s : Drawn) : Type 0 where
  drawn : IsDrawn s
  least : 2 ≤ s.size
  most : s.size ≤ shape.q
  fields : IsPsw shape.a s.psw
  words : All (λ cell. cell.1 < 2 ^ shape.w) s.cells

-- behind the first two lines, and lines of the state
abbrev IsHead : Shape → ℕ → List Line → List ℕ → Type 0
IsHead shape steps ls done = (steps ≤ most_steps) × (done ≡ head_text steps ++ lines_text shape ls)

-- what stands before, where a reader stands
abbrev IsAt : Shape → SavedReader → List ℕ → Type 0
IsAt shape Fresh done = done ≡ []
IsAt shape Begun done = done ≡ first_text
IsAt shape (Counted steps) done = IsHead shape steps [] done
IsAt shape (Sized steps size) done = (2 ≤ size) × (size ≤ shape.q) × IsHead shape steps (line.Size size ∷ []) done
IsAt shape (Drawing steps s) done = IsFit shape s × IsHead shape steps (drawn_lines s) done
IsAt shape (Over steps s) done = IsFit shape s × IsHead shape steps (drawn_lines s ++ line.End ∷ []) done

lines_more : (shape : Shape) (ls : List Line) (l : Line) → lines_text shape (ls ++ l ∷ []) ≡ lines_text shape ls ++ line_text shape l
unfolding lines_text
lines_more shape ls l = lines_text-append shape ls (l ∷ []) ∙ ap (λ bs. lines_text shape ls ++ bs) (append-nil (line_text shape l))

head_more : (shape : Shape) (steps : ℕ) (ls : List Line) (l : Line) (done bytes : List ℕ) → IsHead shape steps ls done →
    bytes ≡ line_text shape l → IsHead shape steps (ls ++ l ∷ []) (done ++ bytes)
head_more shape steps ls l done bytes h e = (
  h.0,
  ap (λ bs. bs ++ bytes) h.1 ∙ append_assoc (head_text steps) (lines_text shape ls) bytes
      ∙ ap (λ bs. head_text steps ++ (lines_text shape ls ++ bs)) e
      ∙ ap (λ bs. head_text steps ++ bs) (sym (lines_more shape ls l)),
)

-- ---- the first line and the steps

number_most : (part : List ℕ) (n : ℕ) → read_number most_steps part ≡ Some n → n ≤ most_steps
unfolding read_number
number_most part n e = grind (arith, e)

module _ (shape : Shape) (n : ℕ) (done bytes : List ℕ) where
  first_spelled : (q : SavedReader) → after_own n Fresh bytes ≡ Ok q → done ≡ [] → IsAt shape q (done ++ bytes)
  unfolding after_own
  first_spelled q e h = by (bytes_eq bytes first_text) (is_version bytes) refl e
    where
      by : (b v : Bool) → bytes_eq bytes first_text ≡ b →
          ◌≡◌ {A = Result SavedReader SavedFault} (if b then Ok Begun else (if v then Err (fault.Version n) else Err (fault.Grammar n))) (Ok q) →
          IsAt shape q (done ++ bytes)
      by true v t e = subst (λ r. IsAt shape r (done ++ bytes)) (same_ok Begun q e)
          (ap (λ bs. bs ++ bytes) h ∙ (bytes_eq-Decides bytes first_text).0 t)
      by false true t e = no_ok (fault.Version n) q e
      by false false t e = no_ok (fault.Grammar n) q e

  steps_spelled : (q : SavedReader) → after_own n Begun bytes ≡ Ok q → done ≡ first_text → IsAt shape q (done ++ bytes)
  unfolding after_own lines_text
  steps_spelled q e h = by (number_of_steps bytes) refl e
    where
      counted : (k : ℕ) (b : Bool) → k ≤ most_steps → bytes_eq bytes (steps_text k) ≡ b →
          ◌≡◌ {A = Result SavedReader SavedFault} (if b then Ok (Counted k) else Err (fault.Grammar n)) (Ok q) → IsAt shape q (done ++ bytes)
      counted k true most t e = subst (λ r. IsAt shape r (done ++ bytes)) (same_ok (Counted k) q e) (
        most,
        ap (λ bs. bs ++ bytes) h ∙ ap (λ bs. first_text ++ bs) ((bytes_eq-Decides bytes (steps_text k)).0 t)
            ∙ sym (append-nil (head_text k)),
      )
      counted k false most t e = no_ok (fault.Grammar n) q e

      by : (o : Option ℕ) → number_of_steps bytes ≡ o → steps_counted n bytes o ≡ Ok q → IsAt shape q (done ++ bytes)
      by None t e = no_ok (fault.Grammar n) q e
      by (Some k) t e = counted k (bytes_eq bytes (steps_text k)) (number_most _ k t) refl e

  own_spelled : (r q : SavedReader) → after_own n r bytes ≡ Ok q → IsAt shape r done → IsAt shape q (done ++ bytes)
  unfolding after_own
  own_spelled Fresh q e h = first_spelled q e h
  own_spelled Begun q e h = steps_spelled q e h
  own_spelled (Counted steps) q e h = no_ok (fault.Grammar n) q e
  own_spelled (Sized steps size) q e h = no_ok (fault.Grammar n) q e
  own_spelled (Drawing steps s) q e h = no_ok (fault.Grammar n) q e
  own_spelled (Over steps s) q e h = no_ok (fault.Grammar n) q e

-- ---- the state

size_fits : (shape : Shape) (size : ℕ) → IsLine shape (line.Size size) → (2 ≤ size) × (size ≤ shape.q)
unfolding is_line
size_fits shape size h =
    let both = and_parts (nat_le 2 size) (nat_le size shape.q) h in
    (leb-true 2 size both.0, leb-true size shape.q both.1)

psw_fits : (shape : Shape) (psw : Psws) → IsLine shape (line.Psw psw) → IsPsw shape.a psw
unfolding is_line
psw_fits shape psw h =
    let first = and_parts (nat_lt psw.p (2 ^ shape.a)) (nat_lt psw.l (2 ^ shape.a) && nat_lt psw.b (2 ^ shape.a)) h in
    let second = and_parts (nat_lt psw.l (2 ^ shape.a)) (nat_lt psw.b (2 ^ shape.a)) first.1 in
    record {
      p = ltb-true psw.p (2 ^ shape.a) first.0;
      l = ltb-true psw.l (2 ^ shape.a) second.0;
      b = ltb-true psw.b (2 ^ shape.a) second.1;
    }

row_kept : (first : ℕ) (words : List ℕ) (s t : Drawn) → with_row first words s ≡ Some t →
    t ≡ record s { cells = s.cells ++ listed first words }
row_kept first words s t e = by (row_fits s first words) e
  where
    by : (b : Bool) → (if b then Some (record s { cells = s.cells ++ listed first words }) else None) ≡ Some t →
        t ≡ record s { cells = s.cells ++ listed first words }
    by true e = sym (same_Some (record s { cells = s.cells ++ listed first words }) t e)
    by false e = absurd (cc)

row_fit : (shape : Shape) (first : ℕ) (words : List ℕ) (s t : Drawn) → IsLine shape (line.Cells first words) →
    with_row first words s ≡ Some t → IsFit shape s → IsFit shape t
row_fit shape first words s t l e h =
    let kept = row_kept first words s t e in
    let more : All (λ cell. cell.1 < 2 ^ shape.w) (s.cells ++ listed first words) =
    All-append (λ (c : ℕ × ℕ). c.1 < 2 ^ shape.w) s.cells (listed first words) h.words
    (listed_fit shape.w first words (words_fit shape (line.Cells first words) l)) in
    record {
      drawn = (row_on s first words t (row_is shape first words l) e h.drawn).drawn;
      least = subst (λ x. 2 ≤ x.size) (sym kept) h.least;
      most = subst (λ x. x.size ≤ shape.q) (sym kept) h.most;
      fields = subst (λ x. IsPsw shape.a x.psw) (sym kept) h.fields;
      words = subst (λ x. All (λ cell. cell.1 < 2 ^ shape.w) x.cells) (sym kept) more;
    }

module _ (shape : Shape) (n : ℕ) (done bytes : List ℕ) where
  size_spelled : (steps size : ℕ) → IsLine shape (line.Size size) → bytes ≡ line_text shape (line.Size size) →
      IsHead shape steps [] done → IsAt shape (Sized steps size) (done ++ bytes)
  size_spelled steps size l t h =
      let fits = size_fits shape size l in
      (fits.0, fits.1, head_more shape steps [] (line.Size size) done bytes h t)

  psw_spelled : (steps size : ℕ) (psw : Psws) → IsLine shape (line.Psw psw) → bytes ≡ line_text shape (line.Psw psw) →
      IsAt shape (Sized steps size) done → IsAt shape (Drawing steps (drawn size psw)) (done ++ bytes)
  psw_spelled steps size psw l t h =
      let more = head_more shape steps (line.Size size ∷ []) (line.Psw psw) done bytes h.2 t in (
        record {
          drawn = drawn_new size psw;
          least = h.0;
          most = h.1;
          fields = psw_fits shape psw l;
          words = All-nil (λ (c : ℕ × ℕ). c.1 < 2 ^ shape.w);
        },
        subst (λ ls. IsHead shape steps ls (done ++ bytes)) (drawn_new-lines size psw) more,
      )

  cells_spelled : (steps first : ℕ) (words : List ℕ) (s : Drawn) (q : SavedReader) → IsLine shape (line.Cells first words) →
      bytes ≡ line_text shape (line.Cells first words) → drawn_on n steps (with_row first words s) ≡ Ok q →
      IsAt shape (Drawing steps s) done → IsAt shape q (done ++ bytes)
  cells_spelled steps first words s q l t e h = by (with_row first words s) refl e
    where
      by : (o : Option Drawn) → with_row first words s ≡ o → drawn_on n steps o ≡ Ok q → IsAt shape q (done ++ bytes)
      by None eo e = no_ok (fault.Grammar n) q e
      by (Some u) eo e =
          let on = row_on s first words u (row_is shape first words l) eo h.0.drawn in
          let more = head_more shape steps (drawn_lines s) (line.Cells first words) done bytes h.1 t in
          subst (λ r. IsAt shape r (done ++ bytes)) (same_ok (Drawing steps u) q e)
          (row_fit shape first words s u l eo h.0, subst (λ ls. IsHead shape steps ls (done ++ bytes)) (sym on.lines_are) more)

  end_spelled : (steps : ℕ) (s : Drawn) → bytes ≡ line_text shape line.End → IsAt shape (Drawing steps s) done →
      IsAt shape (Over steps s) (done ++ bytes)
  end_spelled steps s t h = (h.0, head_more shape steps (drawn_lines s) line.End done bytes h.1 t)

  form_spelled : (l : Line) (r q : SavedReader) → IsLine shape l → bytes ≡ line_text shape l → after_form n r l ≡ Ok q →
      IsAt shape r done → IsAt shape q (done ++ bytes)
  unfolding after_form
  form_spelled (line.First heading) r q i t e h = no_ok (fault.Grammar n) q e
  form_spelled (line.Header name kind found) r q i t e h = no_ok (fault.Grammar n) q e
  form_spelled (line.Step step) r q i t e h = no_ok (fault.Grammar n) q e
  form_spelled (line.Remove numbers) r q i t e h = no_ok (fault.Grammar n) q e
  form_spelled (line.Size size) Fresh q i t e h = no_ok (fault.Grammar n) q e
  form_spelled (line.Size size) Begun q i t e h = no_ok (fault.Grammar n) q e
  form_spelled (line.Size size) (Counted steps) q i t e h =
      subst (λ r. IsAt shape r (done ++ bytes)) (same_ok (Sized steps size) q e) (size_spelled steps size i t h)
  form_spelled (line.Size size) (Sized steps other) q i t e h = no_ok (fault.Grammar n) q e
  form_spelled (line.Size size) (Drawing steps s) q i t e h = no_ok (fault.Grammar n) q e
  form_spelled (line.Size size) (Over steps s) q i t e h = no_ok (fault.Grammar n) q e
  form_spelled (line.Psw psw) Fresh q i t e h = no_ok (fault.Grammar n) q e
  form_spelled (line.Psw psw) Begun q i t e h = no_ok (fault.Grammar n) q e
  form_spelled (line.Psw psw) (Counted steps) q i t e h = no_ok (fault.Grammar n) q e
  form_spelled (line.Psw psw) (Sized steps size) q i t e h =
      subst (λ r. IsAt shape r (done ++ bytes)) (same_ok (Drawing steps (drawn size psw)) q e) (psw_spelled steps size psw i t h)
  form_spelled (line.Psw psw) (Drawing steps s) q i t e h = no_ok (fault.Grammar n) q e
  form_spelled (line.Psw psw) (Over steps s) q i t e h = no_ok (fault.Grammar n) q e
  form_spelled (line.Cells first words) Fresh q i t e h = no_ok (fault.Grammar n) q e
  form_spelled (line.Cells first words) Begun q i t e h = no_ok (fault.Grammar n) q e
  form_spelled (line.Cells first words) (Counted steps) q i t e h = no_ok (fault.Grammar n) q e
  form_spelled (line.Cells first words) (Sized steps size) q i t e h = no_ok (fault.Grammar n) q e
  form_spelled (line.Cells first words) (Drawing steps s) q i t e h = cells_spelled steps first words s q i t e h
  form_spelled (line.Cells first words) (Over steps s) q i t e h = no_ok (fault.Grammar n) q e
  form_spelled line.End Fresh q i t e h = no_ok (fault.Grammar n) q e
  form_spelled line.End Begun q i t e h = no_ok (fault.Grammar n) q e
  form_spelled line.End (Counted steps) q i t e h = no_ok (fault.Grammar n) q e
  form_spelled line.End (Sized steps size) q i t e h = no_ok (fault.Grammar n) q e
  form_spelled line.End (Drawing steps s) q i t e h =
      subst (λ r. IsAt shape r (done ++ bytes)) (same_ok (Over steps s) q e) (end_spelled steps s t h)
  form_spelled line.End (Over steps s) q i t e h = no_ok (fault.Grammar n) q e

  line_spelled : (r q : SavedReader) → after_saved_line shape n r bytes ≡ Ok q → IsAt shape r done → IsAt shape q (done ++ bytes)
  unfolding after_saved_line after_said
  line_spelled r q e h = by (said shape bytes) refl e
    where
      by : (x : Said) → said shape bytes ≡ x → after_said n r bytes x ≡ Ok q → IsAt shape q (done ++ bytes)
      by (Says l) ex e = let s = said_spelled shape bytes l ex in form_spelled l r q s.0 s.1 e h
      by NoToken ex e = no_ok (fault.Token n) q e
      by NoForm ex e = own_spelled shape n done bytes r q e h
      by (OtherVersion family) ex e = own_spelled shape n done bytes r q e h

-- ---- whole texts

abbrev IsSpelled : Shape → SavedGuest → List ℕ → Type 0
IsSpelled shape g bytes = IsSaved shape g × (bytes ≡ saved_text shape g.steps g.state)

pub end_line : (shape : Shape) → line_text shape line.End ≡ end_text
unfolding line_text line_parts
end_line shape = refl

over_spelled : (shape : Shape) (steps : ℕ) (s : Drawn) (done : List ℕ) → IsAt shape (Over steps s) done →
    IsSpelled shape (record { steps = steps; state = state_of s }) done
unfolding saved_text
over_spelled shape steps s done h =
    let fit = h.0 in
    let n = length-storage_of s.size s.cells in
    let text : lines_text shape (drawn_lines s ++ line.End ∷ []) ≡ lines_text shape (drawn_lines s) ++ line_text shape line.End =
    lines_more shape (drawn_lines s) line.End in (
      record {
        steps = h.1.0;
        least = subst (λ k. 2 ≤ k) (sym n) fit.least;
        most = subst (λ k. k ≤ shape.q) (sym n) fit.most;
        words = storage_fits shape.w s.size s.cells fit.words (pow_pos shape.w);
        fields = fit.fields;
      },
      h.1.1 ∙ ap (λ bs. head_text steps ++ bs) (text
          ∙ ap (λ bs. bs ++ line_text shape line.End) (lines_of_state shape (sparse_of s fit.drawn.within))
          ∙ ap (λ bs. state_text shape.w (storage_of s.size s.cells) s.psw ++ bs) (end_line shape))
          ∙ sym (append_assoc (head_text steps) (state_text shape.w (storage_of s.size s.cells) s.psw) end_text),
    )

finished_spelled : (shape : Shape) (n : ℕ) (r : SavedReader) (g : SavedGuest) (done : List ℕ) → finished n r ≡ Ok g →
    IsAt shape r done → IsSpelled shape g done
finished_spelled shape n Fresh g done e h = no_ok (fault.Grammar n) g e
finished_spelled shape n Begun g done e h = no_ok (fault.Grammar n) g e
finished_spelled shape n (Counted steps) g done e h = no_ok (fault.Grammar n) g e
finished_spelled shape n (Sized steps size) g done e h = no_ok (fault.Grammar n) g e
finished_spelled shape n (Drawing steps s) g done e h = no_ok (fault.Grammar n) g e
finished_spelled shape n (Over steps s) g done e h =
    subst (λ x. IsSpelled shape x done) (same_ok (record { steps = steps; state = state_of s }) g e) (over_spelled shape steps s done h)

lines_spelled : (shape : Shape) (ls : List (List ℕ)) (n : ℕ) (r : SavedReader) (g : SavedGuest) (done : List ℕ) →
    read_lines shape n r ls ≡ Ok g → IsAt shape r done → IsSpelled shape g (done ++ joined ls)
unfolding read_lines
lines_spelled shape [] n r g done e h =
    subst (λ bs. IsSpelled shape g bs) (sym (append-nil done)) (finished_spelled shape n r g done e h)
lines_spelled shape (l ∷ ls) n r g done e h =
    let t = then_was (after_saved_line shape n r l) (λ next. read_lines shape (suc n) next ls) g e in
    subst (λ bs. IsSpelled shape g bs) (append_assoc done l (joined ls))
    (lines_spelled shape ls (suc n) t.value g (done ++ l) t.gives (line_spelled shape n done l r t.value t.was h))

pub texts_spelled : (shape : Shape) (bytes : List ℕ) (g : SavedGuest) → saved_due shape bytes ≡ Ok g →
    IsSaved shape g × (bytes ≡ saved_text shape g.steps g.state)
unfolding saved_due
texts_spelled shape bytes g e = by (nat_lt most_bytes (length bytes)) e
  where
    by : (b : Bool) → (if b then Err fault.Long else read_lines shape 1 Fresh (cut_lines bytes)) ≡ Ok g →
        IsSpelled shape g bytes
    by true e = no_ok fault.Long g e
    by false e = subst (λ bs. IsSpelled shape g bs) (cut_joined bytes) (lines_spelled shape (cut_lines bytes) 1 Fresh g [] e refl)
