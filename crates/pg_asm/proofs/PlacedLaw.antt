-- What a source is assembled to, and why it is refused, by the places of its lines.
use Rattle.std.proofs.Common.{◌≡◌, ◌⊎◌, inl, inr, ◌↔◌, ℕ, zero, suc, ◌+◌, ◌<◌, ◌≤◌, Bool, true, false, not, cond, if◌then◌else◌, List, [], ◌∷◌, length, map, slice_get, get_or, Option, None, Some, Result, Ok, Err, refl, ap, sym, subst, ◌∙◌, arith}
use Rattle.std.specs.Prelude.{◌==◌, nat_lt, position}
use Rattle.std.specs.List.{prefix_len}
use Rattle.std.specs.Option.{option_map}
use Rattle.std.proofs.lemmas.Bool.{ltb-true, ltb-false}
use Rattle.std.proofs.lemmas.Option.{slice_get-map, slice_get_within, slice_get-get_or, get_or_from_slice_get}
use Rattle.std.proofs.lemmas.List.{length-take, same_lists}
use Rattle.pg_ast.specs.declared.tree.Desc.{Desc}
use Rattle.pg_image.specs.Images.{lines_of, content, parts_of}
use Rattle.pg_lang_valid.specs.Valid.{IsValid}
use Rattle.pg_asm.specs.declared.fault.AsmFault.{AsmFault}
use Rattle.pg_asm.specs.declared.fault.AsmFault.TheVariants.{Long, Token, Grammar, Name, Field, Label as LabelFault, Range, Place, Overlap, Memory}
use Rattle.pg_asm.specs.Said.{Said, At, said_of}
use Rattle.pg_asm.specs.Sources.{most_source_bytes, may_stand, foreign_place, with_line, said_from, first_place, labels_of, none_given, cells_from, filled, then_due, lines_due, cells_due, source_due}
use Rattle.pg_asm.specs.Placed.{AreLines, IsImageOf, begin_of, IsForeign, HasNoForm, IsFault, stage_of, spot_of, turn_of, ComesBefore, IsAssembled, IsRefused}
use Rattle.pg_asm.proofs.LinePlaces.{below-or}
use Rattle.pg_asm.proofs.LabelPlaces.{position-cons}
use Rattle.pg_asm.proofs.CellPlaces.{IsLineFault, Ends, ended}

-- ---- faults of a text, and of its lines

-- what is wrong with the text
abbrev IsTextFault : ℕ → List ℕ → AsmFault → Type 0
IsTextFault w text Long = most_source_bytes < length text
IsTextFault w text (Token place) = IsForeign text place
IsTextFault w text (Grammar n) = HasNoForm w text n
IsTextFault w text (Name n) = ⊥
IsTextFault w text (Field n) = ⊥
IsTextFault w text (LabelFault n) = ⊥
IsTextFault w text (Range n) = ⊥
IsTextFault w text (Place n) = ⊥
IsTextFault w text (Overlap n) = ⊥
IsTextFault w text Memory = ⊥

abbrev IsEither : Desc → ℕ → List ℕ → AsmFault → Type 0
IsEither d size text fault = IsTextFault d.word text fault ⊎ ((lines : List Said) × AreLines d.word text lines × IsLineFault d size lines fault)

either : (d : Desc) (size : ℕ) (text : List ℕ) (f : AsmFault) → IsFault d size text f → IsEither d size text f
either d size text Long h = inl h
either d size text (Token place) h = inl h
either d size text (Grammar n) h = inl h
either d size text (Name n) h = inr h
either d size text (Field n) h = inr h
either d size text (LabelFault n) h = inr h
either d size text (Range n) h = inr h
either d size text (Place n) h = inr h
either d size text (Overlap n) h = inr h
either d size text Memory h = absurd h

of-lines : (d : Desc) (size : ℕ) (text : List ℕ) (lines : List Said) (f : AsmFault) → AreLines d.word text lines → IsLineFault d size lines f → IsFault d size text f
of-lines d size text lines Long are h = absurd h
of-lines d size text lines (Token place) are h = absurd h
of-lines d size text lines (Grammar n) are h = absurd h
of-lines d size text lines (Name n) are h = (lines, are, h)
of-lines d size text lines (Field n) are h = (lines, are, h)
of-lines d size text lines (LabelFault n) are h = (lines, are, h)
of-lines d size text lines (Range n) are h = (lines, are, h)
of-lines d size text lines (Place n) are h = (lines, are, h)
of-lines d size text lines (Overlap n) are h = (lines, are, h)
of-lines d size text lines Memory are h = absurd h

-- ---- the first place at which a test passes

record IsAtFirst {X : Type 0} (p : X → Bool) (xs : List X) (k : ℕ) : Type 0 where
  here : X
  there : slice_get xs k ≡ Some here
  passes : p here ≡ true
  first : (j : ℕ) (x : X) → j < k → slice_get xs j ≡ Some x → p x ≡ true → ⊥

at-first : {X : Type 0} (p : X → Bool) (xs : List X) (k : ℕ) → position p xs ≡ Some k → IsAtFirst p xs k
at-first p [] k h = absurd (cc h)
at-first {X} p (x ∷ xs) k h = by (p x) (position p xs) refl (at-first p xs) (sym (position-cons p x xs) ∙ h)
  where
    by : (b : Bool) (o : Option ℕ) → p x ≡ b → ((j : ℕ) → o ≡ Some j → IsAtFirst p xs j) → cond b (Some 0) (option_map (λ j. suc j) o) ≡ Some k → IsAtFirst p (x ∷ xs) k
    by true o e later h =
        let at : 0 ≡ k = cc h in
        record { here = x; there = ap (slice_get (x ∷ xs)) (sym at); passes = e; first = λ j y less there passes. omega (arith, at, less) }
    by false None e later h = absurd (cc h)
    by false (Some j) e later h =
        let at : suc j ≡ k = cc h in
        let l = later j refl in
        record { here = l.here; there = ap (slice_get (x ∷ xs)) (sym at) ∙ l.there; passes = l.passes; first = λ i y less there passes. by_first l i y (omega (arith, at, less)) there passes }
      where
        by_first : IsAtFirst p xs j → (i : ℕ) (y : X) → i < suc j → slice_get (x ∷ xs) i ≡ Some y → p y ≡ true → ⊥
        by_first l zero y less there passes =
            let same : x ≡ y = cc there in
            let t : false ≡ true = sym e ∙ ap p same ∙ passes in
            cc t
        by_first l (suc i) y less there passes = l.first i y (omega (arith, less)) there passes

at-none : {X : Type 0} (p : X → Bool) (xs : List X) → position p xs ≡ None → (j : ℕ) (y : X) → slice_get xs j ≡ Some y → p y ≡ true → ⊥
at-none p [] h j y there passes = cc there
at-none {X} p (x ∷ xs) h j y there passes = by (p x) (position p xs) refl (at-none p xs) (sym (position-cons p x xs) ∙ h) j there
  where
    by : (b : Bool) (o : Option ℕ) → p x ≡ b → (o ≡ None → (j : ℕ) (y : X) → slice_get xs j ≡ Some y → p y ≡ true → ⊥) → cond b (Some 0) (option_map (λ j. suc j) o) ≡ None →
        (j : ℕ) → slice_get (x ∷ xs) j ≡ Some y → ⊥
    by true o e later h j there = cc h
    by false (Some k) e later h j there = cc h
    by false None e later h zero there =
        let same : x ≡ y = cc there in
        let t : false ≡ true = sym e ∙ ap p same ∙ passes in
        cc t
    by false None e later h (suc j) there = later refl j y there passes

-- ---- foreign bytes

record IsForeignIn (p : ℕ) (lines : List (List ℕ)) (place : ℕ) : Type 0 where
  i : ℕ
  line : List ℕ
  there : slice_get lines i ≡ Some line
  k : ℕ
  byte : ℕ
  stands : slice_get (content line) k ≡ Some byte
  foreign : may_stand byte ≡ false
  counted : p + (begin_of lines i + k) ≡ place

record IsFirstForeign (p : ℕ) (lines : List (List ℕ)) (place : ℕ) : Type 0 where
  is : IsForeignIn p lines place
  first : (q : ℕ) → IsForeignIn p lines q → q < place → ⊥

content-short : (line : List ℕ) → length (content line) ≤ length line
content-short line = omega (arith, length-take (prefix_len (λ c. not (c == 35)) line) line)

-- one in the lines behind the first
foreign-behind : (p : ℕ) (line : List ℕ) (lines : List (List ℕ)) (q i k byte : ℕ) (l : List ℕ) → slice_get lines i ≡ Some l → slice_get (content l) k ≡ Some byte → may_stand byte ≡ false →
    p + (length line + 1 + begin_of lines i + k) ≡ q → IsForeignIn (p + length line + 1) lines q
foreign-behind p line lines q i k byte l there stands foreign counted =
    record { i = i; line = l; there = there; k = k; byte = byte; stands = stands; foreign = foreign; counted = omega (arith, counted) }

abbrev foreign_by : ℕ → List ℕ → List (List ℕ) → Option ℕ → Option ℕ
foreign_by p line lines o = elim o [ Some k ↦ Some (p + k) | None ↦ foreign_place (p + length line + 1) lines ]

no-foreign : (p : ℕ) (lines : List (List ℕ)) → foreign_place p lines ≡ None → (q : ℕ) → IsForeignIn p lines q → ⊥
unfolding foreign_place
no-foreign p [] h q f = let t = f.there in cc t
no-foreign p (line ∷ lines) h q f = by (position (λ c. not (may_stand c)) (content line)) refl h (λ e g. no-foreign (p + length line + 1) lines e q g) f.i f.there f.counted
  where
    by : (o : Option ℕ) → position (λ c. not (may_stand c)) (content line) ≡ o → foreign_by p line lines o ≡ None →
        (foreign_place (p + length line + 1) lines ≡ None → IsForeignIn (p + length line + 1) lines q → ⊥) →
        (i : ℕ) → slice_get (line ∷ lines) i ≡ Some f.line → p + (begin_of (line ∷ lines) i + f.k) ≡ q → ⊥
    by (Some k) e h behind i there counted = cc h
    by None e h behind zero there counted =
        let same : line ≡ f.line = cc there in
        at-none (λ c. not (may_stand c)) (content line) e f.k f.byte (ap (λ l. slice_get (content l) f.k) same ∙ f.stands) (ap not f.foreign)
    by None e h behind (suc i) there counted = behind h (foreign-behind p line lines q i f.k f.byte f.line there f.stands f.foreign counted)

foreign-first : (p : ℕ) (lines : List (List ℕ)) (place : ℕ) → foreign_place p lines ≡ Some place → IsFirstForeign p lines place
unfolding foreign_place
foreign-first p [] place h = absurd (cc h)
foreign-first p (line ∷ lines) place h = by (position (λ c. not (may_stand c)) (content line)) refl h (foreign-first (p + length line + 1) lines place)
  where
    not-true : (b : Bool) → not b ≡ true → b ≡ false
    not-true true h = absurd (cc h)
    not-true false h = refl

    by : (o : Option ℕ) → position (λ c. not (may_stand c)) (content line) ≡ o → foreign_by p line lines o ≡ Some place →
        (foreign_place (p + length line + 1) lines ≡ Some place → IsFirstForeign (p + length line + 1) lines place) →
        IsFirstForeign p (line ∷ lines) place
    by (Some k) e h behind =
        let at : p + k ≡ place = cc h in
        let a = at-first (λ c. not (may_stand c)) (content line) k e in
        record {
          is = record { i = 0; line = line; there = refl; k = k; byte = a.here; stands = a.there; foreign = not-true (may_stand a.here) a.passes; counted = omega (arith, at) };
          first = λ q f less. earlier a q f less at f.i f.there f.counted;
        }
      where
        earlier : IsAtFirst (λ c. not (may_stand c)) (content line) k → (q : ℕ) (f : IsForeignIn p (line ∷ lines) q) → q < place → p + k ≡ place →
            (i : ℕ) → slice_get (line ∷ lines) i ≡ Some f.line → p + (begin_of (line ∷ lines) i + f.k) ≡ q → ⊥
        earlier a q f less at zero there counted =
            let same : line ≡ f.line = cc there in
            a.first f.k f.byte (omega (arith, less, at, counted)) (ap (λ l. slice_get (content l) f.k) same ∙ f.stands) (ap not f.foreign)
        earlier a q f less at (suc i) there counted =
            omega (arith, less, at, counted, slice_get_within (content line) k a.here a.there, content-short line)
    by None e h behind =
        let r = behind h in
        record {
          is = record {
            i = suc r.is.i;
            line = r.is.line;
            there = r.is.there;
            k = r.is.k;
            byte = r.is.byte;
            stands = r.is.stands;
            foreign = r.is.foreign;
            counted = let e : p + (length line + 1 + begin_of lines r.is.i + r.is.k) ≡ place = omega (arith, r.is.counted) in e;
          };
          first = λ q f less. earlier r q f less f.i f.there f.counted;
        }
      where
        earlier : IsFirstForeign (p + length line + 1) lines place → (q : ℕ) (f : IsForeignIn p (line ∷ lines) q) → q < place →
            (i : ℕ) → slice_get (line ∷ lines) i ≡ Some f.line → p + (begin_of (line ∷ lines) i + f.k) ≡ q → ⊥
        earlier r q f less zero there counted =
            let same : line ≡ f.line = cc there in
            at-none (λ c. not (may_stand c)) (content line) e f.k f.byte (ap (λ l. slice_get (content l) f.k) same ∙ f.stands) (ap not f.foreign)
        earlier r q f less (suc i) there counted = r.first q (foreign-behind p line lines q i f.k f.byte f.line there f.stands f.foreign counted) less

-- ---- forms

abbrev form_of : ℕ → List ℕ → Option Said
form_of w line = said_of w (parts_of (content line))

record IsFirstFormless (w n : ℕ) (lines : List (List ℕ)) (f : AsmFault) : Type 0 where
  i : ℕ
  line : List ℕ
  there : slice_get lines i ≡ Some line
  none : form_of w line ≡ None
  fault : Grammar (n + i) ≡ f
  first : (j : ℕ) (l : List ℕ) → j < i → slice_get lines j ≡ Some l → form_of w l ≡ None → ⊥

forms-said : (w n : ℕ) (lines : List (List ℕ)) (saids : List Said) → said_from w n lines ≡ Ok saids → map (form_of w) lines ≡ map (λ s. Some s) saids
unfolding said_from
forms-said w n [] saids h = let same : [] ≡ saids = cc h in ap (map (λ s. Some s)) same
forms-said w n (line ∷ lines) saids h = by (form_of w line) (said_from w (n + 1) lines) refl (forms-said w (n + 1) lines) h
  where
    by : (o : Option Said) (r : Result (List Said) AsmFault) → form_of w line ≡ o → ((ss : List Said) → r ≡ Ok ss → map (form_of w) lines ≡ map (λ s. Some s) ss) → with_line n o r ≡ Ok saids →
        map (form_of w) (line ∷ lines) ≡ map (λ s. Some s) saids
    by None r e later h = absurd (cc h)
    by (Some s) (Ok ss) e later h =
        let same : s ∷ ss ≡ saids = cc h in
        ap (λ o. o ∷ map (form_of w) lines) e ∙ ap (λ os. Some s ∷ os) (later ss refl) ∙ ap (map (λ s. Some s)) same
    by (Some s) (Err f) e later h = absurd (cc h)

form-first : (w n : ℕ) (lines : List (List ℕ)) (f : AsmFault) → said_from w n lines ≡ Err f → IsFirstFormless w n lines f
unfolding said_from
form-first w n [] f h = absurd (cc h)
form-first w n (line ∷ lines) f h = by (form_of w line) (said_from w (n + 1) lines) refl (form-first w (n + 1) lines) h
  where
    by : (o : Option Said) (r : Result (List Said) AsmFault) → form_of w line ≡ o → ((g : AsmFault) → r ≡ Err g → IsFirstFormless w (n + 1) lines g) → with_line n o r ≡ Err f →
        IsFirstFormless w n (line ∷ lines) f
    by None r e later h =
        let at : n + 0 ≡ n = omega arith in
        record { i = 0; line = line; there = refl; none = e; fault = ap (λ m. Grammar m) at ∙ (let t : Grammar n ≡ f = cc h in t); first = λ j l less there none. omega (arith, less) }
    by (Some s) (Ok ss) e later h = absurd (cc h)
    by (Some s) (Err g) e later h =
        let same : g ≡ f = cc h in
        let l = later g refl in
        let at : n + suc l.i ≡ n + 1 + l.i = omega arith in
        record { i = suc l.i; line = l.line; there = l.there; none = l.none; fault = ap (λ m. Grammar m) at ∙ l.fault ∙ same; first = earlier l }
      where
        earlier : (l : IsFirstFormless w (n + 1) lines g) (j : ℕ) (x : List ℕ) → j < suc l.i → slice_get (line ∷ lines) j ≡ Some x → form_of w x ≡ None → ⊥
        earlier l zero x less there none =
            let same : line ≡ x = cc there in
            let t : Some s ≡ None = sym e ∙ ap (form_of w) same ∙ none in
            cc t
        earlier l (suc j) x less there none = l.first j x (omega (arith, less)) there none

-- where each line says something, none has no form
all-formed : (w : ℕ) (lines : List (List ℕ)) (saids : List Said) (i : ℕ) (line : List ℕ) → map (form_of w) lines ≡ map (λ s. Some s) saids → slice_get lines i ≡ Some line → form_of w line ≡ None → ⊥
all-formed w lines saids i line h there none =
    by (slice_get saids i) (sym (slice_get-map (λ s. Some s) saids i) ∙ ap (λ os. slice_get os i) (sym h) ∙ slice_get-map (form_of w) lines i ∙ ap (option_map (form_of w)) there ∙ ap (λ o. Some o) none)
  where
    by : (o : Option Said) → option_map (λ s. Some s) o ≡ Some None → ⊥
    by None e = cc e
    by (Some s) e = cc e

same-saids : (xs ys : List Said) → map (λ s. Some s) xs ≡ map (λ s. Some s) ys → xs ≡ ys
same-saids [] [] h = refl
same-saids [] (y ∷ ys) h = absurd (cc h)
same-saids (x ∷ xs) [] h = absurd (cc h)
same-saids (x ∷ xs) (y ∷ ys) h =
    let one : Some x ≡ Some y = cc h in
    let same : x ≡ y = cc one in
    let rest : map (λ s. Some s) xs ≡ map (λ s. Some s) ys = cc h in
    ap (λ s. s ∷ xs) same ∙ ap (λ ss. y ∷ ss) (same-saids xs ys rest)

-- ---- order

record IsLater (g f : AsmFault) : Type 0 where
  stage : stage_of g ≤ stage_of f
  spot : stage_of g ≡ stage_of f → (spot_of g < spot_of f) ⊎ ((spot_of g ≡ spot_of f) × (turn_of g < turn_of f))

later : (g f : AsmFault) → ComesBefore g f → IsLater g f
later g f (inl less) = record { stage = omega (arith, less); spot = λ e. absurd (omega (arith, less, e)) }
later g f (inr (inl b)) = record { stage = omega (arith, b.0); spot = λ e. inl b.1 }
later g f (inr (inr b)) = record { stage = omega (arith, b.0); spot = λ e. inr (b.1, b.2) }

line-stage : (d : Desc) (size : ℕ) (lines : List Said) (f : AsmFault) → IsLineFault d size lines f → stage_of f ≡ 3
line-stage d size lines Long h = absurd h
line-stage d size lines (Token place) h = absurd h
line-stage d size lines (Grammar n) h = absurd h
line-stage d size lines (Name n) h = refl
line-stage d size lines (Field n) h = refl
line-stage d size lines (LabelFault n) h = refl
line-stage d size lines (Range n) h = refl
line-stage d size lines (Place n) h = refl
line-stage d size lines (Overlap n) h = refl
line-stage d size lines Memory h = absurd h

-- ---- what a source comes to

abbrev Answer : Desc → ℕ → List ℕ → Result (List ℕ) AsmFault → Type 0
Answer d size text (Ok cells) = IsAssembled d size text cells
Answer d size text (Err fault) = IsRefused d size text fault

foreign-in : (text : List ℕ) (place : ℕ) → IsForeign text place → IsForeignIn 0 (lines_of text) place
foreign-in text place f =
    record { i = f.i; line = f.line; there = f.there; k = f.k; byte = f.byte; stands = f.stands; foreign = f.foreign; counted = omega (arith, f.counted) }

in-foreign : (text : List ℕ) (place : ℕ) → IsForeignIn 0 (lines_of text) place → IsForeign text place
in-foreign text place f =
    record { i = f.i; line = f.line; there = f.there; k = f.k; byte = f.byte; stands = f.stands; foreign = f.foreign; counted = omega (arith, f.counted) }

no-text-fault : (w : ℕ) (text : List ℕ) (saids : List Said) → length text ≤ most_source_bytes → foreign_place 0 (lines_of text) ≡ None →
    map (form_of w) (lines_of text) ≡ map (λ s. Some s) saids → (g : AsmFault) → IsTextFault w text g → ⊥
no-text-fault w text saids short none forms Long h = omega (arith, h, short)
no-text-fault w text saids short none forms (Token place) h = no-foreign 0 (lines_of text) none place (foreign-in text place h)
no-text-fault w text saids short none forms (Grammar n) h = all-formed w (lines_of text) saids h.i h.line forms h.there h.none
no-text-fault w text saids short none forms (Name n) h = h
no-text-fault w text saids short none forms (Field n) h = h
no-text-fault w text saids short none forms (LabelFault n) h = h
no-text-fault w text saids short none forms (Range n) h = h
no-text-fault w text saids short none forms (Place n) h = h
no-text-fault w text saids short none forms (Overlap n) h = h
no-text-fault w text saids short none forms Memory h = h

-- the lines that a text has
the-lines : (w : ℕ) (text : List ℕ) (saids lines : List Said) → map (form_of w) (lines_of text) ≡ map (λ s. Some s) saids → AreLines w text lines → lines ≡ At first_place ∷ saids
the-lines w text saids lines forms are = same-saids lines (At first_place ∷ saids) (are ∙ ap (λ os. Some (At first_place) ∷ os) forms)

by-lines : (d : Desc) (size : ℕ) (text : List ℕ) (saids : List Said) → length text ≤ most_source_bytes → foreign_place 0 (lines_of text) ≡ None →
    map (form_of d.word) (lines_of text) ≡ map (λ s. Some s) saids → (r : Result (List (Option ℕ)) AsmFault) → Ends d size (At first_place ∷ saids) r →
    Answer d size text (then_due r (λ cells. Ok (filled cells)))
by-lines d size text saids short none forms (Ok cells) e = record {
  lines = At first_place ∷ saids;
  are = ap (λ os. Some (At first_place) ∷ os) (sym forms);
  image = e.image;
  faultless = λ g h. none-there g (either d size text g h);
}
  where
    none-there : (g : AsmFault) → IsEither d size text g → ⊥
    none-there g (inl h) = no-text-fault d.word text saids short none forms g h
    none-there g (inr h) = e.right g (subst (λ ls. IsLineFault d size ls g) (the-lines d.word text saids h.0 forms h.1) h.2)
by-lines d size text saids short none forms (Err f) e = record {
  there = of-lines d size text (At first_place ∷ saids) f (ap (λ os. Some (At first_place) ∷ os) (sym forms)) e.there;
  first = λ g h before. earlier g (either d size text g h) before;
}
  where
    earlier : (g : AsmFault) → IsEither d size text g → ComesBefore g f → ⊥
    earlier g (inl h) before = no-text-fault d.word text saids short none forms g h
    earlier g (inr h) before =
        let here : IsLineFault d size (At first_place ∷ saids) g = subst (λ ls. IsLineFault d size ls g) (the-lines d.word text saids h.0 forms h.1) h.2 in
        e.none g here ((later g f before).spot (line-stage d size (At first_place ∷ saids) g here ∙ sym (line-stage d size (At first_place ∷ saids) f e.there)))

formless : (d : Desc) (size : ℕ) (text : List ℕ) (f : AsmFault) → length text ≤ most_source_bytes → foreign_place 0 (lines_of text) ≡ None → IsFirstFormless d.word 1 (lines_of text) f → IsRefused d size text f
formless d size text f short none l = subst (IsRefused d size text) l.fault (record {
  there = record { i = l.i; line = l.line; there = l.there; number = omega arith; none = l.none };
  first = λ g h before. earlier g (either d size text g h) (later g (Grammar (1 + l.i)) before);
})
  where
    by : (g : AsmFault) → IsTextFault d.word text g → IsLater g (Grammar (1 + l.i)) → ⊥
    by Long h b = omega (arith, h, short)
    by (Token place) h b = no-foreign 0 (lines_of text) none place (foreign-in text place h)
    by (Grammar n) h b = spots (b.spot refl)
      where
        spots : (n < 1 + l.i) ⊎ ((n ≡ 1 + l.i) × (0 < 0)) → ⊥
        spots (inl less) = l.first h.i h.line (omega (arith, less, h.number)) h.there h.none
        spots (inr same) = omega (arith, same.1)
    by (Name n) h b = h
    by (Field n) h b = h
    by (LabelFault n) h b = h
    by (Range n) h b = h
    by (Place n) h b = h
    by (Overlap n) h b = h
    by Memory h b = h

    earlier : (g : AsmFault) → IsEither d size text g → IsLater g (Grammar (1 + l.i)) → ⊥
    earlier g (inl h) b = by g h b
    earlier g (inr h) b = omega (arith, b.stage, line-stage d size h.0 g h.2)

foreign : (d : Desc) (size : ℕ) (text : List ℕ) (place : ℕ) → length text ≤ most_source_bytes → IsFirstForeign 0 (lines_of text) place → IsRefused d size text (Token place)
foreign d size text place short l = record {
  there = in-foreign text place l.is;
  first = λ g h before. earlier g (either d size text g h) (later g (Token place) before);
}
  where
    by : (g : AsmFault) → IsTextFault d.word text g → IsLater g (Token place) → ⊥
    by Long h b = omega (arith, h, short)
    by (Token q) h b = spots (b.spot refl)
      where
        spots : (q < place) ⊎ ((q ≡ place) × (0 < 0)) → ⊥
        spots (inl less) = l.first q (foreign-in text q h) less
        spots (inr same) = omega (arith, same.1)
    by (Grammar n) h b = omega (arith, b.stage)
    by (Name n) h b = h
    by (Field n) h b = h
    by (LabelFault n) h b = h
    by (Range n) h b = h
    by (Place n) h b = h
    by (Overlap n) h b = h
    by Memory h b = h

    earlier : (g : AsmFault) → IsEither d size text g → IsLater g (Token place) → ⊥
    earlier g (inl h) b = by g h b
    earlier g (inr h) b = omega (arith, b.stage, line-stage d size h.0 g h.2)

long : (d : Desc) (size : ℕ) (text : List ℕ) → most_source_bytes < length text → IsRefused d size text Long
long d size text more = record { there = more; first = λ g h before. by g before }
  where
    by : (g : AsmFault) → ComesBefore g Long → ⊥
    by g (inl less) = omega (arith, less)
    by g (inr (inl b)) = omega (arith, b.1)
    by g (inr (inr b)) = omega (arith, b.2)

answer : (d : Desc) (size : ℕ) (text : List ℕ) → IsValid d → Answer d size text (source_due d size text)
unfolding source_due
answer d size text v = by_length (nat_lt most_source_bytes (length text)) refl
  where
    by_forms : length text ≤ most_source_bytes → foreign_place 0 (lines_of text) ≡ None → (r : Result (List Said) AsmFault) → said_from d.word 1 (lines_of text) ≡ r → Answer d size text (then_due r (cells_due d size))
    by_forms short none (Ok saids) e =
        by-lines d size text saids short none (forms-said d.word 1 (lines_of text) saids e) (cells_from d (labels_of saids) 1 first_place saids (none_given size)) (ended d size saids v)
    by_forms short none (Err f) e = formless d size text f short none (form-first d.word 1 (lines_of text) f e)

    by_foreign : length text ≤ most_source_bytes → (o : Option ℕ) → foreign_place 0 (lines_of text) ≡ o →
        Answer d size text (then_due (elim o [ Some place ↦ Err (Token place) | None ↦ said_from d.word 1 (lines_of text) ]) (cells_due d size))
    by_foreign short (Some place) e = foreign d size text place short (foreign-first 0 (lines_of text) place e)
    by_foreign short None e = by_forms short e (said_from d.word 1 (lines_of text)) refl

    by_length : (b : Bool) → nat_lt most_source_bytes (length text) ≡ b → Answer d size text (cond b (Err Long) (then_due (lines_due d.word text) (cells_due d size)))
    by_length true e = long d size text (ltb-true most_source_bytes (length text) e)
    by_length false e = by_foreign (ltb-false most_source_bytes (length text) e) (foreign_place 0 (lines_of text)) refl

-- ---- the law

same-cells : (d : Desc) (size : ℕ) (lines : List Said) (xs ys : List ℕ) → IsImageOf d size lines xs → IsImageOf d size lines ys → xs ≡ ys
same-cells d size lines xs ys x y = same_lists xs ys (x.len ∙ sym y.len) (λ k e less.
    sym (get_or_from_slice_get ys k (get_or xs k e) e ((y.cell k (get_or xs k e)).1 ((x.cell k (get_or xs k e)).0 (slice_get-get_or xs k e less)))))

the-image : (d : Desc) (size : ℕ) (text xs ys : List ℕ) → IsAssembled d size text xs → IsAssembled d size text ys → xs ≡ ys
the-image d size text xs ys x y =
    same-cells d size y.lines xs ys (subst (λ ls. IsImageOf d size ls xs) (same-saids x.lines y.lines (x.are ∙ sym y.are)) x.image) y.image

-- a fault by its place in the order
fault_by : ℕ → ℕ → ℕ → AsmFault
fault_by stage spot turn =
    if stage == 0 then Long
    else if stage == 1 then Token spot
    else if stage == 2 then Grammar spot
    else if stage == 4 then Memory
    else if turn == 0 then Name spot
    else if turn == 1 then Field spot
    else if turn == 2 then LabelFault spot
    else if turn == 3 then Range spot
    else if turn == 4 then Place spot
    else Overlap spot

by-order : (f : AsmFault) → fault_by (stage_of f) (spot_of f) (turn_of f) ≡ f
unfolding fault_by
by-order Long = refl
by-order (Token place) = refl
by-order (Grammar n) = refl
by-order (Name n) = refl
by-order (Field n) = refl
by-order (LabelFault n) = refl
by-order (Range n) = refl
by-order (Place n) = refl
by-order (Overlap n) = refl
by-order Memory = refl

same-number : (a b : ℕ) → (a < b → ⊥) → (b < a → ⊥) → a ≡ b
same-number a b h k = by (below-or a b) (below-or b a)
  where
    by : (a < b) ⊎ (b ≤ a) → (b < a) ⊎ (a ≤ b) → a ≡ b
    by (inl less) o = absurd (h less)
    by (inr more) (inl less) = absurd (k less)
    by (inr more) (inr most) = omega (arith, more, most)

-- of two faults one comes before the other
same-fault : (g f : AsmFault) → (ComesBefore g f → ⊥) → (ComesBefore f g → ⊥) → g ≡ f
same-fault g f h k =
    let stage : stage_of g ≡ stage_of f = same-number (stage_of g) (stage_of f) (λ less. h (inl less)) (λ less. k (inl less)) in
    let spot : spot_of g ≡ spot_of f = same-number (spot_of g) (spot_of f) (λ less. h (inr (inl (stage, less)))) (λ less. k (inr (inl (sym stage, less)))) in
    let turn : turn_of g ≡ turn_of f = same-number (turn_of g) (turn_of f) (λ less. h (inr (inr (stage, spot, less)))) (λ less. k (inr (inr (sym stage, sym spot, less)))) in
    sym (by-order g) ∙ ap (λ n. fault_by n (spot_of g) (turn_of g)) stage ∙ ap (λ n. fault_by (stage_of f) n (turn_of g)) spot ∙ ap (fault_by (stage_of f) (spot_of f)) turn ∙ by-order f

-- a source has an image exactly where no fault is there, and it is that of its lines
pub source-image-placed : (d : Desc) (size : ℕ) (text cells : List ℕ) → IsValid d → source_due d size text ≡ Ok cells ↔ IsAssembled d size text cells
source-image-placed d size text cells v = (λ h. subst (Answer d size text) h (answer d size text v), λ a. by a (source_due d size text) (answer d size text v))
  where
    by : IsAssembled d size text cells → (r : Result (List ℕ) AsmFault) → Answer d size text r → r ≡ Ok cells
    by a (Ok other) b = ap (λ cs. Ok cs) (the-image d size text other cells b a)
    by a (Err f) b = absurd (a.faultless f b.there)

-- and it is refused exactly where a fault is there, with the one that comes before all others
pub source-fault-placed : (d : Desc) (size : ℕ) (text : List ℕ) (fault : AsmFault) → IsValid d → source_due d size text ≡ Err fault ↔ IsRefused d size text fault
source-fault-placed d size text fault v = (λ h. subst (Answer d size text) h (answer d size text v), λ a. by a (source_due d size text) (answer d size text v))
  where
    by : IsRefused d size text fault → (r : Result (List ℕ) AsmFault) → Answer d size text r → r ≡ Err fault
    by a (Ok cells) b = absurd (b.faultless fault a.there)
    by a (Err f) b = ap (λ g. Err g) (same-fault f fault (a.first f b.there) (b.first fault a.there))
