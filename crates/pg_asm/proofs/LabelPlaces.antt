-- The labels that are gathered of lines: each is that of the first line that gives it.
use Rattle.std.proofs.Common.{◌≡◌, ◌⊎◌, inl, inr, ℕ, zero, suc, ◌+◌, ◌<◌, ◌≤◌, Bool, true, false, not, cond, ◌||◌, List, [], ◌∷◌, ◌++◌, length, drop, slice_get, Option, None, Some, refl, ap, sym, subst, ◌∙◌, arith}
use Rattle.std.specs.Prelude.{nat_lt, position, bytes_eq}
use Rattle.std.specs.List.{prefix_len}
use Rattle.std.specs.Option.{option_map}
use Rattle.std.proofs.lemmas.Bool.{le-ltb, lt-ltb, ltb-true, ltb-false}
use Rattle.std.proofs.lemmas.List.{length_push}
use Rattle.std.proofs.lemmas.Slice.Eq.{bytes_eq-Decides}
use Rattle.pg_lang_valid.specs.Twice.{is_among}
use Rattle.pg_asm.specs.declared.mark.Mark.{Mark}
use Rattle.pg_asm.specs.Said.{Said, Blank, At, Label, Word, Instr}
use Rattle.pg_asm.specs.Sources.{place_behind, Labels, no_labels, given, labels_behind, labels_from, mark_of, first_place, labels_of}
use Rattle.pg_asm.specs.Placed.{IsLine, StandsAt, Means}
use Rattle.pg_asm.proofs.LinePlaces.{below-or, below-next, one-line, left, none-left, place_at, place-is, stands, place-next}

-- ---- the first place at which a test passes

pub position-cons : {X : Type 0} (p : X → Bool) (x : X) (xs : List X) → position p (x ∷ xs) ≡ cond (p x) (Some 0) (option_map (λ k. suc k) (position p xs))
position-cons p x xs = by (p x) (nat_lt (prefix_len (λ y. not (p y)) xs) (length xs)) refl
  where
    n : ℕ
    n = prefix_len (λ y. not (p y)) xs

    by : (b c : Bool) → nat_lt (prefix_len (λ y. not (p y)) xs) (length xs) ≡ c →
        cond (nat_lt (cond (not b) (1 + prefix_len (λ y. not (p y)) xs) 0) (suc (length xs))) (Some (cond (not b) (1 + prefix_len (λ y. not (p y)) xs) 0)) None
        ≡ cond b (Some 0) (option_map (λ k. suc k) (cond c (Some (prefix_len (λ y. not (p y)) xs)) None))
    by true c e = let h : 0 < suc (length xs) = omega arith in ap (λ t. cond t (Some 0) None) (lt-ltb 0 (suc (length xs)) h)
    by false true e =
        let h : 1 + n < suc (length xs) = omega (arith, ltb-true n (length xs) e) in
        let s : 1 + n ≡ suc n = omega arith in
        ap (λ t. cond t (Some (1 + n)) None) (lt-ltb (1 + n) (suc (length xs)) h) ∙ ap (λ k. Some k) s
    by false false e =
        let h : suc (length xs) ≤ 1 + n = omega (arith, ltb-false n (length xs) e) in
        ap (λ t. cond t (Some (1 + n)) None) (le-ltb (1 + n) (suc (length xs)) h)

-- ---- marks

abbrev marks_by : List (List ℕ) → List Mark → List ℕ → Option Mark
marks_by names marks name = mark_of (record { names = names; marks = marks }) name

mark-cons : (n : List ℕ) (ns : List (List ℕ)) (m : Mark) (ms : List Mark) (name : List ℕ) → marks_by (n ∷ ns) (m ∷ ms) name ≡ cond (bytes_eq n name) (Some m) (marks_by ns ms name)
mark-cons n ns m ms name =
    ap (λ o. elim o [ Some k ↦ slice_get (m ∷ ms) k | None ↦ None ]) (position-cons (λ x. bytes_eq x name) n ns) ∙ by (bytes_eq n name) (position (λ x. bytes_eq x name) ns)
  where
    by : (b : Bool) (o : Option ℕ) → elim (cond b (Some 0) (option_map (λ k. suc k) o)) [ Some k ↦ slice_get (m ∷ ms) k | None ↦ None ]
        ≡ cond b (Some m) (elim o [ Some k ↦ slice_get ms k | None ↦ None ])
    by true o = refl
    by false None = refl
    by false (Some k) = refl

abbrev or_mark : List ℕ → Mark → List ℕ → Option Mark → Option Mark
or_mark x m name None = cond (bytes_eq x name) (Some m) None
or_mark x m name (Some earlier) = Some earlier

-- a label more
mark-more : (ns : List (List ℕ)) (ms : List Mark) (x : List ℕ) (m : Mark) (name : List ℕ) → length ns ≡ length ms →
    marks_by (ns ++ x ∷ []) (ms ++ m ∷ []) name ≡ or_mark x m name (marks_by ns ms name)
mark-more [] [] x m name len = mark-cons x [] m [] name
mark-more [] (k ∷ ms) x m name len = absurd (omega (arith, len))
mark-more (n ∷ ns) [] x m name len = absurd (omega (arith, len))
mark-more (n ∷ ns) (k ∷ ms) x m name len =
    mark-cons n (ns ++ x ∷ []) k (ms ++ m ∷ []) name
    ∙ ap (cond (bytes_eq n name) (Some k)) (mark-more ns ms x m name (omega (arith, len)))
    ∙ by (bytes_eq n name) (marks_by ns ms name)
    ∙ ap (or_mark x m name) (sym (mark-cons n ns k ms name))
  where
    by : (b : Bool) (o : Option Mark) → cond b (Some k) (or_mark x m name o) ≡ or_mark x m name (cond b (Some k) o)
    by true o = refl
    by false o = refl

-- a name among the names has a mark
among-marked : (ns : List (List ℕ)) (ms : List Mark) (x : List ℕ) → length ns ≡ length ms → is_among ns x ≡ true → marks_by ns ms x ≡ None → ⊥
among-marked [] ms x len h none = cc h
among-marked (n ∷ ns) [] x len h none = absurd (omega (arith, len))
among-marked (n ∷ ns) (m ∷ ms) x len h none = by (bytes_eq n x) h (sym (mark-cons n ns m ms x) ∙ none) (among-marked ns ms x (omega (arith, len)))
  where
    by : (b : Bool) → (b || is_among ns x) ≡ true → cond b (Some m) (marks_by ns ms x) ≡ None → (is_among ns x ≡ true → marks_by ns ms x ≡ None → ⊥) → ⊥
    by true e none later = cc none
    by false e none later = later e none

-- ---- what is known of labels behind line n

pub record IsMark (lines : List Said) (name : List ℕ) (m : Mark) : Type 0 where
  pub line : IsLine lines m.line (Label name)
  pub first : (j : ℕ) → j < m.line → IsLine lines j (Label name) → ⊥
  pub place : place_at lines m.line ≡ m.place

record Known (lines : List Said) (n : ℕ) (labels : Labels) : Type 0 where
  len : length labels.names ≡ length labels.marks
  some : (name : List ℕ) (m : Mark) → mark_of labels name ≡ Some m → IsMark lines name m
  none : (name : List ℕ) → mark_of labels name ≡ None → (j : ℕ) → j < n → IsLine lines j (Label name) → ⊥

-- a line that gives no label
known-same : (lines : List Said) (n : ℕ) (labels : Labels) (said : Said) → IsLine lines n said → ((name : List ℕ) → said ≡ Label name → ⊥) → Known lines n labels → Known lines (n + 1) labels
known-same lines n labels said line other k = record {
  len = k.len;
  some = k.some;
  none = λ name is j less at. by name is j at (below-next j n less);
}
  where
    by : (name : List ℕ) → mark_of labels name ≡ None → (j : ℕ) → IsLine lines j (Label name) → (j < n) ⊎ (j ≡ n) → ⊥
    by name is j at (inl less) = k.none name is j less at
    by name is j at (inr same) = other name (one-line lines n said (Label name) line (ap (slice_get lines) (sym same) ∙ at))

-- a line that gives one again, or one more
known-given : (lines : List Said) (n place : ℕ) (labels : Labels) (x : List ℕ) → IsLine lines n (Label x) → place_at lines n ≡ place → Known lines n labels → Known lines (n + 1) (given x n place labels)
known-given lines n place labels x line at k = by (is_among labels.names x) refl
  where
    m : Mark
    m = record { line = n; place = place }

    is-x : (name : List ℕ) (j : ℕ) → IsLine lines j (Label name) → j ≡ n → x ≡ name
    is-x name j there same = let e : Label x ≡ Label name = one-line lines n (Label x) (Label name) line (ap (slice_get lines) (sym same) ∙ there) in cc e

    again : is_among labels.names x ≡ true → (name : List ℕ) → mark_of labels name ≡ None → (j : ℕ) → IsLine lines j (Label name) → (j < n) ⊎ (j ≡ n) → ⊥
    again is name none j there (inl less) = k.none name none j less there
    again is name none j there (inr same) =
        among-marked labels.names labels.marks name k.len (ap (is_among labels.names) (sym (is-x name j there same)) ∙ is) none

    new : Labels
    new = record { names = labels.names ++ x ∷ []; marks = labels.marks ++ m ∷ [] }

    mark-new : (name : List ℕ) → mark_of new name ≡ or_mark x m name (mark_of labels name)
    mark-new name = mark-more labels.names labels.marks x m name k.len

    some-new : (name : List ℕ) (r : Mark) (o : Option Mark) → mark_of labels name ≡ o → or_mark x m name o ≡ Some r → IsMark lines name r
    some-new name r (Some e) is h = let same : e ≡ r = cc h in k.some name r (is ∙ ap (λ y. Some y) same)
    some-new name r None is h = here (bytes_eq x name) refl h
      where
        here : (b : Bool) → bytes_eq x name ≡ b → cond b (Some m) None ≡ Some r → IsMark lines name r
        here true e h =
            let same : m ≡ r = cc h in
            let named : x ≡ name = (bytes_eq-Decides x name).0 e in
            let mine : IsMark lines name m = record {
              line = line ∙ ap (λ y. Some (Label y)) named;
              first = k.none name is;
              place = at;
            } in
            subst (IsMark lines name) same mine
        here false e h = absurd (cc h)

    none-new : (name : List ℕ) (o : Option Mark) → mark_of labels name ≡ o → or_mark x m name o ≡ None → (j : ℕ) → IsLine lines j (Label name) → (j < n) ⊎ (j ≡ n) → ⊥
    none-new name (Some e) is h j there c = cc h
    none-new name None is h j there (inl less) = k.none name is j less there
    none-new name None is h j there (inr same) = let e : cond true (Some m) None ≡ None = ap (λ b. cond b (Some m) None) (sym ((bytes_eq-Decides x name).1 (is-x name j there same))) ∙ h in cc e

    by : (b : Bool) → is_among labels.names x ≡ b → Known lines (n + 1) (cond b labels new)
    by true is = record { len = k.len; some = k.some; none = λ name none j less there. again is name none j there (below-next j n less) }
    by false is = record {
      len = length_push labels.names x ∙ ap (λ c. c + 1) k.len ∙ sym (length_push labels.marks m);
      some = λ name r h. some-new name r (mark_of labels name) refl (sym (mark-new name) ∙ h);
      none = λ name h j less there. none-new name (mark_of labels name) refl (sym (mark-new name) ∙ h) j there (below-next j n less);
    }

known-next : (lines : List Said) (n place : ℕ) (labels : Labels) (said : Said) → IsLine lines n said → place_at lines n ≡ place → Known lines n labels →
    Known lines (n + 1) (labels_behind said n place labels)
known-next lines n place labels Blank line at k = known-same lines n labels Blank line (λ name e. cc e) k
known-next lines n place labels (At j) line at k = known-same lines n labels (At j) line (λ name e. cc e) k
known-next lines n place labels (Label x) line at k = known-given lines n place labels x line at k
known-next lines n place labels (Word word) line at k = known-same lines n labels (Word word) line (λ name e. cc e) k
known-next lines n place labels (Instr name operands) line at k = known-same lines n labels (Instr name operands) line (λ other e. cc e) k

-- the place behind line n
pub next-at : (lines : List Said) (n place : ℕ) (said : Said) → IsLine lines n said → place_at lines n ≡ place → place_at lines (n + 1) ≡ place_behind said place
next-at lines n place said line at =
    let e : n + 1 ≡ suc n = omega arith in
    ap (place_at lines) e ∙ place-next 0 lines n said line ∙ ap (place_behind said) at

known-all : (lines : List Said) (n place : ℕ) (labels : Labels) (behind : List Said) → drop n lines ≡ behind → place_at lines n ≡ place → Known lines n labels →
    (last : ℕ) × (drop last lines ≡ []) × Known lines last (labels_from n place labels behind)
unfolding labels_from
known-all lines n place labels [] h at k = (n, h, k)
known-all lines n place labels (said ∷ behind) h at k =
    let l = left lines n said behind h in
    known-all lines (n + 1) (place_behind said place) (labels_behind said n place labels) behind l.rest (next-at lines n place said l.line at) (known-next lines n place labels said l.line at k)

-- ---- the labels of all lines

-- the labels that are gathered are these
pub record AreLabels (lines : List Said) (labels : Labels) : Type 0 where
  pub some : (name : List ℕ) (m : Mark) → mark_of labels name ≡ Some m → IsMark lines name m
  pub none : (name : List ℕ) → mark_of labels name ≡ None → (j : ℕ) → IsLine lines j (Label name) → ⊥

pub gathered : (saids : List Said) → AreLabels (At first_place ∷ saids) (labels_of saids)
gathered saids =
    let lines : List Said = At first_place ∷ saids in
    let begun : Known lines 1 no_labels = record { len = refl; some = λ name m h. absurd (cc h); none = λ name h j less there. nothing j less there } in
    let all = known-all lines 1 first_place no_labels saids refl refl begun in
    record {
      some = all.2.some;
      none = λ name h j there. outside name h j there all.0 all.1 all.2;
    }
  where
    nothing : {name : List ℕ} (j : ℕ) → j < 1 → IsLine (At first_place ∷ saids) j (Label name) → ⊥
    nothing zero less there = cc there
    nothing (suc j) less there = absurd (omega (arith, less))

    outside : (name : List ℕ) → mark_of (labels_of saids) name ≡ None → (j : ℕ) → IsLine (At first_place ∷ saids) j (Label name) → (last : ℕ) → drop last (At first_place ∷ saids) ≡ [] →
        Known (At first_place ∷ saids) last (labels_of saids) → ⊥
    outside name h j there last end k = by (below-or j last)
      where
        by : (j < last) ⊎ (last ≤ j) → ⊥
        by (inl less) = k.none name h j less there
        by (inr more) = none-left (At first_place ∷ saids) last j (Label name) end more there

-- what a label means is its mark's place
pub mark-means : (first : ℕ) (saids : List Said) (name : List ℕ) (m : Mark) → IsMark (At first ∷ saids) name m → Means (At first ∷ saids) name m.place
mark-means first saids name m k = record {
  n = m.line;
  line = k.line;
  first = k.first;
  stands = subst (StandsAt (At first ∷ saids) m.line) k.place (stands first saids m.line (later m.line k.line));
}
  where
    later : (n : ℕ) → IsLine (At first ∷ saids) n (Label name) → 0 < n
    later zero h = absurd (cc h)
    later (suc n) h = omega arith

-- and a label that means a place has this mark
pub means-mark : (lines : List Said) (labels : Labels) (name : List ℕ) (place : ℕ) → AreLabels lines labels → Means lines name place → (m : Mark) × (mark_of labels name ≡ Some m) × (m.place ≡ place)
means-mark lines labels name place are k = by (mark_of labels name) refl
  where
    by : (o : Option Mark) → mark_of labels name ≡ o → (m : Mark) × (mark_of labels name ≡ Some m) × (m.place ≡ place)
    by None e = absurd (are.none name e k.n k.line)
    by (Some m) e =
        let i = are.some name m e in
        let same : m.line ≡ k.n = first-same m.line k.n (λ less. i.first k.n less k.line) (λ less. k.first m.line less i.line) in
        (m, e, sym i.place ∙ ap (place_at lines) same ∙ place-is lines k.n place k.stands)
      where
        first-same : (a b : ℕ) → (b < a → ⊥) → (a < b → ⊥) → a ≡ b
        first-same a b h j = grind (arith, h, j)
