-- Headers, the first line and the last, and every line.
use Rattle.std.proofs.Common.{◌≡◌, ◌⊎◌, inl, inr, ℕ, ◌+◌, ◌*◌, ◌/◌, ◌%◌, ◌<◌, ◌≤◌, Bool, true, false, if◌then◌else◌, List, [], ◌∷◌, ◌++◌, length, Option, None, Some, Ok, Err, refl, sym, ap, subst, ◌∙◌, arith, ℤ, slice_get, get_or}
use Rattle.std.specs.Prelude.{◌==◌, nat_lt, nat_le, bytes_eq, slice_index_or}
use Rattle.std.specs.List.{position_or_len}
use Rattle.std.proofs.lemmas.Bool.{eqb-true, ltb-true, ltb-false, leb-true, and_parts}
use Rattle.std.proofs.lemmas.List.{length-map}
use Rattle.std.proofs.lemmas.List.Elements.{All-nil}
use Rattle.std.proofs.lemmas.List.Sums.{passes_at_first}
use Rattle.std.proofs.lemmas.Option.{same_Some, cond_some, slice_get_cases}
use Rattle.std.proofs.lemmas.Slice.Eq.{bytes_eq-Decides}
use Rattle.pg_lang_token.specs.Words.{is_word}
use Rattle.pg_ast.specs.declared.tree.Instr.{Instr}
use Rattle.pg_ast.specs.declared.tree.Desc.{Desc}
use Rattle.pg_lang_meaning.specs.States.{shape_of}
use Rattle.pg_lang_valid.specs.Twice.{instr_names}
use Rattle.pg_type.specs.declared.kind.Kind.{Kind}
use Rattle.pg_type.specs.declared.kind.Kind.TheVariants as kind
use Rattle.pg_ask.specs.Question.{question}
use Rattle.pg_cert.specs.declared.cert.Family.{Family}
use Rattle.pg_cert.specs.declared.cert.Family.TheVariants.{Plain, Hybrid}
use Rattle.pg_cert.specs.declared.line.Heading.{Heading}
use Rattle.pg_cert.specs.declared.line.Found.{Found}
use Rattle.pg_cert.specs.declared.line.Found.TheVariants as found
use Rattle.pg_cert.specs.declared.line.Line.{Line}
use Rattle.pg_cert.specs.declared.line.Line.TheVariants as line
use Rattle.pg_cert.specs.Lines.{is_line, IsLine, is_found, most_budget}
use Rattle.pg_cert.specs.Verdicts.{kinds_of, kind_count}
use Rattle.pg_cert.specs.Texts.{family_of, instr_of, kind_of, name_of, findings_lines, AreListed}
use Rattle.pg_cert.specs.Validity.{may_remove, IsActUnder}
use Rattle.pg_cert_drawn.proofs.DrawnLines.{row_is}
use Rattle.pg_verify.specs.declared.fault.VerifyFault.TheVariants as fault
use Rattle.pg_verify.specs.Reader.{Open, Fresh, Between, Refuting, Showing, Spending, Ended, Mark, Progress}
use Rattle.pg_verify.specs.Taking.{then_take, misplaced, with_open, after_step, after_remove, with_size, with_psw, with_cells, after_state_line, missing, all_findings, may_close, closed, clauses_at, opening, placed, named, instr_named, kind_place, with_header, after_header, ended, after_end, is_fresh, same_family, is_first_due, after_first, after_form}
use Rattle.pg_verify.proofs.Standing.{IsBody, IsBetween, IsOpenAt, IsAt, Keeps, Stands}
use Rattle.pg_verify.proofs.StepLemmas.{same_ok, no_ok, taken, if_taken, size_on, psw_on, cells_on}
use Rattle.pg_verify.proofs.OpenLemmas.{step_kept, removal_kept, state_kept, reopened_stands}
use Rattle.pg_verify.proofs.CloseLemmas.{Closed, open_closed}

-- ---- the number of a finding

pub record IsKindAt (family : Family) (k : Kind) (place : ℕ) : Type 0 where
  pub small : place < kind_count family
  pub is : slice_index_or (kinds_of family) place kind.Privileged ≡ k

kind_at : (family : Family) (k : Kind) (place n : ℕ) → ◌≡◌ {A = Option ℕ} (Some n) (Some place) → IsKindAt family k n →
    IsKindAt family k place
kind_at family k place n e h = subst (λ x. IsKindAt family k x) (same_Some n place e) h

pub kind_placed : (family : Family) (k : Kind) (place : ℕ) → kind_place family k ≡ Some place → IsKindAt family k place
kind_placed Plain kind.Privileged place e =
    kind_at Plain kind.Privileged place 0 e (record { small = omega arith; is = refl })
kind_placed Plain kind.Control place e =
    kind_at Plain kind.Control place 1 e (record { small = omega arith; is = refl })
kind_placed Plain kind.ModeDep place e =
    kind_at Plain kind.ModeDep place 2 e (record { small = omega arith; is = refl })
kind_placed Plain kind.Location place e =
    kind_at Plain kind.Location place 3 e (record { small = omega arith; is = refl })
kind_placed Plain kind.Bound place e = kind_at Plain kind.Bound place 4 e (record { small = omega arith; is = refl })
kind_placed Plain kind.UControl place e = absurd (cc)
kind_placed Plain kind.ULocation place e = absurd (cc)
kind_placed Plain kind.UBound place e = absurd (cc)
kind_placed Hybrid kind.Privileged place e =
    kind_at Hybrid kind.Privileged place 0 e (record { small = omega arith; is = refl })
kind_placed Hybrid kind.Control place e = absurd (cc)
kind_placed Hybrid kind.ModeDep place e = absurd (cc)
kind_placed Hybrid kind.Location place e = absurd (cc)
kind_placed Hybrid kind.Bound place e = absurd (cc)
kind_placed Hybrid kind.UControl place e =
    kind_at Hybrid kind.UControl place 1 e (record { small = omega arith; is = refl })
kind_placed Hybrid kind.ULocation place e =
    kind_at Hybrid kind.ULocation place 2 e (record { small = omega arith; is = refl })
kind_placed Hybrid kind.UBound place e =
    kind_at Hybrid kind.UBound place 3 e (record { small = omega arith; is = refl })

record IsSplit (family : Family) (n instr place : ℕ) : Type 0 where
  instr_is : n / kind_count family ≡ instr
  place_is : n % kind_count family ≡ place

split : (family : Family) (n instr place : ℕ) → place < kind_count family → n ≡ instr * kind_count family + place →
    IsSplit family n instr place
split Plain n instr place l e = record { instr_is = omega arith; place_is = omega arith }
split Hybrid n instr place l e = record { instr_is = omega arith; place_is = omega arith }

pub record IsNamed (d : Desc) (name : List ℕ) (instr : ℕ) : Type 0 where
  pub in_range : instr < length d.instrs
  pub name_is : name ≡ name_of d instr

pub named_is : (d : Desc) (name : List ℕ) (instr : ℕ) → instr_named d name ≡ Some instr → IsNamed d name instr
named_is d name instr e =
    let test : List ℕ → Bool = λ n. bytes_eq n name in
    let names : List (List ℕ) = instr_names d.instrs in
    let h = cond_some (nat_lt (position_or_len test names) (length names)) (position_or_len test names) instr e in
    let below : position_or_len test names < length names = ltb-true (position_or_len test names) (length names) h.0 in
    let same : get_or names (position_or_len test names) [] ≡ name =
    (bytes_eq-Decides (get_or names (position_or_len test names) []) name).0 (passes_at_first test names [] below)
    in
    let at : position_or_len test names ≡ instr = h.1 in
    record {
      in_range = omega (arith, below, at, length-map d.instrs (λ (i : Instr). i.name.bytes));
      name_is = sym same ∙ ap (λ k. get_or names k []) at;
    }

-- ---- headers

record IsPlaced (p : Progress) (instr : ℕ) (k : Kind) (place : ℕ) (f : Found) (q : Progress) : Type 0 where
  at : length p.marks ≡ instr * kind_count p.family + place
  after_is : with_open p (opening p.lines (clauses_at p.desc k (slice_get p.desc.instrs instr)) f) ≡ q

placed_is : (p : Progress) (instr : ℕ) (k : Kind) (place : ℕ) (f : Found) (q : Progress) →
    placed p instr k place f ≡ Ok q → IsPlaced p instr k place f q
placed_is p instr k place f q e =
    by (nat_lt (instr * kind_count p.family + place) (length p.marks))
    (nat_lt (length p.marks) (instr * kind_count p.family + place)) refl refl e
  where
    next : Progress
    next = with_open p (opening p.lines (clauses_at p.desc k (slice_get p.desc.instrs instr)) f)

    by : (b c : Bool) → nat_lt (instr * kind_count p.family + place) (length p.marks) ≡ b →
        nat_lt (length p.marks) (instr * kind_count p.family + place) ≡ c →
        (if b then Err (fault.Extra p.lines) else (if c then missing p else Ok next)) ≡ Ok q →
        IsPlaced p instr k place f q
    by true c eb ec e = no_ok _ q e
    by false true eb ec e = no_ok _ q e
    by false false eb ec e =
        let low = ltb-false (instr * kind_count p.family + place) (length p.marks) eb in
        let high = ltb-false (length p.marks) (instr * kind_count p.family + place) ec in
        record { at = omega arith; after_is = same_ok next q e }

-- what opens has no line yet
opens : (heading : Heading) (clauses : List (List ℤ)) (header : ℕ) (f : Found) → is_found f ≡ true →
    IsBody heading clauses (opening header clauses f) f []
opens heading clauses header found.Refuted h =
    record { acts = []; found_is = refl; reached = refl; under = All-nil (IsActUnder heading); lines_are = refl }
opens heading clauses header found.Shown h = record { found_is = refl; drawn = tt; lines_are = refl }
opens heading clauses header (found.Spent k) h =
    let both = and_parts (nat_le 1 k) (nat_le k most_budget) h in
    record {
      steps = [];
      found_is = refl;
      least = leb-true 1 k both.0;
      most = leb-true k most_budget both.1;
      spent = tt;
      log_is = refl;
      lines_are = refl;
    }

opened_at : (d : Desc) (family : Family) (removes : Bool) (marks : List Mark) (lines : List Line) (header : ℕ)
    (clauses : List (List ℤ)) (f : Found) →
    IsOpenAt d family removes marks lines (opening header clauses f) →
    IsAt d family removes marks lines (opening header clauses f)
opened_at d family removes marks lines header clauses found.Refuted h = h
opened_at d family removes marks lines header clauses found.Shown h = h
opened_at d family removes marks lines header clauses (found.Spent k) h = h

header_opens : (p q : Progress) (lines : List Line) (name : List ℕ) (instr : ℕ) (k : Kind) (place : ℕ) (f : Found) →
    is_found f ≡ true → IsKindAt p.family k place → IsNamed p.desc name instr →
    IsPlaced p instr k place f q → IsBetween p.desc p.family p.removes p.marks lines →
    Stands p q (lines ++ line.Header name k f ∷ [])
header_opens p q lines name instr k place f some kind_is named_as place_is h =
    by (slice_get_cases p.desc.instrs instr).1
  where
    n : ℕ
    n = length p.marks

    parts : IsSplit p.family (length p.marks) instr place
    parts = split p.family (length p.marks) instr place kind_is.small place_is.at

    kind_same : kind_of p.family (length p.marks) ≡ k
    kind_same = ap (λ j. slice_index_or (kinds_of p.family) j kind.Privileged) parts.place_is ∙ kind_is.is

    instr_same : instr_of p.family (length p.marks) ≡ instr
    instr_same = parts.instr_is

    clauses : List (List ℤ)
    clauses = clauses_at p.desc k (slice_get p.desc.instrs instr)

    lines_same : lines ++ line.Header name k f ∷ [] ≡ lines ++ line.Header
        (name_of p.desc (instr_of p.family (length p.marks))) (kind_of p.family (length p.marks)) f ∷ []
    lines_same =
        ap (λ nm. lines ++ line.Header nm k f ∷ []) (named_as.name_is ∙ ap (λ j. name_of p.desc j) (sym parts.instr_is))
        ∙ ap (λ kk. lines ++ line.Header (name_of p.desc (instr_of p.family (length p.marks))) kk f ∷ [])
        (sym (ap (λ j. slice_index_or (kinds_of p.family) j kind.Privileged) parts.place_is ∙ kind_is.is))

    stands : (i : Instr) → slice_get p.desc.instrs instr ≡ Some i →
        Stands p (with_open p (opening p.lines (clauses_at p.desc k (slice_get p.desc.instrs instr)) f))
        (lines ++ line.Header name k f ∷ [])
    stands i at = record {
      keeps = record { desc = refl; family = refl; lines = refl; fed = refl; rest = refl };
      at =
          opened_at p.desc p.family p.removes p.marks (lines ++ line.Header name k f ∷ []) p.lines
          (clauses_at p.desc k (slice_get p.desc.instrs instr)) f
          (record {
            heading = h.heading;
            findings = h.findings;
            before = lines;
            instr = i;
            found = f;
            body = [];
            front = h.front;
            instr_is = ap (λ j. slice_get p.desc.instrs j) parts.instr_is ∙ at;
            body_is =
                subst (λ c. IsBody h.heading c (opening p.lines (clauses_at p.desc k (slice_get p.desc.instrs instr)) f)
                f [])
                (ap (λ o. clauses_at p.desc k o) at
                ∙ ap (λ kk. question p.desc i kk)
                (sym (ap (λ j. slice_index_or (kinds_of p.family) j kind.Privileged) parts.place_is ∙ kind_is.is)))
                (opens h.heading (clauses_at p.desc k (slice_get p.desc.instrs instr)) p.lines f some);
            lines_are = lines_same;
          });
    }

    by : ((x : Instr) × (instr < length p.desc.instrs) × (slice_get p.desc.instrs instr ≡ Some x) × (get_or
        p.desc.instrs instr x ≡ x)) ⊎ ((length p.desc.instrs ≤ instr) × (slice_get p.desc.instrs instr ≡ None)) →
        Stands p q (lines ++ line.Header name k f ∷ [])
    by (inl there) = subst (λ x. Stands p x (lines ++ line.Header name k f ∷ [])) place_is.after_is
        (stands there.0 there.2)
    by (inr past) = absurd (let l = named_as.in_range in omega (arith, l, past.0))

keeps_then : (p q r : Progress) → Keeps p q → Keeps q r → Keeps p r
keeps_then p q r a b = record {
  desc = b.desc ∙ a.desc;
  family = b.family ∙ a.family;
  lines = b.lines ∙ a.lines;
  fed =
      b.fed ∙ a.fed;
  rest = b.rest ∙ a.rest;
}

stands_then : (p q r : Progress) (lines : List Line) → Keeps p q → Stands q r lines → Stands p r lines
stands_then p q r lines a b = record { keeps = keeps_then p q r a b.keeps; at = b.at }

module _ (p q : Progress) (lines : List Line) (h : IsAt p.desc p.family p.removes p.marks lines p.opened) where
  named_kept : (after : Progress) (name : List ℕ) (k : Kind) (place : ℕ) (f : Found) (o : Option ℕ) →
      is_found f ≡ true → Closed p after lines → kind_place p.family k ≡ Some place →
      instr_named after.desc name ≡ o → named after o k place f ≡ Ok q → Stands p q (lines ++ line.Header name k f ∷ [])
  named_kept after name k place f None some c at_kind at_name e = no_ok _ q e
  named_kept after name k place f (Some instr) some c at_kind at_name e =
      stands_then p after q (lines ++ line.Header name k f ∷ []) c.keeps
      (header_opens after q lines name instr k place f some
      (kind_placed after.family k place (ap (λ x. kind_place x k) c.keeps.family ∙ at_kind))
      (named_is after.desc name instr at_name) (placed_is after instr k place f q e) c.between)

  header_kept : (name : List ℕ) (k : Kind) (f : Found) → is_found f ≡ true → after_header p name k f ≡ Ok q →
      Stands p q (lines ++ line.Header name k f ∷ [])
  unfolding after_header closed
  header_kept name k f some e = by (may_close p.opened) (kind_place p.family k) refl refl e
    where
      by : (b : Bool) (o : Option ℕ) → may_close p.opened ≡ b → kind_place p.family k ≡ o →
          (if b then with_header p name k o f else misplaced p.lines) ≡ Ok q →
          Stands p q (lines ++ line.Header name k f ∷ [])
      by false o eb eo e = no_ok _ q e
      by true None eb eo e = no_ok _ q e
      by true (Some place) eb eo e =
          let t = taken (closed p) (λ (after : Progress). named after (instr_named after.desc name) k place f) q e in
          named_kept t.value name k place f (instr_named t.value.desc name) some
          (open_closed p t.value lines p.opened eb t.was h) eo refl t.gives

  end_kept : after_end p ≡ Ok q → Stands p q (lines ++ line.End ∷ [])
  unfolding after_end closed
  end_kept e = by (may_close p.opened) refl e
    where
      at_end : (after : Progress) → Closed p after lines → ended after ≡ Ok q → Stands p q (lines ++ line.End ∷ [])
      at_end after c e =
          let g = if_taken (length after.marks == all_findings after) (with_open after Ended) q _ e in
          stands_then p after q (lines ++ line.End ∷ []) c.keeps
          (subst (λ x. Stands after x (lines ++ line.End ∷ [])) g.1
          (record {
            keeps = record { desc = refl; family = refl; lines = refl; fed = refl; rest = refl };
            at = record {
              heading = c.between.heading;
              findings = c.between.findings;
              before = lines;
              front =
                  c.between.front;
              whole = eqb-true (length after.marks) (all_findings after) g.0;
              lines_are = refl;
            };
          }))

      by : (b : Bool) → may_close p.opened ≡ b → (if b then then_take (closed p) ended else misplaced p.lines) ≡ Ok q →
          Stands p q (lines ++ line.End ∷ [])
      by false eb e = no_ok _ q e
      by true eb e = let t = taken (closed p) ended q e in at_end t.value
          (open_closed p t.value lines p.opened eb t.was h) t.gives

  family_same : (x y : Family) → same_family x y ≡ true → x ≡ y
  family_same Plain Plain e = refl
  family_same Plain Hybrid e = absurd (let f : false ≡ true = e in cc)
  family_same Hybrid Plain e = absurd (let f : false ≡ true = e in cc)
  family_same Hybrid Hybrid e = refl

  fresh_at : (o : Open) → is_fresh o ≡ true → IsAt p.desc p.family p.removes p.marks lines o →
      (lines ≡ []) × (p.marks ≡ [])
  fresh_at Fresh e h = h
  fresh_at Between e h = absurd (let f : false ≡ true = e in cc)
  fresh_at (Refuting header log) e h = absurd (let f : false ≡ true = e in cc)
  fresh_at (Showing header pair) e h = absurd (let f : false ≡ true = e in cc)
  fresh_at (Spending header budget count log) e h = absurd (let f : false ≡ true = e in cc)
  fresh_at Ended e h = absurd (let f : false ≡ true = e in cc)

  first_kept : (heading : Heading) → after_first p heading ≡ Ok q → Stands p q (lines ++ line.First heading ∷ [])
  unfolding after_first findings_lines
  first_kept heading e =
      let g = if_taken (is_first_due p (family_of heading))
      (record p { opened = Between; removes = may_remove heading }) q _ e in
      let due = and_parts (is_fresh p.opened) (same_family (family_of heading) p.family) g.0 in
      let fresh = fresh_at p.opened due.0 h in
      subst (λ x. Stands p x (lines ++ line.First heading ∷ [])) g.1
      (record {
        keeps = record { desc = refl; family = refl; lines = refl; fed = refl; rest = refl };
        at = record {
          heading = heading;
          findings = [];
          front = record {
            family_is = family_same (family_of heading) p.family due.1;
            removes_is = refl;
            marks_are = fresh.1;
            each = λ n f i get at. absurd (cc);
            listed = All-nil AreListed;
            lines_are = ap (λ ls. ls ++ line.First heading ∷ []) fresh.0;
          };
        };
      })

  -- every line that is not refused
  pub form_kept : (l : Line) → IsLine (shape_of p.desc) l → after_form p l ≡ Ok q → Stands p q (lines ++ l ∷ [])
  unfolding after_form is_line
  form_kept (line.First heading) r e = first_kept heading e
  form_kept (line.Header name k f) r e = header_kept name k f (and_parts (is_word name) (is_found f) r).1 e
  form_kept (line.Step step) r e =
      reopened_stands p q (after_step p.lines step p.opened) (lines ++ line.Step step ∷ []) e
      (λ o t. step_kept p.desc p.family p.removes p.marks lines p.lines step p.opened o t h)
  form_kept (line.Remove numbers) r e =
      reopened_stands p q (after_remove p.lines p.removes numbers p.opened) (lines ++ line.Remove numbers ∷ []) e
      (λ o t. removal_kept p.desc p.family p.removes p.marks lines p.lines numbers p.opened o r t h)
  form_kept (line.Size n) r e =
      reopened_stands p q (after_state_line p.lines (with_size n) p.opened) (lines ++ line.Size n ∷ []) e
      (λ o t. state_kept p.desc p.family p.removes p.marks lines p.lines (line.Size n) (with_size n) p.opened o
      (λ x y. size_on n x y) t h)
  form_kept (line.Psw psw) r e =
      reopened_stands p q (after_state_line p.lines (with_psw psw) p.opened) (lines ++ line.Psw psw ∷ []) e
      (λ o t. state_kept p.desc p.family p.removes p.marks lines p.lines (line.Psw psw) (with_psw psw) p.opened o
      (λ x y. psw_on psw x y) t h)
  form_kept (line.Cells first words) r e =
      reopened_stands p q (after_state_line p.lines (with_cells first words) p.opened)
      (lines ++ line.Cells first words ∷ []) e
      (λ o t. state_kept p.desc p.family p.removes p.marks lines p.lines (line.Cells first words)
      (with_cells first words) p.opened o (λ x y. cells_on first words x y (row_is (shape_of p.desc) first words r)) t h)
  form_kept line.End r e = end_kept e
