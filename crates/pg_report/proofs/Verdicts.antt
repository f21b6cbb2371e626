-- Lines of instructions, one after another, and the instructions that verdicts name.
use Rattle.std.proofs.Common.{◌≡◌, ℕ, zero, suc, ◌+◌, ◌-◌, ◌*◌, ◌/◌, ◌<◌, ◌≤◌, Bool, true, false, cond, List, [], ◌++◌, length, take, drop, Option, Some, None, unwrap_or, refl, sym, ap, ◌∙◌, append_assoc, subst, arith, true≢false}
use Rattle.std.proofs.lemmas.List.{append-nil, take_all, length-drop}
use Rattle.std.proofs.lemmas.Option.{get_or_from_slice_get}
use Rattle.std.specs.Prelude.{slice_get, position}
use Rattle.std.specs.Option.{is_some}
use Rattle.pg_lang_valid.specs.Twice.{instr_names}
use Rattle.pg_ast.specs.declared.tree.Desc.{Desc}
use Rattle.pg_type.specs.declared.kind.Kind.{Kind}
use Rattle.pg_cert.specs.declared.cert.Family.{Family}
use Rattle.pg_cert.specs.declared.cert.Family.TheVariants.{Plain, Hybrid}
use Rattle.pg_cert.specs.declared.report.Mark.{Mark}
use Rattle.pg_cert.specs.declared.report.Verdict.{Verdict}
use Rattle.pg_cert.specs.declared.report.Verdict.TheVariants.{Accepted, Refused, Unsettled}
use Rattle.pg_cert.specs.Texts.{name_of}
use Rattle.pg_cert.specs.Verdicts.{first_where, first_breaking, first_unsettled, first_spent, instr_count, kind_count, marks_of, is_shown, verdict_of}
use Rattle.pg_report.specs.Verdicts.{answer_line, answer_lines, refused_line, shown_place}

-- ---- lines

pub answer_lines-none : (d : Desc) (family : Family) (marks : List Mark) → answer_lines d family marks 0 ≡ []
unfolding answer_lines
answer_lines-none d family marks = refl

pub answer_lines-next : (d : Desc) (family : Family) (marks : List Mark) (i : ℕ) →
    answer_lines d family marks (i + 1) ≡ answer_lines d family marks i ++ answer_line (name_of d i) family (marks_of (kind_count family) marks i)
unfolding answer_lines
answer_lines-next d family marks i =
    let next : i + 1 ≡ suc i = omega arith in
    rw next refl

-- what stands behind the first lines
answer_lines-more : (d : Desc) (family : Family) (marks : List Mark) (i m : ℕ) → (rest : List ℕ) × (answer_lines d family marks (i + m) ≡ answer_lines d family marks i ++ rest)
answer_lines-more d family marks i zero =
    let same : i + 0 ≡ i = omega arith in
    ([], ap (answer_lines d family marks) same ∙ sym (append-nil (answer_lines d family marks i)))
answer_lines-more d family marks i (suc m) =
    let front = answer_lines-more d family marks i m in
    let next : i + suc m ≡ (i + m) + 1 = omega arith in
    let line = answer_line (name_of d (i + m)) family (marks_of (kind_count family) marks (i + m)) in (
      front.0 ++ line,
      ap (answer_lines d family marks) next ∙ answer_lines-next d family marks (i + m) ∙ ap (λ t. t ++ line) front.1
          ∙ append_assoc (answer_lines d family marks i) front.0 line,
    )

pub answer_lines-front : (d : Desc) (family : Family) (marks : List Mark) (i n : ℕ) → i ≤ n → (rest : List ℕ) × (answer_lines d family marks n ≡ answer_lines d family marks i ++ rest)
answer_lines-front d family marks i n within =
    let more = answer_lines-more d family marks i (n - i) in
    let whole : n ≡ i + (n - i) = omega arith in
    (more.0, ap (answer_lines d family marks) whole ∙ more.1)

-- ---- instructions have marks

pub all_marked : (family : Family) (n marks : ℕ) → marks ≡ n * kind_count family → n ≡ marks / kind_count family
all_marked Plain n marks h = omega (arith, h)
all_marked Hybrid n marks h = omega (arith, h)

pub marked : (family : Family) (n marks i : ℕ) → marks ≡ n * kind_count family → i < n → i < marks / kind_count family
marked family n marks i h l = subst (λ k. i < k) (all_marked family n marks h) l

-- ---- instructions that verdicts name

found_within : (p : ℕ → Bool) (from count i : ℕ) → first_where p from count ≡ Some i → i < from + count
unfolding first_where
found_within p from zero i e = absurd (true≢false (sym (ap is_some e)))
found_within p from (suc n) i e = go (p from) e (λ h. found_within p (suc from) n i h)
  where
    go : (b : Bool) → cond b (Some from) (first_where p (suc from) n) ≡ Some i → (first_where p (suc from) n ≡ Some i → i < suc from + n) → i < from + suc n
    go true e rec =
        let same : from ≡ i = ap (λ o. unwrap_or o from) e in
        omega arith
    go false e rec =
        let later : i < suc from + n = rec e in
        omega arith

found_first : (p : ℕ → Bool) (count i : ℕ) → first_where p 0 count ≡ Some i → i < count
found_first p count i e =
    let within : i < 0 + count = found_within p 0 count i e in
    omega arith

abbrev named_of : Verdict → Option ℕ
named_of Accepted = None
named_of (Refused i) = Some i
named_of (Unsettled i kind) = Some i

module _ (family : Family) (marks : List Mark) where
  abbrev unsettled_of : Option ℕ → Verdict
  unsettled_of o = elim o [
    | Some i ↦ Unsettled i (first_spent family (marks_of (kind_count family) marks i))
    | None ↦ Accepted
  ]

  abbrev concluded : Option ℕ → Verdict
  concluded o = elim o [
    | Some i ↦ Refused i
    | None ↦ unsettled_of (first_unsettled family marks)
  ]

  named_within : (i : ℕ) → named_of (verdict_of family marks) ≡ Some i → i < instr_count family marks
  unfolding verdict_of
  named_within i = by (first_breaking family marks) (first_unsettled family marks) (λ k e. found_first _ _ k e) (λ k e. found_first _ _ k e)
    where
      by : (a b : Option ℕ) → ((k : ℕ) → a ≡ Some k → k < instr_count family marks) → ((k : ℕ) → b ≡ Some k → k < instr_count family marks) →
          named_of (elim a [
            | Some j ↦ Refused j
            | None ↦ unsettled_of b
          ]) ≡ Some i → i < instr_count family marks
      by (Some j) b h g e = h i e
      by None (Some j) h g e = g i e
      by None None h g e = absurd (true≢false (sym (ap is_some e)))

  named_known : (n i : ℕ) → length marks ≡ n * kind_count family → named_of (verdict_of family marks) ≡ Some i → i < n
  named_known n i h e = subst (λ k. i < k) (sym (all_marked family n (length marks) h)) (named_within i e)

  -- the instruction that a verdict names is one of so many that have marks
  pub refused_within : (n i : ℕ) → length marks ≡ n * kind_count family → Refused i ≡ verdict_of family marks → i < n
  refused_within n i h e = named_known n i h (ap named_of (sym e))

  pub unsettled_within : (n i : ℕ) (kind : Kind) → length marks ≡ n * kind_count family → Unsettled i kind ≡ verdict_of family marks → i < n
  unsettled_within n i kind h e = named_known n i h (ap named_of (sym e))

-- ---- the first mark that is shown

pub place_shown : (marks : List Mark) (found : Option ℕ) → found ≡ position is_shown (take (length marks - 1) (drop 1 marks)) → suc (unwrap_or found 0) ≡ shown_place marks
place_shown marks found h =
    let rest : take (length marks - 1) (drop 1 marks) ≡ drop 1 marks = take_all (length marks - 1) (drop 1 marks) (omega (arith, length-drop 1 marks)) in
    ap (λ o. suc (unwrap_or o 0)) (h ∙ ap (position is_shown) rest)

-- ---- lines by what was read

pub name_read : (d : Desc) (i : ℕ) (name : List ℕ) → slice_get (instr_names d.instrs) i ≡ Some name → name ≡ name_of d i
name_read d i name named = sym (get_or_from_slice_get (instr_names d.instrs) i name [] named)

pub answer_read : (d : Desc) (family : Family) (marks own : List Mark) (i : ℕ) (name line : List ℕ) → slice_get (instr_names d.instrs) i ≡ Some name →
    own ≡ marks_of (kind_count family) marks i → line ≡ answer_line name family own → line ≡ answer_line (name_of d i) family (marks_of (kind_count family) marks i)
answer_read d family marks own i name line named is made =
    made ∙ ap (λ n. answer_line n family own) (name_read d i name named) ∙ ap (answer_line (name_of d i) family) is

-- the line of the instruction that was asked for
pub refused_read : (d : Desc) (i asked : ℕ) (name line : List ℕ) → slice_get (instr_names d.instrs) i ≡ Some name → line ≡ refused_line name → i ≡ asked →
    line ≡ refused_line (name_of d asked)
refused_read d i asked name line named made same = made ∙ ap refused_line (name_read d i name named ∙ ap (name_of d) same)
