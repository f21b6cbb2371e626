-- The first number that passes a test, and the marks of an instruction.
use Rattle.std.proofs.Common.{◌≡◌, ℕ, suc, ◌+◌, ◌-◌, ◌*◌, ◌/◌, ◌<◌, ◌≤◌, Bool, true, false, cond, ◌&&◌, ◌||◌, List, [], ◌∷◌, length, get_or, take, drop, Some, None, Option, sym, ap, ◌∙◌, arith}
use Rattle.std.proofs.lemmas.List.{take_all, length-drop}
use Rattle.std.specs.List.{list_any, list_all}
use Rattle.pg_cert.specs.declared.report.Mark.{Mark}
use Rattle.pg_cert.specs.declared.cert.Family.{Family}
use Rattle.pg_cert.specs.declared.cert.Family.TheVariants.{Plain, Hybrid}
use Rattle.pg_cert.specs.Verdicts.{first_where, kind_count, is_shown, is_refuted, breaks, is_settled}

-- ---- a walk over numbers

pub found : (p : ℕ → Bool) (i n : ℕ) (first : Option ℕ) → i < n → p i ≡ true → first_where p i (n - i) ≡ first → Some i ≡ first
unfolding first_where
found p i n first l h e =
    let left : n - i ≡ suc (n - (i + 1)) = omega arith in
    sym (ap (first_where p i) left ∙ ap (λ b. cond b (Some i) (first_where p (suc i) (n - (i + 1)))) h) ∙ e

pub missed : (p : ℕ → Bool) (i n : ℕ) (first : Option ℕ) → i < n → p i ≡ false → first_where p i (n - i) ≡ first → first_where p (i + 1) (n - (i + 1)) ≡ first
unfolding first_where
missed p i n first l h e =
    let left : n - i ≡ suc (n - (i + 1)) = omega arith in
    let next : i + 1 ≡ suc i = omega arith in
    ap (λ k. first_where p k (n - (i + 1))) next
    ∙ sym (ap (first_where p i) left ∙ ap (λ b. cond b (Some i) (first_where p (suc i) (n - (i + 1)))) h) ∙ e

pub ended : (p : ℕ → Bool) (i n : ℕ) (first : Option ℕ) → n ≤ i → first_where p i (n - i) ≡ first → None ≡ first
unfolding first_where
ended p i n first l e =
    let left : n - i ≡ 0 = omega arith in
    sym (ap (first_where p i) left) ∙ e

-- ---- the marks of an instruction

pub breaks_of : (marks : List Mark) (first : Mark) → 1 ≤ length marks → first ≡ get_or marks 0 first → breaks marks ≡ (is_shown first && list_any is_shown (drop 1 marks))
breaks_of [] first l e = absurd (omega arith)
breaks_of (x ∷ xs) first l e = ap (λ m. is_shown m && list_any is_shown xs) (sym e)

pub is_settled_of : (marks : List Mark) (first : Mark) → 1 ≤ length marks → first ≡ get_or marks 0 first → is_settled marks ≡ (is_refuted first || list_all is_refuted (drop 1 marks))
is_settled_of [] first l e = absurd (omega arith)
is_settled_of (x ∷ xs) first l e = ap (λ m. is_refuted m || list_all is_refuted xs) (sym e)

whole_rest : (marks : List Mark) → take (length marks - 1) (drop 1 marks) ≡ drop 1 marks
whole_rest marks = take_all (length marks - 1) (drop 1 marks) (omega (arith, length-drop 1 marks))

pub breaks_when : (marks : List Mark) (first : Mark) (shown rest : Bool) → 1 ≤ length marks → first ≡ get_or marks 0 first → shown ≡ is_shown first → shown ≡ true → rest ≡ list_any is_shown (take (length marks - 1) (drop 1 marks)) → rest ≡ breaks marks
breaks_when marks first shown rest l e test holds r =
    r ∙ ap (list_any is_shown) (whole_rest marks) ∙ sym (breaks_of marks first l e ∙ ap (λ b. b && list_any is_shown (drop 1 marks)) (sym test ∙ holds))

pub settled_when : (marks : List Mark) (first : Mark) (refuted rest : Bool) → 1 ≤ length marks → first ≡ get_or marks 0 first → refuted ≡ is_refuted first → refuted ≡ false → rest ≡ list_all is_refuted (take (length marks - 1) (drop 1 marks)) → rest ≡ is_settled marks
settled_when marks first refuted rest l e test fails r =
    r ∙ ap (list_all is_refuted) (whole_rest marks) ∙ sym (is_settled_of marks first l e ∙ ap (λ b. b || list_all is_refuted (drop 1 marks)) (sym test ∙ fails))

pub marks_within : (family : Family) (i n : ℕ) → i < n / kind_count family → i * kind_count family + kind_count family ≤ n
marks_within Plain i n h = omega arith
marks_within Hybrid i n h = omega arith
