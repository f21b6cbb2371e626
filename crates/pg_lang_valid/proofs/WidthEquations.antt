-- The equations of widths, one for each form of expression: of what the table says of it, and of its width alone.
use Rattle.std.proofs.Common.{◌≡◌, ℕ, ◌+◌, Option, None, Some, Ok, Err, ◌==◌, nat_le, refl, ap, ◌∙◌}
use Rattle.pg_ast.specs.declared.name.Name.{Name as Names}
use Rattle.pg_ast.specs.declared.tree.Op.{Op}
use Rattle.pg_ast.specs.declared.tree.Expr.{Expr}
use Rattle.pg_ast.specs.declared.tree.Expr.TheVariants.{Lit, Name, Pc, Mode, Rel, Bound, Load, Not, Bin, Cat, Cut, Ext, Sext, Sel}
use Rattle.pg_lang_meaning.specs.Patterns.{field_of}
use Rattle.pg_lang_valid.specs.declared.fault.WidthClash.{WidthClash}
use Rattle.pg_lang_valid.specs.declared.fault.WidthClash.TheVariants as clash
use Rattle.pg_lang_valid.specs.Widths.{Setting, LetWidths, Judged, Judging, judged, with_judged, judge_step, judged_of, width_in, joined_width, choice_clash, width_of, literal_width, field_or_let_width, with_width, where_holds, op_width, cut_width, widened_width, choice_width}
use Rattle.pg_lang_meaning.proofs.Folds.{expr-bin, expr-bound, expr-cat, expr-cut, expr-ext, expr-lit, expr-load, expr-mode, expr-name, expr-not, expr-pc, expr-rel, expr-sel, expr-sext}

-- ---- what the table says

pub judged_of-lit : (v : ℕ) (n : ℕ) (at : Setting) (lets : LetWidths) → judged_of at (Lit v n) lets ≡ judged (literal_width v n) (clash.Number v n)
unfolding judged_of
judged_of-lit v n at lets = ap (λ f. f lets) (expr-lit Judging (judge_step at) v n)

pub judged_of-name : (n : Names) (at : Setting) (lets : LetWidths) → judged_of at (Name n) lets ≡ judged (field_or_let_width (field_of at.pattern n.bytes) lets n.bytes) clash.Unnamed
unfolding judged_of
judged_of-name n at lets = ap (λ f. f lets) (expr-name Judging (judge_step at) n)

pub judged_of-pc : (at : Setting) (lets : LetWidths) → judged_of at Pc lets ≡ Ok at.a
unfolding judged_of
judged_of-pc at lets = ap (λ f. f lets) (expr-pc Judging (judge_step at))

pub judged_of-mode : (at : Setting) (lets : LetWidths) → judged_of at Mode lets ≡ Ok 1
unfolding judged_of
judged_of-mode at lets = ap (λ f. f lets) (expr-mode Judging (judge_step at))

pub judged_of-rel : (at : Setting) (lets : LetWidths) → judged_of at Rel lets ≡ Ok at.a
unfolding judged_of
judged_of-rel at lets = ap (λ f. f lets) (expr-rel Judging (judge_step at))

pub judged_of-bound : (at : Setting) (lets : LetWidths) → judged_of at Bound lets ≡ Ok at.a
unfolding judged_of
judged_of-bound at lets = ap (λ f. f lets) (expr-bound Judging (judge_step at))

pub judged_of-load : (e : Expr) (at : Setting) (lets : LetWidths) → judged_of at (Load e) lets ≡ with_judged (judged_of at e lets) (λ n. judged (where_holds (n == at.a) at.w) (clash.Wanted at.a n))
unfolding judged_of
judged_of-load e at lets = ap (λ f. f lets) (expr-load Judging (judge_step at) e)

pub judged_of-not : (e : Expr) (at : Setting) (lets : LetWidths) → judged_of at (Not e) lets ≡ judged_of at e lets
unfolding judged_of
judged_of-not e at lets = ap (λ f. f lets) (expr-not Judging (judge_step at) e)

pub judged_of-bin : (op : Op) (l : Expr) (r : Expr) (at : Setting) (lets : LetWidths) → judged_of at (Bin op l r) lets ≡ with_judged (judged_of at l lets) (λ x. with_judged (judged_of at r lets) (λ y. judged (op_width op x y) (clash.Sides x y)))
unfolding judged_of
judged_of-bin op l r at lets = ap (λ f. f lets) (expr-bin Judging (judge_step at) op l r)

pub judged_of-cat : (l : Expr) (r : Expr) (at : Setting) (lets : LetWidths) → judged_of at (Cat l r) lets ≡ with_judged (judged_of at l lets) (λ x. with_judged (judged_of at r lets) (λ y. judged (joined_width x y) (clash.Joined x y)))
unfolding judged_of
judged_of-cat l r at lets = ap (λ f. f lets) (expr-cat Judging (judge_step at) l r)

pub judged_of-cut : (e : Expr) (h : ℕ) (k : ℕ) (at : Setting) (lets : LetWidths) → judged_of at (Cut e h k) lets ≡ with_judged (judged_of at e lets) (λ n. judged (cut_width n h k) (clash.Cut n h k))
unfolding judged_of
judged_of-cut e h k at lets = ap (λ f. f lets) (expr-cut Judging (judge_step at) e h k)

pub judged_of-ext : (e : Expr) (to : ℕ) (at : Setting) (lets : LetWidths) → judged_of at (Ext e to) lets ≡ with_judged (judged_of at e lets) (λ n. judged (widened_width n to) (clash.Widened n to))
unfolding judged_of
judged_of-ext e to at lets = ap (λ f. f lets) (expr-ext Judging (judge_step at) e to)

pub judged_of-sext : (e : Expr) (to : ℕ) (at : Setting) (lets : LetWidths) → judged_of at (Sext e to) lets ≡ with_judged (judged_of at e lets) (λ n. judged (widened_width n to) (clash.Widened n to))
unfolding judged_of
judged_of-sext e to at lets = ap (λ f. f lets) (expr-sext Judging (judge_step at) e to)

pub judged_of-sel : (c : Expr) (l : Expr) (r : Expr) (at : Setting) (lets : LetWidths) → judged_of at (Sel c l r) lets ≡ with_judged (judged_of at c lets) (λ n. with_judged (judged_of at l lets) (λ x. with_judged (judged_of at r lets) (λ y. judged (choice_width n x y) (choice_clash n x y))))
unfolding judged_of
judged_of-sel c l r at lets = ap (λ f. f lets) (expr-sel Judging (judge_step at) c l r)

pub ruleset judged_rules = (judged_of-lit, judged_of-name, judged_of-pc, judged_of-mode, judged_of-rel, judged_of-bound, judged_of-load, judged_of-not, judged_of-bin, judged_of-cat, judged_of-cut, judged_of-ext, judged_of-sext, judged_of-sel)

-- ---- widths alone

row : (o : Option ℕ) (how : WidthClash) → width_in (judged o how) ≡ o
row None how = refl
row (Some n) how = refl

one : (j : Judged) (go : ℕ → Option ℕ) (how : ℕ → WidthClash) → width_in (with_judged j (λ n. judged (go n) (how n))) ≡ with_width (width_in j) go
one (Err e) go how = refl
one (Ok n) go how = row (go n) (how n)

two : (j k : Judged) (go : ℕ → ℕ → Option ℕ) (how : ℕ → ℕ → WidthClash) →
    width_in (with_judged j (λ x. with_judged k (λ y. judged (go x y) (how x y)))) ≡ with_width (width_in j) (λ x. with_width (width_in k) (λ y. go x y))
two (Err e) k go how = refl
two (Ok n) k go how = one k (go n) (how n)

three : (i j k : Judged) (go : ℕ → ℕ → ℕ → Option ℕ) (how : ℕ → ℕ → ℕ → WidthClash) →
    width_in (with_judged i (λ n. with_judged j (λ x. with_judged k (λ y. judged (go n x y) (how n x y)))))
    ≡ with_width (width_in i) (λ n. with_width (width_in j) (λ x. with_width (width_in k) (λ y. go n x y)))
three (Err e) j k go how = refl
three (Ok n) j k go how = two j k (go n) (how n)

-- a width is what the table says
pub width_of-is : (e : Expr) (at : Setting) (lets : LetWidths) → width_of at e lets ≡ width_in (judged_of at e lets)
unfolding width_of
width_of-is e at lets = refl

pub width_of-lit : (v : ℕ) (n : ℕ) (at : Setting) (lets : LetWidths) → width_of at (Lit v n) lets ≡ literal_width v n
unfolding width_of
width_of-lit v n at lets = ap width_in (judged_of-lit v n at lets) ∙ row (literal_width v n) (clash.Number v n)

pub width_of-name : (n : Names) (at : Setting) (lets : LetWidths) → width_of at (Name n) lets ≡ field_or_let_width (field_of at.pattern n.bytes) lets n.bytes
unfolding width_of
width_of-name n at lets = ap width_in (judged_of-name n at lets) ∙ row (field_or_let_width (field_of at.pattern n.bytes) lets n.bytes) clash.Unnamed

pub width_of-pc : (at : Setting) (lets : LetWidths) → width_of at Pc lets ≡ Some at.a
unfolding width_of
width_of-pc at lets = ap width_in (judged_of-pc at lets)

pub width_of-mode : (at : Setting) (lets : LetWidths) → width_of at Mode lets ≡ Some 1
unfolding width_of
width_of-mode at lets = ap width_in (judged_of-mode at lets)

pub width_of-rel : (at : Setting) (lets : LetWidths) → width_of at Rel lets ≡ Some at.a
unfolding width_of
width_of-rel at lets = ap width_in (judged_of-rel at lets)

pub width_of-bound : (at : Setting) (lets : LetWidths) → width_of at Bound lets ≡ Some at.a
unfolding width_of
width_of-bound at lets = ap width_in (judged_of-bound at lets)

pub width_of-load : (e : Expr) (at : Setting) (lets : LetWidths) → width_of at (Load e) lets ≡ with_width (width_of at e lets) (λ n. where_holds (n == at.a) at.w)
unfolding width_of
width_of-load e at lets = ap width_in (judged_of-load e at lets) ∙ one (judged_of at e lets) (λ n. where_holds (n == at.a) at.w) (λ n. clash.Wanted at.a n)

pub width_of-not : (e : Expr) (at : Setting) (lets : LetWidths) → width_of at (Not e) lets ≡ width_of at e lets
unfolding width_of
width_of-not e at lets = ap width_in (judged_of-not e at lets)

pub width_of-bin : (op : Op) (l : Expr) (r : Expr) (at : Setting) (lets : LetWidths) → width_of at (Bin op l r) lets ≡ with_width (width_of at l lets) (λ x. with_width (width_of at r lets) (λ y. op_width op x y))
unfolding width_of
width_of-bin op l r at lets = ap width_in (judged_of-bin op l r at lets) ∙ two (judged_of at l lets) (judged_of at r lets) (op_width op) (λ x y. clash.Sides x y)

pub width_of-cat : (l : Expr) (r : Expr) (at : Setting) (lets : LetWidths) → width_of at (Cat l r) lets ≡ with_width (width_of at l lets) (λ x. with_width (width_of at r lets) (λ y. where_holds (nat_le (x + y) 64) (x + y)))
unfolding width_of
width_of-cat l r at lets = ap width_in (judged_of-cat l r at lets) ∙ two (judged_of at l lets) (judged_of at r lets) (λ x y. where_holds (nat_le (x + y) 64) (x + y)) (λ x y. clash.Joined x y)

pub width_of-cut : (e : Expr) (h : ℕ) (k : ℕ) (at : Setting) (lets : LetWidths) → width_of at (Cut e h k) lets ≡ with_width (width_of at e lets) (λ n. cut_width n h k)
unfolding width_of
width_of-cut e h k at lets = ap width_in (judged_of-cut e h k at lets) ∙ one (judged_of at e lets) (λ n. cut_width n h k) (λ n. clash.Cut n h k)

pub width_of-ext : (e : Expr) (to : ℕ) (at : Setting) (lets : LetWidths) → width_of at (Ext e to) lets ≡ with_width (width_of at e lets) (λ n. widened_width n to)
unfolding width_of
width_of-ext e to at lets = ap width_in (judged_of-ext e to at lets) ∙ one (judged_of at e lets) (λ n. widened_width n to) (λ n. clash.Widened n to)

pub width_of-sext : (e : Expr) (to : ℕ) (at : Setting) (lets : LetWidths) → width_of at (Sext e to) lets ≡ with_width (width_of at e lets) (λ n. widened_width n to)
unfolding width_of
width_of-sext e to at lets = ap width_in (judged_of-sext e to at lets) ∙ one (judged_of at e lets) (λ n. widened_width n to) (λ n. clash.Widened n to)

pub width_of-sel : (c : Expr) (l : Expr) (r : Expr) (at : Setting) (lets : LetWidths) → width_of at (Sel c l r) lets ≡ with_width (width_of at c lets) (λ n. with_width (width_of at l lets) (λ x. with_width (width_of at r lets) (λ y. choice_width n x y)))
unfolding width_of
width_of-sel c l r at lets = ap width_in (judged_of-sel c l r at lets) ∙ three (judged_of at c lets) (judged_of at l lets) (judged_of at r lets) choice_width choice_clash

pub ruleset width_rules = (width_of-lit, width_of-name, width_of-pc, width_of-mode, width_of-rel, width_of-bound, width_of-load, width_of-not, width_of-bin, width_of-cat, width_of-cut, width_of-ext, width_of-sext, width_of-sel)
