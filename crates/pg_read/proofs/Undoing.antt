-- What meets goals begins a filling of them.
use Rattle.std.proofs.Common.{◌≡◌, ℕ, suc, Bool, true, false, map, List, [], ◌∷◌, ◌++◌, Option, None, Some, IfSome, codes, ap, sym, refl}
use Rattle.std.proofs.lemmas.List.{append_assoc, append-nil}
use Rattle.pg_lang_token.specs.declared.tok.Tok.{Tok}
use Rattle.pg_lang_token.specs.declared.tok.Tok.TheVariants.{Word, Number, Pattern, Sign}
use Rattle.pg_lang_token.specs.declared.tok.Sign.{Sign as Signs}
use Rattle.pg_lang_token.specs.declared.tok.Sign.TheVariants.{OpenBrace, CloseBrace, OpenParen, CloseParen, OpenBracket, CloseBracket, Semicolon, Comma, Colon, Equals, DoubleEquals, Tilde, Plus, Minus, Star, Ampersand, Bar, Caret, LessThan, DoubleLess, DoubleGreater}
use Rattle.pg_ast.specs.declared.name.Name.{Name as Names}
use Rattle.pg_ast.specs.declared.name.PatternText.{PatternText}
use Rattle.pg_ast.specs.declared.tree.Op.{Op}
use Rattle.pg_ast.specs.declared.tree.Op.TheVariants as op
use Rattle.pg_ast.specs.ExprTokens.{sign_of}
use Rattle.pg_ast.specs.Tokens.{flat}
use Rattle.pg_ast.proofs.Exact.{same_word, same_sign, cond-holds}
use Rattle.pg_read.specs.declared.goals.Goal.{Goal}
use Rattle.pg_read.specs.declared.goals.Goal.TheVariants as goal
use Rattle.pg_read.specs.Marks.{Mark, Opens, Plain}
use Rattle.pg_read.specs.Fronts.{WideInstr, wide_instr_tokens, instrs_marks}
use Rattle.pg_read.specs.Goals.{is_sign, is_word, is_number, is_named, is_patterned, is_op, expr_form, stmt_form, head_word, when_met, stmts_met, met, followed, taken}
use Rattle.pg_read.proofs.Traces.{with_mark, traced, trace}
use Rattle.pg_read.proofs.Fillings.{part_tokens, part_marks, stmts_tokens, stmts_marks, Filling, tokens, marks_of, Makes, Undoes, expr_form-holds, begun_undoes, stmt_form-holds, stated_undoes}

when_met-holds : (P : Mark × List Goal → Type 0) (b : Bool) (m : Mark) (gs : List Goal) → (b ≡ true → P (m, gs)) → IfSome (when_met b m gs) P
when_met-holds P true m gs h = h refl
when_met-holds P false m gs h = tt

IfSome-map : {A : Type 0} (P Q : A → Type 0) (x : Option A) → ((a : A) → P a → Q a) → IfSome x P → IfSome x Q
IfSome-map P Q None f h = tt
IfSome-map P Q (Some a) f h = f a h

sign-is : (s : Signs) (t : Tok) → is_sign s t ≡ true → t ≡ Sign s
sign-is s (Sign u) e = ap (λ v. Sign v) (same_sign u s e)
sign-is s (Word w) e = cc
sign-is s (Number n) e = cc
sign-is s (Pattern w) e = cc

word-is : (w : List ℕ) (t : Tok) → is_word w t ≡ true → t ≡ Word w
word-is w (Word v) e = ap (λ u. Word u) (same_word v w e)
word-is w (Sign u) e = cc
word-is w (Number n) e = cc
word-is w (Pattern v) e = cc

number-is : (t : Tok) → is_number t ≡ true → (n : ℕ) × (t ≡ Number n)
number-is (Number n) e = (n, refl)
number-is (Word w) e = absurd cc
number-is (Pattern w) e = absurd cc
number-is (Sign s) e = absurd cc

name-is : (t : Tok) → is_named t ≡ true → (x : Names) × (t ≡ Word x.bytes)
name-is (Word w) e = (record { bytes = w; is_name = e }, refl)
name-is (Number n) e = absurd cc
name-is (Pattern w) e = absurd cc
name-is (Sign s) e = absurd cc

pattern-is : (t : Tok) → is_patterned t ≡ true → (p : PatternText) × (t ≡ Pattern p.bytes)
pattern-is (Pattern w) e = (record { bytes = w; is_pattern = e }, refl)
pattern-is (Word w) e = absurd cc
pattern-is (Number n) e = absurd cc
pattern-is (Sign s) e = absurd cc

op-is : (t : Tok) → is_op t ≡ true → (o : Op) × (t ≡ Sign (sign_of o))
op-is (Word w) e = absurd cc
op-is (Number n) e = absurd cc
op-is (Pattern w) e = absurd cc
op-is (Sign OpenBrace) e = absurd cc
op-is (Sign CloseBrace) e = absurd cc
op-is (Sign OpenParen) e = absurd cc
op-is (Sign CloseParen) e = absurd cc
op-is (Sign OpenBracket) e = absurd cc
op-is (Sign CloseBracket) e = absurd cc
op-is (Sign Semicolon) e = absurd cc
op-is (Sign Comma) e = absurd cc
op-is (Sign Colon) e = absurd cc
op-is (Sign Equals) e = absurd cc
op-is (Sign DoubleEquals) e = (op.Eq, refl)
op-is (Sign Tilde) e = absurd cc
op-is (Sign Plus) e = (op.Add, refl)
op-is (Sign Minus) e = (op.Sub, refl)
op-is (Sign Star) e = (op.Mul, refl)
op-is (Sign Ampersand) e = (op.And, refl)
op-is (Sign Bar) e = (op.Or, refl)
op-is (Sign Caret) e = (op.Xor, refl)
op-is (Sign LessThan) e = (op.Lt, refl)
op-is (Sign DoubleLess) e = (op.Shl, refl)
op-is (Sign DoubleGreater) e = (op.Shr, refl)

-- what is met as statements is met as statements behind an if without an else
after_if : (n : ℕ) (t : Tok) (p : Mark × List Goal) → Undoes (goal.Stmts n) t p → Undoes (goal.AfterIf n) t p
after_if n t p h f = let q = h f in ((None, q.0), q.1, q.2)

stmts-undo : (n : ℕ) (t : Tok) → IfSome (stmts_met n t) (Undoes (goal.Stmts n) t)
stmts-undo n t =
    cond-holds (Undoes (goal.Stmts n) t) (is_sign CloseBrace t) (Some (Plain, [])) _
    (λ e f. ([], ap (λ x. x ∷ []) (sym (sign-is CloseBrace t e)), refl)) (λ e. stated_undoes n t (stmt_form t) (stmt_form-holds t))

else-undoes : (n : ℕ) (t : Tok) → t ≡ Word (codes "else") → Makes (goal.AfterIf n) t Plain (goal.Block n ∷ goal.Stmts n ∷ [])
else-undoes n t e f =
    ((Some f.0, f.1.0), rw (e, append-nil (stmts_tokens f.1.0)) refl, rw (append-nil (stmts_marks n f.1.0)) refl)

block-undoes : (n : ℕ) (t : Tok) → t ≡ Sign OpenBrace → Makes (goal.Block n) t (Opens n) (goal.Stmts (suc n) ∷ [])
block-undoes n t e f = (f.0, rw (e, append-nil (stmts_tokens f.0)) refl, rw (append-nil (stmts_marks (suc n) f.0)) refl)

instr-undoes : (t : Tok) → t ≡ Word (codes "instr") → Makes goal.Instrs t Plain (goal.Name ∷ goal.Pattern ∷ goal.Block 1 ∷ goal.Instrs ∷ [])
instr-undoes t e f =
    let i : WideInstr = record { name = f.0; pattern = f.1.0; body = f.1.1.0 } in
    (i ∷ f.1.1.1.0, rw (e, append-nil (flat (map wide_instr_tokens f.1.1.1.0))) refl, rw (append-nil (instrs_marks f.1.1.1.0)) refl)

met-undoes : (g : Goal) (t : Tok) → IfSome (met g t) (Undoes g t)
unfolding met
met-undoes (goal.Sign s) t = when_met-holds (Undoes (goal.Sign s) t) (is_sign s t) Plain [] (λ e f. (tt, ap (λ x. x ∷ []) (sym (sign-is s t e)), refl))
met-undoes (goal.Word w) t = when_met-holds (Undoes (goal.Word w) t) (is_word (head_word w) t) Plain [] (λ e f. (tt, ap (λ x. x ∷ []) (sym (word-is (head_word w) t e)), refl))
met-undoes goal.Number t = when_met-holds (Undoes goal.Number t) (is_number t) Plain [] (λ e f. let n = number-is t e in (n.0, ap (λ x. x ∷ []) (sym n.1), refl))
met-undoes goal.Name t = when_met-holds (Undoes goal.Name t) (is_named t) Plain [] (λ e f. let n = name-is t e in (n.0, ap (λ x. x ∷ []) (sym n.1), refl))
met-undoes goal.Pattern t = when_met-holds (Undoes goal.Pattern t) (is_patterned t) Plain [] (λ e f. let n = pattern-is t e in (n.0, ap (λ x. x ∷ []) (sym n.1), refl))
met-undoes goal.Op t = when_met-holds (Undoes goal.Op t) (is_op t) Plain [] (λ e f. let n = op-is t e in (n.0, ap (λ x. x ∷ []) (sym n.1), refl))
met-undoes (goal.Expr n) t = begun_undoes n t (expr_form t) (expr_form-holds t)
met-undoes (goal.Block n) t = when_met-holds (Undoes (goal.Block n) t) (is_sign OpenBrace t) (Opens n) (goal.Stmts (suc n) ∷ []) (λ e. block-undoes n t (sign-is OpenBrace t e))
met-undoes (goal.Stmts n) t = stmts-undo n t
met-undoes (goal.AfterIf n) t =
    cond-holds (Undoes (goal.AfterIf n) t) (is_word (codes "else") t) (Some (Plain, goal.Block n ∷ goal.Stmts n ∷ [])) (stmts_met n t)
    (λ e. else-undoes n t (word-is (codes "else") t e))
    (λ e. IfSome-map (Undoes (goal.Stmts n) t) (Undoes (goal.AfterIf n) t) (stmts_met n t) (after_if n t) (stmts-undo n t))
met-undoes goal.HeadEnd t =
    cond-holds (Undoes goal.HeadEnd t) (is_sign CloseBrace t) (Some (Plain, [])) _
    (λ e f. (false, ap (λ x. x ∷ []) (sym (sign-is CloseBrace t e)), refl))
    (λ e. when_met-holds (Undoes goal.HeadEnd t) (is_word (codes "causes") t) Plain _ (λ w f. (true, rw (word-is (codes "causes") t w) refl, refl)))
met-undoes goal.Instrs t = when_met-holds (Undoes goal.Instrs t) (is_word (codes "instr") t) Plain _ (λ e. instr-undoes t (word-is (codes "instr") t e))

-- ---- lists of goals

split : (hs gs : List Goal) (f : Filling (hs ++ gs)) →
    (a : Filling hs) × (b : Filling gs) × (tokens (hs ++ gs) f ≡ tokens hs a ++ tokens gs b) × (marks_of (hs ++ gs) f ≡ marks_of hs a ++ marks_of gs b)
split [] gs f = (tt, f, refl, refl)
split (h ∷ hs) gs f =
    let s = split hs gs f.1 in
    ((f.0, s.0), s.1, rw (s.2) (sym (append_assoc (part_tokens h f.0) (tokens hs s.0) (tokens gs s.1))), rw (s.3) (sym (append_assoc (part_marks h f.0) (marks_of hs s.0) (marks_of gs s.1))))

-- behind this token and its mark a filling of these goals makes one of the goals gs
abbrev UndoesAll : List Goal → Tok → Mark × List Goal → Type 0
UndoesAll gs t p = (f : Filling p.1) → (all : Filling gs) × (tokens gs all ≡ t ∷ tokens p.1 f) × (marks_of gs all ≡ p.0 ∷ marks_of p.1 f)

followed-undoes : (g : Goal) (gs : List Goal) (t : Tok) (x : Option (Mark × List Goal)) → IfSome x (Undoes g t) → IfSome (followed x gs) (UndoesAll (g ∷ gs) t)
followed-undoes g gs t None h = tt
followed-undoes g gs t (Some p) h = λ f.
    let s = split p.1 gs f in let q = h s.0 in
    ((q.0, s.1), rw (q.1, s.2) refl, rw (q.2, s.3) refl)

taken-undoes : (gs : List Goal) (t : Tok) → IfSome (taken gs t) (UndoesAll gs t)
unfolding taken
taken-undoes [] t = tt
taken-undoes (g ∷ gs) t = followed-undoes g gs t (met g t) (met-undoes g t)

-- behind these tokens and their marks a filling of the goals that are left makes one of the goals gs
abbrev pub Fills : List Goal → List Tok → List Mark × List Goal → Type 0
Fills gs ts p = (f : Filling p.1) → (all : Filling gs) × (tokens gs all ≡ ts ++ tokens p.1 f) × (marks_of gs all ≡ p.0 ++ marks_of p.1 f)

with_mark-fills : (gs left : List Goal) (t : Tok) (m : Mark) (ts : List Tok) (x : Option (List Mark × List Goal)) → UndoesAll gs t (m, left) → IfSome x (Fills left ts) → IfSome (with_mark m x) (Fills gs (t ∷ ts))
with_mark-fills gs left t m ts None one h = tt
with_mark-fills gs left t m ts (Some p) one h = λ f.
    let q = h f in let a = one q.0 in
    (a.0, rw (a.1, q.1) refl, rw (a.2, q.2) refl)

traced-fills : (gs : List Goal) (t : Tok) (ts : List Tok) (x : Option (Mark × List Goal)) → IfSome x (UndoesAll gs t) → ((left : List Goal) → IfSome (trace left ts) (Fills left ts)) →
    IfSome (traced x (λ left. trace left ts)) (Fills gs (t ∷ ts))
traced-fills gs t ts None h more = tt
traced-fills gs t ts (Some p) h more = with_mark-fills gs p.1 t p.0 ts (trace p.1 ts) h (more p.1)

-- tokens that meet goals begin a filling of them, wherever the goals that are left can be filled
pub trace_fills : (ts : List Tok) (gs : List Goal) → IfSome (trace gs ts) (Fills gs ts)
trace_fills [] gs = λ f. (f, refl, refl)
trace_fills (t ∷ ts) gs = traced-fills gs t ts (taken gs t) (taken-undoes gs t) (trace_fills ts)
