-- Trees that fill goals. A token that meets a goal begins a filling of it, wherever what comes behind the token can be filled.
use Rattle.std.proofs.Common.{◌≡◌, ℕ, suc, Bool, false, map, List, [], ◌∷◌, ◌++◌, Option, None, Some, IfSome, codes, bytes_eq, ap, refl}
use Rattle.std.proofs.lemmas.List.{append_assoc, append-nil}
use Rattle.pg_lang_token.specs.Words.{is_name}
use Rattle.pg_lang_token.specs.declared.tok.Tok.{Tok}
use Rattle.pg_lang_token.specs.declared.tok.Tok.TheVariants.{Word, Number, Pattern, Sign}
use Rattle.pg_lang_token.specs.declared.tok.Sign.{Sign as Signs}
use Rattle.pg_lang_token.specs.declared.tok.Sign.TheVariants.{OpenBrace, CloseBrace, OpenParen, CloseParen, OpenBracket, CloseBracket, Semicolon, Comma, Colon, Equals, DoubleEquals, Tilde, Plus, Minus, Star, Ampersand, Bar, Caret, LessThan, DoubleLess, DoubleGreater}
use Rattle.pg_ast.specs.declared.name.Name.{Name as Names}
use Rattle.pg_ast.specs.declared.name.PatternText.{PatternText}
use Rattle.pg_ast.specs.declared.tree.Op.{Op}
use Rattle.pg_ast.specs.declared.tree.Op.TheVariants as op
use Rattle.pg_ast.specs.declared.tree.Expr.{Expr}
use Rattle.pg_ast.specs.declared.tree.Expr.TheVariants as expr
use Rattle.pg_ast.specs.declared.tree.Stmt.{Stmt}
use Rattle.pg_ast.specs.declared.tree.Stmt.TheVariants as stmt
use Rattle.pg_ast.specs.ExprTokens.{expr_tokens, sign_of}
use Rattle.pg_ast.specs.Tokens.{stmt_tokens, flat, block_tokens, else_tokens, causes_tokens}
use Rattle.pg_ast.proofs.Exact.{same_word, cond-holds}
use Rattle.pg_ast.proofs.ExprEquations as exprs
use Rattle.pg_ast.proofs.StmtEquations as stmts
use Rattle.pg_read.specs.declared.words.ExprWord.{ExprWord}
use Rattle.pg_read.specs.declared.words.ExprWord.TheVariants as called
use Rattle.pg_read.specs.declared.words.StmtWord.{StmtWord}
use Rattle.pg_read.specs.declared.words.StmtWord.TheVariants as stated
use Rattle.pg_read.specs.declared.goals.Goal.{Goal}
use Rattle.pg_read.specs.declared.goals.Goal.TheVariants as goal
use Rattle.pg_read.specs.declared.forms.ExprForm.{ExprForm}
use Rattle.pg_read.specs.declared.forms.ExprForm.TheVariants as form
use Rattle.pg_read.specs.Keywords.{expr_word, stmt_word}
use Rattle.pg_read.specs.Marks.{Mark, Begins, Opens, Plain, expr_marks, stmt_marks, marks_within, block_marks, else_marks}
use Rattle.pg_read.specs.Fronts.{WideInstr, wide_instr_tokens, instrs_marks}
use Rattle.pg_read.specs.Goals.{form_of_word, form_of_sign, expr_form, stmt_form, expr_goals, stmt_goals, head_word, when_begun, when_stated}
use Rattle.pg_read.proofs.MarkEquations as marks

-- what fills a goal
abbrev pub Part : Goal → Type 0
Part (goal.Sign s) = Unit {0}
Part (goal.Word w) = Unit {0}
Part goal.Number = ℕ
Part goal.Name = Names
Part goal.Pattern = PatternText
Part goal.Op = Op
Part (goal.Expr n) = Expr
Part (goal.Block n) = List Stmt
Part (goal.Stmts n) = List Stmt
Part (goal.AfterIf n) = Option (List Stmt) × List Stmt
Part goal.HeadEnd = Bool
Part goal.Instrs = List WideInstr

-- statements, and the closing brace
abbrev pub stmts_tokens : List Stmt → List Tok
stmts_tokens ss = flat (map stmt_tokens ss) ++ Sign CloseBrace ∷ []

abbrev pub stmts_marks : ℕ → List Stmt → List Mark
stmts_marks n ss = marks_within n (map stmt_marks ss) ++ Plain ∷ []

abbrev pub other_tokens : Option (List Stmt) → List Tok
other_tokens None = []
other_tokens (Some ss) = Word (codes "else") ∷ Sign OpenBrace ∷ stmts_tokens ss

abbrev pub other_marks : ℕ → Option (List Stmt) → List Mark
other_marks n None = []
other_marks n (Some ss) = Plain ∷ Opens n ∷ stmts_marks (suc n) ss

abbrev pub part_tokens : (g : Goal) → Part g → List Tok
part_tokens (goal.Sign s) p = Sign s ∷ []
part_tokens (goal.Word w) p = Word (head_word w) ∷ []
part_tokens goal.Number n = Number n ∷ []
part_tokens goal.Name x = Word x.bytes ∷ []
part_tokens goal.Pattern p = Pattern p.bytes ∷ []
part_tokens goal.Op o = Sign (sign_of o) ∷ []
part_tokens (goal.Expr n) e = expr_tokens e
part_tokens (goal.Block n) ss = Sign OpenBrace ∷ stmts_tokens ss
part_tokens (goal.Stmts n) ss = stmts_tokens ss
part_tokens (goal.AfterIf n) p = other_tokens p.0 ++ stmts_tokens p.1
part_tokens goal.HeadEnd c = causes_tokens c ++ Sign CloseBrace ∷ []
part_tokens goal.Instrs is = flat (map wide_instr_tokens is)

abbrev pub part_marks : (g : Goal) → Part g → List Mark
part_marks (goal.Sign s) p = Plain ∷ []
part_marks (goal.Word w) p = Plain ∷ []
part_marks goal.Number n = Plain ∷ []
part_marks goal.Name x = Plain ∷ []
part_marks goal.Pattern p = Plain ∷ []
part_marks goal.Op o = Plain ∷ []
part_marks (goal.Expr n) e = expr_marks e n
part_marks (goal.Block n) ss = Opens n ∷ stmts_marks (suc n) ss
part_marks (goal.Stmts n) ss = stmts_marks n ss
part_marks (goal.AfterIf n) p = other_marks n p.0 ++ stmts_marks n p.1
part_marks goal.HeadEnd c = map (λ t. Plain) (causes_tokens c ++ Sign CloseBrace ∷ [])
part_marks goal.Instrs is = instrs_marks is

-- what fills goals
abbrev pub Filling : List Goal → Type 0
Filling [] = Unit {0}
Filling (g ∷ gs) = Part g × Filling gs

abbrev pub tokens : (gs : List Goal) → Filling gs → List Tok
tokens [] f = []
tokens (g ∷ gs) f = part_tokens g f.0 ++ tokens gs f.1

abbrev pub marks_of : (gs : List Goal) → Filling gs → List Mark
marks_of [] f = []
marks_of (g ∷ gs) f = part_marks g f.0 ++ marks_of gs f.1

-- each goal can be filled
abbrev some_part : (g : Goal) → Part g
some_part (goal.Sign s) = tt
some_part (goal.Word w) = tt
some_part goal.Number = 0
some_part goal.Name = record { bytes = codes "a"; is_name = refl }
some_part goal.Pattern = record { bytes = []; is_pattern = refl }
some_part goal.Op = op.Add
some_part (goal.Expr n) = expr.Pc
some_part (goal.Block n) = []
some_part (goal.Stmts n) = []
some_part (goal.AfterIf n) = (None, [])
some_part goal.HeadEnd = false
some_part goal.Instrs = []

pub some_filling : (gs : List Goal) → Filling gs
some_filling [] = tt
some_filling (g ∷ gs) = (some_part g, some_filling gs)

-- behind this token and its mark a filling of these goals makes one of the goal g
abbrev pub Makes : Goal → Tok → Mark → List Goal → Type 0
Makes g t m gs = (f : Filling gs) → (p : Part g) × (part_tokens g p ≡ t ∷ tokens gs f) × (part_marks g p ≡ m ∷ marks_of gs f)

abbrev pub Undoes : Goal → Tok → Mark × List Goal → Type 0
Undoes g t p = Makes g t p.0 p.1

-- ---- expressions

abbrev expr_bytes : ExprWord → List ℕ
expr_bytes called.Pc = codes "pc"
expr_bytes called.Mode = codes "mode"
expr_bytes called.Rel = codes "rel"
expr_bytes called.Bound = codes "bound"
expr_bytes called.Mem = codes "mem"
expr_bytes called.Cat = codes "cat"
expr_bytes called.Cut = codes "cut"
expr_bytes called.Ext = codes "ext"
expr_bytes called.Sext = codes "sext"
expr_bytes called.Sel = codes "sel"

expr_word-holds : (w : List ℕ) → IfSome (expr_word w) (λ k. w ≡ expr_bytes k)
unfolding expr_word
expr_word-holds w =
    let all : ExprWord → Type 0 = λ k. w ≡ expr_bytes k in
    cond-holds all (bytes_eq w (codes "pc")) _ _ (λ same. same_word w (codes "pc") same) (λ other.
    cond-holds all (bytes_eq w (codes "mode")) _ _ (λ same. same_word w (codes "mode") same) (λ other.
    cond-holds all (bytes_eq w (codes "rel")) _ _ (λ same. same_word w (codes "rel") same) (λ other.
    cond-holds all (bytes_eq w (codes "bound")) _ _ (λ same. same_word w (codes "bound") same) (λ other.
    cond-holds all (bytes_eq w (codes "mem")) _ _ (λ same. same_word w (codes "mem") same) (λ other.
    cond-holds all (bytes_eq w (codes "cat")) _ _ (λ same. same_word w (codes "cat") same) (λ other.
    cond-holds all (bytes_eq w (codes "cut")) _ _ (λ same. same_word w (codes "cut") same) (λ other.
    cond-holds all (bytes_eq w (codes "ext")) _ _ (λ same. same_word w (codes "ext") same) (λ other.
    cond-holds all (bytes_eq w (codes "sext")) _ _ (λ same. same_word w (codes "sext") same) (λ other.
    cond-holds all (bytes_eq w (codes "sel")) _ _ (λ same. same_word w (codes "sel") same) (λ other.
    tt))))))))))

-- the first token of a form
abbrev IsFirst : Tok → ExprForm → Type 0
IsFirst t form.Lit = (v : ℕ) × (t ≡ Number v)
IsFirst t form.Name = (x : Names) × (t ≡ Word x.bytes)
IsFirst t form.Not = t ≡ Sign Tilde
IsFirst t form.Bin = t ≡ Sign OpenParen
IsFirst t (form.Word k) = t ≡ Word (expr_bytes k)

word_first : (w : List ℕ) (found : Option ExprWord) → IfSome found (λ k. w ≡ expr_bytes k) → IfSome (form_of_word found) (IsFirst (Word w))
word_first w None h = tt
word_first w (Some k) h = ap (λ v. Word v) h

sign_first : (s : Signs) → IfSome (form_of_sign s) (IsFirst (Sign s))
sign_first OpenBrace = tt
sign_first CloseBrace = tt
sign_first OpenParen = refl
sign_first CloseParen = tt
sign_first OpenBracket = tt
sign_first CloseBracket = tt
sign_first Semicolon = tt
sign_first Comma = tt
sign_first Colon = tt
sign_first Equals = tt
sign_first DoubleEquals = tt
sign_first Tilde = refl
sign_first Plus = tt
sign_first Minus = tt
sign_first Star = tt
sign_first Ampersand = tt
sign_first Bar = tt
sign_first Caret = tt
sign_first LessThan = tt
sign_first DoubleLess = tt
sign_first DoubleGreater = tt

pub expr_form-holds : (t : Tok) → IfSome (expr_form t) (IsFirst t)
unfolding expr_form
expr_form-holds (Number v) = (v, refl)
expr_form-holds (Word w) =
    cond-holds (IsFirst (Word w)) (is_name w) (Some form.Name) (form_of_word (expr_word w)) (λ e. (record { bytes = w; is_name = e }, refl)) (λ other. word_first w (expr_word w) (expr_word-holds w))
expr_form-holds (Pattern w) = tt
expr_form-holds (Sign s) = sign_first s

undo-lit : (n : ℕ) (t : Tok) → IsFirst t form.Lit → Makes (goal.Expr n) t (Begins n) (expr_goals form.Lit (suc n))
undo-lit n t e f = (expr.Lit e.0 f.1.0, rw (e.1, exprs.expr_tokens-lit e.0 f.1.0) refl, rw (marks.expr_marks-lit e.0 f.1.0 n) refl)

undo-name : (n : ℕ) (t : Tok) → IsFirst t form.Name → Makes (goal.Expr n) t (Begins n) (expr_goals form.Name (suc n))
undo-name n t e f = (expr.Name e.0, rw (e.1, exprs.expr_tokens-name e.0) refl, rw (marks.expr_marks-name e.0 n) refl)

undo-not : (n : ℕ) (t : Tok) → IsFirst t form.Not → Makes (goal.Expr n) t (Begins n) (expr_goals form.Not (suc n))
undo-not n t e f = (expr.Not f.0, rw (e, exprs.expr_tokens-not f.0) (simp append-nil), rw (marks.expr_marks-not f.0 n) (simp append-nil))

undo-bin : (n : ℕ) (t : Tok) → IsFirst t form.Bin → Makes (goal.Expr n) t (Begins n) (expr_goals form.Bin (suc n))
undo-bin n t e f = (expr.Bin f.1.0 f.0 f.1.1.0, rw (e, exprs.expr_tokens-bin f.1.0 f.0 f.1.1.0) (simp append_assoc), rw (marks.expr_marks-bin f.1.0 f.0 f.1.1.0 n) (simp append_assoc))

undo-pc : (n : ℕ) (t : Tok) → IsFirst t (form.Word called.Pc) → Makes (goal.Expr n) t (Begins n) (expr_goals (form.Word called.Pc) (suc n))
undo-pc n t e f = (expr.Pc, rw (e, exprs.expr_tokens-pc) refl, rw (marks.expr_marks-pc n) refl)

undo-mode : (n : ℕ) (t : Tok) → IsFirst t (form.Word called.Mode) → Makes (goal.Expr n) t (Begins n) (expr_goals (form.Word called.Mode) (suc n))
undo-mode n t e f = (expr.Mode, rw (e, exprs.expr_tokens-mode) refl, rw (marks.expr_marks-mode n) refl)

undo-rel : (n : ℕ) (t : Tok) → IsFirst t (form.Word called.Rel) → Makes (goal.Expr n) t (Begins n) (expr_goals (form.Word called.Rel) (suc n))
undo-rel n t e f = (expr.Rel, rw (e, exprs.expr_tokens-rel) refl, rw (marks.expr_marks-rel n) refl)

undo-bound : (n : ℕ) (t : Tok) → IsFirst t (form.Word called.Bound) → Makes (goal.Expr n) t (Begins n) (expr_goals (form.Word called.Bound) (suc n))
undo-bound n t e f = (expr.Bound, rw (e, exprs.expr_tokens-bound) refl, rw (marks.expr_marks-bound n) refl)

undo-load : (n : ℕ) (t : Tok) → IsFirst t (form.Word called.Mem) → Makes (goal.Expr n) t (Begins n) (expr_goals (form.Word called.Mem) (suc n))
undo-load n t e f = (expr.Load f.1.0, rw (e, exprs.expr_tokens-load f.1.0) refl, rw (marks.expr_marks-load f.1.0 n) refl)

undo-cat : (n : ℕ) (t : Tok) → IsFirst t (form.Word called.Cat) → Makes (goal.Expr n) t (Begins n) (expr_goals (form.Word called.Cat) (suc n))
undo-cat n t e f = (expr.Cat f.1.0 f.1.1.1.0, rw (e, exprs.expr_tokens-cat f.1.0 f.1.1.1.0) (simp append_assoc), rw (marks.expr_marks-cat f.1.0 f.1.1.1.0 n) (simp append_assoc))

undo-cut : (n : ℕ) (t : Tok) → IsFirst t (form.Word called.Cut) → Makes (goal.Expr n) t (Begins n) (expr_goals (form.Word called.Cut) (suc n))
undo-cut n t e f = (expr.Cut f.1.0 f.1.1.1.0 f.1.1.1.1.1.0, rw (e, exprs.expr_tokens-cut f.1.0 f.1.1.1.0 f.1.1.1.1.1.0) refl, rw (marks.expr_marks-cut f.1.0 f.1.1.1.0 f.1.1.1.1.1.0 n) refl)

undo-ext : (n : ℕ) (t : Tok) → IsFirst t (form.Word called.Ext) → Makes (goal.Expr n) t (Begins n) (expr_goals (form.Word called.Ext) (suc n))
undo-ext n t e f = (expr.Ext f.1.0 f.1.1.1.0, rw (e, exprs.expr_tokens-ext f.1.0 f.1.1.1.0) refl, rw (marks.expr_marks-ext f.1.0 f.1.1.1.0 n) refl)

undo-sext : (n : ℕ) (t : Tok) → IsFirst t (form.Word called.Sext) → Makes (goal.Expr n) t (Begins n) (expr_goals (form.Word called.Sext) (suc n))
undo-sext n t e f = (expr.Sext f.1.0 f.1.1.1.0, rw (e, exprs.expr_tokens-sext f.1.0 f.1.1.1.0) refl, rw (marks.expr_marks-sext f.1.0 f.1.1.1.0 n) refl)

undo-sel : (n : ℕ) (t : Tok) → IsFirst t (form.Word called.Sel) → Makes (goal.Expr n) t (Begins n) (expr_goals (form.Word called.Sel) (suc n))
undo-sel n t e f = (expr.Sel f.1.0 f.1.1.1.0 f.1.1.1.1.1.0, rw (e, exprs.expr_tokens-sel f.1.0 f.1.1.1.0 f.1.1.1.1.1.0) (simp append_assoc), rw (marks.expr_marks-sel f.1.0 f.1.1.1.0 f.1.1.1.1.1.0 n) (simp append_assoc))

undo-expr : (n : ℕ) (t : Tok) (k : ExprForm) → IsFirst t k → Makes (goal.Expr n) t (Begins n) (expr_goals k (suc n))
undo-expr n t form.Lit e = undo-lit n t e
undo-expr n t form.Name e = undo-name n t e
undo-expr n t form.Not e = undo-not n t e
undo-expr n t form.Bin e = undo-bin n t e
undo-expr n t (form.Word called.Pc) e = undo-pc n t e
undo-expr n t (form.Word called.Mode) e = undo-mode n t e
undo-expr n t (form.Word called.Rel) e = undo-rel n t e
undo-expr n t (form.Word called.Bound) e = undo-bound n t e
undo-expr n t (form.Word called.Mem) e = undo-load n t e
undo-expr n t (form.Word called.Cat) e = undo-cat n t e
undo-expr n t (form.Word called.Cut) e = undo-cut n t e
undo-expr n t (form.Word called.Ext) e = undo-ext n t e
undo-expr n t (form.Word called.Sext) e = undo-sext n t e
undo-expr n t (form.Word called.Sel) e = undo-sel n t e

pub begun_undoes : (n : ℕ) (t : Tok) (found : Option ExprForm) → IfSome found (IsFirst t) → IfSome (when_begun found n) (Undoes (goal.Expr n) t)
begun_undoes n t None h = tt
begun_undoes n t (Some k) h = undo-expr n t k h

-- ---- statements

abbrev stmt_bytes : StmtWord → List ℕ
stmt_bytes stated.Let = codes "let"
stmt_bytes stated.Mem = codes "mem"
stmt_bytes stated.Pc = codes "pc"
stmt_bytes stated.Mode = codes "mode"
stmt_bytes stated.Rel = codes "rel"
stmt_bytes stated.Bound = codes "bound"
stmt_bytes stated.Trap = codes "trap"
stmt_bytes stated.If = codes "if"

stmt_word-holds : (w : List ℕ) → IfSome (stmt_word w) (λ k. w ≡ stmt_bytes k)
unfolding stmt_word
stmt_word-holds w =
    let all : StmtWord → Type 0 = λ k. w ≡ stmt_bytes k in
    cond-holds all (bytes_eq w (codes "let")) _ _ (λ same. same_word w (codes "let") same) (λ other.
    cond-holds all (bytes_eq w (codes "mem")) _ _ (λ same. same_word w (codes "mem") same) (λ other.
    cond-holds all (bytes_eq w (codes "pc")) _ _ (λ same. same_word w (codes "pc") same) (λ other.
    cond-holds all (bytes_eq w (codes "mode")) _ _ (λ same. same_word w (codes "mode") same) (λ other.
    cond-holds all (bytes_eq w (codes "rel")) _ _ (λ same. same_word w (codes "rel") same) (λ other.
    cond-holds all (bytes_eq w (codes "bound")) _ _ (λ same. same_word w (codes "bound") same) (λ other.
    cond-holds all (bytes_eq w (codes "trap")) _ _ (λ same. same_word w (codes "trap") same) (λ other.
    cond-holds all (bytes_eq w (codes "if")) _ _ (λ same. same_word w (codes "if") same) (λ other.
    tt))))))))

word_begins : (w : List ℕ) (found : Option StmtWord) → IfSome found (λ k. w ≡ stmt_bytes k) → IfSome found (λ k. Word w ≡ Word (stmt_bytes k))
word_begins w None h = tt
word_begins w (Some k) h = ap (λ v. Word v) h

pub stmt_form-holds : (t : Tok) → IfSome (stmt_form t) (λ k. t ≡ Word (stmt_bytes k))
stmt_form-holds (Word w) = word_begins w (stmt_word w) (stmt_word-holds w)
stmt_form-holds (Number n) = tt
stmt_form-holds (Pattern w) = tt
stmt_form-holds (Sign s) = tt

undo-let : (n : ℕ) (t : Tok) → t ≡ Word (stmt_bytes stated.Let) → Makes (goal.Stmts n) t Plain (stmt_goals stated.Let n)
undo-let n t e f = ((stmt.Let f.0 f.1.1.0) ∷ f.1.1.1.1.0, rw (e, stmts.stmt_tokens-let f.0 f.1.1.0) (simp append_assoc), rw (marks.stmt_marks-let f.0 f.1.1.0 n) (simp append_assoc))

undo-store : (n : ℕ) (t : Tok) → t ≡ Word (stmt_bytes stated.Mem) → Makes (goal.Stmts n) t Plain (stmt_goals stated.Mem n)
undo-store n t e f = ((stmt.Store f.1.0 f.1.1.1.1.0) ∷ f.1.1.1.1.1.1.0, rw (e, stmts.stmt_tokens-store f.1.0 f.1.1.1.1.0) (simp append_assoc), rw (marks.stmt_marks-store f.1.0 f.1.1.1.1.0 n) (simp append_assoc))

undo-to_pc : (n : ℕ) (t : Tok) → t ≡ Word (stmt_bytes stated.Pc) → Makes (goal.Stmts n) t Plain (stmt_goals stated.Pc n)
undo-to_pc n t e f = ((stmt.Pc f.1.0) ∷ f.1.1.1.0, rw (e, stmts.stmt_tokens-pc f.1.0) (simp append_assoc), rw (marks.stmt_marks-pc f.1.0 n) (simp append_assoc))

undo-to_mode : (n : ℕ) (t : Tok) → t ≡ Word (stmt_bytes stated.Mode) → Makes (goal.Stmts n) t Plain (stmt_goals stated.Mode n)
undo-to_mode n t e f = ((stmt.Mode f.1.0) ∷ f.1.1.1.0, rw (e, stmts.stmt_tokens-mode f.1.0) (simp append_assoc), rw (marks.stmt_marks-mode f.1.0 n) (simp append_assoc))

undo-to_rel : (n : ℕ) (t : Tok) → t ≡ Word (stmt_bytes stated.Rel) → Makes (goal.Stmts n) t Plain (stmt_goals stated.Rel n)
undo-to_rel n t e f = ((stmt.Rel f.1.0) ∷ f.1.1.1.0, rw (e, stmts.stmt_tokens-rel f.1.0) (simp append_assoc), rw (marks.stmt_marks-rel f.1.0 n) (simp append_assoc))

undo-to_bound : (n : ℕ) (t : Tok) → t ≡ Word (stmt_bytes stated.Bound) → Makes (goal.Stmts n) t Plain (stmt_goals stated.Bound n)
undo-to_bound n t e f = ((stmt.Bound f.1.0) ∷ f.1.1.1.0, rw (e, stmts.stmt_tokens-bound f.1.0) (simp append_assoc), rw (marks.stmt_marks-bound f.1.0 n) (simp append_assoc))

undo-trap : (n : ℕ) (t : Tok) → t ≡ Word (stmt_bytes stated.Trap) → Makes (goal.Stmts n) t Plain (stmt_goals stated.Trap n)
undo-trap n t e f = (stmt.Trap ∷ f.1.0, rw (e, stmts.stmt_tokens-trap) (simp append_assoc), rw (marks.stmt_marks-trap n) (simp append_assoc))

regroup : {A : Type 0} (c h e m z : List A) → c ++ h ++ e ++ m ++ z ≡ c ++ (h ++ ((e ++ (m ++ z)) ++ []))
regroup c h e m z = simp (append_assoc, append-nil)

undo-parts_of_if : (n : ℕ) (t : Tok) → t ≡ Word (stmt_bytes stated.If) → (c : Expr) (held : List Stmt) (other : Option (List Stmt)) (more : List Stmt) →
    (ss : List Stmt) × (stmts_tokens ss ≡ t ∷ (expr_tokens c ++ ((Sign OpenBrace ∷ stmts_tokens held) ++ ((other_tokens other ++ stmts_tokens more) ++ []))))
    × (stmts_marks n ss ≡ Plain ∷ (expr_marks c 1 ++ ((Opens n ∷ stmts_marks (suc n) held) ++ ((other_marks n other ++ stmts_marks n more) ++ []))))
undo-parts_of_if n t e c held None more =
    (stmt.If c held None ∷ more, rw (e, stmts.stmt_tokens-if c held None) (simp append_assoc), rw (marks.stmt_marks-if c held None n) (simp append_assoc))
undo-parts_of_if n t e c held (Some other) more = (
  stmt.If c held (Some other) ∷ more,
  rw (e, stmts.stmt_tokens-if c held (Some other)) (ap (λ r. Word (codes "if") ∷ r) (regroup (expr_tokens c) (block_tokens (map stmt_tokens held)) (else_tokens (Some (map stmt_tokens other))) (flat (map stmt_tokens more)) (Sign CloseBrace ∷ []))),
  rw (marks.stmt_marks-if c held (Some other) n) (ap (λ r. Plain ∷ r) (regroup (expr_marks c 1) (block_marks n (map stmt_marks held)) (else_marks n (Some (map stmt_marks other))) (marks_within n (map stmt_marks more)) (Plain ∷ []))),
)

undo-if : (n : ℕ) (t : Tok) → t ≡ Word (stmt_bytes stated.If) → Makes (goal.Stmts n) t Plain (stmt_goals stated.If n)
undo-if n t e f = undo-parts_of_if n t e f.0 f.1.0 f.1.1.0.0 f.1.1.0.1

undo-stmt : (n : ℕ) (t : Tok) (k : StmtWord) → t ≡ Word (stmt_bytes k) → Makes (goal.Stmts n) t Plain (stmt_goals k n)
undo-stmt n t stated.Let e = undo-let n t e
undo-stmt n t stated.Mem e = undo-store n t e
undo-stmt n t stated.Pc e = undo-to_pc n t e
undo-stmt n t stated.Mode e = undo-to_mode n t e
undo-stmt n t stated.Rel e = undo-to_rel n t e
undo-stmt n t stated.Bound e = undo-to_bound n t e
undo-stmt n t stated.Trap e = undo-trap n t e
undo-stmt n t stated.If e = undo-if n t e

pub stated_undoes : (n : ℕ) (t : Tok) (found : Option StmtWord) → IfSome found (λ k. t ≡ Word (stmt_bytes k)) → IfSome (when_stated found n) (Undoes (goal.Stmts n) t)
stated_undoes n t None h = tt
stated_undoes n t (Some k) h = undo-stmt n t k h
