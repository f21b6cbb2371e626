-- Going over tokens with a list of goals: the parts of a description that are still to come. A token meets the first goal,
-- or is wrong.
use Rattle.std.specs.Prelude.{◌≡◌, ℕ, suc, Bool, true, false, cond, ◌==◌, List, [], ◌∷◌, ◌++◌, Option, None, Some, codes, bytes_eq}
use Rattle.std.specs.List.{list_all}
use Rattle.pg_lang_token.specs.Words.{is_name, is_pattern_byte}
use Rattle.pg_lang_token.specs.declared.tok.Tok.{Tok}
use Rattle.pg_lang_token.specs.declared.tok.Tok.TheVariants.{Word, Number, Pattern, Sign}
use Rattle.pg_lang_token.specs.declared.tok.Sign.{Sign as Signs}
use Rattle.pg_lang_token.specs.declared.tok.Sign.TheVariants.{OpenBrace, CloseBrace, OpenParen, CloseParen, OpenBracket, CloseBracket, Semicolon, Comma, Colon, Equals, Tilde}
use Rattle.pg_text.specs.declared.place.Span.{Span}
use Rattle.pg_ast.specs.declared.tree.Op.{Op}
use Rattle.pg_ast.specs.Reading.{sign_number, op_of}
use Rattle.pg_read.specs.declared.fault.DescFault.{DescFault}
use Rattle.pg_read.specs.declared.fault.DescFault.TheVariants.{Long, Token, Grammar, Deep, Memory}
use Rattle.pg_read.specs.declared.words.ExprWord.{ExprWord}
use Rattle.pg_read.specs.declared.words.ExprWord.TheVariants as expr
use Rattle.pg_read.specs.declared.words.StmtWord.{StmtWord}
use Rattle.pg_read.specs.declared.words.StmtWord.TheVariants as stmt
use Rattle.pg_read.specs.declared.words.HeadWord.{HeadWord}
use Rattle.pg_read.specs.declared.words.HeadWord.TheVariants as head
use Rattle.pg_read.specs.declared.goals.Goal.{Goal}
use Rattle.pg_read.specs.declared.goals.Goal.TheVariants as goal
use Rattle.pg_read.specs.declared.forms.ExprForm.{ExprForm}
use Rattle.pg_read.specs.declared.forms.ExprForm.TheVariants as form
use Rattle.pg_read.specs.declared.judge.Step.{Step}
use Rattle.pg_read.specs.declared.judge.Step.TheVariants as step
use Rattle.pg_read.specs.Keywords.{expr_word, stmt_word}
use Rattle.pg_read.specs.Marks.{Mark, Begins, Opens, Plain, is_deep}

-- ---- one token

abbrev pub is_sign : Signs → Tok → Bool
is_sign s (Sign t) = sign_number t == sign_number s
is_sign s (Word w) = false
is_sign s (Number n) = false
is_sign s (Pattern w) = false

abbrev pub is_word : List ℕ → Tok → Bool
is_word w (Word v) = bytes_eq v w
is_word w (Number n) = false
is_word w (Pattern v) = false
is_word w (Sign t) = false

abbrev pub is_number : Tok → Bool
is_number (Number n) = true
is_number (Word w) = false
is_number (Pattern w) = false
is_number (Sign s) = false

abbrev pub is_named : Tok → Bool
is_named (Word w) = is_name w
is_named (Number n) = false
is_named (Pattern w) = false
is_named (Sign s) = false

abbrev pub is_patterned : Tok → Bool
is_patterned (Pattern w) = list_all is_pattern_byte w
is_patterned (Word w) = false
is_patterned (Number n) = false
is_patterned (Sign s) = false

abbrev pub is_found : Option Op → Bool
is_found (Some op) = true
is_found None = false

abbrev pub is_op : Tok → Bool
is_op (Sign s) = is_found (op_of s)
is_op (Word w) = false
is_op (Number n) = false
is_op (Pattern w) = false

-- ---- the forms that a token begins

abbrev pub form_of_word : Option ExprWord → Option ExprForm
form_of_word (Some k) = Some (form.Word k)
form_of_word None = None

-- the form of expressions that begin with this sign
abbrev pub form_of_sign : Signs → Option ExprForm
form_of_sign Tilde = Some form.Not
form_of_sign OpenParen = Some form.Bin
form_of_sign _ = None

-- the form of expressions that begin with this token
unfoldable pub expr_form : Tok → Option ExprForm
expr_form (Number v) = Some form.Lit
expr_form (Word w) = cond (is_name w) (Some form.Name) (form_of_word (expr_word w))
expr_form (Pattern w) = None
expr_form (Sign s) = form_of_sign s

-- the word of statements that begin with this token
abbrev pub stmt_form : Tok → Option StmtWord
stmt_form (Word w) = stmt_word w
stmt_form (Number n) = None
stmt_form (Pattern w) = None
stmt_form (Sign s) = None

-- ---- what comes behind the first token

-- of an expression whose parts have level n
abbrev pub expr_goals : ExprForm → ℕ → List Goal
expr_goals form.Lit n = goal.Sign Colon ∷ goal.Number ∷ []
expr_goals form.Name n = []
expr_goals form.Not n = goal.Expr n ∷ []
expr_goals form.Bin n = goal.Expr n ∷ goal.Op ∷ goal.Expr n ∷ goal.Sign CloseParen ∷ []
expr_goals (form.Word expr.Pc) n = []
expr_goals (form.Word expr.Mode) n = []
expr_goals (form.Word expr.Rel) n = []
expr_goals (form.Word expr.Bound) n = []
expr_goals (form.Word expr.Mem) n = goal.Sign OpenBracket ∷ goal.Expr n ∷ goal.Sign CloseBracket ∷ []
expr_goals (form.Word expr.Cat) n =
    goal.Sign OpenParen ∷ goal.Expr n ∷ goal.Sign Comma ∷ goal.Expr n ∷ goal.Sign CloseParen ∷ []
expr_goals (form.Word expr.Cut) n =
    goal.Sign OpenParen ∷ goal.Expr n ∷ goal.Sign Comma ∷ goal.Number ∷ goal.Sign Comma ∷ goal.Number ∷ goal.Sign CloseParen ∷ []
expr_goals (form.Word expr.Ext) n = goal.Sign OpenParen ∷ goal.Expr n ∷ goal.Sign Comma ∷ goal.Number ∷ goal.Sign CloseParen ∷ []
expr_goals (form.Word expr.Sext) n = goal.Sign OpenParen ∷ goal.Expr n ∷ goal.Sign Comma ∷ goal.Number ∷ goal.Sign CloseParen ∷ []
expr_goals (form.Word expr.Sel) n =
    goal.Sign OpenParen ∷ goal.Expr n ∷ goal.Sign Comma ∷ goal.Expr n ∷ goal.Sign Comma ∷ goal.Expr n ∷ goal.Sign CloseParen ∷ []

-- of an assignment, and the statements behind it
abbrev pub assign_goals : ℕ → List Goal
assign_goals n = goal.Sign Equals ∷ goal.Expr 1 ∷ goal.Sign Semicolon ∷ goal.Stmts n ∷ []

-- of a statement where blocks inside have level n, and the statements behind it
abbrev pub stmt_goals : StmtWord → ℕ → List Goal
stmt_goals stmt.Let n = goal.Name ∷ goal.Sign Equals ∷ goal.Expr 1 ∷ goal.Sign Semicolon ∷ goal.Stmts n ∷ []
stmt_goals stmt.Mem n =
    goal.Sign OpenBracket ∷ goal.Expr 1 ∷ goal.Sign CloseBracket ∷ goal.Sign Equals ∷ goal.Expr 1 ∷ goal.Sign Semicolon ∷ goal.Stmts n ∷ []
stmt_goals stmt.Pc n = assign_goals n
stmt_goals stmt.Mode n = assign_goals n
stmt_goals stmt.Rel n = assign_goals n
stmt_goals stmt.Bound n = assign_goals n
stmt_goals stmt.Trap n = goal.Sign Semicolon ∷ goal.Stmts n ∷ []
stmt_goals stmt.If n = goal.Expr 1 ∷ goal.Block n ∷ goal.AfterIf n ∷ []

-- ---- one goal

-- the word of the head
abbrev pub head_word : HeadWord → List ℕ
head_word head.Machine = codes "machine"
head_word head.Word = codes "word"
head_word head.Address = codes "address"
head_word head.Size = codes "size"
head_word head.On = codes "on"

-- where the token is met, its mark and what comes behind it
abbrev pub when_met : Bool → Mark → List Goal → Option (Mark × List Goal)
when_met true m gs = Some (m, gs)
when_met false m gs = None

abbrev pub when_begun : Option ExprForm → ℕ → Option (Mark × List Goal)
when_begun None n = None
when_begun (Some f) n = Some (Begins n, expr_goals f (suc n))

abbrev pub when_stated : Option StmtWord → ℕ → Option (Mark × List Goal)
when_stated None n = None
when_stated (Some k) n = Some (Plain, stmt_goals k n)

-- a statement, or the closing brace
abbrev pub stmts_met : ℕ → Tok → Option (Mark × List Goal)
stmts_met n t = cond (is_sign CloseBrace t) (Some (Plain, [])) (when_stated (stmt_form t) n)

-- what a token that meets a goal does to depth, and what comes behind it in the goal's place
unfoldable pub met : Goal → Tok → Option (Mark × List Goal)
met (goal.Sign s) t = when_met (is_sign s t) Plain []
met (goal.Word w) t = when_met (is_word (head_word w) t) Plain []
met goal.Number t = when_met (is_number t) Plain []
met goal.Name t = when_met (is_named t) Plain []
met goal.Pattern t = when_met (is_patterned t) Plain []
met goal.Op t = when_met (is_op t) Plain []
met (goal.Expr n) t = when_begun (expr_form t) n
met (goal.Block n) t = when_met (is_sign OpenBrace t) (Opens n) (goal.Stmts (suc n) ∷ [])
met (goal.Stmts n) t = stmts_met n t
met (goal.AfterIf n) t = cond (is_word (codes "else") t) (Some (Plain, goal.Block n ∷ goal.Stmts n ∷ [])) (stmts_met n t)
met goal.HeadEnd t =
    cond (is_sign CloseBrace t) (Some (Plain, []))
    (when_met (is_word (codes "causes") t) Plain (goal.Word head.On ∷ goal.Sign Semicolon ∷ goal.Sign CloseBrace ∷ []))
met goal.Instrs t = when_met (is_word (codes "instr") t) Plain (goal.Name ∷ goal.Pattern ∷ goal.Block 1 ∷ goal.Instrs ∷ [])

-- ---- all of them

-- with the other goals behind
abbrev pub followed : Option (Mark × List Goal) → List Goal → Option (Mark × List Goal)
followed None gs = None
followed (Some p) gs = Some (p.0, p.1 ++ gs)

-- the same of a list of goals, of which the first is met
unfoldable pub taken : List Goal → Tok → Option (Mark × List Goal)
taken [] t = None
taken (g ∷ gs) t = followed (met g t) gs

-- a description, from its first token on
abbrev pub desc_goals : List Goal
desc_goals =
    goal.Word head.Machine ∷ goal.Sign OpenBrace ∷ goal.Word head.Word ∷ goal.Number ∷ goal.Sign Semicolon ∷ goal.Word head.Address ∷
    goal.Number ∷ goal.Sign Semicolon ∷ goal.Word head.Size ∷ goal.Number ∷ goal.Sign Semicolon ∷ goal.HeadEnd ∷ goal.Instrs ∷ []

-- what becomes of a token: it is wrong, it is too deep, or it leaves these goals
pub data Outcome : Type 0 where
  Fails : Outcome
  Sinks : Outcome
  Leaves : List Goal → Outcome

abbrev pub outcome : Option (Mark × List Goal) → Outcome
outcome None = Fails
outcome (Some p) = cond (is_deep p.0) Sinks (Leaves p.1)

-- what a step over a token answers, with the goals that it leaves
abbrev pub IsStep : Step → Outcome → List Goal → Type 0
IsStep step.On due left = due ≡ Leaves left
IsStep step.Deep due left = due ≡ Sinks
IsStep step.Wrong due left = due ≡ Fails

-- the fault of a token at this place, or what go says of the goals that it leaves
abbrev pub judged_by : Outcome → ℕ → (List Goal → DescFault) → DescFault
judged_by Fails place go = Grammar place
judged_by Sinks place go = Deep place
judged_by (Leaves gs) place go = go gs

-- the first fault of tokens, or else that they come to an end here
unfoldable pub judged : ℕ → List Goal → List (Tok × Span) → DescFault
judged end gs [] = Grammar end
judged end gs (t ∷ ts) = judged_by (outcome (taken gs t.0)) t.1.from (λ left. judged end left ts)

-- what a call answers is what is due, unless memory ran out
abbrev pub IsJudged : DescFault → DescFault → Type 0
IsJudged Memory due = Unit {0}
IsJudged Long due = due ≡ Long
IsJudged (Token place) due = due ≡ Token place
IsJudged (Grammar place) due = due ≡ Grammar place
IsJudged (Deep place) due = due ≡ Deep place
