-- The forms, step by step, are what the readers of trees give.
use Rattle.std.proofs.Common.{◌≡◌, ℕ, zero, suc, ◌-◌, ◌<◌, Bool, true, false, cond, ◌==◌, List, [], ◌∷◌, Option, None, Some, codes, bytes_eq, refl, arith}
use Rattle.pg_lang_token.specs.declared.tok.Tok.{Tok}
use Rattle.pg_lang_token.specs.declared.tok.Tok.TheVariants.{Word, Number, Pattern, Sign}
use Rattle.pg_lang_token.specs.declared.tok.Sign.{Sign as Signs}
use Rattle.pg_lang_token.specs.declared.tok.Sign.TheVariants.{OpenParen, Tilde}
use Rattle.pg_ast.specs.declared.tree.Expr.{Expr}
use Rattle.pg_ast.specs.declared.tree.Stmt.{Stmt}
use Rattle.pg_ast.specs.declared.tree.Stmt.TheVariants.{Store, If}
use Rattle.pg_ast.specs.Reading.{then_read, past_found, past_sign, past_word, past_op, past_name, past_number, sign_number, op_of, name_of, pattern_of, past_pattern, read_expr, read_level, read_keyword, read_sign, read_stmt_word, read_else}
use Rattle.pg_ast.proofs.Found.{name_of-none}
use Rattle.pg_read.specs.declared.words.ExprWord.{ExprWord}
use Rattle.pg_read.specs.declared.words.StmtWord.{StmtWord}
use Rattle.pg_read.specs.Steps.{number_at, name_at, pattern_at, op_at}
use Rattle.pg_read.specs.Keywords.{expr_word, stmt_word}
use Rattle.pg_read.specs.Forms.{lit_at, load_at, not_at, bin_at, cat_at, cut_at, ext_at, sext_at, sel_at, expr_word_at, value_at, address_at, let_at, store_at, assign_at, trap_at, else_found, if_at, stmt_word_at}

pub ruleset name_rules = (name_of-none)

pub read_expr-zero : (ts : List Tok) → read_expr 0 ts ≡ None
unfolding read_expr
read_expr-zero ts = refl

pub read_expr-below : (n : ℕ) (ts : List Tok) → 0 < n → read_expr n ts ≡ read_level (read_expr (n - 1)) ts
unfolding read_expr
read_expr-below zero ts h = absurd (omega arith)
read_expr-below (suc n) ts h = let e : suc n - 1 ≡ n = omega arith in rw e refl

pub ruleset expr_rules = (read_expr-zero, read_expr-below)

-- what is read behind a sign goes on behind it
pub then-past_sign : {A B : Type 0} (s : Signs) (ts : List Tok) (r : List Tok → Option (A × List Tok)) (go : A → List Tok → Option B) →
    then_read (past_sign s ts r) go ≡ past_sign s ts (λ us. then_read (r us) go)
then-past_sign s [] r go = refl
then-past_sign s (Word w ∷ ts) r go = refl
then-past_sign s (Number n ∷ ts) r go = refl
then-past_sign s (Pattern w ∷ ts) r go = refl
then-past_sign s (Sign t ∷ ts) r go =
    elim (sign_number t == sign_number s) as (λ c. then_read (cond c (r ts) None) go ≡ cond c (then_read (r ts) go) None) [ true ↦ refl | false ↦ refl ]

pub then-past_word : {A B : Type 0} (w : List ℕ) (ts : List Tok) (r : List Tok → Option (A × List Tok)) (go : A → List Tok → Option B) →
    then_read (past_word w ts r) go ≡ past_word w ts (λ us. then_read (r us) go)
then-past_word w [] r go = refl
then-past_word w (Word v ∷ ts) r go =
    elim (bytes_eq v w) as (λ c. then_read (cond c (r ts) None) go ≡ cond c (then_read (r ts) go) None) [ true ↦ refl | false ↦ refl ]
then-past_word w (Number n ∷ ts) r go = refl
then-past_word w (Pattern v ∷ ts) r go = refl
then-past_word w (Sign t ∷ ts) r go = refl

pub then-number_at : {B : Type 0} (ts : List Tok) (go : ℕ → List Tok → Option B) → then_read (number_at ts) go ≡ past_number ts go
then-number_at [] go = refl
then-number_at (Word w ∷ ts) go = refl
then-number_at (Number n ∷ ts) go = refl
then-number_at (Pattern w ∷ ts) go = refl
then-number_at (Sign t ∷ ts) go = refl

then-past_found : {A B : Type 0} (found : Option A) (ts : List Tok) (go : A → List Tok → Option B) →
    then_read (past_found found ts (λ a us. Some (a, us))) go ≡ past_found found ts go
then-past_found None ts go = refl
then-past_found (Some a) ts go = refl

pub then-op_at : {B : Type 0} (ts : List Tok) (go : _ → List Tok → Option B) → then_read (op_at ts) go ≡ past_op ts go
then-op_at [] go = refl
then-op_at (Word w ∷ ts) go = refl
then-op_at (Number n ∷ ts) go = refl
then-op_at (Pattern w ∷ ts) go = refl
then-op_at (Sign t ∷ ts) go = then-past_found (op_of t) ts go

-- a choice goes on in each of its branches
choice : {A B : Type 0} (f : A → B) (c : Bool) (x y : A) (u v : B) → f x ≡ u → f y ≡ v → f (cond c x y) ≡ cond c u v
choice f true x y u v h k = h
choice f false x y u v h k = k

module _ (r : List Tok → Option (Expr × List Tok)) (ts : List Tok) where
  pub lit-form : (v : ℕ) → lit_at v ts ≡ read_level r (Number v ∷ ts)
  unfolding lit_at read_level
  lit-form v = simp (then-past_sign, then-number_at)

  pub not-form : not_at r ts ≡ read_sign r Tilde ts
  unfolding not_at
  not-form = refl

  pub bin-form : bin_at r ts ≡ read_sign r OpenParen ts
  unfolding bin_at
  bin-form = simp (then-past_sign, then-op_at)

  pub keyword-form : (w : List ℕ) → expr_word_at r (expr_word w) ts ≡ read_keyword r w ts
  unfolding expr_word read_keyword load_at cat_at cut_at ext_at sext_at sel_at
  keyword-form w =
      let f : Option ExprWord → Option (Expr × List Tok) = λ k. expr_word_at r k ts in
      choice f (bytes_eq w (codes "pc")) _ _ _ _ refl (choice f (bytes_eq w (codes "mode")) _ _ _ _ refl (
      choice f (bytes_eq w (codes "rel")) _ _ _ _ refl (choice f (bytes_eq w (codes "bound")) _ _ _ _ refl (
      choice f (bytes_eq w (codes "mem")) _ _ _ _ (simp then-past_sign) (
      choice f (bytes_eq w (codes "cat")) _ _ _ _ (simp then-past_sign) (
      choice f (bytes_eq w (codes "cut")) _ _ _ _ (simp (then-past_sign, then-number_at)) (
      choice f (bytes_eq w (codes "ext")) _ _ _ _ (simp (then-past_sign, then-number_at)) (
      choice f (bytes_eq w (codes "sext")) _ _ _ _ (simp (then-past_sign, then-number_at)) (
      choice f (bytes_eq w (codes "sel")) _ _ _ _ (simp then-past_sign) refl)))))))))

pub ruleset sign_rules = (bin-form)

pub ruleset keyword_rules = (keyword-form)

pub then-name_at : {B : Type 0} (ts : List Tok) (go : _ → List Tok → Option B) → then_read (name_at ts) go ≡ past_name ts go
then-name_at [] go = refl
then-name_at (Word w ∷ ts) go = then-past_found (name_of w) ts go
then-name_at (Number n ∷ ts) go = refl
then-name_at (Pattern w ∷ ts) go = refl
then-name_at (Sign t ∷ ts) go = refl

pub then-pattern_at : {B : Type 0} (ts : List Tok) (go : _ → List Tok → Option B) → then_read (pattern_at ts) go ≡ past_pattern ts go
then-pattern_at [] go = refl
then-pattern_at (Word w ∷ ts) go = refl
then-pattern_at (Number n ∷ ts) go = refl
then-pattern_at (Pattern w ∷ ts) go = then-past_found (pattern_of w) ts go
then-pattern_at (Sign t ∷ ts) go = refl

-- reading twice in a row
pub then-then : {A B C : Type 0} (x : Option (A × List Tok)) (f : A → List Tok → Option (B × List Tok)) (go : B → List Tok → Option C) →
    then_read (then_read x f) go ≡ then_read x (λ a us. then_read (f a us) go)
then-then None f go = refl
then-then (Some p) f go = refl

-- a store is an address and what is assigned
pub store-form : (r : List Tok → Option (Expr × List Tok)) (ts : List Tok) →
    store_at r ts ≡ then_read (address_at r ts) (λ a us. then_read (value_at r us) (λ e rest. Some (Store a e, rest)))
unfolding store_at address_at
store-form r ts = simp then-then

pub ruleset store_rules = (store-form)

module _ (x : List Tok → Option (Expr × List Tok)) (b : List Tok → Option (List Stmt × List Tok)) where
  else-form : (c : Expr) (held : List Stmt) (ts : List Tok) (found : Option (List Tok)) →
      then_read (else_found b ts found) (λ other rest. Some (If c held other, rest)) ≡ read_else b c held ts found
  else-form c held ts None = refl
  else-form c held ts (Some us) = simp (then-then, then-past_sign)

  pub stmt-form : (w : List ℕ) (ts : List Tok) → stmt_word_at x b (stmt_word w) ts ≡ read_stmt_word x b w ts
  unfolding stmt_word read_stmt_word let_at store_at assign_at trap_at if_at value_at
  stmt-form w ts =
      let f : Option StmtWord → Option (Stmt × List Tok) = λ k. stmt_word_at x b k ts in
      choice f (bytes_eq w (codes "let")) _ _ _ _ (simp (then-then, then-past_sign, then-name_at)) (
      choice f (bytes_eq w (codes "mem")) _ _ _ _ (simp (then-then, then-past_sign)) (
      choice f (bytes_eq w (codes "pc")) _ _ _ _ (simp (then-then, then-past_sign)) (
      choice f (bytes_eq w (codes "mode")) _ _ _ _ (simp (then-then, then-past_sign)) (
      choice f (bytes_eq w (codes "rel")) _ _ _ _ (simp (then-then, then-past_sign)) (
      choice f (bytes_eq w (codes "bound")) _ _ _ _ (simp (then-then, then-past_sign)) (
      choice f (bytes_eq w (codes "trap")) _ _ _ _ (simp then-past_sign) (
      choice f (bytes_eq w (codes "if")) _ _ _ _ (simp (then-past_sign, else-form)) refl)))))))

pub ruleset stmt_rules = (stmt-form)
