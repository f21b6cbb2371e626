-- The forms of expressions and statements behind their first token, step by step. The argument r reads an expression inside,
-- and b the statements of a block inside up to its end.
use Rattle.std.specs.Prelude.{ℕ, List, Option, None, Some}
use Rattle.pg_lang_token.specs.declared.tok.Tok.{Tok}
use Rattle.pg_lang_token.specs.declared.tok.Sign.TheVariants.{OpenBrace, OpenParen, CloseParen, OpenBracket, CloseBracket, Semicolon, Comma, Colon, Equals}
use Rattle.pg_ast.specs.declared.tree.Expr.{Expr}
use Rattle.pg_ast.specs.declared.tree.Expr.TheVariants.{Lit, Pc, Mode, Rel, Bound, Load, Not, Bin, Cat, Cut, Ext, Sext, Sel}
use Rattle.pg_ast.specs.declared.tree.Stmt.{Stmt}
use Rattle.pg_ast.specs.declared.tree.Stmt.TheVariants.{Let, Store, Pc as ToPc, Mode as ToMode, Rel as ToRel, Bound as ToBound, Trap, If}
use Rattle.pg_ast.specs.Reading.{then_read, past_sign, past_else}
use Rattle.pg_read.specs.declared.words.ExprWord.{ExprWord}
use Rattle.pg_read.specs.declared.words.ExprWord.TheVariants as expr
use Rattle.pg_read.specs.declared.words.StmtWord.{StmtWord}
use Rattle.pg_read.specs.declared.words.StmtWord.TheVariants as stmt
use Rattle.pg_read.specs.Steps.{alone, number_at, name_at, op_at}

-- the width of a constant of this value
unfoldable pub lit_at : ℕ → List Tok → Option (Expr × List Tok)
lit_at v ts = then_read (past_sign Colon ts number_at) (λ w rest. Some (Lit v w, rest))

unfoldable pub trap_at : List Tok → Option (Stmt × List Tok)
trap_at ts = then_read (past_sign Semicolon ts alone) (λ _ rest. Some (Trap, rest))

-- the block of an else, where that word was found
abbrev pub else_found : (b : List Tok → Option (List Stmt × List Tok)) → List Tok → Option (List Tok) → Option (Option (List Stmt) × List Tok)
else_found b ts None = Some (None, ts)
else_found b ts (Some us) = then_read (past_sign OpenBrace us b) (λ other rest. Some (Some other, rest))

module _ (r : List Tok → Option (Expr × List Tok)) where
  unfoldable pub load_at : List Tok → Option (Expr × List Tok)
  load_at ts =
      then_read (past_sign OpenBracket ts r) (λ e us. then_read (past_sign CloseBracket us alone) (λ _ rest. Some (Load e, rest)))

  unfoldable pub not_at : List Tok → Option (Expr × List Tok)
  not_at ts = then_read (r ts) (λ e rest. Some (Not e, rest))

  unfoldable pub bin_at : List Tok → Option (Expr × List Tok)
  bin_at ts =
      then_read (r ts) (λ x us. then_read (op_at us) (λ op vs. then_read (r vs) (λ y ws.
      then_read (past_sign CloseParen ws alone) (λ _ rest. Some (Bin op x y, rest)))))

  unfoldable pub cat_at : List Tok → Option (Expr × List Tok)
  cat_at ts =
      then_read (past_sign OpenParen ts r) (λ x us. then_read (past_sign Comma us r) (λ y vs.
      then_read (past_sign CloseParen vs alone) (λ _ rest. Some (Cat x y, rest))))

  unfoldable pub cut_at : List Tok → Option (Expr × List Tok)
  cut_at ts =
      then_read (past_sign OpenParen ts r) (λ e us. then_read (past_sign Comma us number_at) (λ h vs.
      then_read (past_sign Comma vs number_at) (λ k ws. then_read (past_sign CloseParen ws alone) (λ _ rest. Some (Cut e h k, rest)))))

  unfoldable pub ext_at : List Tok → Option (Expr × List Tok)
  ext_at ts =
      then_read (past_sign OpenParen ts r) (λ e us. then_read (past_sign Comma us number_at) (λ n vs.
      then_read (past_sign CloseParen vs alone) (λ _ rest. Some (Ext e n, rest))))

  unfoldable pub sext_at : List Tok → Option (Expr × List Tok)
  sext_at ts =
      then_read (past_sign OpenParen ts r) (λ e us. then_read (past_sign Comma us number_at) (λ n vs.
      then_read (past_sign CloseParen vs alone) (λ _ rest. Some (Sext e n, rest))))

  unfoldable pub sel_at : List Tok → Option (Expr × List Tok)
  sel_at ts =
      then_read (past_sign OpenParen ts r) (λ c us. then_read (past_sign Comma us r) (λ x vs. then_read (past_sign Comma vs r) (λ y ws.
      then_read (past_sign CloseParen ws alone) (λ _ rest. Some (Sel c x y, rest)))))

  -- what a word begins
  abbrev pub expr_word_at : Option ExprWord → List Tok → Option (Expr × List Tok)
  expr_word_at None ts = None
  expr_word_at (Some expr.Pc) ts = Some (Pc, ts)
  expr_word_at (Some expr.Mode) ts = Some (Mode, ts)
  expr_word_at (Some expr.Rel) ts = Some (Rel, ts)
  expr_word_at (Some expr.Bound) ts = Some (Bound, ts)
  expr_word_at (Some expr.Mem) ts = load_at ts
  expr_word_at (Some expr.Cat) ts = cat_at ts
  expr_word_at (Some expr.Cut) ts = cut_at ts
  expr_word_at (Some expr.Ext) ts = ext_at ts
  expr_word_at (Some expr.Sext) ts = sext_at ts
  expr_word_at (Some expr.Sel) ts = sel_at ts

  -- what is assigned
  unfoldable pub value_at : List Tok → Option (Expr × List Tok)
  value_at ts =
      then_read (past_sign Equals ts r) (λ e us. then_read (past_sign Semicolon us alone) (λ _ rest. Some (e, rest)))

  unfoldable pub let_at : List Tok → Option (Stmt × List Tok)
  let_at ts = then_read (name_at ts) (λ n us. then_read (value_at us) (λ e rest. Some (Let n e, rest)))

  -- an address in brackets
  unfoldable pub address_at : List Tok → Option (Expr × List Tok)
  address_at ts =
      then_read (past_sign OpenBracket ts r) (λ a us. then_read (past_sign CloseBracket us alone) (λ _ rest. Some (a, rest)))

  unfoldable pub store_at : List Tok → Option (Stmt × List Tok)
  store_at ts =
      then_read (past_sign OpenBracket ts r) (λ a us. then_read (past_sign CloseBracket us alone) (λ _ vs.
      then_read (value_at vs) (λ e rest. Some (Store a e, rest))))

  -- an assignment to a register
  unfoldable pub assign_at : (Expr → Stmt) → List Tok → Option (Stmt × List Tok)
  assign_at make ts = then_read (value_at ts) (λ e rest. Some (make e, rest))

  module _ (b : List Tok → Option (List Stmt × List Tok)) where
    unfoldable pub if_at : List Tok → Option (Stmt × List Tok)
    if_at ts =
        then_read (r ts) (λ c us. then_read (past_sign OpenBrace us b) (λ held vs. then_read (else_found b vs (past_else vs)) (λ other rest.
        Some (If c held other, rest))))

    -- what a word begins
    abbrev pub stmt_word_at : Option StmtWord → List Tok → Option (Stmt × List Tok)
    stmt_word_at None ts = None
    stmt_word_at (Some stmt.Let) ts = let_at ts
    stmt_word_at (Some stmt.Mem) ts = store_at ts
    stmt_word_at (Some stmt.Pc) ts = assign_at ToPc ts
    stmt_word_at (Some stmt.Mode) ts = assign_at ToMode ts
    stmt_word_at (Some stmt.Rel) ts = assign_at ToRel ts
    stmt_word_at (Some stmt.Bound) ts = assign_at ToBound ts
    stmt_word_at (Some stmt.Trap) ts = trap_at ts
    stmt_word_at (Some stmt.If) ts = if_at ts
