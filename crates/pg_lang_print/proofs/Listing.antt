-- Tokens put one after another at the end of a list.
use Rattle.std.proofs.Common.{◌≡◌, map, List, [], ◌∷◌, ◌++◌, None, Some, Result, Ok, Err, OnOk, codes, append_assoc, append-nil, ap, ◌∙◌}
use Rattle.pg_lang_token.specs.declared.tok.Tok.{Tok}
use Rattle.pg_lang_token.specs.declared.tok.Tok.TheVariants.{Word, Sign}
use Rattle.pg_lang_token.specs.declared.tok.Sign.TheVariants.{OpenBrace, CloseBrace}
use Rattle.pg_ast.specs.declared.tree.Expr.{Expr}
use Rattle.pg_ast.specs.declared.tree.Stmt.{Stmt}
use Rattle.pg_ast.specs.declared.tree.Stmt.TheVariants.{If}
use Rattle.pg_ast.specs.declared.tree.Desc.{Desc}
use Rattle.pg_ast.specs.ExprTokens.{expr_tokens}
use Rattle.pg_ast.specs.Tokens.{stmt_tokens, block_tokens, head_line, causes_tokens, head_tokens}
use Rattle.pg_ast.proofs.StmtEquations.{stmt_tokens-if}

-- what follows where a call went well
pub on_ok : {T E : Type 0} {P Q : Type 0} (r : Result T E) → (P → Q) → OnOk r P → OnOk r Q
on_ok (Ok x) f h = f h
on_ok (Err e) f h = tt

-- an if without an else
pub if_without : (list : List Tok) (c : Expr) (held : List Stmt) (s : Stmt) → s ≡ If c held None →
    ((list ++ Word (codes "if") ∷ []) ++ expr_tokens c) ++ block_tokens (map stmt_tokens held) ≡ list ++ stmt_tokens s
if_without list c held s e = rw (ap stmt_tokens e ∙ stmt_tokens-if c held None) (simp (append_assoc, append-nil))

-- an if with an else
pub if_with : (list : List Tok) (c : Expr) (held other : List Stmt) (s : Stmt) → s ≡ If c held (Some other) →
    ((((list ++ Word (codes "if") ∷ []) ++ expr_tokens c) ++ block_tokens (map stmt_tokens held)) ++ Word (codes "else") ∷ []) ++ block_tokens (map stmt_tokens other)
    ≡ list ++ stmt_tokens s
if_with list c held other s e = rw (ap stmt_tokens e ∙ stmt_tokens-if c held (Some other)) (simp append_assoc)

-- the head
pub head_whole : (list : List Tok) (d : Desc) →
    ((((list ++ Word (codes "machine") ∷ []) ++ Sign OpenBrace ∷ []) ++ head_line (codes "word") d.word ++ head_line (codes "address") d.address ++ head_line (codes "size") d.size)
    ++ causes_tokens d.causes) ++ Sign CloseBrace ∷ [] ≡ list ++ head_tokens d
unfolding head_tokens
head_whole list d = simp append_assoc
