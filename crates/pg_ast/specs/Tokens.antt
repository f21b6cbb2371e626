-- The tokens of a description: of each there is one list.
use Rattle.std.specs.Prelude.{ℕ, Bool, List, [], ◌∷◌, ◌++◌, map, Option, None, Some, codes, if◌then◌else◌}
use Rattle.pg_lang_token.specs.declared.tok.Tok.{Tok}
use Rattle.pg_lang_token.specs.declared.tok.Tok.TheVariants.{Word, Number, Pattern, Sign}
use Rattle.pg_lang_token.specs.declared.tok.Sign.TheVariants.{OpenBrace, CloseBrace, OpenBracket, CloseBracket, Semicolon, Equals}
use Rattle.pg_ast.specs.declared.tree.Expr.{Expr}
use Rattle.pg_ast.specs.declared.tree.Stmt.{Stmt}
use Rattle.pg_ast.specs.declared.tree.Stmt.TheOpen.{Stmt-F, Let, Store, Pc, Mode, Rel, Bound, Trap, If}
use Rattle.pg_ast.specs.declared.tree.Stmt.TheFolds.{fold-Stmt}
use Rattle.pg_ast.specs.declared.tree.Instr.{Instr}
use Rattle.pg_ast.specs.declared.tree.Desc.{Desc}
use Rattle.pg_ast.specs.ExprTokens.{expr_tokens}

-- lists one after another
abbrev pub flat : List (List Tok) → List Tok
flat [] = []
flat (ts ∷ more) = ts ++ flat more

-- a block: its statements between braces
abbrev pub block_tokens : List (List Tok) → List Tok
block_tokens stmts = Sign OpenBrace ∷ flat stmts ++ Sign CloseBrace ∷ []

-- an else, where there is one: absent and empty are different
abbrev pub else_tokens : Option (List (List Tok)) → List Tok
else_tokens None = []
else_tokens (Some stmts) = Word (codes "else") ∷ block_tokens stmts

-- an assignment of an expression to a register
abbrev pub assign_tokens : List ℕ → Expr → List Tok
assign_tokens register e = Word register ∷ Sign Equals ∷ expr_tokens e ++ Sign Semicolon ∷ []

-- one layer of a statement, the tokens of each statement inside standing in its place
abbrev pub stmt_tokens_step : Stmt-F (List Tok) → List Tok
stmt_tokens_step (Let n e) =
    Word (codes "let") ∷ Word n.bytes ∷ Sign Equals ∷ expr_tokens e ++ Sign Semicolon ∷ []
stmt_tokens_step (Store a e) =
    Word (codes "mem") ∷ Sign OpenBracket ∷ expr_tokens a ++ Sign CloseBracket ∷ Sign Equals ∷ expr_tokens e ++ Sign Semicolon ∷ []
stmt_tokens_step (Pc e) = assign_tokens (codes "pc") e
stmt_tokens_step (Mode e) = assign_tokens (codes "mode") e
stmt_tokens_step (Rel e) = assign_tokens (codes "rel") e
stmt_tokens_step (Bound e) = assign_tokens (codes "bound") e
stmt_tokens_step Trap = Word (codes "trap") ∷ Sign Semicolon ∷ []
stmt_tokens_step (If c held other) = Word (codes "if") ∷ expr_tokens c ++ block_tokens held ++ else_tokens other

-- the tokens of a statement
unfoldable pub stmt_tokens : Stmt → List Tok
stmt_tokens = fold-Stmt (List Tok) stmt_tokens_step

-- the tokens of an instruction
unfoldable pub instr_tokens : Instr → List Tok
instr_tokens i =
    Word (codes "instr") ∷ Word i.name.bytes ∷ Pattern i.pattern.bytes ∷ block_tokens (map stmt_tokens i.body)

-- a line of the head: a word, a number, a semicolon
abbrev pub head_line : List ℕ → ℕ → List Tok
head_line word n = Word word ∷ Number n ∷ Sign Semicolon ∷ []

-- the last line of the head, where causes are on
abbrev pub causes_tokens : Bool → List Tok
causes_tokens causes = (if causes then Word (codes "causes") ∷ Word (codes "on") ∷ Sign Semicolon ∷ [] else [])

-- the head of a description
unfoldable pub head_tokens : Desc → List Tok
head_tokens d =
    Word (codes "machine") ∷ Sign OpenBrace ∷ head_line (codes "word") d.word ++ head_line (codes "address") d.address
    ++ head_line (codes "size") d.size ++ causes_tokens d.causes ++ Sign CloseBrace ∷ []

-- the tokens of a description
unfoldable pub tokens_of : Desc → List Tok
tokens_of d = head_tokens d ++ flat (map instr_tokens d.instrs)
