use Rattle.std.proofs.Common.{◌≡◌, ◌++◌, ◌∷◌, map, drop}
use Rattle.pg_lang_token.specs.declared.tok.Tok.TheVariants.{Sign}
use Rattle.pg_lang_token.specs.declared.tok.Sign.TheVariants.{OpenBrace}
use Rattle.pg_ast.specs.Tokens.{flat, stmt_tokens}
use Rattle.pg_lang_print.proofs.tokens.+stmts.Given as goal

abbrev pub invariant-put_block-loop-stmt : goal.invariant-put_block-loop-stmt
invariant-put_block-loop-stmt l = l.list ++ flat (map stmt_tokens (drop l.stmt-index l.stmts)) ≡ l.fn.list ++ Sign OpenBrace ∷ flat (map stmt_tokens l.stmts)
