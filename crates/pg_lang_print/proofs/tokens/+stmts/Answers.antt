use Rattle.std.proofs.Common.{ap, ◌∙◌}
use Rattle.pg_ast.specs.declared.tree.Stmt.TheVariants.{If}
use Rattle.pg_lang_print.proofs.Listing.{on_ok, if_without, if_with}
use Rattle.pg_lang_print.proofs.tokens.+stmts.Goals as goal

pub put_stmt-returns-in-None : goal.put_stmt-returns-in-None
put_stmt-returns-in-None t c =
    rw (c.in_ok-put_block-in-If.ensures, c.in_ok-put_expr-in-If.ensures, c.in_ok-put_word-in-If.ensures, c.as_slice.ensures)
    (if_without c.args.list.now c.in-If.c c.in-If.held c.args.stmt.now (c.in-If.is ∙ ap (If c.in-If.c c.in-If.held) c.in-None.is))

pub put_stmt-returns-in_ok-put_word-in-Some : goal.put_stmt-returns-in_ok-put_word-in-Some
put_stmt-returns-in_ok-put_word-in-Some t c =
    on_ok c.put_block-in-Some.result
    (λ e. e ∙ rw (c.in_ok-put_word-in-Some.ensures, c.in_ok-put_block-in-If.ensures, c.in_ok-put_expr-in-If.ensures, c.in_ok-put_word-in-If.ensures, c.as_slice.ensures, c.as_slice-in-Some.ensures)
    (if_with c.args.list.now c.in-If.c c.in-If.held c.in-Some.other c.args.stmt.now (c.in-If.is ∙ ap (If c.in-If.c c.in-If.held) c.in-Some.is)))
    c.put_block-in-Some.ensures
