-- The words that begin expressions and statements.
use Rattle.std.specs.Prelude.{ℕ, cond, List, Option, None, Some, codes, bytes_eq}
use Rattle.pg_read.specs.declared.words.ExprWord.{ExprWord}
use Rattle.pg_read.specs.declared.words.ExprWord.TheVariants.{Pc, Mode, Rel, Bound, Mem, Cat, Cut, Ext, Sext, Sel}
use Rattle.pg_read.specs.declared.words.StmtWord.{StmtWord}
use Rattle.pg_read.specs.declared.words.StmtWord.TheVariants.{Let, Mem as ToMem, Pc as ToPc, Mode as ToMode, Rel as ToRel, Bound as ToBound, Trap, If}

-- the word that begins an expression and is no name
unfoldable pub expr_word : List ℕ → Option ExprWord
expr_word w =
    cond (bytes_eq w (codes "pc")) (Some Pc)
    (cond (bytes_eq w (codes "mode")) (Some Mode)
    (cond (bytes_eq w (codes "rel")) (Some Rel)
    (cond (bytes_eq w (codes "bound")) (Some Bound)
    (cond (bytes_eq w (codes "mem")) (Some Mem)
    (cond (bytes_eq w (codes "cat")) (Some Cat)
    (cond (bytes_eq w (codes "cut")) (Some Cut)
    (cond (bytes_eq w (codes "ext")) (Some Ext)
    (cond (bytes_eq w (codes "sext")) (Some Sext)
    (cond (bytes_eq w (codes "sel")) (Some Sel) None)))))))))

-- the word that begins a statement
unfoldable pub stmt_word : List ℕ → Option StmtWord
stmt_word w =
    cond (bytes_eq w (codes "let")) (Some Let)
    (cond (bytes_eq w (codes "mem")) (Some ToMem)
    (cond (bytes_eq w (codes "pc")) (Some ToPc)
    (cond (bytes_eq w (codes "mode")) (Some ToMode)
    (cond (bytes_eq w (codes "rel")) (Some ToRel)
    (cond (bytes_eq w (codes "bound")) (Some ToBound)
    (cond (bytes_eq w (codes "trap")) (Some Trap)
    (cond (bytes_eq w (codes "if")) (Some If) None)))))))
