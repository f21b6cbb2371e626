-- The second class of validity: how much a description may hold.
use Rattle.std.specs.Prelude.{ℕ, ◌+◌, ◌==◌, nat_lt, if◌then◌else◌, List, [], ◌∷◌, map, Option, None, Some}
use Rattle.pg_ast.specs.declared.tree.Expr.{Expr}
use Rattle.pg_ast.specs.declared.tree.Expr.TheOpen.{Expr-F, Lit, Name, Pc, Mode, Rel, Bound, Load, Not, Bin, Cat, Cut, Ext, Sext, Sel}
use Rattle.pg_ast.specs.declared.tree.Expr.TheFolds.{fold-Expr}
use Rattle.pg_ast.specs.declared.tree.Stmt.{Stmt}
use Rattle.pg_ast.specs.declared.tree.Stmt.TheOpen.{Stmt-F, Let, Store, Pc as ToPc, Mode as ToMode, Rel as ToRel, Bound as ToBound, Trap, If}
use Rattle.pg_ast.specs.declared.tree.Stmt.TheFolds.{fold-Stmt}
use Rattle.pg_ast.specs.declared.tree.Instr.{Instr}
use Rattle.pg_lang_valid.specs.declared.fault.Limit.{Limit}
use Rattle.pg_lang_valid.specs.declared.fault.Limit.TheVariants.{Instructions, Accesses, Lets, Statements, Expressions}

-- the limits: how many instructions a description has at most; and how many occurrences of `mem [`, lets, statements and
-- expressions an instruction
abbrev pub most_instructions : ℕ
most_instructions = 256

abbrev pub most_accesses : ℕ
most_accesses = 8

abbrev pub most_lets : ℕ
most_lets = 32

abbrev pub most_statements : ℕ
most_statements = 200

abbrev pub most_expressions : ℕ
most_expressions = 1024

-- what the limits of an instruction count: occurrences of `mem [`, lets, statements, expressions
pub record Tally : Type 0 where
  pub accesses : ℕ
  pub lets : ℕ
  pub statements : ℕ
  pub expressions : ℕ

abbrev pub tally : ℕ → ℕ → ℕ → ℕ → Tally
tally accesses lets statements expressions =
    record { accesses = accesses; lets = lets; statements = statements; expressions = expressions }

unfoldable pub both : Tally → Tally → Tally
both x y = tally (x.accesses + y.accesses) (x.lets + y.lets) (x.statements + y.statements) (x.expressions + y.expressions)

unfoldable pub all_of : List Tally → Tally
all_of [] = tally 0 0 0 0
all_of (t ∷ ts) = both t (all_of ts)

abbrev pub if_any : Option (List Tally) → Tally
if_any None = tally 0 0 0 0
if_any (Some ts) = all_of ts

-- an expression beside its parts
abbrev pub one_expression : Tally
one_expression = tally 0 0 0 1

-- a read or a write of a cell
abbrev pub one_access : Tally
one_access = tally 1 0 0 0

abbrev pub expr_tally_step : Expr-F Tally → Tally
expr_tally_step (Lit v n) = one_expression
expr_tally_step (Name n) = one_expression
expr_tally_step Pc = one_expression
expr_tally_step Mode = one_expression
expr_tally_step Rel = one_expression
expr_tally_step Bound = one_expression
expr_tally_step (Load e) = both one_access (both one_expression e)
expr_tally_step (Not e) = both one_expression e
expr_tally_step (Bin op x y) = both one_expression (both x y)
expr_tally_step (Cat x y) = both one_expression (both x y)
expr_tally_step (Cut e h k) = both one_expression e
expr_tally_step (Ext e n) = both one_expression e
expr_tally_step (Sext e n) = both one_expression e
expr_tally_step (Sel c x y) = both one_expression (both c (both x y))

-- what an expression and its parts count
unfoldable pub expr_tally : Expr → Tally
expr_tally = fold-Expr Tally expr_tally_step

-- a statement beside what it holds
abbrev pub one_statement : Tally
one_statement = tally 0 0 1 0

abbrev pub one_let : Tally
one_let = tally 0 1 0 0

abbrev pub stmt_tally_step : Stmt-F Tally → Tally
stmt_tally_step (Let n e) = both one_statement (both one_let (expr_tally e))
stmt_tally_step (Store a e) = both one_statement (both one_access (both (expr_tally a) (expr_tally e)))
stmt_tally_step (ToPc e) = both one_statement (expr_tally e)
stmt_tally_step (ToMode e) = both one_statement (expr_tally e)
stmt_tally_step (ToRel e) = both one_statement (expr_tally e)
stmt_tally_step (ToBound e) = both one_statement (expr_tally e)
stmt_tally_step Trap = one_statement
stmt_tally_step (If c held other) = both one_statement (both (expr_tally c) (both (all_of held) (if_any other)))

-- what a statement and those inside it count
unfoldable pub stmt_tally : Stmt → Tally
stmt_tally = fold-Stmt Tally stmt_tally_step

-- what an instruction counts
abbrev pub instr_tally : Instr → Tally
instr_tally i = all_of (map stmt_tally i.body)

-- the least limit that an instruction's counts break
abbrev pub tally_limit : Tally → Option Limit
tally_limit t =
    (if nat_lt most_accesses t.accesses then Some Accesses
    else (if nat_lt most_lets t.lets then Some Lets
    else (if nat_lt most_statements t.statements then Some Statements
    else (if nat_lt most_expressions t.expressions then Some Expressions else None))))

-- the least limit that the instruction of this number breaks; the numbers begin at 0
abbrev pub limit_at : ℕ → Instr → Option Limit
limit_at k i = (if k == most_instructions then Some Instructions else tally_limit (instr_tally i))

abbrev pub at_number : ℕ → Option Limit → Option (Limit × ℕ) → Option (Limit × ℕ)
at_number k None later = later
at_number k (Some limit) later = Some (limit, k)

-- the first instruction that breaks a limit, and the least limit that it breaks; the first here has number k
unfoldable pub limit_broken : ℕ → List Instr → Option (Limit × ℕ)
limit_broken k [] = None
limit_broken k (i ∷ others) = at_number k (limit_at k i) (limit_broken (k + 1) others)
