-- The seventh class of validity: widths of expressions.
use Rattle.std.specs.Prelude.{ℕ, ◌+◌, ◌-◌, ◌^◌, Bool, ◌&&◌, ◌==◌, nat_le, nat_lt, if◌then◌else◌, List, [], ◌∷◌, map, Option, None, Some, Result, Ok, Err, bytes_eq}
use Rattle.pg_ast.specs.declared.tree.Op.{Op}
use Rattle.pg_ast.specs.declared.tree.Op.TheVariants.{Add, Sub, Mul, And, Or, Xor, Eq, Lt, Shl, Shr}
use Rattle.pg_ast.specs.declared.tree.Expr.{Expr}
use Rattle.pg_ast.specs.declared.tree.Expr.TheOpen.{Expr-F, Lit, Name, Pc, Mode, Rel, Bound, Load, Not, Bin, Cat, Cut, Ext, Sext, Sel}
use Rattle.pg_ast.specs.declared.tree.Expr.TheFolds.{fold-Expr}
use Rattle.pg_ast.specs.declared.tree.Stmt.{Stmt}
use Rattle.pg_ast.specs.declared.tree.Stmt.TheOpen.{Stmt-F, Let, Store, Pc as ToPc, Mode as ToMode, Rel as ToRel, Bound as ToBound, Trap, If}
use Rattle.pg_ast.specs.declared.tree.Stmt.TheFolds.{fold-Stmt}
use Rattle.pg_ast.specs.declared.tree.Instr.{Instr}
use Rattle.pg_ast.specs.declared.tree.Desc.{Desc}
use Rattle.pg_lang_meaning.specs.Patterns.{Field, field_of}
use Rattle.pg_lang_valid.specs.declared.fault.WidthClash.{WidthClash}
use Rattle.pg_lang_valid.specs.declared.fault.WidthClash.TheVariants as clash

-- what widths depend on: the widths of words and addresses, and the pattern
pub record Setting : Type 0 where
  pub w : ℕ
  pub a : ℕ
  pub pattern : List ℕ

abbrev pub setting_of : Desc → Instr → Setting
setting_of d i = record { w = d.word; a = d.address; pattern = i.pattern.bytes }

-- the lets that are visible, the newest first, with their widths
abbrev pub LetWidths : Type 0
LetWidths = List (List ℕ × ℕ)

unfoldable pub let_width : LetWidths → List ℕ → Option ℕ
let_width [] name = None
let_width (l ∷ older) name = (if bytes_eq l.0 name then Some l.1 else let_width older name)

abbrev pub field_or_let_width : Option Field → LetWidths → List ℕ → Option ℕ
field_or_let_width None lets name = let_width lets name
field_or_let_width (Some f) lets name = Some f.width

-- a width where a test holds; None: the table of widths is broken
abbrev pub where_holds : Bool → ℕ → Option ℕ
where_holds test width = (if test then Some width else None)

-- a literal v:n has 1 to 64 bits, and v fits them
abbrev pub literal_width : ℕ → ℕ → Option ℕ
literal_width v n = where_holds (nat_le 1 n && nat_le n 64 && nat_lt v (2 ^ n)) n

-- both sides equal, but for shifts, whose right side may have any width; a comparison has one bit
abbrev pub op_width : Op → ℕ → ℕ → Option ℕ
op_width Add x y = where_holds (x == y) x
op_width Sub x y = where_holds (x == y) x
op_width Mul x y = where_holds (x == y) x
op_width And x y = where_holds (x == y) x
op_width Or x y = where_holds (x == y) x
op_width Xor x y = where_holds (x == y) x
op_width Eq x y = where_holds (x == y) 1
op_width Lt x y = where_holds (x == y) 1
op_width Shl x y = Some x
op_width Shr x y = Some x

-- bits k to h of n
abbrev pub cut_width : ℕ → ℕ → ℕ → Option ℕ
cut_width n h k = where_holds (nat_le k h && nat_lt h n) (h - k + 1)

-- widened to at most 64 bits
abbrev pub widened_width : ℕ → ℕ → Option ℕ
widened_width n to = where_holds (nat_le n to && nat_le to 64) to

-- a condition of one bit, and two sides of one width
abbrev pub choice_width : ℕ → ℕ → ℕ → Option ℕ
choice_width c x y = where_holds ((c == 1) && (x == y)) x

-- a width, or how the table of widths is broken
abbrev pub Judged : Type 0
Judged = Result ℕ WidthClash

-- what a row of the table gives, or that it is broken so
abbrev pub judged : Option ℕ → WidthClash → Judged
judged None how = Err how
judged (Some n) how = Ok n

-- goes on with a width
abbrev pub with_judged : Judged → (ℕ → Judged) → Judged
with_judged (Err how) go = Err how
with_judged (Ok n) go = go n

abbrev pub joined_width : ℕ → ℕ → Option ℕ
joined_width x y = where_holds (nat_le (x + y) 64) (x + y)

-- how a choice breaks the table
abbrev pub choice_clash : ℕ → ℕ → ℕ → WidthClash
choice_clash c x y = (if c == 1 then clash.Choices x y else clash.Wanted 1 c)

abbrev pub Judging : Type 0
Judging = LetWidths → Judged

abbrev pub judge_step : Setting → Expr-F Judging → Judging
judge_step at (Lit v n) lets = judged (literal_width v n) (clash.Number v n)
judge_step at (Name n) lets = judged (field_or_let_width (field_of at.pattern n.bytes) lets n.bytes) clash.Unnamed
judge_step at Pc lets = Ok at.a
judge_step at Mode lets = Ok 1
judge_step at Rel lets = Ok at.a
judge_step at Bound lets = Ok at.a
judge_step at (Load e) lets = with_judged (e lets) (λ n. judged (where_holds (n == at.a) at.w) (clash.Wanted at.a n))
judge_step at (Not e) lets = e lets
judge_step at (Bin op l r) lets = with_judged (l lets) (λ x. with_judged (r lets) (λ y. judged (op_width op x y) (clash.Sides x y)))
judge_step at (Cat l r) lets = with_judged (l lets) (λ x. with_judged (r lets) (λ y. judged (joined_width x y) (clash.Joined x y)))
judge_step at (Cut e h k) lets = with_judged (e lets) (λ n. judged (cut_width n h k) (clash.Cut n h k))
judge_step at (Ext e to) lets = with_judged (e lets) (λ n. judged (widened_width n to) (clash.Widened n to))
judge_step at (Sext e to) lets = with_judged (e lets) (λ n. judged (widened_width n to) (clash.Widened n to))
judge_step at (Sel c l r) lets =
    with_judged (c lets) (λ n. with_judged (l lets) (λ x. with_judged (r lets) (λ y. judged (choice_width n x y) (choice_clash n x y))))

-- the width of an expression, or how the first part of it that breaks the table does; parts come before what they are of
unfoldable pub judged_of : Setting → Expr → Judging
judged_of at = fold-Expr Judging (judge_step at)

-- a width, if there is one
abbrev pub width_in : Judged → Option ℕ
width_in (Err how) = None
width_in (Ok n) = Some n

abbrev pub Width : Type 0
Width = LetWidths → Option ℕ

-- the width of an expression; None where it, or a part, breaks the table of widths
unfoldable pub width_of : Setting → Expr → Width
width_of at e lets = width_in (judged_of at e lets)

-- goes on with a width
abbrev pub with_width : Option ℕ → (ℕ → Option ℕ) → Option ℕ
with_width None go = None
with_width (Some n) go = go n

-- how statements fare in the order of the text: the first that breaks the table, by its place, and how; or the place and
-- the lets after them
pub data Fare : Type 0 where
  Breaks : (place : ℕ) (how : WidthClash) → Fare
  Keeps : (next : ℕ) (lets : LetWidths) → Fare

-- the expression of a statement has the width that is wanted
abbrev pub wants : ℕ → Judged → ℕ → LetWidths → Fare
wants width (Err how) place lets = Breaks place how
wants width (Ok n) place lets = (if n == width then Keeps (place + 1) lets else Breaks place (clash.Wanted width n))

-- a let may have any width
abbrev pub binds : List ℕ → Judged → ℕ → LetWidths → Fare
binds name (Err how) place lets = Breaks place how
binds name (Ok n) place lets = Keeps (place + 1) ((name, n) ∷ lets)

-- goes on with the statements that follow
abbrev pub then_fares : Fare → (ℕ → LetWidths → Fare) → Fare
then_fares (Breaks place how) go = Breaks place how
then_fares (Keeps next lets) go = go next lets

abbrev pub Faring : Type 0
Faring = ℕ → LetWidths → Fare

unfoldable pub fares_in_order : List Faring → Faring
fares_in_order [] place lets = Keeps place lets
fares_in_order (s ∷ ss) place lets = then_fares (s place lets) (λ next after. fares_in_order ss next after)

abbrev pub fares_if_any : Option (List Faring) → Faring
fares_if_any None place lets = Keeps place lets
fares_if_any (Some ss) place lets = fares_in_order ss place lets

-- the lets of a block end with it
abbrev pub after_block : LetWidths → Fare → Fare
after_block lets (Breaks place how) = Breaks place how
after_block lets (Keeps next inner) = Keeps next lets

abbrev pub fare_step : Setting → Stmt-F Faring → Faring
fare_step at (Let n e) place lets = binds n.bytes (judged_of at e lets) place lets
fare_step at (Store a e) place lets =
    then_fares (wants at.a (judged_of at a lets) place lets) (λ next same. wants at.w (judged_of at e lets) place lets)
fare_step at (ToPc e) place lets = wants at.a (judged_of at e lets) place lets
fare_step at (ToMode e) place lets = wants 1 (judged_of at e lets) place lets
fare_step at (ToRel e) place lets = wants at.a (judged_of at e lets) place lets
fare_step at (ToBound e) place lets = wants at.a (judged_of at e lets) place lets
fare_step at Trap place lets = Keeps (place + 1) lets
fare_step at (If c held other) place lets =
    then_fares (wants 1 (judged_of at c lets) place lets) (λ next same.
    then_fares (after_block lets (fares_in_order held next lets)) (λ later inner.
    after_block lets (fares_if_any other later lets)))

-- statements are counted from 0 in the order of the text, an if before those inside it
unfoldable pub fare_of : Setting → Stmt → Faring
fare_of at = fold-Stmt Faring (fare_step at)

-- the place of a statement that breaks the table, and how it does
abbrev pub Broken : Type 0
Broken = ℕ × WidthClash

abbrev pub broken_place : Fare → Option Broken
broken_place (Breaks place how) = Some (place, how)
broken_place (Keeps next lets) = None

-- the first statement of an instruction whose own expressions break the table
abbrev pub width_broken_in : Desc → Instr → Option Broken
width_broken_in d i = broken_place (fares_in_order (map (fare_of (setting_of d i)) i.body) 0 [])

abbrev pub placed_at : ℕ → Option Broken → Option (ℕ × Broken) → Option (ℕ × Broken)
placed_at k None later = later
placed_at k (Some broken) later = Some (k, broken)

-- the first instruction with such a statement; the first here has number k
unfoldable pub width_broken : Desc → ℕ → List Instr → Option (ℕ × Broken)
width_broken d k [] = None
width_broken d k (i ∷ others) = placed_at k (width_broken_in d i) (width_broken d (k + 1) others)
