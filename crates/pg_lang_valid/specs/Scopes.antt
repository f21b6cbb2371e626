-- The sixth class of validity: names that mean nothing where they stand.
use Rattle.std.specs.Prelude.{ℕ, ◌+◌, ◌||◌, if◌then◌else◌, List, [], ◌∷◌, ◌++◌, map, Option, None, Some}
use Rattle.pg_ast.specs.declared.tree.Expr.{Expr}
use Rattle.pg_ast.specs.declared.tree.Expr.TheOpen.{Expr-F, Lit, Name, Pc, Mode, Rel, Bound, Load, Not, Bin, Cat, Cut, Ext, Sext, Sel}
use Rattle.pg_ast.specs.declared.tree.Expr.TheFolds.{fold-Expr}
use Rattle.pg_ast.specs.declared.tree.Stmt.{Stmt}
use Rattle.pg_ast.specs.declared.tree.Stmt.TheOpen.{Stmt-F, Let, Store, Pc as ToPc, Mode as ToMode, Rel as ToRel, Bound as ToBound, Trap, If}
use Rattle.pg_ast.specs.declared.tree.Stmt.TheFolds.{fold-Stmt}
use Rattle.pg_ast.specs.declared.tree.Instr.{Instr}
use Rattle.pg_lang_valid.specs.Twice.{is_among, is_field, first_of_two}

-- the lets that are visible
abbrev pub Scope : Type 0
Scope = List (List ℕ)

abbrev pub unknown_step : Expr-F (Scope → Option (List ℕ)) → List ℕ → Scope → Option (List ℕ)
unknown_step (Lit v n) pattern scope = None
unknown_step (Name n) pattern scope = (if is_field pattern n.bytes || is_among scope n.bytes then None else Some n.bytes)
unknown_step Pc pattern scope = None
unknown_step Mode pattern scope = None
unknown_step Rel pattern scope = None
unknown_step Bound pattern scope = None
unknown_step (Load e) pattern scope = e scope
unknown_step (Not e) pattern scope = e scope
unknown_step (Bin op x y) pattern scope = first_of_two (x scope) (y scope)
unknown_step (Cat x y) pattern scope = first_of_two (x scope) (y scope)
unknown_step (Cut e h k) pattern scope = e scope
unknown_step (Ext e n) pattern scope = e scope
unknown_step (Sext e n) pattern scope = e scope
unknown_step (Sel c x y) pattern scope = first_of_two (c scope) (first_of_two (x scope) (y scope))

-- the first name of an expression that is neither a field of the pattern nor a visible let
unfoldable pub unknown_name : List ℕ → Expr → Scope → Option (List ℕ)
unknown_name pattern = fold-Expr (Scope → Option (List ℕ)) (λ e. unknown_step e pattern)

-- what a statement has that is unknown, and the lets that are visible after it
pub record Sight : Type 0 where
  pub unknown : Option (List ℕ)
  pub after : Scope

abbrev pub sight : Option (List ℕ) → Scope → Sight
sight unknown after = record { unknown = unknown; after = after }

-- statements in the order of the text
unfoldable pub seen_in_order : List (Scope → Sight) → Scope → Option (List ℕ)
seen_in_order [] scope = None
seen_in_order (s ∷ ss) scope = first_of_two (s scope).unknown (seen_in_order ss (s scope).after)

abbrev pub seen_if_any : Option (List (Scope → Sight)) → Scope → Option (List ℕ)
seen_if_any None scope = None
seen_if_any (Some ss) scope = seen_in_order ss scope

abbrev pub sight_step : List ℕ → Stmt-F (Scope → Sight) → Scope → Sight
sight_step pattern (Let n e) scope = sight (unknown_name pattern e scope) (scope ++ n.bytes ∷ [])
sight_step pattern (Store a e) scope = sight (first_of_two (unknown_name pattern a scope) (unknown_name pattern e scope)) scope
sight_step pattern (ToPc e) scope = sight (unknown_name pattern e scope) scope
sight_step pattern (ToMode e) scope = sight (unknown_name pattern e scope) scope
sight_step pattern (ToRel e) scope = sight (unknown_name pattern e scope) scope
sight_step pattern (ToBound e) scope = sight (unknown_name pattern e scope) scope
sight_step pattern Trap scope = sight None scope
sight_step pattern (If c held other) scope =
    sight (first_of_two (unknown_name pattern c scope) (first_of_two (seen_in_order held scope) (seen_if_any other scope))) scope

-- a let is visible from the statement after it to the end of its block
unfoldable pub sight_of : List ℕ → Stmt → Scope → Sight
sight_of pattern = fold-Stmt (Scope → Sight) (sight_step pattern)

-- the first name of an instruction that is neither a field nor a visible let
abbrev pub unknown_in : Instr → Option (List ℕ)
unknown_in i = seen_in_order (map (sight_of i.pattern.bytes) i.body) []

abbrev pub named_at : ℕ → Option (List ℕ) → Option (ℕ × List ℕ) → Option (ℕ × List ℕ)
named_at k None later = later
named_at k (Some name) later = Some (k, name)

-- the first instruction with such a name; the first here has number k
unfoldable pub name_unknown : ℕ → List Instr → Option (ℕ × List ℕ)
name_unknown k [] = None
name_unknown k (i ∷ others) = named_at k (unknown_in i) (name_unknown (k + 1) others)
