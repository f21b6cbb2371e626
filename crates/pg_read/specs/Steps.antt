-- Steps of reading: what each takes from the front of a list of tokens, and what it leaves.
use Rattle.std.specs.Prelude.{◌≡◌, ℕ, Bool, true, false, List, Option, None, Some, Result, Ok, Err}
use Rattle.pg_lang_token.specs.declared.tok.Tok.{Tok}
use Rattle.pg_ast.specs.declared.name.Name.{Name as Names}
use Rattle.pg_ast.specs.declared.name.PatternText.{PatternText}
use Rattle.pg_ast.specs.declared.tree.Op.{Op}
use Rattle.pg_ast.specs.Reading.{past_number, past_name, past_pattern, past_op}
use Rattle.pg_read.specs.declared.fault.Stop.{Stop}
use Rattle.pg_read.specs.declared.fault.Stop.TheVariants.{Unread, Memory}

-- what a step answers, and the tokens that it leaves, are what is due, unless memory ran out
abbrev pub IsStepDue : {A : Type 0} → Result A Stop → Option (A × List Tok) → List Tok → Type 0
IsStepDue (Ok a) due left = due ≡ Some (a, left)
IsStepDue (Err Unread) due left = due ≡ None
IsStepDue (Err Memory) due left = Unit {0}

-- what comes first was found and passed over, or else nothing is passed over
abbrev pub IsPassed : Bool → Option (List Tok) → (before after : List Tok) → Type 0
IsPassed true found before after = found ≡ Some after
IsPassed false found before after = (found ≡ None) × (after ≡ before)

-- nothing more
abbrev pub alone : List Tok → Option (Unit {0} × List Tok)
alone ts = Some (tt, ts)

-- a number
abbrev pub number_at : List Tok → Option (ℕ × List Tok)
number_at ts = past_number ts (λ n us. Some (n, us))

-- a name
abbrev pub name_at : List Tok → Option (Names × List Tok)
name_at ts = past_name ts (λ n us. Some (n, us))

-- a pattern
abbrev pub pattern_at : List Tok → Option (PatternText × List Tok)
pattern_at ts = past_pattern ts (λ p us. Some (p, us))

-- an operator
abbrev pub op_at : List Tok → Option (Op × List Tok)
op_at ts = past_op ts (λ op us. Some (op, us))
