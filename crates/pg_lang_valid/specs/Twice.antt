-- The third class of validity: names that are given twice.
use Rattle.std.specs.Prelude.{ℕ, Bool, ◌||◌, if◌then◌else◌, List, [], ◌∷◌, ◌++◌, map, Option, None, Some, is_some, bytes_eq}
use Rattle.std.specs.List.{list_any}
use Rattle.pg_ast.specs.declared.tree.Stmt.{Stmt}
use Rattle.pg_ast.specs.declared.tree.Stmt.TheOpen.{Stmt-F, Let, Store, Pc, Mode, Rel, Bound, Trap, If}
use Rattle.pg_ast.specs.declared.tree.Stmt.TheFolds.{fold-Stmt}
use Rattle.pg_ast.specs.declared.tree.Instr.{Instr}
use Rattle.pg_lang_meaning.specs.Patterns.{field_of}

-- whether a name is among these
abbrev pub is_among : List (List ℕ) → List ℕ → Bool
is_among names name = list_any (λ n. bytes_eq n name) names

-- the first name of a list that stands in it earlier, or among those that were seen before it
unfoldable pub first_twice : List (List ℕ) → List (List ℕ) → Option (List ℕ)
first_twice seen [] = None
first_twice seen (n ∷ names) = (if is_among seen n then Some n else first_twice (seen ++ n ∷ []) names)

abbrev pub all_names : List (List (List ℕ)) → List (List ℕ)
all_names [] = []
all_names (ns ∷ more) = ns ++ all_names more

abbrev pub names_if_any : Option (List (List (List ℕ))) → List (List ℕ)
names_if_any None = []
names_if_any (Some nss) = all_names nss

abbrev pub let_names_step : Stmt-F (List (List ℕ)) → List (List ℕ)
let_names_step (Let n e) = n.bytes ∷ []
let_names_step (Store a e) = []
let_names_step (Pc e) = []
let_names_step (Mode e) = []
let_names_step (Rel e) = []
let_names_step (Bound e) = []
let_names_step Trap = []
let_names_step (If c held other) = all_names held ++ names_if_any other

-- the names of the lets of a statement, in the order of the text
unfoldable pub let_names : Stmt → List (List ℕ)
let_names = fold-Stmt (List (List ℕ)) let_names_step

-- whether a name is a field of a pattern
abbrev pub is_field : List ℕ → List ℕ → Bool
is_field pattern name = is_some (field_of pattern name)

-- the first let name that an earlier let, or a field, of the same instruction has
unfoldable pub let_twice : List ℕ → List (List ℕ) → List (List ℕ) → Option (List ℕ)
let_twice pattern seen [] = None
let_twice pattern seen (n ∷ names) =
    (if is_field pattern n || is_among seen n then Some n else let_twice pattern (seen ++ n ∷ []) names)

abbrev pub let_twice_in : Instr → Option (List ℕ)
let_twice_in i = let_twice i.pattern.bytes [] (all_names (map let_names i.body))

abbrev pub first_of_two : {X : Type 0} → Option X → Option X → Option X
first_of_two None later = later
first_of_two (Some x) later = Some x

-- the first of the instructions whose lets have a name twice
unfoldable pub let_twice_among : List Instr → Option (List ℕ)
let_twice_among [] = None
let_twice_among (i ∷ others) = first_of_two (let_twice_in i) (let_twice_among others)

-- the names of instructions, in order
abbrev pub instr_names : List Instr → List (List ℕ)
instr_names = map (λ i. i.name.bytes)

-- the first instruction name that an earlier instruction has; else the first let name that is given twice
abbrev pub name_twice : List Instr → Option (List ℕ)
name_twice instrs = first_of_two (first_twice [] (instr_names instrs)) (let_twice_among instrs)
