-- The six bodies that the instructions of a generated description may have. Addresses come from the fields x, y and z.
use Rattle.std.specs.Prelude.{ℕ, List, [], ◌∷◌, ◌==◌, if◌then◌else◌, codes, refl, None}
use Rattle.pg_ast.specs.declared.tree.Expr.{Expr}
use Rattle.pg_ast.specs.declared.tree.Expr.TheVariants.{Name, Mode, Rel, Load, Bin, Ext}
use Rattle.pg_ast.specs.declared.tree.Op.TheVariants.{Add, Xor, Eq}
use Rattle.pg_ast.specs.declared.tree.Stmt.{Stmt}
use Rattle.pg_ast.specs.declared.tree.Stmt.TheVariants.{Store, Pc, Rel as ToRel, Bound as ToBound, Trap, If}

-- ---- fields, and the cells at their addresses

abbrev pub field_x : Expr
field_x = Name (record { bytes = codes "x"; is_name = refl })

abbrev pub field_y : Expr
field_y = Name (record { bytes = codes "y"; is_name = refl })

abbrev pub field_z : Expr
field_z = Name (record { bytes = codes "z"; is_name = refl })

abbrev pub cell_y : Expr
cell_y = Load field_y

abbrev pub cell_z : Expr
cell_z = Load field_z

-- ---- bodies

-- mem[x] = (mem[y] + mem[z]);
abbrev pub adds : List Stmt
adds = Store field_x (Bin Add cell_y cell_z) ∷ []

-- mem[x] = (mem[y] ^ mem[z]);
abbrev pub xors : List Stmt
xors = Store field_x (Bin Xor cell_y cell_z) ∷ []

-- if (mem[y] == mem[z]) { pc = x; }
abbrev pub jumps_where_equal : List Stmt
jumps_where_equal = If (Bin Eq cell_y cell_z) (Pc field_x ∷ []) None ∷ []

-- trap;
abbrev pub traps : List Stmt
traps = Trap ∷ []

-- if mode { trap; }
abbrev pub traps_in_user_mode : Stmt
traps_in_user_mode = If Mode (Trap ∷ []) None

-- if mode { trap; } rel = x; bound = y;
abbrev pub loads_register : List Stmt
loads_register = traps_in_user_mode ∷ ToRel field_x ∷ ToBound field_y ∷ []

-- if mode { trap; } mem[x] = ext(rel, 32);
abbrev pub stores_relocation : List Stmt
stores_relocation = traps_in_user_mode ∷ Store field_x (Ext Rel 32) ∷ []

-- the body of this number, from 0 to 5
unfoldable pub body_of : ℕ → List Stmt
body_of n =
    (if n == 0 then adds
    else (if n == 1 then xors
    else (if n == 2 then jumps_where_equal
    else (if n == 3 then traps
    else (if n == 4 then loads_register
    else stores_relocation)))))
