-- Descriptions that the laws of this crate and of those above compute on.
use Rattle.std.specs.Prelude.{ℕ, true, false, List, [], ◌∷◌, codes, IsTrue, None, Some, refl}
use Rattle.std.specs.List.{list_all}
use Rattle.std.proofs.Common.{lit≤}
use Rattle.pg_lang_token.specs.Words.{is_name, is_pattern_byte}
use Rattle.pg_ast.specs.declared.name.Name.{Name as Names}
use Rattle.pg_ast.specs.declared.tree.Expr.{Expr}
use Rattle.pg_ast.specs.declared.tree.Expr.TheVariants.{Lit, Name, Mode as TheMode, Rel as TheRel, Bound as TheBound, Load, Not, Bin, Cut, Ext, Sext}
use Rattle.pg_ast.specs.declared.tree.Op.TheVariants.{Add, Lt, Shl}
use Rattle.pg_ast.specs.declared.tree.Stmt.{Stmt}
use Rattle.pg_ast.specs.declared.tree.Stmt.TheVariants.{Let, Store, Pc, Mode, Rel, Bound, Trap, If}
use Rattle.pg_ast.specs.declared.tree.Instr.{Instr}
use Rattle.pg_ast.specs.declared.tree.Desc.{Desc}
use Rattle.pg_word.specs.declared.psw.Mode.{Mode as Modes}
use Rattle.pg_lang_meaning.specs.States.{State}
use Rattle.pg_ast.specs.Levels.{IsShallow}
use Rattle.pg_ast.proofs.ExprEquations.{depth_of_rules}
use Rattle.pg_ast.proofs.StmtEquations.{expr_levels_rules, block_levels_rules}

-- a name
abbrev pub name_of : (bytes : List ℕ) → IsTrue (is_name bytes) → Names
name_of bytes h = record { bytes = bytes; is_name = h }

-- a field or a let, by its name
abbrev pub named : (bytes : List ℕ) → IsTrue (is_name bytes) → Expr
named bytes h = Name (name_of bytes h)

-- an instruction
abbrev pub instr : (name pattern : List ℕ) (body : List Stmt) → IsTrue (is_name name) → IsTrue (list_all is_pattern_byte pattern) → IsShallow body → Instr
instr name pattern body n p s = record {
  name = name_of name n;
  pattern = record { bytes = pattern; is_pattern = p };
  body = body;
  shallow = s;
}

abbrev pub field_a : Expr
field_a = named (codes "a") refl

abbrev pub field_b : Expr
field_b = named (codes "b") refl

abbrev pub field_l : Expr
field_l = named (codes "l") refl

abbrev pub field_x : Expr
field_x = named (codes "x") refl

abbrev pub field_y : Expr
field_y = named (codes "y") refl

abbrev pub field_z : Expr
field_z = named (codes "z") refl

-- { mem[x] = (mem[y] + mem[z]); }
abbrev pub add_body : List Stmt
add_body = Store field_x (Bin Add (Load field_y) (Load field_z)) ∷ []

pub add_body-shallow : IsShallow add_body
add_body-shallow = record { blocks = simp block_levels_rules (lit≤ tt); exprs = simp (expr_levels_rules, depth_of_rules) (lit≤ tt) }

-- add "00000001xxxxxxxxyyyyyyyyzzzzzzzz"
abbrev pub add : Instr
add = instr (codes "add") (codes "00000001xxxxxxxxyyyyyyyyzzzzzzzz") add_body refl refl add_body-shallow

-- { pc = a; }
abbrev pub jmp_body : List Stmt
jmp_body = Pc field_a ∷ []

pub jmp_body-shallow : IsShallow jmp_body
jmp_body-shallow = record { blocks = simp block_levels_rules (lit≤ tt); exprs = simp (expr_levels_rules, depth_of_rules) (lit≤ tt) }

-- jmp "00000010................aaaaaaaa"
abbrev pub jmp : Instr
jmp = instr (codes "jmp") (codes "00000010................aaaaaaaa") jmp_body refl refl jmp_body-shallow

-- { trap; }
abbrev pub svc_body : List Stmt
svc_body = Trap ∷ []

pub svc_body-shallow : IsShallow svc_body
svc_body-shallow = record { blocks = simp block_levels_rules (lit≤ tt); exprs = simp (expr_levels_rules, depth_of_rules) (lit≤ tt) }

-- svc "00000011........................"
abbrev pub svc : Instr
svc = instr (codes "svc") (codes "00000011........................") svc_body refl refl svc_body-shallow

-- { if mode { trap; } rel = l; bound = b; }
abbrev pub lr_body : List Stmt
lr_body = If TheMode (Trap ∷ []) None ∷ Rel field_l ∷ Bound field_b ∷ []

pub lr_body-shallow : IsShallow lr_body
lr_body-shallow = record { blocks = simp block_levels_rules (lit≤ tt); exprs = simp (expr_levels_rules, depth_of_rules) (lit≤ tt) }

-- lr "00000100........llllllllbbbbbbbb"
abbrev pub lr : Instr
lr = instr (codes "lr") (codes "00000100........llllllllbbbbbbbb") lr_body refl refl lr_body-shallow

-- { mode = 1:1; pc = a; }
abbrev pub rtu_body : List Stmt
rtu_body = Mode (Lit 1 1) ∷ Pc field_a ∷ []

pub rtu_body-shallow : IsShallow rtu_body
rtu_body-shallow = record { blocks = simp block_levels_rules (lit≤ tt); exprs = simp (expr_levels_rules, depth_of_rules) (lit≤ tt) }

-- rtu "00000101................aaaaaaaa"
abbrev pub rtu : Instr
rtu = instr (codes "rtu") (codes "00000101................aaaaaaaa") rtu_body refl refl rtu_body-shallow

-- { mem[a] = ext(mode, 32); }
abbrev pub store_mode_body : List Stmt
store_mode_body = Store field_a (Ext TheMode 32) ∷ []

pub store_mode_body-shallow : IsShallow store_mode_body
store_mode_body-shallow = record { blocks = simp block_levels_rules (lit≤ tt); exprs = simp (expr_levels_rules, depth_of_rules) (lit≤ tt) }

-- sm "00000110................aaaaaaaa"
abbrev pub store_mode : Instr
store_mode = instr (codes "sm") (codes "00000110................aaaaaaaa") store_mode_body refl refl store_mode_body-shallow

-- { mem[a] = ext(rel, 32); }
abbrev pub store_rel_body : List Stmt
store_rel_body = Store field_a (Ext TheRel 32) ∷ []

pub store_rel_body-shallow : IsShallow store_rel_body
store_rel_body-shallow = record { blocks = simp block_levels_rules (lit≤ tt); exprs = simp (expr_levels_rules, depth_of_rules) (lit≤ tt) }

-- sm "00000110................aaaaaaaa"
abbrev pub store_rel : Instr
store_rel = instr (codes "sm") (codes "00000110................aaaaaaaa") store_rel_body refl refl store_rel_body-shallow

-- { mem[a] = ext(bound, 32); }
abbrev pub store_bound_body : List Stmt
store_bound_body = Store field_a (Ext TheBound 32) ∷ []

pub store_bound_body-shallow : IsShallow store_bound_body
store_bound_body-shallow = record { blocks = simp block_levels_rules (lit≤ tt); exprs = simp (expr_levels_rules, depth_of_rules) (lit≤ tt) }

-- sm "00000110................aaaaaaaa"
abbrev pub store_bound : Instr
store_bound = instr (codes "sm") (codes "00000110................aaaaaaaa") store_bound_body refl refl store_bound_body-shallow

-- { if ~mode { let t = mem[a]; } }
abbrev pub supervisor_load_body : List Stmt
supervisor_load_body = If (Not TheMode) (Let (name_of (codes "t") refl) (Load field_a) ∷ []) None ∷ []

pub supervisor_load_body-shallow : IsShallow supervisor_load_body
supervisor_load_body-shallow = record { blocks = simp block_levels_rules (lit≤ tt); exprs = simp (expr_levels_rules, depth_of_rules) (lit≤ tt) }

-- sm "00000110................aaaaaaaa"
abbrev pub supervisor_load : Instr
supervisor_load = instr (codes "sm") (codes "00000110................aaaaaaaa") supervisor_load_body refl refl supervisor_load_body-shallow

-- { if mode { pc = a; } else { let t = mem[255:8]; } }
abbrev pub user_jump_body : List Stmt
user_jump_body = If TheMode (Pc field_a ∷ []) (Some (Let (name_of (codes "t") refl) (Load (Lit 255 8)) ∷ [])) ∷ []

pub user_jump_body-shallow : IsShallow user_jump_body
user_jump_body-shallow = record { blocks = simp block_levels_rules (lit≤ tt); exprs = simp (expr_levels_rules, depth_of_rules) (lit≤ tt) }

-- sm "00000110................aaaaaaaa"
abbrev pub user_jump : Instr
user_jump = instr (codes "sm") (codes "00000110................aaaaaaaa") user_jump_body refl refl user_jump_body-shallow

-- { rel = l; bound = b; }
abbrev pub open_lr_body : List Stmt
open_lr_body = Rel field_l ∷ Bound field_b ∷ []

pub open_lr_body-shallow : IsShallow open_lr_body
open_lr_body-shallow = record { blocks = simp block_levels_rules (lit≤ tt); exprs = simp (expr_levels_rules, depth_of_rules) (lit≤ tt) }

-- lr "00000100........llllllllbbbbbbbb", which does not trap in user mode
abbrev pub open_lr : Instr
open_lr = instr (codes "lr") (codes "00000100........llllllllbbbbbbbb") open_lr_body refl refl open_lr_body-shallow

-- a let of the next body
abbrev pub let_v : Expr
let_v = named (codes "v") refl

-- { let v = mem[a]; if (cut(v, 7, 0) < 16:8) { mem[a] = sext(cut(v, 3, 0), 32); } else { mem[a] = (v << 4:3); } }
abbrev pub widen_body : List Stmt
widen_body =
    Let (name_of (codes "v") refl) (Load field_a) ∷
    If (Bin Lt (Cut let_v 7 0) (Lit 16 8))
    (Store field_a (Sext (Cut let_v 3 0) 32) ∷ [])
    (Some (Store field_a (Bin Shl let_v (Lit 4 3)) ∷ [])) ∷ []

pub widen_body-shallow : IsShallow widen_body
widen_body-shallow = record { blocks = simp block_levels_rules (lit≤ tt); exprs = simp (expr_levels_rules, depth_of_rules) (lit≤ tt) }

-- t "00001001................aaaaaaaa"
abbrev pub widen : Instr
widen = instr (codes "t") (codes "00001001................aaaaaaaa") widen_body refl refl widen_body-shallow

-- machine { word 32; address 8; size 64; } and instructions
abbrev pub machine : List Instr → Desc
machine instrs = record { word = 32; address = 8; size = 64; causes = false; instrs = instrs }

-- add, jmp, svc and lr: each sensitive instruction is privileged
abbrev pub m0 : Desc
m0 = machine (add ∷ jmp ∷ svc ∷ lr ∷ [])

-- the same with causes on
abbrev pub m0_causes : Desc
m0_causes = record m0 { causes = true }

-- the machine of one instruction
abbrev pub alone : Instr → Desc
alone i = machine (i ∷ [])

-- M1: rtu alone, which is sensitive, and not privileged
abbrev pub m1 : Desc
m1 = alone rtu

-- a state, by its cells and its PSW
abbrev pub state : List ℕ → Modes → ℕ → ℕ → ℕ → State
state cells mode p l b = record { cells = cells; psw = record { mode = mode; p = p; l = l; b = b } }
