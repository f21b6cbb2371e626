-- Reading a tree back from its tokens. A reader takes the tree at the front of a list of tokens and leaves the tokens
-- behind it.
-- Each is given as much fuel as it may go down levels, and without fuel it reads nothing.
use Rattle.std.specs.Prelude.{◌≡◌, ℕ, zero, suc, ◌+◌, Bool, true, false, cond, ◌==◌, nat_le, map, List, [], ◌∷◌, length, Option, None, Some, codes, bytes_eq}
use Rattle.std.specs.List.{list_all}
use Rattle.std.proofs.Common.{refl}
use Rattle.std.proofs.lemmas.Bool.{leb-true}
use Rattle.pg_lang_token.specs.Words.{is_name, is_pattern_byte}
use Rattle.pg_lang_token.specs.declared.tok.Tok.{Tok}
use Rattle.pg_lang_token.specs.declared.tok.Tok.TheVariants.{Word, Number, Pattern, Sign}
use Rattle.pg_lang_token.specs.declared.tok.Sign.{Sign as Signs}
use Rattle.pg_lang_token.specs.declared.tok.Sign.TheVariants.{OpenBrace, CloseBrace, OpenParen, CloseParen, OpenBracket, CloseBracket, Semicolon, Comma, Colon, Equals, DoubleEquals, Tilde, Plus, Minus, Star, Ampersand, Bar, Caret, LessThan, DoubleLess, DoubleGreater}
use Rattle.pg_ast.specs.declared.name.Name.{Name as Names}
use Rattle.pg_ast.specs.declared.name.PatternText.{PatternText}
use Rattle.pg_ast.specs.declared.tree.Op.{Op}
use Rattle.pg_ast.specs.declared.tree.Op.TheVariants.{Add, Sub, Mul, And, Or, Xor, Eq, Lt, Shl, Shr}
use Rattle.pg_ast.specs.declared.tree.Expr.{Expr}
use Rattle.pg_ast.specs.declared.tree.Expr.TheVariants.{Lit, Name, Pc, Mode, Rel, Bound, Load, Not, Bin, Cat, Cut, Ext, Sext, Sel}
use Rattle.pg_ast.specs.declared.tree.Stmt.{Stmt}
use Rattle.pg_ast.specs.declared.tree.Stmt.TheVariants.{Let, Store, Pc as ToPc, Mode as ToMode, Rel as ToRel, Bound as ToBound, Trap, If}
use Rattle.pg_ast.specs.declared.tree.Instr.{Instr}
use Rattle.pg_ast.specs.declared.tree.Desc.{Desc}
use Rattle.pg_ast.specs.Levels.{most_block_levels, most_expr_levels, greatest, block_levels, expr_levels}

-- what was read, and then the rest
abbrev pub then_read : {A B : Type 0} → Option (A × List Tok) → (A → List Tok → Option B) → Option B
then_read None go = None
then_read (Some p) go = go p.0 p.1

-- what was found, with the tokens behind it
abbrev pub past_found : {A B : Type 0} → Option A → List Tok → (A → List Tok → Option B) → Option B
past_found None ts go = None
past_found (Some a) ts go = go a ts

-- a sign's place in the list of signs
abbrev pub sign_number : Signs → ℕ
sign_number OpenBrace = 0
sign_number CloseBrace = 1
sign_number OpenParen = 2
sign_number CloseParen = 3
sign_number OpenBracket = 4
sign_number CloseBracket = 5
sign_number Semicolon = 6
sign_number Comma = 7
sign_number Colon = 8
sign_number Equals = 9
sign_number DoubleEquals = 10
sign_number Tilde = 11
sign_number Plus = 12
sign_number Minus = 13
sign_number Star = 14
sign_number Ampersand = 15
sign_number Bar = 16
sign_number Caret = 17
sign_number LessThan = 18
sign_number DoubleLess = 19
sign_number DoubleGreater = 20

-- past this sign
abbrev pub past_sign : {B : Type 0} → Signs → List Tok → (List Tok → Option B) → Option B
past_sign s (Sign t ∷ ts) go = cond (sign_number t == sign_number s) (go ts) None
past_sign s _ go = None

-- past this word
abbrev pub past_word : {B : Type 0} → List ℕ → List Tok → (List Tok → Option B) → Option B
past_word w (Word v ∷ ts) go = cond (bytes_eq v w) (go ts) None
past_word w _ go = None

-- past a number
abbrev pub past_number : {B : Type 0} → List Tok → (ℕ → List Tok → Option B) → Option B
past_number (Number n ∷ ts) go = go n ts
past_number _ go = None

abbrev pub name_when : (w : List ℕ) (b : Bool) → is_name w ≡ b → Option Names
name_when w true e = Some (record { bytes = w; is_name = e })
name_when w false e = None

-- the name of these bytes, where they make one
unfoldable pub name_of : List ℕ → Option Names
name_of w = name_when w (is_name w) refl

-- past a name
abbrev pub past_name : {B : Type 0} → List Tok → (Names → List Tok → Option B) → Option B
past_name (Word w ∷ ts) go = past_found (name_of w) ts go
past_name _ go = None

abbrev pub pattern_when : (w : List ℕ) (b : Bool) → list_all is_pattern_byte w ≡ b → Option PatternText
pattern_when w true e = Some (record { bytes = w; is_pattern = e })
pattern_when w false e = None

-- the pattern of these bytes, where they make one
unfoldable pub pattern_of : List ℕ → Option PatternText
pattern_of w = pattern_when w (list_all is_pattern_byte w) refl

-- past a pattern
abbrev pub past_pattern : {B : Type 0} → List Tok → (PatternText → List Tok → Option B) → Option B
past_pattern (Pattern w ∷ ts) go = past_found (pattern_of w) ts go
past_pattern _ go = None

-- the operator of a sign
abbrev pub op_of : Signs → Option Op
op_of Plus = Some Add
op_of Minus = Some Sub
op_of Star = Some Mul
op_of Ampersand = Some And
op_of Bar = Some Or
op_of Caret = Some Xor
op_of DoubleEquals = Some Eq
op_of LessThan = Some Lt
op_of DoubleLess = Some Shl
op_of DoubleGreater = Some Shr
op_of _ = None

-- past the sign of an operator
abbrev pub past_op : {B : Type 0} → List Tok → (Op → List Tok → Option B) → Option B
past_op (Sign s ∷ ts) go = past_found (op_of s) ts go
past_op _ go = None

-- an expression that begins with this word, which is no name; read reads an expression inside
unfoldable pub read_keyword : (List Tok → Option (Expr × List Tok)) → List ℕ → List Tok → Option (Expr × List Tok)
read_keyword read w ts =
    cond (bytes_eq w (codes "pc")) (Some (Pc, ts))
    (cond (bytes_eq w (codes "mode")) (Some (Mode, ts))
    (cond (bytes_eq w (codes "rel")) (Some (Rel, ts))
    (cond (bytes_eq w (codes "bound")) (Some (Bound, ts))
    (cond (bytes_eq w (codes "mem"))
    (past_sign OpenBracket ts (λ us. then_read (read us) (λ e vs. past_sign CloseBracket vs (λ rest. Some (Load e, rest)))))
    (cond (bytes_eq w (codes "cat"))
    (past_sign OpenParen ts (λ us. then_read (read us) (λ x vs. past_sign Comma vs (λ ws. then_read (read ws) (λ y xs.
    past_sign CloseParen xs (λ rest. Some (Cat x y, rest)))))))
    (cond (bytes_eq w (codes "cut"))
    (past_sign OpenParen ts (λ us. then_read (read us) (λ e vs. past_sign Comma vs (λ ws. past_number ws (λ h xs.
    past_sign Comma xs (λ ys. past_number ys (λ k zs. past_sign CloseParen zs (λ rest. Some (Cut e h k, rest)))))))))
    (cond (bytes_eq w (codes "ext"))
    (past_sign OpenParen ts (λ us. then_read (read us) (λ e vs. past_sign Comma vs (λ ws. past_number ws (λ n xs.
    past_sign CloseParen xs (λ rest. Some (Ext e n, rest)))))))
    (cond (bytes_eq w (codes "sext"))
    (past_sign OpenParen ts (λ us. then_read (read us) (λ e vs. past_sign Comma vs (λ ws. past_number ws (λ n xs.
    past_sign CloseParen xs (λ rest. Some (Sext e n, rest)))))))
    (cond (bytes_eq w (codes "sel"))
    (past_sign OpenParen ts (λ us. then_read (read us) (λ c vs. past_sign Comma vs (λ ws. then_read (read ws) (λ x xs.
    past_sign Comma xs (λ ys. then_read (read ys) (λ y zs. past_sign CloseParen zs (λ rest. Some (Sel c x y, rest)))))))))
    None)))))))))

-- an expression that begins with this word: a name, or else a keyword
abbrev pub read_word : (List Tok → Option (Expr × List Tok)) → List ℕ → List Tok → Option Names → Option (Expr × List Tok)
read_word read w ts (Some n) = Some (Name n, ts)
read_word read w ts None = read_keyword read w ts

-- an expression that begins with this sign
abbrev pub read_sign : (List Tok → Option (Expr × List Tok)) → Signs → List Tok → Option (Expr × List Tok)
read_sign read Tilde ts = then_read (read ts) (λ e rest. Some (Not e, rest))
read_sign read OpenParen ts =
    then_read (read ts) (λ x us. past_op us (λ op vs. then_read (read vs) (λ y ws. past_sign CloseParen ws (λ rest. Some (Bin op x y, rest)))))
read_sign read _ ts = None

-- an expression, where read reads each expression inside
unfoldable pub read_level : (List Tok → Option (Expr × List Tok)) → List Tok → Option (Expr × List Tok)
read_level read [] = None
read_level read (Word w ∷ ts) = read_word read w ts (name_of w)
read_level read (Number v ∷ ts) = past_sign Colon ts (λ us. past_number us (λ w rest. Some (Lit v w, rest)))
read_level read (Pattern w ∷ ts) = None
read_level read (Sign s ∷ ts) = read_sign read s ts

-- an expression of at most so many levels
unfoldable pub read_expr : ℕ → List Tok → Option (Expr × List Tok)
read_expr zero ts = None
read_expr (suc n) ts = read_level (read_expr n) ts

-- the tokens behind a closing brace, where one comes first
abbrev pub past_close : List Tok → Option (List Tok)
past_close (Sign s ∷ ts) = cond (sign_number s == sign_number CloseBrace) (Some ts) None
past_close _ = None

-- the tokens behind the word else, where it comes first
abbrev pub past_else : List Tok → Option (List Tok)
past_else (Word w ∷ ts) = cond (bytes_eq w (codes "else")) (Some ts) None
past_else _ = None

-- an assignment of an expression, behind its register
abbrev pub read_assign : (List Tok → Option (Expr × List Tok)) → (Expr → Stmt) → List Tok → Option (Stmt × List Tok)
read_assign expr make ts =
    past_sign Equals ts (λ us. then_read (expr us) (λ e vs. past_sign Semicolon vs (λ rest. Some (make e, rest))))

-- an if, behind its block: with an else where that word comes next
abbrev pub read_else : (List Tok → Option (List Stmt × List Tok)) → Expr → List Stmt → List Tok → Option (List Tok) → Option (Stmt × List Tok)
read_else block c held ts None = Some (If c held None, ts)
read_else block c held ts (Some us) = past_sign OpenBrace us (λ vs. then_read (block vs) (λ other rest. Some (If c held (Some other), rest)))

-- a statement that begins with this word; expr reads an expression, and block the statements of a block up to its end
unfoldable pub read_stmt_word : (List Tok → Option (Expr × List Tok)) → (List Tok → Option (List Stmt × List Tok)) → List ℕ → List Tok → Option (Stmt × List Tok)
read_stmt_word expr block w ts =
    cond (bytes_eq w (codes "let"))
    (past_name ts (λ n us. past_sign Equals us (λ vs. then_read (expr vs) (λ e ws. past_sign Semicolon ws (λ rest. Some (Let n e, rest))))))
    (cond (bytes_eq w (codes "mem"))
    (past_sign OpenBracket ts (λ us. then_read (expr us) (λ a vs. past_sign CloseBracket vs (λ ws. read_assign expr (Store a) ws))))
    (cond (bytes_eq w (codes "pc")) (read_assign expr ToPc ts)
    (cond (bytes_eq w (codes "mode")) (read_assign expr ToMode ts)
    (cond (bytes_eq w (codes "rel")) (read_assign expr ToRel ts)
    (cond (bytes_eq w (codes "bound")) (read_assign expr ToBound ts)
    (cond (bytes_eq w (codes "trap")) (past_sign Semicolon ts (λ rest. Some (Trap, rest)))
    (cond (bytes_eq w (codes "if"))
    (then_read (expr ts) (λ c us. past_sign OpenBrace us (λ vs. then_read (block vs) (λ held ws. read_else block c held ws (past_else ws)))))
    None)))))))

-- a statement
unfoldable pub read_stmt : (List Tok → Option (Expr × List Tok)) → (List Tok → Option (List Stmt × List Tok)) → List Tok → Option (Stmt × List Tok)
read_stmt expr block (Word w ∷ ts) = read_stmt_word expr block w ts
read_stmt expr block _ = None

-- the statements of a block up to its closing brace: none where that comes first, and else one and the others
unfoldable pub read_first : (List Tok → Option (Expr × List Tok)) → (List Tok → Option (List Stmt × List Tok)) → List Tok → Option (List Tok) → Option (List Stmt × List Tok)
read_first expr block ts (Some rest) = Some ([], rest)
read_first expr block ts None = then_read (read_stmt expr block ts) (λ s us. then_read (block us) (λ more rest. Some (s ∷ more, rest)))

-- the statements of a block up to its closing brace, and past it
unfoldable pub read_block : (List Tok → Option (Expr × List Tok)) → ℕ → List Tok → Option (List Stmt × List Tok)
read_block expr zero ts = None
read_block expr (suc k) ts = read_first expr (read_block expr k) ts (past_close ts)

abbrev pub instr_when : (n : Names) (p : PatternText) (body : List Stmt) (b c : Bool) → nat_le (1 + greatest (map block_levels body)) most_block_levels ≡ b → nat_le (greatest (map expr_levels body)) most_expr_levels ≡ c → Option Instr
instr_when n p body true true blocks exprs =
    Some (record { name = n; pattern = p; body = body; shallow = record { blocks = leb-true _ _ blocks; exprs = leb-true _ _ exprs } })
instr_when n p body _ _ blocks exprs = None

-- the instruction of these parts, where its body keeps the limits
unfoldable pub instr_of : Names → PatternText → List Stmt → Option Instr
instr_of n p body = instr_when n p body (nat_le (1 + greatest (map block_levels body)) most_block_levels) (nat_le (greatest (map expr_levels body)) most_expr_levels) refl refl

-- an instruction
unfoldable pub read_instr : (List Tok → Option (List Stmt × List Tok)) → List Tok → Option (Instr × List Tok)
read_instr block ts =
    past_word (codes "instr") ts (λ us. past_name us (λ n vs. past_pattern vs (λ p ws. past_sign OpenBrace ws (λ xs. then_read (block xs) (λ body rest.
    past_found (instr_of n p body) rest (λ i us'. Some (i, us')))))))

-- one more in front, where the others were read
abbrev pub cons_read : Instr → Option (List Instr) → Option (List Instr)
cons_read i None = None
cons_read i (Some is) = Some (i ∷ is)

-- the instructions up to the end of the tokens
unfoldable pub read_instrs : (List Tok → Option (List Stmt × List Tok)) → ℕ → List Tok → Option (List Instr)
read_instrs block zero ts = None
read_instrs block (suc k) [] = Some []
read_instrs block (suc k) (t ∷ ts) = then_read (read_instr block (t ∷ ts)) (λ i us. cons_read i (read_instrs block k us))

-- a line of the head: a word, a number, a semicolon
abbrev pub past_line : {B : Type 0} → List ℕ → List Tok → (ℕ → List Tok → Option B) → Option B
past_line w ts go = past_word w ts (λ us. past_number us (λ n vs. past_sign Semicolon vs (λ ws. go n ws)))

-- the end of the head: the word causes where they are on, and the closing brace
abbrev pub past_causes : {B : Type 0} → List Tok → (Bool → List Tok → Option B) → Option B
past_causes (Word w ∷ ts) go =
    past_word (codes "causes") (Word w ∷ ts) (λ us. past_word (codes "on") us (λ vs. past_sign Semicolon vs (λ ws. past_sign CloseBrace ws (λ xs. go true xs))))
past_causes (Number n ∷ ts) go = None
past_causes (Pattern p ∷ ts) go = None
past_causes [] go = None
past_causes (Sign s ∷ ts) go = past_sign CloseBrace (Sign s ∷ ts) (λ xs. go false xs)

-- the description of a head and instructions, where these were read
abbrev pub with_instrs : ℕ → ℕ → ℕ → Bool → Option (List Instr) → Option Desc
with_instrs word address size causes None = None
with_instrs word address size causes (Some instrs) = Some (record { word = word; address = address; size = size; causes = causes; instrs = instrs })

-- a description, each part of it with this fuel
unfoldable pub read_desc : ℕ → List Tok → Option Desc
read_desc n ts =
    past_word (codes "machine") ts (λ us. past_sign OpenBrace us (λ vs. past_line (codes "word") vs (λ word ws. past_line (codes "address") ws (λ address xs.
    past_line (codes "size") xs (λ size ys. past_causes ys (λ causes zs.
    with_instrs word address size causes (read_instrs (read_block (read_expr n) n) n zs)))))))

-- a description: a list of tokens is fuel enough for itself
unfoldable pub read_tokens : List Tok → Option Desc
read_tokens ts = read_desc (most_expr_levels + length ts) ts
